use Rattle.std.proofs.Common.{◌≤◌}
use Rattle.board.specs.Machine.{seen}
use Rattle.board.proofs.Runs.{Left}
use Rattle.board.proofs.machine.Board.run.Given as goal

abbrev pub invariant-loop-made : goal.invariant-loop-made
invariant-loop-made g l =
    let b = g.B.Bus in
    b.sound l.self.bus × (l.done ≤ l.made) × (l.taken ≤ l.made)
    × Left b.rules l.budget l.made (seen b.means l.initial.self) (seen b.means l.self) l.done l.taken
