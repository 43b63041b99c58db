-- The lines so far, and those of the steps that are left, are those of all.
use Rattle.std.proofs.Common.{◌≡◌, ◌+◌, ◌-◌, ◌++◌, vec_items}
use Rattle.board.specs.Machine.{seen}
use Rattle.tracer.specs.Steps.{lines}
use Rattle.tracer.proofs.stepping.steps.Given as goal

abbrev pub invariant-loop-step : goal.invariant-loop-step
invariant-loop-step g l =
    let b = g.B.Bus in
    b.sound l.board.bus
    × (vec_items l.found ++ lines b.rules (l.budget + 1 - l.step) l.step (seen b.means l.board) ≡ lines b.rules l.budget 1 (seen b.means l.initial.board))
