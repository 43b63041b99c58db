-- The bytes so far are put, and those left fall on memory.
use Rattle.std.proofs.Common.{◌≡◌, ◌^◌, ◌≤◌, true}
use Rattle.bus.specs.Rules.{stored_all}
use Rattle.image.specs.Checking.{on_memory}
use Rattle.image.specs.Meaning.{bytes_in}
use Rattle.image.specs.Memory.{memory_in}
use Rattle.board.proofs.load.put_bytes.Given as goal

abbrev pub invariant-loop-at : goal.invariant-loop-at
invariant-loop-at g l =
    g.B.Bus.sound l.bus
    × (stored_all g.B.Bus.rules (g.B.Bus.means l.bus) l.at-iterator.a.start (bytes_in l.at-iterator.b) ≡ stored_all g.B.Bus.rules (g.B.Bus.means l.initial.bus) l.address (bytes_in l.fn.bytes))
    × (on_memory (memory_in g.B.Bus.rules (g.B.Bus.means l.bus)) l.at-iterator.a.start (bytes_in l.at-iterator.b) ≡ true)
    × (l.at-iterator.a.start ≤ 2 ^ 32)
