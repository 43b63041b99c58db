-- The bytes so far fall on memory, so those that are left decide.
use Rattle.std.proofs.Common.{◌≡◌, ◌^◌, ◌≤◌}
use Rattle.image.specs.Checking.{on_memory}
use Rattle.image.specs.Meaning.{bytes_in}
use Rattle.image.specs.Memory.{memory_in}
use Rattle.image.proofs.checking.on_memory.Given as goal

abbrev pub invariant-loop-at : goal.invariant-loop-at
invariant-loop-at g l =
    (on_memory (memory_in g.B.Bus.rules (g.B.Bus.means l.bus)) l.at-iterator.a.start (bytes_in l.at-iterator.b) ≡ on_memory (memory_in g.B.Bus.rules (g.B.Bus.means l.bus)) l.address (bytes_in l.fn.bytes)) × (l.at-iterator.a.start ≤ 2 ^ 32)
