-- The lines so far are data lines on memory, so the rest decide.
use Rattle.std.proofs.Common.{◌≡◌, ◌-◌, ◌≤◌, length, drop}
use Rattle.image.specs.Checking.{check_from, checked}
use Rattle.image.specs.Lines.{lines_of}
use Rattle.image.specs.Memory.{memory_in}
use Rattle.image.proofs.checking.check.Given as goal

abbrev pub invariant-loop-place : goal.invariant-loop-place
invariant-loop-place g l =
    (check_from (memory_in g.B.Bus.rules (g.B.Bus.means l.bus)) l.lines.place l.count (lines_of (drop l.lines.place l.image)) ≡ checked (memory_in g.B.Bus.rules (g.B.Bus.means l.bus)) l.image)
    × (l.lines.image.now ≡ l.image) × (l.count ≤ l.lines.place)

abbrev pub decreases-loop-place : goal.decreases-loop-place
decreases-loop-place g l = length l.image - l.lines.place
