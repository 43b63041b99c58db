use Rattle.std.proofs.Common.{◌≤◌, length}
use Rattle.conformance.proofs.reading.lay.Given as goal

abbrev pub invariant-loop-pair : goal.invariant-loop-pair
invariant-loop-pair l = length l.room.s.now ≤ l.end
