-- The first `k` bytes are read, and the pairs that are left give the others.
use Rattle.std.proofs.Common.{◌≡◌, ◌*◌, length, take, drop}
use Rattle.image.specs.Reading.{bytes_of}
use Rattle.image.proofs.Pairs.{after}
use Rattle.image.proofs.read.read_bytes.Given as goal

abbrev pub invariant-loop-k : goal.invariant-loop-k
invariant-loop-k l = (after (take l.k l.items) (bytes_of (drop (2 * l.k) l.digits)) ≡ bytes_of l.digits) × (length l.items ≡ 32)
