-- The shifted parts do not overlap.
use Rattle.std.proofs.Common.{rules}
use Rattle.isa.proofs.Packed.{packed_or}
use Rattle.isa.proofs.encode.pack.Goals as goal

pub returns : goal.returns
returns c = search (rules, packed_or)
