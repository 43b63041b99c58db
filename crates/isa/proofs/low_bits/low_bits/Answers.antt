-- The mask is as many ones as the width says, so it takes a remainder.
use Rattle.std.proofs.lemmas.Nat.{one_shl, and_mask}
use Rattle.isa.proofs.low_bits.low_bits.Goals as goal

pub returns : goal.returns
returns c = record { value = rw (one_shl c.args.width 32 c.requires.within) (and_mask _ _) }
