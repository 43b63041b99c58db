-- Shifts of a word by 0 to 31 places.
use Rattle.std.specs.Prelude.{ℕ, ◌*◌, ◌/◌, ◌%◌, ◌^◌}
use Rattle.std.specs.Int.Signed.{shr_z}
use Rattle.std.specs.Int.{w32}
use Rattle.std.proofs.Common.{of_z}
use Rattle.alu.specs.Extend.{signed}
use Rattle.isa.specs.declared.operation.ShiftOp.{ShiftOp}
use Rattle.isa.specs.declared.operation.ShiftOp.TheVariants.{Sru, Sr, Sl}

-- the shift right of a signed number rounds down, so its sign bit stays
abbrev pub shifted : ShiftOp → ℕ → ℕ → ℕ
shifted Sru x n = x / 2 ^ n
shifted Sr x n = of_z w32 (shr_z (signed x) (2 ^ n))
shifted Sl x n = x * 2 ^ n % 2 ^ 32
