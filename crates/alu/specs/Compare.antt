-- Order tests of two words: signed, or unsigned where the name ends in U.
use Rattle.std.specs.Prelude.{ℕ, Bool, not, ◌==◌, int_le, int_lt, nat_le, nat_lt}
use Rattle.alu.specs.Extend.{signed}
use Rattle.isa.specs.declared.operation.BranchOp.{BranchOp}
use Rattle.isa.specs.declared.operation.BranchOp.TheVariants.{Be, Bg, Bge, Bgeu, Bgu, Bne}

abbrev pub equal : ℕ → ℕ → Bool
equal x y = x == y

abbrev pub greater : ℕ → ℕ → Bool
greater x y = int_lt (signed y) (signed x)

abbrev pub greater_equal : ℕ → ℕ → Bool
greater_equal x y = int_le (signed y) (signed x)

abbrev pub greater_u : ℕ → ℕ → Bool
greater_u x y = nat_lt y x

abbrev pub greater_equal_u : ℕ → ℕ → Bool
greater_equal_u x y = nat_le y x

-- whether a branch is taken
abbrev pub branches : BranchOp → ℕ → ℕ → Bool
branches Be x y = equal x y
branches Bg x y = greater x y
branches Bge x y = greater_equal x y
branches Bgeu x y = greater_equal_u x y
branches Bgu x y = greater_u x y
branches Bne x y = not (equal x y)
