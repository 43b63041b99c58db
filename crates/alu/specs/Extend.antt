-- Words read as signed numbers, and narrow numbers made into words.
use Rattle.std.specs.Prelude.{ℕ, ◌+◌, ◌-◌, ◌%◌, ◌^◌, cond, ℤ, nat_lt}
use Rattle.std.specs.Int.{w32}
use Rattle.std.proofs.Common.{to_z}
use Rattle.isa.specs.declared.operation.ExtendOp.{ExtendOp}
use Rattle.isa.specs.declared.operation.ExtendOp.TheVariants.{Sextb, Sexth}

-- a word in two's complement
abbrev pub signed : ℕ → ℤ
signed x = to_z w32 x

-- the word of a number of k bits in two's complement: its sign bit fills the bits above
abbrev pub sign_extended : ℕ → ℕ → ℕ
sign_extended k v = cond (nat_lt v (2 ^ (k - 1))) v (v + (2 ^ 32 - 2 ^ k))

abbrev pub extended : ExtendOp → ℕ → ℕ
extended Sextb x = sign_extended 8 (x % 2 ^ 8)
extended Sexth x = sign_extended 16 (x % 2 ^ 16)
