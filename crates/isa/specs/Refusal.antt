-- The refusal of a reserved word, and its number.
use Rattle.std.specs.Prelude.{ℕ}
use Rattle.isa.specs.declared.reserved.Reserved.{Reserved}

abbrev pub refusal : Reserved
refusal = record {}

abbrev pub refusal_number : Reserved → ℕ
refusal_number reserved = 8
