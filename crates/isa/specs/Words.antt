-- The fields of a word.
use Rattle.std.specs.Prelude.{ℕ, ◌+◌, ◌-◌, ◌/◌, ◌%◌, ◌^◌}
use Rattle.isa.specs.declared.csr_number.CsrNumber.{CsrNumber}
use Rattle.isa.specs.declared.register.Register.{Register}
use Rattle.isa.specs.Fields.{register, csr}

-- bits high to low of a word, as a number
abbrev pub field : ℕ → ℕ → ℕ → ℕ
field high low word = word / 2 ^ low % 2 ^ (high + 1 - low)

abbrev pub register_a : ℕ → Register
register_a w = register (field 25 21 w)

abbrev pub register_b : ℕ → Register
register_b w = register (field 20 16 w)

abbrev pub register_c : ℕ → Register
register_c w = register (field 15 11 w)

abbrev pub csr_a : ℕ → CsrNumber
csr_a w = csr (field 25 21 w)

abbrev pub low_half : ℕ → ℕ
low_half w = field 15 0 w
