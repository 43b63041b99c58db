-- The field values that the low bits of a number say: a register and a CSR number and a shift amount have five, a jump's offset has 26.
use Rattle.std.specs.Prelude.{ℕ, ◌%◌, ◌^◌}
use Rattle.std.proofs.Common.{mod-lt, lit<}
use Rattle.isa.specs.declared.register.Register.{Register}
use Rattle.isa.specs.declared.csr_number.CsrNumber.{CsrNumber}
use Rattle.isa.specs.declared.shift_amount.ShiftAmount.{ShiftAmount}
use Rattle.isa.specs.declared.offset26.Offset26.{Offset26}

abbrev pub register : ℕ → Register
register n = record { number = n % 32; within = mod-lt n (lit< tt) }

abbrev pub csr : ℕ → CsrNumber
csr n = record { number = n % 32; within = mod-lt n (lit< tt) }

abbrev pub amount : ℕ → ShiftAmount
amount n = record { places = n % 32; within = mod-lt n (lit< tt) }

abbrev pub offset : ℕ → Offset26
offset n = record { bits = n % 2 ^ 26; within = mod-lt n (lit< tt) }
