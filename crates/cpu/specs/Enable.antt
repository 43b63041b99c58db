-- The three bits of the CSR IE: what exceptions save there, and what returns bring back.
use Rattle.std.specs.Prelude.{ℕ, ◌+◌, ◌*◌, ◌/◌, ◌%◌, Bool, false, ◌==◌}
use Rattle.alu.specs.Arithmetic.{flag}
use Rattle.cpu.specs.declared.enable.Enable.{Enable}

abbrev pub enabling : Bool → Bool → Bool → Enable
enabling ie eie bie = record { ie = ie; eie = eie; bie = bie }

-- the CSR's word: bit 0 IE, bit 1 EIE, bit 2 BIE
abbrev pub enable_word : Enable → ℕ
enable_word e = flag e.ie + 2 * flag e.eie + 4 * flag e.bie

abbrev pub enable_of : ℕ → Enable
enable_of w = enabling (w % 2 == 1) (w / 2 % 2 == 1) (w / 4 % 2 == 1)

-- an exception saves the enable bit in EIE, a breakpoint in BIE; both clear it
abbrev pub saved_by_exception : Enable → Enable
saved_by_exception e = enabling false e.ie e.bie

abbrev pub saved_by_breakpoint : Enable → Enable
saved_by_breakpoint e = enabling false e.eie e.ie

-- eret brings back EIE, bret BIE
abbrev pub after_eret : Enable → Enable
after_eret e = enabling e.eie e.eie e.bie

abbrev pub after_bret : Enable → Enable
after_bret e = enabling e.bie e.eie e.bie
