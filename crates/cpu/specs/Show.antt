-- The registers by index, as a bench is shown them.
use Rattle.std.specs.Prelude.{ℕ, ◌-◌, ◌*◌, cond, List, [], ◌∷◌, nat_lt, slice_index}
use Rattle.alu.specs.Arithmetic.{flag}
use Rattle.cpu.specs.Enable.{enable_word}
use Rattle.cpu.specs.declared.processor.Processor.{Processor}

-- what stands from index 32 to 39: PC, IE, IM, IP, EBA, DEBA, DC and CC
abbrev pub special_registers : Processor → List ℕ
special_registers p =
    p.pc ∷ enable_word p.status.enable ∷ p.status.im ∷ p.status.ip ∷ p.status.eba ∷ p.status.deba ∷ 2 * flag p.status.remap ∷ p.status.cc ∷ []

-- 0 to 31 are the registers, 40 to 43 the breakpoint registers
abbrev pub shown : Processor → ℕ → ℕ
shown p i =
    cond (nat_lt i 32) (slice_index p.registers i) (cond (nat_lt i 40) (slice_index (special_registers p) (i - 32)) (slice_index p.status.breakpoints (i - 40)))
