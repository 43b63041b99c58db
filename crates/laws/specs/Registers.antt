-- Every register keeps what is put into it: r0 is a register like any other.
use Rattle.std.specs.Prelude.{◌≡◌, ℕ, length, ◌≢◌}
use Rattle.isa.specs.declared.register.Register.{Register}
use Rattle.cpu.specs.State.{reg, set_reg}
use Rattle.cpu.specs.declared.processor.Processor.{Processor}

abbrev pub EveryRegisterKeeps : Type 0
EveryRegisterKeeps =
    (p : Processor) (a b : Register) (v : ℕ) → length p.registers ≡ 32 →
    (reg (set_reg p a.number v) a ≡ v) × ((b.number ≢ a.number) → reg (set_reg p a.number v) b ≡ reg p b)
