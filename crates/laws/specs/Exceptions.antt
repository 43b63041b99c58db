-- What an exception saves and clears, and what its return brings back.
use Rattle.std.specs.Prelude.{◌≡◌, ℕ, ◌%◌, true, false, length, ◌≢◌, slice_index}
use Rattle.isa.specs.Fields.{register}
use Rattle.isa.specs.declared.operation.JumpOp.TheVariants.{B}
use Rattle.cpu.specs.Entry.{entered}
use Rattle.cpu.specs.Exception.{is_breakpoint}
use Rattle.cpu.specs.Flow.{jumped}
use Rattle.cpu.specs.declared.exception.Exception.{Exception}
use Rattle.cpu.specs.declared.processor.Processor.{Processor}

abbrev register_value : Processor → ℕ → ℕ
register_value p n = slice_index p.registers n

-- exceptions but the breakpoint save in r30 and EIE, and touch neither r31 nor BIE nor any other register
pub record SavedByException (p q : Processor) : Type 0 where
  pub address : register_value q 30 ≡ p.pc
  pub bit : q.status.enable.eie ≡ p.status.enable.ie
  pub shut : q.status.enable.ie ≡ false
  pub other_bit : q.status.enable.bie ≡ p.status.enable.bie
  pub other_registers : (n : ℕ) → (n ≢ 30) → register_value q n ≡ register_value p n

-- a breakpoint saves in r31 and BIE, and touches neither r30 nor EIE nor any other register
pub record SavedByBreakpoint (p q : Processor) : Type 0 where
  pub address : register_value q 31 ≡ p.pc
  pub bit : q.status.enable.bie ≡ p.status.enable.ie
  pub shut : q.status.enable.ie ≡ false
  pub other_bit : q.status.enable.eie ≡ p.status.enable.eie
  pub other_registers : (n : ℕ) → (n ≢ 31) → register_value q n ≡ register_value p n

-- b with r30 is eret, b with r31 is bret
abbrev pub eret : Processor → Processor
eret p = jumped p B (register 30)

abbrev pub bret : Processor → Processor
bret p = jumped p B (register 31)

-- q goes on where p was broken off, with the enable bit of p
pub record Resumes (p q : Processor) : Type 0 where
  pub place : q.pc ≡ p.pc
  pub bit : q.status.enable.ie ≡ p.status.enable.ie

pub record Exceptional (p : Processor) (e : Exception) : Type 0 where
  pub saves : is_breakpoint e ≡ false → SavedByException p (entered p e)
  pub breaks : is_breakpoint e ≡ true → SavedByBreakpoint p (entered p e)
  pub erets : is_breakpoint e ≡ false → Resumes p (eret (entered p e))
  pub brets : is_breakpoint e ≡ true → Resumes p (bret (entered p e))

-- of every processor with its 32 registers and an aligned PC
abbrev pub SavesAndReturns : Type 0
SavesAndReturns = (p : Processor) (e : Exception) → length p.registers ≡ 32 → p.pc % 4 ≡ 0 → Exceptional p e
