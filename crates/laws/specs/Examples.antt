-- Eight worked examples, shown of the definitions that the contracts cite.
use Rattle.std.specs.Prelude.{◌≡◌, true, false, length, Some, None, slice_index_or}
use Rattle.isa.specs.Decode.{decoded}
use Rattle.isa.specs.Fields.{register, offset}
use Rattle.isa.specs.declared.instruction.Instruction.{Instruction}
use Rattle.isa.specs.declared.operation.BinaryOp.TheVariants.{Xor, Add}
use Rattle.isa.specs.declared.operation.ImmediateOp.{ImmediateOp}
use Rattle.isa.specs.declared.operation.JumpOp.TheVariants.{B}
use Rattle.isa.specs.declared.operation.RaiseOp.TheVariants.{Break, Scall}
use Rattle.isa.specs.declared.operation.RegisterOp.{RegisterOp}
use Rattle.isa.specs.declared.operation.ShiftOp.TheVariants.{Sr, Sru}
use Rattle.alu.specs.Arithmetic.{with_immediate}
use Rattle.alu.specs.Shift.{shifted}
use Rattle.cpu.specs.Enable.{enable_word}
use Rattle.cpu.specs.Entry.{entered}
use Rattle.cpu.specs.Flow.{jumped_by}
use Rattle.cpu.specs.declared.exception.Exception.TheVariants.{SystemCall}
use Rattle.cpu.specs.declared.processor.Processor.{Processor}
use Rattle.laws.specs.Exceptions.{eret}

-- a processor at 00000100 with IE 1 and EBA 00000400, where exceptions go by EBA
pub record AtScall (p : Processor) : Type 0 where
  pub registers : length p.registers ≡ 32
  pub pc : p.pc ≡ 0x00000100
  pub ie : p.status.enable.ie ≡ true
  pub eie : p.status.enable.eie ≡ false
  pub bie : p.status.enable.bie ≡ false
  pub eba : p.status.eba ≡ 0x00000400
  pub remap : p.status.remap ≡ false

pub record AfterScall (q : Processor) : Type 0 where
  pub r30 : slice_index_or q.registers 30 0 ≡ 0x00000100
  pub ie : enable_word q.status.enable ≡ 2
  pub pc : q.pc ≡ 0x000004E0
  pub back : enable_word (eret q).status.enable ≡ 3

pub record WorkedExamples : Type 0 where
  pub xor_zero : decoded 0x98000000 ≡ Some (Instruction.Register (RegisterOp.Binary Xor) (register 0) (register 0) (register 0))
  pub addi : decoded 0x3444FFE0 ≡ Some (Instruction.Immediate (ImmediateOp.Binary Add) (register 2) 0xFFE0 (register 4))
  pub addi_result : with_immediate (ImmediateOp.Binary Add) 16 0xFFE0 ≡ 0xFFFFFFF0
  pub add : decoded 0xB5F17000 ≡ Some (Instruction.Register (RegisterOp.Binary Add) (register 15) (register 17) (register 14))
  pub is_eret : decoded 0xC3C00000 ≡ Some (Instruction.Jump B (register 30))
  pub is_bret : decoded 0xC3E00000 ≡ Some (Instruction.Jump B (register 31))
  pub is_break : decoded 0xAC000002 ≡ Some (Instruction.Raise Break)
  pub reserved : decoded 0xAC000003 ≡ None
  pub bi : decoded 0xE3FFFFFF ≡ Some (Instruction.JumpOffset B (offset 0x03FFFFFF))
  pub bi_target : (p : Processor) → p.pc ≡ 0x00000000 → (jumped_by p B 0x03FFFFFF).pc ≡ 0xFFFFFFFC
  pub is_scall : decoded 0xAC000007 ≡ Some (Instruction.Raise Scall)
  pub scall : (p : Processor) → AtScall p → AfterScall (entered p SystemCall)
  pub sri : shifted Sr 0x80000000 31 ≡ 0xFFFFFFFF
  pub srui : shifted Sru 0x80000000 31 ≡ 0x00000001
