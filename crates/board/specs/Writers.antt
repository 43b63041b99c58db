-- What a step writes of the registers, and of the bits that exceptions save for their returns.
use Rattle.std.specs.Prelude.{◌≡◌, ℕ, Bool, false, not, Some, None, Option, ◌==◌, slice_index}
use Rattle.isa.specs.Decode.{decoded}
use Rattle.isa.specs.declared.instruction.Instruction.{Instruction}
use Rattle.isa.specs.declared.operation.JumpOp.{JumpOp}
use Rattle.isa.specs.declared.operation.JumpOp.TheVariants.{B, Call}
use Rattle.cpu.specs.Entry.{saved_in}
use Rattle.cpu.specs.Exception.{is_breakpoint}
use Rattle.cpu.specs.declared.answer.Answer.{Answer}
use Rattle.cpu.specs.declared.answer.Answer.TheVariants.{Done, Taken, Stopped}
use Rattle.cpu.specs.declared.processor.Processor.{Processor}

-- a call's destination is r29
abbrev pub link_register : JumpOp → Option ℕ
link_register B = None
link_register Call = Some 29

-- the register that a done instruction writes
abbrev pub destination : Instruction → Option ℕ
destination (Instruction.Immediate op from value to) = Some to.number
destination (Instruction.ShiftImmediate op from amount to) = Some to.number
destination (Instruction.Load op base offset to) = Some to.number
destination (Instruction.Store op base offset from) = None
destination (Instruction.Branch op left right offset) = None
destination (Instruction.Register op left right to) = Some to.number
destination (Instruction.Extend op from to) = Some to.number
destination (Instruction.Jump op target) = link_register op
destination (Instruction.JumpOffset op offset) = link_register op
destination (Instruction.ReadCsr csr to) = Some to.number
destination (Instruction.WriteCsr csr from) = None
destination (Instruction.Raise op) = None

-- wcsr to IE, which is CSR 0, writes both saved bits
abbrev pub writes_ie : Instruction → Bool
writes_ie (Instruction.Immediate op from value to) = false
writes_ie (Instruction.ShiftImmediate op from amount to) = false
writes_ie (Instruction.Load op base offset to) = false
writes_ie (Instruction.Store op base offset from) = false
writes_ie (Instruction.Branch op left right offset) = false
writes_ie (Instruction.Register op left right to) = false
writes_ie (Instruction.Extend op from to) = false
writes_ie (Instruction.Jump op target) = false
writes_ie (Instruction.JumpOffset op offset) = false
writes_ie (Instruction.ReadCsr csr to) = false
writes_ie (Instruction.WriteCsr csr from) = csr.number == 0
writes_ie (Instruction.Raise op) = false

abbrev pub is_register : ℕ → Option ℕ → Bool
is_register n None = false
is_register n (Some k) = k == n

abbrev pub destination_is : ℕ → Option Instruction → Bool
destination_is n None = false
destination_is n (Some i) = is_register n (destination i)

abbrev pub word_writes_ie : Option Instruction → Bool
word_writes_ie None = false
word_writes_ie (Some i) = writes_ie i

-- a step writes register n: a done instruction with that destination, or an exception that saves there
abbrev pub writes_register : ℕ → Answer → Bool
writes_register n (Done w) = destination_is n (decoded w)
writes_register n (Taken e) = saved_in e == n
writes_register n (Stopped why pc) = false

-- a step writes EIE: wcsr to IE, or an exception that is no breakpoint
abbrev pub writes_eie : Answer → Bool
writes_eie (Done w) = word_writes_ie (decoded w)
writes_eie (Taken e) = not (is_breakpoint e)
writes_eie (Stopped why pc) = false

-- a step writes BIE: wcsr to IE, or a breakpoint
abbrev pub writes_bie : Answer → Bool
writes_bie (Done w) = word_writes_ie (decoded w)
writes_bie (Taken e) = is_breakpoint e
writes_bie (Stopped why pc) = false

-- from p to q by a step that answers a, what it does not write stays
pub record WritesOnly (a : Answer) (p q : Processor) : Type 0 where
  pub registers : (n : ℕ) → writes_register n a ≡ false → slice_index q.registers n ≡ slice_index p.registers n
  pub eie : writes_eie a ≡ false → q.status.enable.eie ≡ p.status.enable.eie
  pub bie : writes_bie a ≡ false → q.status.enable.bie ≡ p.status.enable.bie
