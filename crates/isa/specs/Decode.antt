-- Which instruction a word is, if it is one.
use Rattle.std.specs.Prelude.{ℕ, cond, Some, None, Option, ◌==◌}
use Rattle.isa.specs.declared.instruction.Instruction.{Instruction}
use Rattle.isa.specs.declared.operation.Operation.{Operation}
use Rattle.isa.specs.declared.operation.RaiseOp.{RaiseOp}
use Rattle.isa.specs.Fields.{amount, offset}
use Rattle.isa.specs.Opcodes.{named}
use Rattle.isa.specs.Unused.{unused, clear}
use Rattle.isa.specs.Words.{field, register_a, register_b, register_c, csr_a, low_half}

-- what a raise says in its low five bits
abbrev pub raised : ℕ → Option Instruction
raised n = cond (n == 2) (Some (Instruction.Raise RaiseOp.Break)) (cond (n == 7) (Some (Instruction.Raise RaiseOp.Scall)) None)

-- what an operation makes of the fields of a word
abbrev pub formed : Operation → ℕ → Option Instruction
formed (Operation.Immediate op) w = Some (Instruction.Immediate op (register_a w) (low_half w) (register_b w))
formed (Operation.ShiftImmediate op) w = Some (Instruction.ShiftImmediate op (register_a w) (amount (field 4 0 w)) (register_b w))
formed (Operation.Load op) w = Some (Instruction.Load op (register_a w) (low_half w) (register_b w))
formed (Operation.Store op) w = Some (Instruction.Store op (register_a w) (low_half w) (register_b w))
formed (Operation.Branch op) w = Some (Instruction.Branch op (register_a w) (register_b w) (low_half w))
formed (Operation.Register op) w = Some (Instruction.Register op (register_a w) (register_b w) (register_c w))
formed (Operation.Extend op) w = Some (Instruction.Extend op (register_a w) (register_c w))
formed (Operation.Jump op) w = Some (Instruction.Jump op (register_a w))
formed (Operation.JumpOffset op) w = Some (Instruction.JumpOffset op (offset (field 25 0 w)))
formed Operation.ReadCsr w = Some (Instruction.ReadCsr (csr_a w) (register_c w))
formed Operation.WriteCsr w = Some (Instruction.WriteCsr (csr_a w) (register_b w))
formed Operation.Raise w = raised (field 4 0 w)

-- what is named makes an instruction of a word only where the bits that it leaves unused are zero
abbrev pub instruction_of : Option Operation → ℕ → Option Instruction
instruction_of None w = None
instruction_of (Some op) w = cond (clear (unused op) w) (formed op w) None

-- bits 31 to 26 are the opcode
unfoldable pub decoded : ℕ → Option Instruction
decoded w = instruction_of (named (field 31 26 w)) w
