-- What the opcode of an instruction names.
use Rattle.isa.specs.declared.instruction.Instruction.{Instruction}
use Rattle.isa.specs.declared.operation.Operation.{Operation}

abbrev pub named_by : Instruction → Operation
named_by (Instruction.Immediate op from value to) = Operation.Immediate op
named_by (Instruction.ShiftImmediate op from amount to) = Operation.ShiftImmediate op
named_by (Instruction.Load op base offset to) = Operation.Load op
named_by (Instruction.Store op base offset from) = Operation.Store op
named_by (Instruction.Branch op left right offset) = Operation.Branch op
named_by (Instruction.Register op left right to) = Operation.Register op
named_by (Instruction.Extend op from to) = Operation.Extend op
named_by (Instruction.Jump op target) = Operation.Jump op
named_by (Instruction.JumpOffset op offset) = Operation.JumpOffset op
named_by (Instruction.ReadCsr csr to) = Operation.ReadCsr
named_by (Instruction.WriteCsr csr from) = Operation.WriteCsr
named_by (Instruction.Raise op) = Operation.Raise
