-- Which instructions a configuration has.
use Rattle.std.specs.Prelude.{Bool, true}
use Rattle.isa.specs.declared.instruction.Instruction.{Instruction}
use Rattle.isa.specs.declared.operation.BinaryOp.{BinaryOp}
use Rattle.isa.specs.declared.operation.BinaryOp.TheVariants.{Nor, Mul, Xor, And, Xnor, Add, Or, Cmpe, Cmpg, Cmpge, Cmpgeu, Cmpgu, Cmpne}
use Rattle.isa.specs.declared.operation.ImmediateOp.{ImmediateOp}
use Rattle.isa.specs.declared.operation.RegisterOp.{RegisterOp}
use Rattle.cpu.specs.Config.{multiplies, divides, shifts, extends}
use Rattle.cpu.specs.declared.config.Config.{Config}

-- mul and muli want the multiplier
abbrev pub binary_configured : Config → BinaryOp → Bool
binary_configured c Mul = multiplies c
binary_configured c Nor = true
binary_configured c Xor = true
binary_configured c And = true
binary_configured c Xnor = true
binary_configured c Add = true
binary_configured c Or = true
binary_configured c Cmpe = true
binary_configured c Cmpg = true
binary_configured c Cmpge = true
binary_configured c Cmpgeu = true
binary_configured c Cmpgu = true
binary_configured c Cmpne = true

abbrev pub immediate_configured : Config → ImmediateOp → Bool
immediate_configured c (ImmediateOp.Binary op) = binary_configured c op
immediate_configured c (ImmediateOp.High op) = true

abbrev pub register_configured : Config → RegisterOp → Bool
register_configured c (RegisterOp.Binary op) = binary_configured c op
register_configured c (RegisterOp.Shift op) = shifts c
register_configured c RegisterOp.Sub = true
register_configured c (RegisterOp.Divide op) = divides c

-- shifts want the shifter, divu and modu the divider, sextb and sexth the extender
abbrev pub configured : Config → Instruction → Bool
configured c (Instruction.Immediate op from value to) = immediate_configured c op
configured c (Instruction.ShiftImmediate op from amount to) = shifts c
configured c (Instruction.Load op base offset to) = true
configured c (Instruction.Store op base offset from) = true
configured c (Instruction.Branch op left right offset) = true
configured c (Instruction.Register op left right to) = register_configured c op
configured c (Instruction.Extend op from to) = extends c
configured c (Instruction.Jump op target) = true
configured c (Instruction.JumpOffset op offset) = true
configured c (Instruction.ReadCsr csr to) = true
configured c (Instruction.WriteCsr csr from) = true
configured c (Instruction.Raise op) = true
