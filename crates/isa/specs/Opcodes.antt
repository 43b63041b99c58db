-- The opcode table: what each of the 64 opcodes names, if anything.
use Rattle.std.specs.Prelude.{ℕ, List, [], ◌∷◌, Some, None, Option, slice_index_or}
use Rattle.isa.specs.declared.operation.Operation.{Operation}
use Rattle.isa.specs.declared.operation.ImmediateOp.{ImmediateOp}
use Rattle.isa.specs.declared.operation.RegisterOp.{RegisterOp}
use Rattle.isa.specs.declared.operation.BinaryOp.{BinaryOp}
use Rattle.isa.specs.declared.operation.HighOp.{HighOp}
use Rattle.isa.specs.declared.operation.ShiftOp.{ShiftOp}
use Rattle.isa.specs.declared.operation.LoadOp.{LoadOp}
use Rattle.isa.specs.declared.operation.StoreOp.{StoreOp}
use Rattle.isa.specs.declared.operation.BranchOp.{BranchOp}
use Rattle.isa.specs.declared.operation.DivideOp.{DivideOp}
use Rattle.isa.specs.declared.operation.ExtendOp.{ExtendOp}
use Rattle.isa.specs.declared.operation.JumpOp.{JumpOp}
use Rattle.isa.specs.declared.operation.BinaryOp.TheVariants.{Nor, Mul, Xor, And, Xnor, Add, Or, Cmpe, Cmpg, Cmpge, Cmpgeu, Cmpgu, Cmpne}
use Rattle.isa.specs.declared.operation.HighOp.TheVariants.{Andhi, Orhi}
use Rattle.isa.specs.declared.operation.ShiftOp.TheVariants.{Sru, Sr, Sl}
use Rattle.isa.specs.declared.operation.LoadOp.TheVariants.{Lb, Lh, Lw, Lhu, Lbu}
use Rattle.isa.specs.declared.operation.StoreOp.TheVariants.{Sh, Sb, Sw}
use Rattle.isa.specs.declared.operation.BranchOp.TheVariants.{Be, Bg, Bge, Bgeu, Bgu, Bne}
use Rattle.isa.specs.declared.operation.DivideOp.TheVariants.{Divu, Modu}
use Rattle.isa.specs.declared.operation.ExtendOp.TheVariants.{Sextb, Sexth}
use Rattle.isa.specs.declared.operation.JumpOp.TheVariants.{B, Call}

abbrev pub immediate : BinaryOp → Option Operation
immediate op = Some (Operation.Immediate (ImmediateOp.Binary op))

abbrev pub high : HighOp → Option Operation
high op = Some (Operation.Immediate (ImmediateOp.High op))

abbrev pub shift_by : ShiftOp → Option Operation
shift_by op = Some (Operation.ShiftImmediate op)

abbrev pub load : LoadOp → Option Operation
load op = Some (Operation.Load op)

abbrev pub store : StoreOp → Option Operation
store op = Some (Operation.Store op)

abbrev pub branch : BranchOp → Option Operation
branch op = Some (Operation.Branch op)

abbrev pub registers : BinaryOp → Option Operation
registers op = Some (Operation.Register (RegisterOp.Binary op))

abbrev pub shift : ShiftOp → Option Operation
shift op = Some (Operation.Register (RegisterOp.Shift op))

abbrev pub divide : DivideOp → Option Operation
divide op = Some (Operation.Register (RegisterOp.Divide op))

abbrev pub subtract : Option Operation
subtract = Some (Operation.Register RegisterOp.Sub)

abbrev pub extend : ExtendOp → Option Operation
extend op = Some (Operation.Extend op)

abbrev pub jump : JumpOp → Option Operation
jump op = Some (Operation.Jump op)

abbrev pub jump_by : JumpOp → Option Operation
jump_by op = Some (Operation.JumpOffset op)

abbrev pub read_csr : Option Operation
read_csr = Some Operation.ReadCsr

abbrev pub write_csr : Option Operation
write_csr = Some Operation.WriteCsr

abbrev pub raise : Option Operation
raise = Some Operation.Raise

abbrev pub reserved : Option Operation
reserved = None

-- eight opcodes a line, from 00 on
abbrev pub opcodes : List (Option Operation)
opcodes =
    shift_by Sru ∷ immediate Nor ∷ immediate Mul ∷ store Sh ∷ load Lb ∷ shift_by Sr ∷ immediate Xor ∷ load Lh
    ∷ immediate And ∷ immediate Xnor ∷ load Lw ∷ load Lhu ∷ store Sb ∷ immediate Add ∷ immediate Or ∷ shift_by Sl
    ∷ load Lbu ∷ branch Be ∷ branch Bg ∷ branch Bge ∷ branch Bgeu ∷ branch Bgu ∷ store Sw ∷ branch Bne
    ∷ high Andhi ∷ immediate Cmpe ∷ immediate Cmpg ∷ immediate Cmpge ∷ immediate Cmpgeu ∷ immediate Cmpgu ∷ high Orhi ∷ immediate Cmpne
    ∷ shift Sru ∷ registers Nor ∷ registers Mul ∷ divide Divu ∷ read_csr ∷ shift Sr ∷ registers Xor ∷ reserved
    ∷ registers And ∷ registers Xnor ∷ reserved ∷ raise ∷ extend Sextb ∷ registers Add ∷ registers Or ∷ shift Sl
    ∷ jump B ∷ divide Modu ∷ subtract ∷ reserved ∷ write_csr ∷ reserved ∷ jump Call ∷ extend Sexth
    ∷ jump_by B ∷ registers Cmpe ∷ registers Cmpg ∷ registers Cmpge ∷ registers Cmpgeu ∷ registers Cmpgu ∷ jump_by Call ∷ registers Cmpne
    ∷ []

-- what an opcode names
abbrev pub named : ℕ → Option Operation
named n = slice_index_or opcodes n None
