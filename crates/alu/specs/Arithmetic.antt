-- What the operations on two words compute. Sums and products keep their low 32 bits.
use Rattle.std.specs.Prelude.{ℕ, ◌+◌, ◌-◌, ◌*◌, ◌/◌, ◌%◌, ◌^◌, Bool, true, false, cond, not, Some, None, Option, ◌==◌, bit_and, bit_or, bit_xor}
use Rattle.alu.specs.Compare.{equal, greater, greater_equal, greater_u, greater_equal_u}
use Rattle.alu.specs.Extend.{sign_extended}
use Rattle.isa.specs.declared.operation.BinaryOp.{BinaryOp}
use Rattle.isa.specs.declared.operation.BinaryOp.TheVariants.{Nor, Mul, Xor, And, Xnor, Add, Or, Cmpe, Cmpg, Cmpge, Cmpgeu, Cmpgu, Cmpne}
use Rattle.isa.specs.declared.operation.DivideOp.{DivideOp}
use Rattle.isa.specs.declared.operation.DivideOp.TheVariants.{Divu, Modu}
use Rattle.isa.specs.declared.operation.HighOp.TheVariants.{Andhi, Orhi}
use Rattle.isa.specs.declared.operation.ImmediateOp.{ImmediateOp}
use Rattle.isa.specs.declared.operation.ImmediateOp.TheVariants.{Binary, High}

abbrev pub complement : ℕ → ℕ
complement x = 2 ^ 32 - 1 - x

abbrev pub flag : Bool → ℕ
flag b = cond b 1 0

abbrev pub computed : BinaryOp → ℕ → ℕ → ℕ
computed Nor x y = complement (bit_or x y)
computed Mul x y = x * y % 2 ^ 32
computed Xor x y = bit_xor x y
computed And x y = bit_and x y
computed Xnor x y = complement (bit_xor x y)
computed Add x y = (x + y) % 2 ^ 32
computed Or x y = bit_or x y
computed Cmpe x y = flag (equal x y)
computed Cmpg x y = flag (greater x y)
computed Cmpge x y = flag (greater_equal x y)
computed Cmpgeu x y = flag (greater_equal_u x y)
computed Cmpgu x y = flag (greater_u x y)
computed Cmpne x y = flag (not (equal x y))

abbrev pub difference : ℕ → ℕ → ℕ
difference x y = (x + (2 ^ 32 - y)) % 2 ^ 32

abbrev pub divided : DivideOp → ℕ → ℕ → ℕ
divided Divu x y = x / y
divided Modu x y = x % y

-- none where the divisor is 0
abbrev pub quotient : DivideOp → ℕ → ℕ → Option ℕ
quotient op x y = cond (y == 0) None (Some (divided op x y))

-- the immediates of the bitwise operations and of the unsigned order tests are zero-extended, the others sign-extended
abbrev pub zero_extends : BinaryOp → Bool
zero_extends Nor = true
zero_extends Mul = false
zero_extends Xor = true
zero_extends And = true
zero_extends Xnor = true
zero_extends Add = false
zero_extends Or = true
zero_extends Cmpe = false
zero_extends Cmpg = false
zero_extends Cmpge = false
zero_extends Cmpgeu = true
zero_extends Cmpgu = true
zero_extends Cmpne = false

abbrev pub operand : BinaryOp → ℕ → ℕ
operand op v = cond (zero_extends op) v (sign_extended 16 v)

-- an operation with an immediate; andhi and orhi take it as the high half
abbrev pub with_immediate : ImmediateOp → ℕ → ℕ → ℕ
with_immediate (Binary op) x v = computed op x (operand op v)
with_immediate (High Andhi) x v = bit_and x (v * 2 ^ 16)
with_immediate (High Orhi) x v = bit_or x (v * 2 ^ 16)
