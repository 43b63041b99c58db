-- The opcode table's rule, at all 64 entries by one test that antt computes: an operation stands at its code, and the empty places are four.
use Rattle.std.proofs.Common.{◌≡◌, ℕ, ◌+◌, ◌<◌, Bool, true, ◌||◌, eqb, ◌⊎◌, List, get_or, Some, None, Option, sym, refl, ap, ◌∙◌, subst, ⊎_elim, zero-add, arith}
use Rattle.std.specs.List.{list_all, enumerate_from}
use Rattle.std.proofs.lemmas.List.{get_or_past}
use Rattle.std.proofs.lemmas.List.Folds.{list_all_at}
use Rattle.std.proofs.lemmas.List.FromFn.{get_or-enumerate_from}
use Rattle.std.proofs.lemmas.Bool.{cases_lt, cases_Bool, eqb-true, false≢true}
use Rattle.std.proofs.lemmas.Bool.Decides.{nat_tests}
use Rattle.isa.specs.declared.operation.Operation.{Operation}
use Rattle.isa.specs.declared.operation.ImmediateOp.{ImmediateOp}
use Rattle.isa.specs.declared.operation.RegisterOp.{RegisterOp}
use Rattle.isa.specs.declared.operation.BinaryOp.{BinaryOp}
use Rattle.isa.specs.declared.operation.ShiftOp.{ShiftOp}
use Rattle.isa.specs.declared.operation.JumpOp.{JumpOp}
use Rattle.isa.specs.declared.operation.BinaryOp.TheVariants.{Nor, Mul, Xor, And, Xnor, Add, Or, Cmpe, Cmpg, Cmpge, Cmpgeu, Cmpgu, Cmpne}
use Rattle.isa.specs.declared.operation.HighOp.TheVariants.{Andhi, Orhi}
use Rattle.isa.specs.declared.operation.ShiftOp.TheVariants.{Sru, Sr, Sl}
use Rattle.isa.specs.declared.operation.LoadOp.TheVariants.{Lb, Lh, Lw, Lhu, Lbu}
use Rattle.isa.specs.declared.operation.StoreOp.TheVariants.{Sh, Sb, Sw}
use Rattle.isa.specs.declared.operation.BranchOp.TheVariants.{Be, Bg, Bge, Bgeu, Bgu, Bne}
use Rattle.isa.specs.declared.operation.DivideOp.TheVariants.{Divu, Modu}
use Rattle.isa.specs.declared.operation.ExtendOp.TheVariants.{Sextb, Sexth}
use Rattle.isa.specs.declared.operation.JumpOp.TheVariants.{B, Call}
use Rattle.isa.specs.Opcodes.{opcodes, named}

-- the codes, as the enums' numbers give them
abbrev pub binary : BinaryOp → ℕ
binary =
    elim [
      | Nor ↦ 0x01
      | Mul ↦ 0x02
      | Xor ↦ 0x06
      | And ↦ 0x08
      | Xnor ↦ 0x09
      | Add ↦ 0x0D
      | Or ↦ 0x0E
      | Cmpe ↦ 0x19
      | Cmpg ↦ 0x1A
      | Cmpge ↦ 0x1B
      | Cmpgeu ↦ 0x1C
      | Cmpgu ↦ 0x1D
      | Cmpne ↦ 0x1F
    ]

abbrev pub shift : ShiftOp → ℕ
shift = elim [ Sru ↦ 0x00 | Sr ↦ 0x05 | Sl ↦ 0x0F ]

abbrev pub jump : JumpOp → ℕ
jump = elim [ B ↦ 0x30 | Call ↦ 0x36 ]

abbrev code : Operation → ℕ
code (Operation.Immediate (ImmediateOp.Binary op)) = binary op
code (Operation.Immediate (ImmediateOp.High op)) = elim op [ Andhi ↦ 0x18 | Orhi ↦ 0x1E ]
code (Operation.ShiftImmediate op) = shift op
code (Operation.Load op) = elim op [ Lb ↦ 0x04 | Lh ↦ 0x07 | Lw ↦ 0x0A | Lhu ↦ 0x0B | Lbu ↦ 0x10 ]
code (Operation.Store op) = elim op [ Sh ↦ 0x03 | Sb ↦ 0x0C | Sw ↦ 0x16 ]
code (Operation.Branch op) = elim op [ Be ↦ 0x11 | Bg ↦ 0x12 | Bge ↦ 0x13 | Bgeu ↦ 0x14 | Bgu ↦ 0x15 | Bne ↦ 0x17 ]
code (Operation.Register (RegisterOp.Binary op)) = binary op + 0x20
code (Operation.Register (RegisterOp.Shift op)) = shift op + 0x20
code (Operation.Register RegisterOp.Sub) = 0x32
code (Operation.Register (RegisterOp.Divide op)) = elim op [ Divu ↦ 0x23 | Modu ↦ 0x31 ]
code (Operation.Extend op) = elim op [ Sextb ↦ 0x2C | Sexth ↦ 0x37 ]
code (Operation.Jump op) = jump op
code (Operation.JumpOffset op) = jump op + 8
code Operation.ReadCsr = 0x24
code Operation.WriteCsr = 0x34
code Operation.Raise = 0x2B

-- the second forms lie above the first ones
pub above_binary : (op : BinaryOp) → named (binary op + 0x20) ≡ Some (Operation.Register (RegisterOp.Binary op))
above_binary =
    elim [
      | Nor ↦ refl
      | Mul ↦ refl
      | Xor ↦ refl
      | And ↦ refl
      | Xnor ↦ refl
      | Add ↦ refl
      | Or ↦ refl
      | Cmpe ↦ refl
      | Cmpg ↦ refl
      | Cmpge ↦ refl
      | Cmpgeu ↦ refl
      | Cmpgu ↦ refl
      | Cmpne ↦ refl
    ]

pub above_shift : (op : ShiftOp) → named (shift op + 0x20) ≡ Some (Operation.Register (RegisterOp.Shift op))
above_shift = elim [ Sru ↦ refl | Sr ↦ refl | Sl ↦ refl ]

pub above_jump : (op : JumpOp) → named (jump op + 8) ≡ Some (Operation.JumpOffset op)
above_jump = elim [ B ↦ refl | Call ↦ refl ]

abbrev empty : ℕ → Bool
empty k = eqb k 0x27 || eqb k 0x2A || eqb k 0x33 || eqb k 0x35

-- the test of an entry and its place
abbrev right : ℕ → Option Operation → Bool
right k None = empty k
right k (Some op) = eqb (code op) k

-- the entries with their places
abbrev entries : List (ℕ × Option Operation)
entries = enumerate_from 0 opcodes

abbrev passes : ℕ × Option Operation → Bool
passes entry = right entry.0 entry.1

all_pass : list_all passes entries ≡ true
all_pass = refl

rule : (k : ℕ) → k < 64 → right k (named k) ≡ true
rule k h =
    let e : get_or entries k (0, None) ≡ (k, named k) = get_or-enumerate_from 0 opcodes k (0, None) h ∙ ap (λ (n : ℕ). (n, named k)) (zero-add k) in
    ⊎_elim
    (λ yes. yes)
    (λ no. absurd (false≢true (sym (list_all_at passes entries k (0, None) h (ap passes e ∙ no)) ∙ all_pass)))
    (cases_Bool (right k (named k)))

ruled : (o : Option Operation) (k : ℕ) → named k ≡ o → k < 64 → right k o ≡ true
ruled o k e h = subst (λ (x : Option Operation). right k x ≡ true) e (rule k h)

place : (op : Operation) (k : ℕ) → named k ≡ Some op → code op ≡ k
place op k e =
    ⊎_elim
    (λ h. eqb-true (code op) k (ruled (Some op) k e h))
    (λ h. let n : named k ≡ None = get_or_past opcodes k None h in cc)
    (cases_lt k 64)

-- an operation is named by one opcode
pub single : (op : Operation) (j k : ℕ) → named j ≡ Some op → named k ≡ Some op → j ≡ k
single op j k p q = sym (place op j p) ∙ place op k q

-- an opcode of six bits that names nothing is one of four
pub nameless : (k : ℕ) → k < 64 → named k ≡ None → (k ≡ 0x27) ⊎ (k ≡ 0x2A) ⊎ (k ≡ 0x33) ⊎ (k ≡ 0x35)
nameless k h e = let t : empty k ≡ true = ruled None k e h in grind (arith, nat_tests)
