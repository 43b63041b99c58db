-- A word is an instruction exactly where its opcode names the instruction's operation and the bits below are the instruction's: so an instruction has one word.
use Rattle.std.proofs.Common.{◌≡◌, ℕ, ◌+◌, ◌*◌, ◌%◌, ◌^◌, ◌<◌, Bool, true, false, cond, Some, None, Option, refl, ap, ◌∙◌, arith}
use Rattle.isa.specs.declared.instruction.Instruction.{Instruction}
use Rattle.isa.specs.declared.operation.Operation.{Operation}
use Rattle.isa.specs.Words.{field}
use Rattle.isa.specs.Opcodes.{named}
use Rattle.isa.specs.Decode.{decoded, instruction_of, formed}
use Rattle.isa.specs.Unused.{clear, unused}
use Rattle.isa.specs.Encode.{Laid}
use Rattle.isa.specs.Operations.{named_by}
use Rattle.isa.proofs.Formed.{Whole, whole, back}
use Rattle.isa.proofs.Table.{single}

-- the bits below the opcode are 26
pub laid_below : (i : Instruction) (n : ℕ) → Laid i n → n < 2 ^ 26
laid_below i n h = grind arith

-- and they are one number
laid_once : (i : Instruction) (m n : ℕ) → Laid i m → Laid i n → m ≡ n
laid_once i m n p q = grind arith

abbrev Parts : ℕ → Instruction → Type 0
Parts w i = (named (field 31 26 w) ≡ Some (named_by i)) × Laid i (w % 2 ^ 26)

parts : (w : ℕ) (i : Instruction) → decoded w ≡ Some i → Parts w i
unfolding decoded
parts w i e = by (named (field 31 26 w)) refl e
  where
    checked : (op : Operation) (b : Bool) → clear (unused op) w ≡ b → cond b (formed op w) None ≡ Some i → Whole w op i
    checked op true u e = whole w op i u e
    checked op false u e = let n : ◌≡◌ {A = ℕ} 0 1 = cc in absurd (omega arith)

    by : (o : Option Operation) → named (field 31 26 w) ≡ o → instruction_of o w ≡ Some i → Parts w i
    by None n e = let z : ◌≡◌ {A = ℕ} 0 1 = cc in absurd (omega arith)
    by (Some op) n e = let p = checked op (clear (unused op) w) refl e in (n ∙ ap Some p.0, p.1)

pub one_word : (v w : ℕ) (i : Instruction) → v < 2 ^ 32 → w < 2 ^ 32 → decoded v ≡ Some i → decoded w ≡ Some i → v ≡ w
one_word v w i hv hw p q =
    let a = parts v i p in
    let b = parts w i q in
    omega (arith, single (named_by i) (field 31 26 v) (field 31 26 w) a.0 b.0, laid_once i (v % 2 ^ 26) (w % 2 ^ 26) a.1 b.1)

pub word_back : (k n : ℕ) (i : Instruction) → k < 64 → named k ≡ Some (named_by i) → Laid i n → decoded (k * 2 ^ 26 + n) ≡ Some i
unfolding decoded
word_back k n i hk e h =
    let b : n < 2 ^ 26 = laid_below i n h in
    let f : field 31 26 (k * 2 ^ 26 + n) ≡ k = omega arith in
    let g : (k * 2 ^ 26 + n) % 2 ^ 26 ≡ n = omega arith in
    let l : Laid i ((k * 2 ^ 26 + n) % 2 ^ 26) = rw g h in
    ap (λ (o : Option Operation). instruction_of o (k * 2 ^ 26 + n)) (ap named f ∙ e) ∙ back (k * 2 ^ 26 + n) i l
