-- What an operation makes of a word is the instruction of that operation whose bits are the word's below the opcode, and no other.
use Rattle.std.proofs.Common.{◌≡◌, ℕ, ◌+◌, ◌*◌, ◌%◌, ◌^◌, Bool, true, false, cond, eqb, Some, None, refl, subst, arith}
use Rattle.std.proofs.lemmas.Nat.{mod-pow-add}
use Rattle.std.proofs.lemmas.Bool.{eqb-true}
use Rattle.isa.specs.declared.instruction.Instruction.{Instruction}
use Rattle.isa.specs.declared.operation.Operation.{Operation}
use Rattle.isa.specs.declared.operation.RaiseOp.{RaiseOp}
use Rattle.isa.specs.declared.register.Register.{Register}
use Rattle.isa.specs.declared.csr_number.CsrNumber.{CsrNumber}
use Rattle.isa.specs.Words.{field, register_a, register_b, register_c, csr_a, low_half}
use Rattle.isa.specs.Fields
use Rattle.isa.specs.Decode.{instruction_of, formed}
use Rattle.isa.specs.Unused.{clear, unused}
use Rattle.isa.specs.Encode.{Laid, Packed}
use Rattle.isa.specs.Operations.{named_by}
use Rattle.isa.proofs.Unused.{Zeros, zeros, cleared}
use Rattle.isa.proofs.Values.{one_value}

module _ (w : ℕ) where
  same : (f : Register) (n : ℕ) → n % 32 ≡ f.number → Fields.register n ≡ f
  same f n e = one_value (λ k h. record { number = k; within = h }) e (Fields.register n).within f.within

  same_csr : (f : CsrNumber) → field 25 21 w % 32 ≡ f.number → csr_a w ≡ f
  same_csr f e = one_value (λ k h. record { number = k; within = h }) e (csr_a w).within f.within

  -- the registers and the low half of a word that is packed from them
  halves : (a b : Register) (v : ℕ) → Packed a.number b.number v (w % 2 ^ 26) → (register_a w ≡ a) × (register_b w ≡ b) × (low_half w ≡ v)
  halves a b v h = (same a (field 25 21 w) (omega arith), same b (field 20 16 w) (omega arith), omega arith)

  third : (c : Register) → low_half w ≡ c.number * 2 ^ 11 → register_c w ≡ c
  third c e = same c (field 15 11 w) (omega arith)

  free : (op : Operation) → Zeros (unused op) w → clear (unused op) w ≡ true
  free op z = cleared (unused op) w z

  pub back : (i : Instruction) → Laid i (w % 2 ^ 26) → instruction_of (Some (named_by i)) w ≡ Some i
  back (Instruction.Immediate op from value to) h = let p = halves from to value h in cc
  back (Instruction.ShiftImmediate op from amount to) h =
      let p = halves from to amount.places h in
      let n : Fields.amount (field 4 0 w) ≡ amount = one_value (λ k h. record { places = k; within = h }) (omega arith) (Fields.amount (field 4 0 w)).within amount.within in
      let u = free (Operation.ShiftImmediate op) (omega arith) in
      cc
  back (Instruction.Load op base offset to) h = let p = halves base to offset h in cc
  back (Instruction.Store op base offset from) h = let p = halves base from offset h in cc
  back (Instruction.Branch op left right offset) h = let p = halves left right offset h in cc
  back (Instruction.Register op left right to) h =
      let p = halves left right (to.number * 2 ^ 11) h in
      let c = third to p.2 in
      let u = free (Operation.Register op) (omega arith) in
      cc
  back (Instruction.Extend op from to) h =
      let p = halves from (Fields.register 0) (to.number * 2 ^ 11) h in
      let c = third to p.2 in
      let u = free (Operation.Extend op) (omega arith) in
      cc
  back (Instruction.Jump op target) h =
      let p = halves target (Fields.register 0) 0 h in
      let u = free (Operation.Jump op) (omega arith) in
      cc
  back (Instruction.JumpOffset op offset) h =
      let n : Fields.offset (field 25 0 w) ≡ offset = one_value (λ k h. record { bits = k; within = h }) (omega arith) (Fields.offset (field 25 0 w)).within offset.within in
      cc
  back (Instruction.ReadCsr csr to) h =
      let a = same_csr csr (omega arith) in
      let c = same to (field 15 11 w) (omega arith) in
      let u = free Operation.ReadCsr (omega arith) in
      cc
  back (Instruction.WriteCsr csr from) h =
      let a = same_csr csr (omega arith) in
      let b = same from (field 20 16 w) (omega arith) in
      let u = free Operation.WriteCsr (omega arith) in
      cc
  back (Instruction.Raise RaiseOp.Break) h =
      let u = free Operation.Raise (omega arith) in
      let n : field 4 0 w ≡ 2 = omega arith in
      cc
  back (Instruction.Raise RaiseOp.Scall) h =
      let u = free Operation.Raise (omega arith) in
      let n : field 4 0 w ≡ 7 = omega arith in
      cc

  -- the word below its opcode, cut at its fields
  a_b_low : w % 2 ^ 26 ≡ field 25 21 w % 32 * 2 ^ 21 + field 20 16 w % 32 * 2 ^ 16 + field 15 0 w
  a_b_low = omega (arith, mod-pow-add w 5 21, mod-pow-add w 5 16)

  c_rest : field 15 0 w ≡ field 15 11 w % 32 * 2 ^ 11 + field 10 0 w
  c_rest = omega (arith, mod-pow-add w 5 11)

  five : field 15 0 w ≡ field 15 5 w * 2 ^ 5 + field 4 0 w
  five = omega (arith, mod-pow-add w 11 5)

  a_rest : w % 2 ^ 26 ≡ field 25 21 w % 32 * 2 ^ 21 + field 20 0 w
  a_rest = omega (arith, mod-pow-add w 5 21)

  all_five : w % 2 ^ 26 ≡ field 25 5 w * 2 ^ 5 + field 4 0 w
  all_five = omega (arith, mod-pow-add w 21 5)

  abbrev pub Whole : Operation → Instruction → Type 0
  Whole op i = (op ≡ named_by i) × Laid i (w % 2 ^ 26)

  carried : (op : Operation) (j i : Instruction) → Some j ≡ Some i → Whole op j → Whole op i
  carried op j i e p = let q : j ≡ i = cc in subst (λ (x : Instruction). Whole op x) q p

  raise_whole : (x y : Bool) (i : Instruction) → eqb (field 4 0 w) 2 ≡ x → eqb (field 4 0 w) 7 ≡ y → field 25 5 w ≡ 0 → cond x (Some (Instruction.Raise RaiseOp.Break)) (cond y (Some (Instruction.Raise RaiseOp.Scall)) None) ≡ Some i → Whole Operation.Raise i
  raise_whole true y i p q z e = carried _ _ i e (refl, (omega (arith, all_five, eqb-true (field 4 0 w) 2 p), omega arith))
  raise_whole false true i p q z e = carried _ _ i e (refl, (omega (arith, all_five, eqb-true (field 4 0 w) 7 q), omega arith))
  raise_whole false false i p q z e = let n : ◌≡◌ {A = ℕ} 0 1 = cc in absurd (omega arith)

  pub whole : (op : Operation) (i : Instruction) → clear (unused op) w ≡ true → formed op w ≡ Some i → Whole op i
  whole (Operation.Immediate op) i u e = carried _ _ i e (refl, (a_b_low, omega arith))
  whole (Operation.ShiftImmediate op) i u e =
      let z = zeros (unused (Operation.ShiftImmediate op)) w u in
      carried _ _ i e (refl, (omega (arith, a_b_low, five), omega arith))
  whole (Operation.Load op) i u e = carried _ _ i e (refl, (a_b_low, omega arith))
  whole (Operation.Store op) i u e = carried _ _ i e (refl, (a_b_low, omega arith))
  whole (Operation.Branch op) i u e = carried _ _ i e (refl, (a_b_low, omega arith))
  whole (Operation.Register op) i u e =
      let z = zeros (unused (Operation.Register op)) w u in
      carried _ _ i e (refl, (omega (arith, a_b_low, c_rest), omega arith))
  whole (Operation.Extend op) i u e =
      let z = zeros (unused (Operation.Extend op)) w u in
      carried _ _ i e (refl, (omega (arith, a_b_low, c_rest), omega arith))
  whole (Operation.Jump op) i u e =
      let z = zeros (unused (Operation.Jump op)) w u in
      carried _ _ i e (refl, (omega (arith, a_rest), omega arith))
  whole (Operation.JumpOffset op) i u e = carried _ _ i e (refl, omega arith)
  whole Operation.ReadCsr i u e =
      let z = zeros (unused Operation.ReadCsr) w u in
      carried _ _ i e (refl, (omega (arith, a_b_low, c_rest), omega arith))
  whole Operation.WriteCsr i u e =
      let z = zeros (unused Operation.WriteCsr) w u in
      carried _ _ i e (refl, (omega (arith, a_b_low), omega arith))
  whole Operation.Raise i u e = raise_whole _ _ i refl refl (zeros (unused Operation.Raise) w u).0 e
