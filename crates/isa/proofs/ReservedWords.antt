-- A word says no instruction exactly where it is reserved.
use Rattle.std.proofs.Common.{◌≡◌, ℕ, ◌+◌, ◌-◌, Bool, true, false, cond, eqb, ◌≢◌, List, [], ◌∷◌, Some, None, Option, sym, refl, ap, ◌∙◌, inl, inr, ⊎_elim, arith}
use Rattle.std.proofs.lemmas.Bool.{and_cases, eqb-false, cases_Bool, cond-false}
use Rattle.std.proofs.lemmas.Bool.Decides.{nat_tests}
use Rattle.isa.specs.declared.operation.Operation.{Operation}
use Rattle.isa.specs.Words.{field}
use Rattle.isa.specs.Opcodes.{named}
use Rattle.isa.specs.Decode.{decoded, instruction_of, formed, raised}
use Rattle.isa.specs.Unused.{clear, unused}
use Rattle.isa.specs.ReservedWords.{IsSet, Among, ReservedWord}
use Rattle.isa.proofs.BitRows.{set_bit, no_bit}
use Rattle.isa.proofs.Table.{nameless, single}
use Rattle.isa.proofs.Unused.{Zeros, zeros}

module _ (w : ℕ) where
  -- rows that are not clear have a bit that is set
  stray_bit : (rows : List (ℕ × ℕ)) → clear rows w ≡ false → (k : ℕ) × Among rows k × IsSet k w
  stray_bit [] e = let z : ◌≡◌ {A = ℕ} 0 1 = cc in absurd (omega arith)
  stray_bit (row ∷ rows) e =
      ⊎_elim
      (λ f.
      let s = set_bit (row.0 + 1 - row.1) row.1 w (eqb-false (field row.0 row.1 w) 0 f) in
      (s.0, inl (omega arith), s.3))
      (λ f. let s = stray_bit rows f in (s.0, inr s.1, s.2))
      (and_cases (eqb (field row.0 row.1 w) 0) (clear rows w) e)

  -- and where a bit is set they are not clear
  not_zero : (rows : List (ℕ × ℕ)) (k : ℕ) → Among rows k → IsSet k w → Zeros rows w → ⊥
  not_zero [] k m s z = m
  not_zero (row ∷ rows) k m s z =
      ⊎_elim
      (λ h. let n = no_bit (row.0 + 1 - row.1) row.1 k w z.0 h.0 (omega arith) in omega arith)
      (λ h. not_zero rows k h s z.1)
      m

  -- only a raise can be named, have clear bits, and be none
  unformed : (op : Operation) → formed op w ≡ None → (op ≡ Operation.Raise) × (field 4 0 w ≢ 2) × (field 4 0 w ≢ 7)
  unformed op e = grind (arith, nat_tests)

  checked : (op : Operation) (b : Bool) → named (field 31 26 w) ≡ Some op → clear (unused op) w ≡ b → cond b (formed op w) None ≡ None → ReservedWord w
  checked op false n u e = let s = stray_bit (unused op) u in inr (inl (op, n, s.0, s.1, s.2))
  checked op true n u e =
      let r = unformed op e in
      inr (inr (single op (field 31 26 w) 0x2B n (ap Some (sym r.0)), r.1, r.2))

  by_name : (o : Option Operation) → named (field 31 26 w) ≡ o → instruction_of o w ≡ None → ReservedWord w
  by_name None n e = inl (nameless (field 31 26 w) (omega arith) n)
  by_name (Some op) n e = checked op (clear (unused op) w) n refl e

  pub reserved : decoded w ≡ None → ReservedWord w
  unfolding decoded
  reserved e = by_name (named (field 31 26 w)) refl e

  not_clear : (op : Operation) (k : ℕ) → Among (unused op) k → IsSet k w → clear (unused op) w ≡ false
  not_clear op k m s =
      ⊎_elim (λ u. absurd (not_zero (unused op) k m s (zeros (unused op) w u))) (λ u. u) (cases_Bool (clear (unused op) w))

  unraised : field 4 0 w ≢ 2 → field 4 0 w ≢ 7 → cond (clear (unused Operation.Raise) w) (raised (field 4 0 w)) None ≡ None
  unraised p q = grind (arith, nat_tests)

  pub refused : ReservedWord w → decoded w ≡ None
  unfolding decoded
  refused (inl (inl e)) = ap (λ (k : ℕ). instruction_of (named k) w) e
  refused (inl (inr (inl e))) = ap (λ (k : ℕ). instruction_of (named k) w) e
  refused (inl (inr (inr (inl e)))) = ap (λ (k : ℕ). instruction_of (named k) w) e
  refused (inl (inr (inr (inr e)))) = ap (λ (k : ℕ). instruction_of (named k) w) e
  refused (inr (inl s)) =
      ap (λ (o : Option Operation). instruction_of o w) s.1 ∙ cond-false (clear (unused s.0) w) (formed s.0 w) None (not_clear s.0 s.2 s.3 s.4)
  refused (inr (inr s)) = ap (λ (k : ℕ). instruction_of (named k) w) s.0 ∙ unraised s.1 s.2
