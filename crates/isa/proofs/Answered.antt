-- What the answer of decoding says of its word: an instruction has no other word, and a refusal is of a reserved one.
use Rattle.std.proofs.Common.{◌≡◌, ℕ, ◌^◌, ◌<◌, true, ◌↔◌, is_err, IfOk, Some, None, Option, Result, refl, arith, MatchResult}
use Rattle.std.specs.Option.{ok_or}
use Rattle.isa.specs.declared.instruction.Instruction.{Instruction}
use Rattle.isa.specs.declared.reserved.Reserved.{Reserved}
use Rattle.isa.specs.Decode.{decoded}
use Rattle.isa.specs.Refusal.{refusal}
use Rattle.isa.specs.ReservedWords.{ReservedWord}
use Rattle.isa.proofs.ReservedWords.{reserved, refused}
use Rattle.isa.proofs.Whole.{one_word}

module _ (w : ℕ) where
  abbrev Only : Result Instruction Reserved → Type 0
  Only r = IfOk r (λ i. (v : ℕ) → v < 2 ^ 32 → decoded v ≡ Some i → v ≡ w)

  abbrev Refusing : Result Instruction Reserved → Type 0
  Refusing r = is_err r ≡ true ↔ ReservedWord w

  abbrev Saying : Result Instruction Reserved → Type 0
  Saying r = MatchResult r (λ i. decoded w ≡ Some i) (λ _. decoded w ≡ None)

  by_case : (o : Option Instruction) → w < 2 ^ 32 → decoded w ≡ o → Saying (ok_or o refusal) × Only (ok_or o refusal) × Refusing (ok_or o refusal)
  by_case None h e = (e, tt, (λ t. reserved w e, λ r. refl))
  by_case (Some i) h e = (
    e,
    λ v k d. one_word v w i k h d e,
    (
      λ t. let z : ◌≡◌ {A = ℕ} 0 1 = cc in absurd (omega arith),
      λ r. let n : decoded w ≡ None = refused w r in cc,
    ),
  )

  pub answered : w < 2 ^ 32 → Saying (ok_or (decoded w) refusal) × Only (ok_or (decoded w) refusal) × Refusing (ok_or (decoded w) refusal)
  answered h = by_case (decoded w) h refl
