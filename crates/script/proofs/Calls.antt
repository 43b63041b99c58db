-- A script, one call at a time. Assumes nothing.
use Rattle.std.proofs.Common.{◌≡◌, ℕ, ◌+◌, ◌<◌, ◌≤◌, Bor, List, [], ◌∷◌, ◌++◌, map, length, get_or, drop, sym, ap, ◌∙◌, append_assoc, append-nil}
use Rattle.std.proofs.lemmas.List.{drop_more, drop_all, map_push}
use Rattle.bus.specs.Rules.{Rules}
use Rattle.board.specs.Machine.{Machine}
use Rattle.script.specs.Account.{tells, after, all_told, finally}
use Rattle.script.specs.Request.{Told, request, told}
use Rattle.script.specs.declared.call.Call.{Call}
use Rattle.script.specs.declared.call.Reply.{Reply}

-- one call more of what is left
left : (script : List (Call (Bor (List ℕ)))) (k : ℕ) (d : Call (Bor (List ℕ))) → k < length script → map request (drop k script) ≡ request (get_or script k d) ∷ map request (drop (k + 1) script)
left script k d h = ap (map request) (drop_more script k d h)

module _ {M : Type 0} (r : Rules M) where
  pub told_more : (s t : Machine M) (xs ys : List Reply) (reply : Reply) (whole : List Told) (script : List (Call (Bor (List ℕ)))) (k : ℕ) (d : Call (Bor (List ℕ))) → k < length script →
      ys ≡ xs ++ reply ∷ [] → told reply ≡ tells r s (request (get_or script k d)) → t ≡ after r s (request (get_or script k d)) →
      map told xs ++ all_told r s (map request (drop k script)) ≡ whole →
      map told ys ++ all_told r t (map request (drop (k + 1) script)) ≡ whole
  told_more s t xs ys reply whole script k d h push answer state inv =
      let rest = all_told r (after r s (request (get_or script k d))) (map request (drop (k + 1) script)) in
      ap (λ zs. map told zs ++ all_told r t (map request (drop (k + 1) script))) push
      ∙ ap (λ zs. zs ++ all_told r t (map request (drop (k + 1) script))) (map_push told xs reply)
      ∙ ap (λ m. (map told xs ++ told reply ∷ []) ++ all_told r m (map request (drop (k + 1) script))) state
      ∙ append_assoc (map told xs) (told reply ∷ []) rest
      ∙ ap (λ x. map told xs ++ x ∷ rest) answer
      ∙ sym (ap (λ qs. map told xs ++ all_told r s qs) (left script k d h)) ∙ inv

  pub final_more : (s t : Machine M) (whole : Machine M) (script : List (Call (Bor (List ℕ)))) (k : ℕ) (d : Call (Bor (List ℕ))) → k < length script →
      t ≡ after r s (request (get_or script k d)) → finally r s (map request (drop k script)) ≡ whole → finally r t (map request (drop (k + 1) script)) ≡ whole
  final_more s t whole script k d h state inv =
      ap (λ m. finally r m (map request (drop (k + 1) script))) state ∙ sym (ap (finally r s) (left script k d h)) ∙ inv

  pub told_all : (s : Machine M) (xs : List Told) (whole : List Told) (script : List (Call (Bor (List ℕ)))) (k : ℕ) → length script ≤ k →
      xs ++ all_told r s (map request (drop k script)) ≡ whole → xs ≡ whole
  told_all s xs whole script k h inv =
      sym (append-nil xs) ∙ sym (ap (λ qs. xs ++ all_told r s (map request qs)) (drop_all k script h)) ∙ inv

  pub final_all : (s : Machine M) (whole : Machine M) (script : List (Call (Bor (List ℕ)))) (k : ℕ) → length script ≤ k → finally r s (map request (drop k script)) ≡ whole → s ≡ whole
  final_all s whole script k h inv = sym (ap (λ qs. finally r s (map request qs)) (drop_all k script h)) ∙ inv
