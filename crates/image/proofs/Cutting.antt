-- The first line feed cuts off a line, and without one nothing is cut off.
use Rattle.std.proofs.Common.{◌≡◌, ℕ, suc, ◌+◌, ◌<◌, ◌≤◌, Bool, true, false, not, cond, eqb, ltb, List, [], ◌∷◌, length, take, drop, Some, None, sym, refl, ap, ◌∙◌, arith}
use Rattle.std.specs.List.{slice_range, position, position_or_len}
use Rattle.std.proofs.lemmas.List.{length-take-le, length-drop, drop-drop, take_rest}
use Rattle.std.proofs.lemmas.Bool.{ltb-true, ltb-false}
use Rattle.image.specs.Lines.{line, rest, longer, lines_of, LineAt}

-- how many bytes stand before the first line feed
abbrev before_feed : List ℕ → ℕ
before_feed bs = position_or_len (λ b. eqb b 10) bs

uncut : (bs : List ℕ) → length bs ≤ before_feed bs → lines_of bs ≡ rest bs
uncut [] h = refl
uncut (b ∷ bs) h = by (eqb b 10) (uncut bs) h
  where
    by : (t : Bool) → (length bs ≤ before_feed bs → lines_of bs ≡ rest bs) → suc (length bs) ≤ cond (not t) (1 + before_feed bs) 0 → cond t (line [] (lines_of bs)) (longer b (lines_of bs)) ≡ rest (b ∷ bs)
    by true more h = absurd (omega arith)
    by false more h = ap (longer b) (more (omega arith))

cut_off : (bs : List ℕ) → before_feed bs < length bs → lines_of bs ≡ line (take (before_feed bs) bs) (lines_of (drop (before_feed bs + 1) bs))
cut_off [] h = absurd (omega arith)
cut_off (b ∷ bs) h = by (eqb b 10) (cut_off bs) h
  where
    by : (t : Bool) → (before_feed bs < length bs → lines_of bs ≡ line (take (before_feed bs) bs) (lines_of (drop (before_feed bs + 1) bs))) → cond (not t) (1 + before_feed bs) 0 < suc (length bs) → cond t (line [] (lines_of bs)) (longer b (lines_of bs)) ≡ line (take (cond (not t) (1 + before_feed bs) 0) (b ∷ bs)) (lines_of (drop (cond (not t) (1 + before_feed bs) 0 + 1) (b ∷ bs)))
    by true more h = refl
    by false more h =
        let one : 1 + before_feed bs ≡ suc (before_feed bs) = omega arith in
        let two : 1 + before_feed bs + 1 ≡ suc (before_feed bs + 1) = omega arith in
        rw (two, one) (ap (longer b) (more (omega arith)))

no_feed : (bs : List ℕ) → None ≡ position (λ b. eqb b 10) bs → lines_of bs ≡ rest bs
no_feed bs e = by (ltb (before_feed bs) (length bs)) refl e
  where
    by : (t : Bool) → ltb (before_feed bs) (length bs) ≡ t → None ≡ cond t (Some (before_feed bs)) None → lines_of bs ≡ rest bs
    by true is e = cc
    by false is e = uncut bs (ltb-false (before_feed bs) (length bs) is)

feed_at : (bs : List ℕ) (n : ℕ) → Some n ≡ position (λ b. eqb b 10) bs → (n < length bs) × (lines_of bs ≡ line (take n bs) (lines_of (drop (n + 1) bs)))
feed_at bs n e = by (ltb (before_feed bs) (length bs)) refl e
  where
    by : (t : Bool) → ltb (before_feed bs) (length bs) ≡ t → Some n ≡ cond t (Some (before_feed bs)) None → (n < length bs) × (lines_of bs ≡ line (take n bs) (lines_of (drop (n + 1) bs)))
    by true is e =
        let same : n ≡ before_feed bs = cc in
        let some = ltb-true (before_feed bs) (length bs) is in
        rw same (some, cut_off bs some)
    by false is e = cc

-- the bytes of an image from a place on, without a line feed or with the first of them at n
module _ (image : List ℕ) (place : ℕ) (found : List ℕ) (from : found ≡ slice_range image place (length image)) where
  pub no_line : None ≡ position (λ b. eqb b 10) found → LineAt image place None
  no_line e = rw (from ∙ take_rest image place) at (no_feed found e)

  pub first_line : (n : ℕ) → place ≤ length image → Some n ≡ position (λ b. eqb b 10) found → LineAt image place (Some (take n found))
  first_line n inside e =
      let is : found ≡ drop place image = from ∙ take_rest image place in
      let cut = feed_at found n e in
      let long : length (take n found) ≡ n = length-take-le n found (omega (arith, cut.0)) in
      let next : place + (n + 1) ≡ place + length (take n found) + 1 = omega arith in
      let more : drop (n + 1) found ≡ drop (place + length (take n found) + 1) image = ap (drop (n + 1)) is ∙ drop-drop (n + 1) place image ∙ ap (λ k. drop k image) next in
      (ap lines_of (sym is) ∙ cut.1 ∙ ap (λ bs. line (take n found) (lines_of bs)) more, omega (arith, cut.0, long, ap length is, length-drop place image))
