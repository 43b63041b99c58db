-- The check, one line or one byte on.
use Rattle.std.proofs.Common.{◌≡◌, ℕ, ◌+◌, ◌^◌, ◌<◌, ◌≤◌, Bool, true, false, cond, eqb, ltb, List, [], ◌∷◌, length, drop, Some, None, refl, ap, ◌∙◌, arith}
use Rattle.std.proofs.lemmas.List.{drop_all, length-drop}
use Rattle.std.proofs.lemmas.Bool.{and_right, lt-ltb, le-ltb, ltb-true, ltb-false}
use Rattle.image.specs.Checking.{accepted, refused, ended, on_memory, check_line, check_from}
use Rattle.image.specs.Lines.{Lines, line, rest, longer, lines_of, LineAt}
use Rattle.image.specs.Reading.{read_line}

-- bytes are left, so the lines are not at their end

ended_longer : (n place b : ℕ) (ls : Lines) → ended n place (longer b ls) ≡ refused 13 place
ended_longer n place b (line l ls) = refl
ended_longer n place b (rest bs) = refl

ended_some : (n place : ℕ) (bs : List ℕ) → 0 < length bs → ended n place (lines_of bs) ≡ refused 13 place
ended_some n place [] h = absurd (omega arith)
ended_some n place (b ∷ bs) h = by (eqb b 10)
  where
    by : (t : Bool) → ended n place (cond t (line [] (lines_of bs)) (longer b (lines_of bs))) ≡ refused 13 place
    by true = refl
    by false = ended_longer n place b (lines_of bs)

module _ (image : List ℕ) (n place : ℕ) where
  pub ended_before : place < length image → ended n place (lines_of (drop place image)) ≡ refused 13 place
  ended_before h = ended_some n place (drop place image) (omega (arith, length-drop place image))

  pub ended_at_end : length image ≤ place → ended n place (lines_of (drop place image)) ≡ accepted n
  ended_at_end h = ap (λ bs. ended n place (lines_of bs)) (drop_all place image h)

module _ (memory : ℕ → Bool) where
  -- one byte of a data line

  module _ (at : ℕ) (bs : List ℕ) (b : ℕ) (more : List ℕ) (cut : bs ≡ b ∷ more) where
    pub byte_on : at < 2 ^ 32 → memory at ≡ true → on_memory memory (at + 1) more ≡ on_memory memory at bs
    byte_on fits on = rw (cut, lt-ltb at (2 ^ 32) fits, on) refl

    pub byte_past : 2 ^ 32 ≤ at → false ≡ on_memory memory at bs
    byte_past past = rw (cut, le-ltb at (2 ^ 32) past) refl

    pub byte_elsewhere : memory at ≡ false → false ≡ on_memory memory at bs
    byte_elsewhere off = rw (cut, and_right (ltb at (2 ^ 32)) (memory at) off) refl

  -- one line of an image

  pub line_next : (image : List ℕ) (place count : ℕ) (l : List ℕ) → LineAt image place (Some l) → check_from memory place count (lines_of (drop place image)) ≡ check_line memory (read_line l) place count (place + length l + 1) (lines_of (drop (place + length l + 1) image)) (check_from memory (place + length l + 1) (count + 1) (lines_of (drop (place + length l + 1) image)))
  line_next image place count l at = ap (check_from memory place count) at.0

  no_line : (place count : ℕ) (bs : List ℕ) → 0 < length bs → check_from memory place count (rest bs) ≡ refused 11 place
  no_line place count [] h = absurd (omega arith)
  no_line place count (b ∷ bs) h = refl

  pub lines_stop : (image : List ℕ) (place count : ℕ) → LineAt image place None → check_from memory place count (lines_of (drop place image)) ≡ refused (cond (ltb place (length image)) 11 13) place
  lines_stop image place count at = by (ltb place (length image)) refl
    where
      by : (t : Bool) → ltb place (length image) ≡ t → check_from memory place count (lines_of (drop place image)) ≡ refused (cond t 11 13) place
      by true e = ap (check_from memory place count) at ∙ no_line place count (drop place image) (omega (arith, length-drop place image, ltb-true place (length image) e))
      by false e = ap (λ bs. check_from memory place count (lines_of bs)) (drop_all place image (ltb-false place (length image) e))
