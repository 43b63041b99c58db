-- An image cut at its line feeds.
use Rattle.std.specs.Prelude.{◌≡◌, ℕ, ◌+◌, ◌<◌, cond, List, [], ◌∷◌, length, drop, Some, None, Option, ◌==◌}

-- lines, each ended by a line feed, and at last the bytes that no line feed follows
pub data Lines : Type 0 where
  line : List ℕ → Lines → Lines
  rest : List ℕ → Lines

-- a byte before the first line feed, or before the rest where there is none
abbrev pub longer : ℕ → Lines → Lines
longer b (line l ls) = line (b ∷ l) ls
longer b (rest bs) = rest (b ∷ bs)

abbrev pub lines_of : List ℕ → Lines
lines_of [] = rest []
lines_of (b ∷ bs) = cond (b == 10) (line [] (lines_of bs)) (longer b (lines_of bs))

-- l is the line that begins at a place of an image, or there is none: no line feed follows
abbrev pub LineAt : List ℕ → ℕ → Option (List ℕ) → Type 0
LineAt image place None = lines_of (drop place image) ≡ rest (drop place image)
LineAt image place (Some l) = (lines_of (drop place image) ≡ line l (lines_of (drop (place + length l + 1) image))) × (place + length l < length image)
