-- The check of an image: line by line from the front, before anything of it is written.
use Rattle.std.specs.Prelude.{ℕ, ◌+◌, ◌^◌, Bool, true, cond, ◌&&◌, List, [], ◌∷◌, length, ◌==◌, nat_lt}
use Rattle.image.specs.Format.{Data}
use Rattle.image.specs.Lines.{Lines, line, rest, lines_of}
use Rattle.image.specs.Reading.{Reading, data_line, end_line, malformed, read_line}

-- the count of data lines; or a refusal's number and the place in the image that it names
pub data Answer : Type 0 where
  accepted : ℕ → Answer
  refused : ℕ → ℕ → Answer

-- the end line's count, if nothing follows it; 13: bytes after the end line, at the first of them
abbrev pub ended : ℕ → ℕ → Lines → Answer
ended count place (rest []) = accepted count
ended count place (rest (b ∷ bs)) = refused 13 place
ended count place (line l ls) = refused 13 place

-- memory says which addresses are memory
module _ (memory : ℕ → Bool) where
  -- each byte falls on memory, from an address on, and none passes FFFFFFFF
  abbrev pub on_memory : ℕ → List ℕ → Bool
  on_memory address [] = true
  on_memory address (b ∷ bs) = (nat_lt address (2 ^ 32) && memory address) && on_memory (address + 1) bs

  -- one line, which begins at a place after a count of data lines: the lines after it begin at next, and give more
  -- 11: it is malformed; 12: a byte would not fall on memory; 13: it miscounts
  abbrev pub check_line : Reading → ℕ → ℕ → ℕ → Lines → Answer → Answer
  check_line (data_line d) place count next ls more = cond (on_memory d.address d.bytes) more (refused 12 place)
  check_line (end_line n) place count next ls more = cond (n == count) (ended n next ls) (refused 13 place)
  check_line malformed place count next ls more = refused 11 place

  -- the lines from a place on; 13: there is no end line; 11: a line is not ended by a line feed
  abbrev pub check_from : ℕ → ℕ → Lines → Answer
  check_from place count (rest []) = refused 13 place
  check_from place count (rest (b ∷ bs)) = refused 11 place
  check_from place count (line l ls) = check_line (read_line l) place count (place + length l + 1) ls (check_from (place + length l + 1) (count + 1) ls)

  abbrev pub checked : List ℕ → Answer
  checked image = check_from 0 0 (lines_of image)

-- what the data lines hold, in order, up to the end line
abbrev pub data_first : Reading → List Data → List Data
data_first (data_line d) ds = d ∷ ds
data_first (end_line n) ds = []
data_first malformed ds = []

abbrev pub data_of : Lines → List Data
data_of (rest bs) = []
data_of (line l ls) = data_first (read_line l) (data_of ls)

abbrev pub image_data : List ℕ → List Data
image_data image = data_of (lines_of image)
