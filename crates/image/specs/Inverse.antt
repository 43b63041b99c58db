-- Reading a line is the inverse of writing it.
use Rattle.std.specs.Prelude.{◌≡◌, ℕ, ◌^◌, ◌<◌, List}
use Rattle.image.specs.Format.{Data, Sound, data_text, end_text}
use Rattle.image.specs.Reading.{Reading, data_line, end_line}

-- r is a data line or an end line just where l is its text; so where l is neither's text, r is malformed
pub record Undoes (l : List ℕ) (r : Reading) : Type 0 where
  pub data_read : (d : Data) → r ≡ data_line d → Sound d × (l ≡ data_text d)
  pub data_written : (d : Data) → Sound d → l ≡ data_text d → r ≡ data_line d
  pub end_read : (n : ℕ) → r ≡ end_line n → (n < 2 ^ 32) × (l ≡ end_text n)
  pub end_written : (n : ℕ) → n < 2 ^ 32 → l ≡ end_text n → r ≡ end_line n
