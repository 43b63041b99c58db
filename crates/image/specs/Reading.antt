-- What a line is: a data line, an end line, or neither.
use Rattle.std.specs.Prelude.{ℕ, Bool, cond, ◌&&◌, List, [], ◌∷◌, length, take, drop, Some, None, Option, ◌==◌, nat_le, nat_lt, slice_index}
use Rattle.hex_text.specs.Digits.{hex_number, hex_number_in}
use Rattle.image.specs.Format.{Data}

-- a line without its line feed
pub data Reading : Type 0 where
  data_line : Data → Reading
  end_line : ℕ → Reading
  malformed : Reading

-- whether a line has a byte at a place
abbrev pub has : List ℕ → ℕ → ℕ → Bool
has l place byte = nat_lt place (length l) && slice_index l place == byte

-- one byte more in front, where both are known
abbrev pub before : Option ℕ → Option (List ℕ) → Option (List ℕ)
before None bs = None
before (Some b) None = None
before (Some b) (Some bs) = Some (b ∷ bs)

-- the bytes that pairs of digits write
abbrev pub bytes_of : List ℕ → Option (List ℕ)
bytes_of [] = Some []
bytes_of (h ∷ []) = None
bytes_of (h ∷ l ∷ ds) = before (hex_number (h ∷ l ∷ [])) (bytes_of ds)

-- 1 to 32 bytes
abbrev pub one_to32 : Option (List ℕ) → Option (List ℕ)
one_to32 None = None
one_to32 (Some bs) = cond (nat_le 1 (length bs) && nat_le (length bs) 32) (Some bs) None

abbrev pub payload : List ℕ → Option (List ℕ)
payload ds = one_to32 (bytes_of ds)

-- a line that begins with M (byte 77) and a comma (44), and has another comma after eight bytes
abbrev pub starts_data : List ℕ → Bool
starts_data l = has l 0 77 && (has l 1 44 && has l 10 44)

abbrev pub data_from : Option ℕ → Option (List ℕ) → Option Data
data_from None bs = None
data_from (Some a) None = None
data_from (Some a) (Some bs) = Some (record { address = a; bytes = bs })

abbrev pub read_data : List ℕ → Option Data
read_data l = cond (starts_data l) (data_from (hex_number_in 8 (take 8 (drop 2 l))) (payload (drop 11 l))) None

-- a line that begins with E (byte 69) and a comma
abbrev pub starts_end : List ℕ → Bool
starts_end l = has l 0 69 && has l 1 44

abbrev pub read_end : List ℕ → Option ℕ
read_end l = cond (starts_end l) (hex_number_in 8 (drop 2 l)) None

abbrev pub first_of : Option Data → Option ℕ → Reading
first_of (Some d) n = data_line d
first_of None (Some n) = end_line n
first_of None None = malformed

abbrev pub read_line : List ℕ → Reading
read_line l = first_of (read_data l) (read_end l)
