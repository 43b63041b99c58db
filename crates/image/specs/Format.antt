-- The text of an image: data lines, then an end line that counts them, each ended by a line feed.
use Rattle.std.specs.Prelude.{ℕ, ◌^◌, ◌<◌, ◌≤◌, List, ◌++◌, length, codes}
use Rattle.std.specs.List.{flat_map, AllByRecursion}
use Rattle.hex_text.specs.Digits.{hex_digits}

-- what a data line holds: bytes for memory, from an address on
pub record Data : Type 0 where
  pub address : ℕ
  pub bytes : List ℕ

-- an address of 32 bits, and 1 to 32 bytes
pub record Sound (d : Data) : Type 0 where
  pub address : d.address < 2 ^ 32
  pub some : 1 ≤ length d.bytes
  pub few : length d.bytes ≤ 32
  pub bytes : AllByRecursion (λ b. b < 256) d.bytes

-- the text of a data line: M, the address in eight digits, and each byte in two
abbrev pub data_text : Data → List ℕ
data_text d = codes "M," ++ (hex_digits 8 d.address ++ (codes "," ++ flat_map (hex_digits 2) d.bytes))

-- the text of an end line: E and the count in eight digits
abbrev pub end_text : ℕ → List ℕ
end_text count = codes "E," ++ hex_digits 8 count

abbrev pub image_text : List Data → List ℕ
image_text ds = flat_map (λ d. data_text d ++ codes "\n") ds ++ (end_text (length ds) ++ codes "\n")
