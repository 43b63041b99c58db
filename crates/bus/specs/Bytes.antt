-- Big-endian numbers: the bytes of a number, most significant first, and the number of some bytes.
use Rattle.std.specs.Prelude.{ℕ, ◌+◌, ◌*◌, ◌/◌, ◌%◌, ◌^◌, List, [], ◌∷◌, length}
use Rattle.bus.specs.declared.size.Size.{Size}
use Rattle.bus.specs.declared.size.Size.TheVariants.{Byte, Half, Word}

-- how many bytes an access moves
abbrev pub width : Size → ℕ
width Byte = 1
width Half = 2
width Word = 4

abbrev pub number : List ℕ → ℕ
number [] = 0
number (b ∷ bs) = b * 256 ^ length bs + number bs

abbrev pub word_bytes : ℕ → List ℕ
word_bytes w = w / 2 ^ 24 % 256 ∷ w / 2 ^ 16 % 256 ∷ w / 2 ^ 8 % 256 ∷ w % 256 ∷ []

-- the low bytes of a number, as many as an access of this size moves
abbrev pub low_bytes : Size → ℕ → List ℕ
low_bytes Byte v = v % 256 ∷ []
low_bytes Half v = v / 2 ^ 8 % 256 ∷ v % 256 ∷ []
low_bytes Word v = word_bytes v
