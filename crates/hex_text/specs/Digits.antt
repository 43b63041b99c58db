-- Upper-case hexadecimal: the digits that write a number, and the number that digits write.
use Rattle.std.specs.Prelude.{◌≡◌, ℕ, zero, suc, ◌+◌, ◌/◌, ◌%◌, ◌^◌, ◌<◌, Bool, cond, ◌&&◌, ◌||◌, List, [], ◌∷◌, ◌++◌, length, Some, None, Option, ◌==◌, nat_le, nat_lt}
use Rattle.std.specs.List.{list_all}
use Rattle.std.specs.Str.Parse.{digits_value}
use Rattle.std.specs.Char.{digit_value}

-- the byte that writes a digit below 16: 0 to 9, then A to F
abbrev pub hex_digit : ℕ → ℕ
hex_digit d = cond (nat_lt d 10) (48 + d) (55 + d)

-- the last k digits of n, the most significant first
abbrev pub hex_digits : ℕ → ℕ → List ℕ
hex_digits zero n = []
hex_digits (suc k) n = hex_digits k (n / 16) ++ hex_digit (n % 16) ∷ []

-- whether a byte is one of 0 to 9 and A to F
abbrev pub is_hex_digit : ℕ → Bool
is_hex_digit b = (nat_le 48 b && nat_le b 57) || (nat_le 65 b && nat_le b 70)

-- what a byte stands for as a digit
abbrev pub hex_digit_value : ℕ → Option ℕ
hex_digit_value b = cond (is_hex_digit b) (Some (digit_value b)) None

abbrev pub all_hex_digits : List ℕ → Bool
all_hex_digits bs = list_all is_hex_digit bs

-- the number that bytes write in base 16, where each of them is a digit
abbrev pub hex_number : List ℕ → Option ℕ
hex_number bs = cond (all_hex_digits bs) (Some (digits_value 16 bs)) None

-- the number that exactly k digits write
abbrev pub hex_number_in : ℕ → List ℕ → Option ℕ
hex_number_in k bs = cond (length bs == k) (hex_number bs) None

-- r is what reading k digits from bs gives: n just where bs writes n, and none where bs writes no number
pub record Undoes (k : ℕ) (bs : List ℕ) (r : Option ℕ) : Type 0 where
  pub read : (n : ℕ) → r ≡ Some n → (n < 16 ^ k) × (bs ≡ hex_digits k n)
  pub written : (n : ℕ) → n < 16 ^ k → bs ≡ hex_digits k n → r ≡ Some n
