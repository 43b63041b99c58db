-- What it means that a text is the decimal numeral of a number.
use Rattle.std.specs.Prelude.{◌≡◌, ℕ, List, length, slice_index_or}
use Rattle.std.specs.Str.Parse.{IsNumeral, digits_value}

-- bs is one decimal digit or more, which read as n, and the first is a zero only where it stands alone
pub record WritesDecimal (n : ℕ) (bs : List ℕ) : Type 0 where
  pub digits : IsNumeral 10 bs
  pub reads : digits_value 10 bs ≡ n
  pub shortest : slice_index_or bs 0 0 ≡ 48 → length bs ≡ 1
