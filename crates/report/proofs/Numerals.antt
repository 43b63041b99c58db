-- What is written of a number is its decimal numeral.
use Rattle.std.proofs.Common.{◌≡◌, ℕ, ◌^◌, ◌<◌, List, length, get_or, decimal, sym, ap, subst, ⊎_elim, arith}
use Rattle.std.proofs.lemmas.Fmt.{decimal_is_IsNumeral, decimal_digit, first_decimal}
use Rattle.std.proofs.lemmas.Bool.{cases_lt}
use Rattle.report.specs.Numeral.{WritesDecimal}

shortest : (n : ℕ) → n < 2 ^ 64 → get_or (decimal n) 0 0 ≡ 48 → length (decimal n) ≡ 1
shortest n fits zero =
    ⊎_elim
    (λ (h : 0 < n). absurd (omega (arith, first_decimal n h fits)))
    (λ h. ap length (decimal_digit n (omega arith)))
    (cases_lt 0 n)

pub writes : (n : ℕ) (bs : List ℕ) → n < 2 ^ 64 → bs ≡ decimal n → WritesDecimal n bs
writes n bs fits e =
    let told = decimal_is_IsNumeral n fits in
    subst (WritesDecimal n) (sym e) (record { digits = told.0; reads = told.1; shortest = shortest n fits })
