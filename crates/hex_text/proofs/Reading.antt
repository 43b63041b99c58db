-- Reading digits one by one, from the left.
use Rattle.std.proofs.Common.{◌≡◌, ℕ, suc, ◌+◌, ◌*◌, ◌^◌, ◌<◌, ◌≤◌, Bool, true, false, cond, List, ◌∷◌, Some, None, Option, sym, refl, ap, pow-suc, arith}
use native.Mathlib.Nat.{pow-le-pow_right}
use Rattle.std.specs.Str.Parse.{digits_value_after}
use Rattle.hex_text.specs.Digits.{is_hex_digit, hex_digit_value, all_hex_digits}
use Rattle.hex_text.proofs.Inverse.{some_when, digit_forth}

-- the number that bytes write after the digits of n
abbrev pub hex_after : ℕ → List ℕ → Option ℕ
hex_after n bs = cond (all_hex_digits bs) (Some (digits_value_after 16 n bs)) None

pub after_digit : (n b : ℕ) (bs : List ℕ) (d : ℕ) → Some d ≡ hex_digit_value b → hex_after n (b ∷ bs) ≡ hex_after (16 * n + d) bs
after_digit n b bs d e =
    let is = some_when (is_hex_digit b) _ d (sym e) in
    let sum : n * 16 + _ ≡ 16 * n + d = omega (arith, is.1) in
    rw is.0 (ap (λ v. hex_after v bs) sum)

pub digit_below : (b d : ℕ) → Some d ≡ hex_digit_value b → d < 16
digit_below b d e =
    let is = some_when (is_hex_digit b) _ d (sym e) in
    rw is.1 at (digit_forth b is.0).0

none_when : (t : Bool) (v : ℕ) → cond t (Some v) None ≡ None → t ≡ false
none_when true v e = absurd (let z : ◌≡◌ {A = ℕ} 0 1 = cc in omega arith)
none_when false v e = refl

pub after_none : (n b : ℕ) (bs : List ℕ) → None ≡ hex_digit_value b → hex_after n (b ∷ bs) ≡ None
after_none n b bs e = rw (none_when (is_hex_digit b) _ (sym e)) refl

-- a number of fewer than eight digits has room for one more
pub room : (i n : ℕ) → i < 8 → n < 16 ^ i → n < 2 ^ 28
room i n h l =
    let few : i ≤ 7 = omega arith in
    let some : 0 < 16 = omega arith in
    omega (arith, pow-le-pow_right some few)

pub one_more : (i n d : ℕ) → n < 16 ^ i → d < 16 → 16 * n + d < 16 ^ (i + 1)
one_more i n d h l = omega (arith, pow-suc 16 i, ap (λ (j : ℕ). 16 ^ j) (let e : i + 1 ≡ suc i = omega arith in e))
