-- Reading hexadecimal digits undoes writing them, and the other way round.
use Rattle.std.proofs.Common.{◌≡◌, ℕ, zero, suc, ◌+◌, ◌*◌, ◌/◌, ◌%◌, ◌^◌, ◌<◌, Bool, true, false, cond, ◌&&◌, eqb, List, [], ◌∷◌, ◌++◌, length, get_or, take, Some, None, Option, sym, refl, ap, ◌∙◌, pow-suc, arith}
use Rattle.std.specs.Str.Parse.{digits_value as value}
use Rattle.std.specs.Char.{digit_value}
use Rattle.std.proofs.lemmas.Nat.{div_below, div-mul-add, mod-mul-add, mod_below}
use Rattle.std.proofs.lemmas.Int.Digits.{digits_value_push}
use Rattle.std.proofs.lemmas.List.{length_push, take_more, take_all, length-take-le, nil_from_length}
use Rattle.std.proofs.lemmas.Bool.{and_parts, and_from, eqb-true, eq-eqb}
use Rattle.std.proofs.lemmas.Bool.Decides.{nat_tests}
use Rattle.hex_text.specs.Digits.{hex_digit, hex_digits, is_hex_digit, all_hex_digits, hex_number, hex_number_in, Undoes}

digit_back : (d : ℕ) → d < 16 → digit_value (hex_digit d) ≡ d
digit_back d h = grind (arith, nat_tests)

digit_is : (d : ℕ) → d < 16 → is_hex_digit (hex_digit d) ≡ true
digit_is d h = grind (arith, nat_tests)

pub digit_forth : (b : ℕ) → is_hex_digit b ≡ true → (digit_value b < 16) × (hex_digit (digit_value b) ≡ b)
digit_forth b h = (grind (arith, nat_tests), grind (arith, nat_tests))

length-hex_digits : (k n : ℕ) → length (hex_digits k n) ≡ k
length-hex_digits zero n = refl
length-hex_digits (suc k) n = omega (arith, length_push (hex_digits k (n / 16)) (hex_digit (n % 16)), length-hex_digits k (n / 16))

value-hex_digits : (k n : ℕ) → n < 16 ^ k → value 16 (hex_digits k n) ≡ n
value-hex_digits zero n h = omega arith
value-hex_digits (suc k) n h =
    let low : n / 16 < 16 ^ k = div_below n 16 (16 ^ k) (omega arith) (omega (arith, pow-suc 16 k)) in
    digits_value_push 16 (hex_digits k (n / 16)) (hex_digit (n % 16))
    ∙ omega (arith, value-hex_digits k (n / 16) low, digit_back (n % 16) (mod_below n 16 (omega arith)))

all_push : (xs : List ℕ) (b : ℕ) → all_hex_digits (xs ++ b ∷ []) ≡ (all_hex_digits xs && is_hex_digit b)
all_push [] b = grind arith
all_push (x ∷ xs) b = rw (all_push xs b) (grind arith)

all-hex_digits : (k n : ℕ) → all_hex_digits (hex_digits k n) ≡ true
all-hex_digits zero n = refl
all-hex_digits (suc k) n =
    all_push (hex_digits k (n / 16)) (hex_digit (n % 16))
    ∙ and_from _ _ (all-hex_digits k (n / 16)) (digit_is (n % 16) (mod_below n 16 (omega arith)))

last_off : (k : ℕ) (bs : List ℕ) → length bs ≡ suc k → bs ≡ take k bs ++ get_or bs k 0 ∷ []
last_off k bs e =
    let h : k < length bs = omega arith in
    sym (take_all (k + 1) bs (omega arith)) ∙ take_more bs k 0 h

-- the digits of the number that digits write, and the size of that number
digits_value : (k : ℕ) (bs : List ℕ) → length bs ≡ k → all_hex_digits bs ≡ true → (value 16 bs < 16 ^ k) × (hex_digits k (value 16 bs) ≡ bs)
digits_value zero bs e all = rw (nil_from_length bs e) (omega arith, refl)
digits_value (suc k) bs e all =
    let front = take k bs in
    let b = get_or bs k 0 in
    let cut = last_off k bs e in
    let parts = and_parts (all_hex_digits front) (is_hex_digit b) (sym (all_push front b) ∙ ap all_hex_digits (sym cut) ∙ all) in
    let digit = digit_forth b parts.1 in
    let rest = digits_value k front (length-take-le k bs (omega arith)) parts.0 in
    let v : value 16 bs ≡ value 16 front * 16 + digit_value b = ap (value 16) cut ∙ digits_value_push 16 front b in (
      omega (arith, v, pow-suc 16 k, digit.0, rest.0),
      rw v (rw (div-mul-add (value 16 front) 16 (digit_value b) digit.0, mod-mul-add (value 16 front) 16 (digit_value b) digit.0, rest.1, digit.1) (sym cut)),
    )

-- the cases of a conditional answer
pub some_when : (t : Bool) (v n : ℕ) → cond t (Some v) None ≡ Some n → (t ≡ true) × (v ≡ n)
some_when true v n e = (refl, cc)
some_when false v n e = absurd (let z : ◌≡◌ {A = ℕ} 0 1 = cc in omega arith)

read_digits : (k : ℕ) (bs : List ℕ) (sized : Bool) → eqb (length bs) k ≡ sized → (n : ℕ) → cond sized (hex_number bs) None ≡ Some n → (n < 16 ^ k) × (bs ≡ hex_digits k n)
read_digits k bs true s n e =
    let is = some_when (all_hex_digits bs) (value 16 bs) n e in
    let told = digits_value k bs (eqb-true (length bs) k s) is.0 in
    (rw is.1 at told.0, rw is.1 at (sym told.1))
read_digits k bs false s n e = absurd (let z : ◌≡◌ {A = ℕ} 0 1 = cc in omega arith)

pub number_of_digits : (k n : ℕ) → n < 16 ^ k → hex_number_in k (hex_digits k n) ≡ Some n
number_of_digits k n h =
    rw (eq-eqb (length (hex_digits k n)) k (length-hex_digits k n), all-hex_digits k n, value-hex_digits k n h) refl

pub undoes : (k : ℕ) (bs : List ℕ) (r : Option ℕ) → r ≡ hex_number_in k bs → Undoes k bs r
undoes k bs r is = record {
  read = λ n e. read_digits k bs (eqb (length bs) k) refl n (sym is ∙ e);
  written = λ n h e. is ∙ ap (hex_number_in k) e ∙ number_of_digits k n h;
}
