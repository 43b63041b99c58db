-- What `{:08X}` prints: the digits, after as many zeros as fill them up to eight.
use Rattle.std.proofs.Common.{◌≡◌, ℕ, zero, suc, ◌+◌, ◌-◌, ◌/◌, ◌%◌, ◌^◌, ◌<◌, ◌≤◌, Bool, true, false, cond, eqb, List, [], ◌∷◌, ◌++◌, length, replicate, Some, refl, sym, ap, ◌∙◌, pow-suc, arith}
use Rattle.std.specs.Fmt.{char_count, digits_onto, digits, format_spec, padded_integral}
use Rattle.std.proofs.lemmas.Nat.{div_below}
use Rattle.std.proofs.lemmas.List.{append-nil, append_assoc, replicate_more}
use Rattle.std.proofs.lemmas.Bool.{eqb-true, eqb-false}
use Rattle.hex_text.specs.Digits.{hex_digit, hex_digits, hex_number_in}
use Rattle.hex_text.proofs.Inverse.{number_of_digits}

zeros : (k : ℕ) → hex_digits k 0 ≡ replicate k 48
zeros zero = refl
zeros (suc k) =
    let next : k + 1 ≡ suc k = omega arith in
    ap (λ xs. xs ++ 48 ∷ []) (zeros k) ∙ replicate_more k 48 ∙ ap (λ m. replicate m 48) next

some_left : (k n : ℕ) → n < 16 ^ k → (n ≡ 0 → ⊥) → 0 < k
some_left zero n h ne = absurd (ne (omega arith))
some_left (suc k) n h ne = omega arith

onto : (k f n : ℕ) (acc : List ℕ) → 0 < k → k ≤ f → n < 16 ^ k → (z : ℕ) × (z + length (digits_onto f 16 true n acc) ≡ k + length acc) × (hex_digits k n ++ acc ≡ replicate z 48 ++ digits_onto f 16 true n acc)
onto zero f n acc some fits small = absurd (omega arith)
onto (suc k) zero n acc some fits small = absurd (omega arith)
onto (suc k) (suc f) n acc some fits small = by (eqb (n / 16) 0) refl (onto k f (n / 16) (hex_digit (n % 16) ∷ acc))
  where
    by : (t : Bool) → eqb (n / 16) 0 ≡ t → (0 < k → k ≤ f → n / 16 < 16 ^ k → (z : ℕ) × (z + length (digits_onto f 16 true (n / 16) (hex_digit (n % 16) ∷ acc)) ≡ k + length (hex_digit (n % 16) ∷ acc)) × (hex_digits k (n / 16) ++ hex_digit (n % 16) ∷ acc ≡ replicate z 48 ++ digits_onto f 16 true (n / 16) (hex_digit (n % 16) ∷ acc))) → (z : ℕ) × (z + length (cond t (hex_digit (n % 16) ∷ acc) (digits_onto f 16 true (n / 16) (hex_digit (n % 16) ∷ acc))) ≡ suc k + length acc) × ((hex_digits k (n / 16) ++ hex_digit (n % 16) ∷ []) ++ acc ≡ replicate z 48 ++ cond t (hex_digit (n % 16) ∷ acc) (digits_onto f 16 true (n / 16) (hex_digit (n % 16) ∷ acc)))
    by true e more = (
      k,
      omega arith,
      ap (λ m. (hex_digits k m ++ hex_digit (n % 16) ∷ []) ++ acc) (eqb-true (n / 16) 0 e) ∙ ap (λ xs. (xs ++ hex_digit (n % 16) ∷ []) ++ acc) (zeros k)
          ∙ append_assoc (replicate k 48) (hex_digit (n % 16) ∷ []) acc,
    )
    by false e more =
        let low : n / 16 < 16 ^ k = div_below n 16 (16 ^ k) (omega arith) (omega (arith, pow-suc 16 k)) in
        let rest = more (some_left k (n / 16) low (eqb-false (n / 16) 0 e)) (omega arith) low in
        (rest.0, omega (arith, rest.1), append_assoc (hex_digits k (n / 16)) (hex_digit (n % 16) ∷ []) acc ∙ rest.2)

padded : (ds : List ℕ) (z : ℕ) → z + length ds ≡ 8 → replicate z 48 ++ ds ≡ padded_integral (format_spec 32 0 4 8 (2 ^ 64 - 1)) false [] ds
unfolding padded_integral char_count
padded ds z e =
    let none : char_count [] ≡ 0 = refl in
    let m : z ≡ 8 - length ds - 0 - char_count [] = omega (arith, none) in
    ap (λ k. replicate k 48 ++ ds) m ∙ ap (λ xs. replicate (8 - length ds - 0 - char_count []) 48 ++ xs) (sym (append-nil ds))

pub eight_printed : (n : ℕ) → n < 2 ^ 32 → padded_integral (format_spec 32 0 4 8 (2 ^ 64 - 1)) false [] (digits 16 true n) ≡ hex_digits 8 n
unfolding digits
eight_printed n h =
    let p = onto 8 64 n [] (omega arith) (omega arith) (omega arith) in
    sym (sym (append-nil (hex_digits 8 n)) ∙ p.2 ∙ padded (digits_onto 64 16 true n []) p.0 (omega (arith, p.1)))

pub eight_read : (n : ℕ) → n < 2 ^ 32 → hex_number_in 8 (padded_integral (format_spec 32 0 4 8 (2 ^ 64 - 1)) false [] (digits 16 true n)) ≡ Some n
eight_read n h = ap (hex_number_in 8) (eight_printed n h) ∙ number_of_digits 8 n (omega arith)
