-- Pairs of digits, read one after the other.
use Rattle.std.proofs.Common.{◌≡◌, ℕ, ◌+◌, ◌*◌, ◌<◌, ◌≤◌, Bool, true, false, cond, ◌&&◌, leb, List, [], ◌∷◌, ◌++◌, length, get_or, drop, Some, None, Option, sym, refl, ap, ◌∙◌, arith}
use Rattle.std.proofs.lemmas.List.{append-nil, append_assoc, drop_more, drop_all}
use Rattle.std.proofs.lemmas.Bool.{and_parts, and_from, leb-true, le-leb}
use Rattle.hex_text.specs.Digits.{hex_number}
use Rattle.image.specs.Reading.{before, bytes_of, one_to32, payload}

-- bytes in front of those that are yet to be read
abbrev pub after : List ℕ → Option (List ℕ) → Option (List ℕ)
after xs None = None
after xs (Some ys) = Some (xs ++ ys)

pub after_none : (o : Option (List ℕ)) → o ≡ after [] o
after_none None = refl
after_none (Some ys) = refl

after_before : (xs : List ℕ) (b : ℕ) (o : Option (List ℕ)) → after xs (before (Some b) o) ≡ after (xs ++ b ∷ []) o
after_before xs b None = refl
after_before xs b (Some ys) = ap Some (sym (append_assoc xs (b ∷ []) ys))

-- the digits from a place on: two of them, and those from the next pair on
two_off : (ds : List ℕ) (k : ℕ) → 2 * k + 1 < length ds → drop (2 * k) ds ≡ get_or ds (2 * k) 0 ∷ get_or ds (2 * k + 1) 0 ∷ drop (2 * (k + 1)) ds
two_off ds k h =
    let e : 2 * k + 1 + 1 ≡ 2 * (k + 1) = omega arith in
    drop_more ds (2 * k) 0 (omega arith) ∙ ap (λ ys. get_or ds (2 * k) 0 ∷ ys) (drop_more ds (2 * k + 1) 0 h ∙ ap (λ n. get_or ds (2 * k + 1) 0 ∷ drop n ds) e)

module _ (ds : List ℕ) (k : ℕ) (xs : List ℕ) (h : 2 * k + 1 < length ds) (sofar : after xs (bytes_of (drop (2 * k) ds)) ≡ bytes_of ds) where
  pub pair_more : (b : ℕ) → Some b ≡ hex_number (get_or ds (2 * k) 0 ∷ get_or ds (2 * k + 1) 0 ∷ []) → after (xs ++ b ∷ []) (bytes_of (drop (2 * (k + 1)) ds)) ≡ bytes_of ds
  pair_more b is =
      let more = bytes_of (drop (2 * (k + 1)) ds) in
      sym (after_before xs b more) ∙ ap (λ o. after xs (before o more)) is ∙ ap (λ ys. after xs (bytes_of ys)) (sym (two_off ds k h)) ∙ sofar

  pub pair_none : None ≡ hex_number (get_or ds (2 * k) 0 ∷ get_or ds (2 * k + 1) 0 ∷ []) → None ≡ bytes_of ds
  pair_none is =
      let more = bytes_of (drop (2 * (k + 1)) ds) in
      ap (λ o. after xs (before o more)) is ∙ ap (λ ys. after xs (bytes_of ys)) (sym (two_off ds k h)) ∙ sofar

-- each byte takes two digits
length_before : (o : Option ℕ) (p : Option (List ℕ)) (n : ℕ) → ((bs : List ℕ) → p ≡ Some bs → n ≡ 2 * length bs) → (bs : List ℕ) → before o p ≡ Some bs → n + 2 ≡ 2 * length bs
length_before None p n rest bs e = absurd (let z : ◌≡◌ {A = ℕ} 0 1 = cc in omega arith)
length_before (Some b) None n rest bs e = absurd (let z : ◌≡◌ {A = ℕ} 0 1 = cc in omega arith)
length_before (Some b) (Some cs) n rest bs e =
    let is : bs ≡ b ∷ cs = cc in
    omega (arith, rest cs refl, ap length is)

pub length-bytes_of : (ds bs : List ℕ) → bytes_of ds ≡ Some bs → length ds ≡ 2 * length bs
length-bytes_of [] bs e = let is : bs ≡ [] = cc in omega (arith, ap length is)
length-bytes_of (h ∷ []) bs e = absurd (let z : ◌≡◌ {A = ℕ} 0 1 = cc in omega arith)
length-bytes_of (h ∷ l ∷ ds) bs e = omega (arith, length_before (hex_number (h ∷ l ∷ [])) (bytes_of ds) (length ds) (length-bytes_of ds) bs e)

few_none : (o : Option (List ℕ)) → ((bs : List ℕ) → o ≡ Some bs → 1 ≤ length bs → length bs ≤ 32 → ⊥) → one_to32 o ≡ None
few_none None out = refl
few_none (Some bs) out = by (leb 1 (length bs) && leb (length bs) 32) refl
  where
    by : (t : Bool) → (leb 1 (length bs) && leb (length bs) 32) ≡ t → cond t (Some bs) None ≡ None
    by true e =
        let parts = and_parts (leb 1 (length bs)) (leb (length bs) 32) e in
        absurd (out bs refl (leb-true 1 (length bs) parts.0) (leb-true (length bs) 32 parts.1))
    by false e = refl

-- an odd count of digits, none, or more than 64
pub payload_none : (ds : List ℕ) → ((n : ℕ) → length ds ≡ 2 * n → 1 ≤ n → n ≤ 32 → ⊥) → payload ds ≡ None
payload_none ds out = few_none (bytes_of ds) (λ bs e. out (length bs) (length-bytes_of ds bs e))

pub payload_all : (ds bs : List ℕ) → bytes_of ds ≡ Some bs → 1 ≤ length bs → length bs ≤ 32 → payload ds ≡ Some bs
payload_all ds bs e low high =
    ap one_to32 e ∙ ap (λ t. cond t (Some bs) None) (and_from (leb 1 (length bs)) (leb (length bs) 32) (le-leb 1 (length bs) low) (le-leb (length bs) 32 high))

pub pairs_all : (ds : List ℕ) (k : ℕ) (xs : List ℕ) → length ds ≤ 2 * k → after xs (bytes_of (drop (2 * k) ds)) ≡ bytes_of ds → bytes_of ds ≡ Some xs
pairs_all ds k xs h sofar =
    sym sofar ∙ ap (λ ys. after xs (bytes_of ys)) (drop_all (2 * k) ds h) ∙ ap Some (append-nil xs)
