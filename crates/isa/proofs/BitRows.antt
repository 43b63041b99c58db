-- A row of bits is zero exactly where no bit of it is set.
use Rattle.std.proofs.Common.{◌≡◌, ℕ, zero, suc, ◌+◌, ◌-◌, ◌*◌, ◌/◌, ◌%◌, ◌^◌, ◌<◌, ◌≤◌, ◌≢◌, sym, ap, ◌∙◌, subst, ⊎_elim, arith}
use Rattle.std.specs.Int.{bit_at}
use Rattle.std.proofs.lemmas.Nat.{mod-pow-add, shr_split, shr-shr}
use Rattle.std.proofs.lemmas.Nat.Bits.{bit_at_cat_low, bit_at-zero}
use Rattle.std.proofs.lemmas.Bool.{cases_eq}
use Rattle.isa.specs.ReservedWords.{IsSet}

halved : (y n : ℕ) → y % 2 ^ suc n ≡ y / 2 ^ n % 2 * 2 ^ n + y % 2 ^ n
halved y n = let e : suc n ≡ 1 + n = omega arith in rw e (mod-pow-add y 1 n)

both_zero : (a p b : ℕ) → a ≡ 0 → b ≡ 0 → a * p + b ≡ 0
both_zero a p b z q = rw (z, q) (omega arith)

-- a row of n bits from low on that is not zero has a bit that is set
pub set_bit : (n low w : ℕ) → w / 2 ^ low % 2 ^ n ≢ 0 → (k : ℕ) × (low ≤ k) × (k < low + n) × IsSet k w
set_bit zero low w h = absurd (omega arith)
set_bit (suc n) low w h =
    ⊎_elim
    (λ top. (low + n, omega arith, omega arith, ap (λ (x : ℕ). x % 2) (sym (shr-shr w low n)) ∙ top))
    (λ (clear : w / 2 ^ low / 2 ^ n % 2 ≢ 1).
    let z : w / 2 ^ low / 2 ^ n % 2 ≡ 0 = omega arith in
    let r : w / 2 ^ low % 2 ^ n ≢ 0 = λ q. h (halved (w / 2 ^ low) n ∙ both_zero (w / 2 ^ low / 2 ^ n % 2) (2 ^ n) (w / 2 ^ low % 2 ^ n) z q) in
    let s = set_bit n low w r in
    (s.0, s.1, omega arith, s.3))
    (cases_eq (w / 2 ^ low / 2 ^ n % 2) 1)

-- in a row that is zero no bit is set
pub no_bit : (n low k w : ℕ) → w / 2 ^ low % 2 ^ n ≡ 0 → low ≤ k → k < low + n → w / 2 ^ k % 2 ≡ 0
no_bit n low k w e p q =
    let x = w / 2 ^ low in
    let i = k - low in
    let above : x / 2 ^ n * 2 ^ n + 0 ≡ x = subst (λ (r : ℕ). x / 2 ^ n * 2 ^ n + r ≡ x) e (shr_split x n) in
    let zero_there = bit_at_cat_low (x / 2 ^ n) n 0 i (omega arith) ∙ bit_at-zero i in
    let clear : w / 2 ^ (low + i) % 2 ≡ 0 = ap (λ (y : ℕ). y % 2) (sym (shr-shr w low i)) ∙ subst (λ (y : ℕ). bit_at y i ≡ 0) above zero_there in
    let place : low + i ≡ k = omega arith in
    subst (λ (t : ℕ). w / 2 ^ t % 2 ≡ 0) place clear
