-- A shift left and an arithmetic shift right by as many places fill the places above with the sign bit.
use Rattle.std.proofs.Common.{◌≡◌, ℕ, suc, ◌+◌, ◌-◌, ◌*◌, ◌/◌, ◌%◌, ◌^◌, ◌<◌, ◌≤◌, negsuc, w32, to_z, of_z, ap, sym, ◌∙◌, subst, ⊎_elim, arith}
use Rattle.std.proofs.lemmas.Nat.{pow_pos, pow-add, mod-pow-add, shl-shr, shl_below, shr_high, mod_low, mul-le}
use Rattle.std.proofs.Math.Nat.{add-mul, pow-le-pow_right}
use Rattle.std.proofs.lemmas.Int.{to_z_pos}
use Rattle.std.proofs.lemmas.Bool.{cases_lt}
use Rattle.std.proofs.lemmas.Bool.Decides.{nat_tests}
use Rattle.std.specs.Int.Signed.{shr_z}
use Rattle.alu.specs.Extend.{sign_extended}

-- the bits above the width are shifted out
pub shifted_out : (w p n : ℕ) → w + p ≡ 32 → n * 2 ^ p % 2 ^ 32 ≡ n % 2 ^ w * 2 ^ p
shifted_out w p n whole =
    let cut = mod-pow-add (n * 2 ^ p) w p in
    let e : n * 2 ^ p % 2 ^ (w + p) ≡ n % 2 ^ w * 2 ^ p = grind (arith, cut, shl-shr n p, mod_low n p 0 (pow_pos p)) in
    subst (λ (k : ℕ). n * 2 ^ p % 2 ^ k ≡ n % 2 ^ w * 2 ^ p) whole e

-- the numbers below zero, as one's complement counts them
rest : (r v p m : ℕ) → r + (v + 1) ≡ m → 2 ^ 32 ≡ m * 2 ^ p → (2 ^ 32 - suc (v * 2 ^ p)) / 2 ^ p ≡ r
rest r v p m e all =
    let parts : 2 ^ 32 ≡ r * 2 ^ p + (v * 2 ^ p + 1 * 2 ^ p) = all ∙ ap (λ (n : ℕ). n * 2 ^ p) (sym e) ∙ add-mul r (v + 1) (2 ^ p) ∙ ap (λ (n : ℕ). r * 2 ^ p + n) (add-mul v 1 (2 ^ p)) in
    let q : 2 ^ 32 - suc (v * 2 ^ p) ≡ r * 2 ^ p + (2 ^ p - 1) = omega (arith, pow_pos p) in
    rw q (shr_high r p (2 ^ p - 1) (omega (arith, pow_pos p)))

-- what is shifted in from above is the sign bit
pub filled : (w p v : ℕ) → 0 < w → w + p ≡ 32 → v < 2 ^ w → of_z w32 (shr_z (to_z w32 (v * 2 ^ p)) (2 ^ p)) ≡ sign_extended w v
filled w p v some whole small =
    ⊎_elim
    (λ (low : v < 2 ^ (w - 1)).
    let places : w - 1 + p ≡ 31 = omega arith in
    let below : v * 2 ^ p < 2 ^ 31 = subst (λ (n : ℕ). v * 2 ^ p < 2 ^ n) places (shl_below v (w - 1) p low) in
    rw (to_z_pos w32 (v * 2 ^ p) below) (grind (arith, nat_tests, shl-shr v p)))
    (λ (high : 2 ^ (w - 1) ≤ v).
    let places : w - 1 + p ≡ 31 = omega arith in
    let half : 2 ^ 31 ≡ 2 ^ (w - 1) * 2 ^ p = subst (λ (n : ℕ). 2 ^ n ≡ 2 ^ (w - 1) * 2 ^ p) places (pow-add 2 (w - 1) p) in
    let above : 2 ^ 31 ≤ v * 2 ^ p = omega (arith, half, mul-le (2 ^ (w - 1)) (2 ^ p) v (2 ^ p) high (omega arith)) in
    let e : to_z w32 (v * 2 ^ p) ≡ negsuc (2 ^ 32 - suc (v * 2 ^ p)) = grind (arith, nat_tests) in
    let all : 2 ^ 32 ≡ 2 ^ w * 2 ^ p = subst (λ (n : ℕ). 2 ^ n ≡ 2 ^ w * 2 ^ p) whole (pow-add 2 w p) in
    let k : (2 ^ 32 - suc (v * 2 ^ p)) / 2 ^ p ≡ 2 ^ w - suc v = rest (2 ^ w - suc v) v p (2 ^ w) (omega arith) all in
    let within : 2 ^ w ≤ 2 ^ 32 = pow-le-pow_right {n = 2} (omega arith) {i = w} {j = 32} (omega arith) in
    rw (e, k) (grind (arith, nat_tests)))
    (cases_lt v (2 ^ (w - 1)))
