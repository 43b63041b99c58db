-- Two field values with one number are one value: there is one proof at most that a number is below a bound.
use Rattle.std.proofs.Common.{◌≡◌, ℕ, suc, ◌<◌}
use mathlib.Core.HLevel.{is_prop→PathP}
use native.Mathlib.Bridge.{le_prop}

-- of any type that is a number and the proof that it is below a bound
pub one_value : {X : Type 0} {bound : ℕ} (make : (n : ℕ) → n < bound → X) {m n : ℕ} → m ≡ n → (x : m < bound) (y : n < bound) → make m x ≡ make n y
one_value {X} {bound} make p x y = λ i. make (p i) (is_prop→PathP (λ i. p i < bound) (λ i. le_prop {n = suc (p i)} {m = bound}) x y i)
