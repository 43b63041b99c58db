-- The bits that a form leaves unused are clear exactly where each row of them is zero.
use Rattle.std.proofs.Common.{◌≡◌, ℕ, true, eqb, List, [], ◌∷◌, refl}
use Rattle.std.proofs.lemmas.Bool.{eq-eqb, eqb-true, and_parts, and_from}
use Rattle.isa.specs.Words.{field}
use Rattle.isa.specs.Unused.{clear}

abbrev pub Zeros : List (ℕ × ℕ) → ℕ → Type 0
Zeros [] w = Unit {0}
Zeros (row ∷ rows) w = (field row.0 row.1 w ≡ 0) × Zeros rows w

pub zeros : (rows : List (ℕ × ℕ)) (w : ℕ) → clear rows w ≡ true → Zeros rows w
zeros [] w e = tt
zeros (row ∷ rows) w e =
    let p = and_parts (eqb (field row.0 row.1 w) 0) (clear rows w) e in
    (eqb-true (field row.0 row.1 w) 0 p.0, zeros rows w p.1)

pub cleared : (rows : List (ℕ × ℕ)) (w : ℕ) → Zeros rows w → clear rows w ≡ true
cleared [] w z = refl
cleared (row ∷ rows) w z = and_from (eqb (field row.0 row.1 w) 0) (clear rows w) (eq-eqb (field row.0 row.1 w) 0 z.0) (cleared rows w z.1)
