-- The bits that each form leaves unused, in rows from a high bit to a low one.
use Rattle.std.specs.Prelude.{ℕ, Bool, true, ◌&&◌, List, [], ◌∷◌, ◌==◌}
use Rattle.isa.specs.declared.operation.Operation.{Operation}
use Rattle.isa.specs.Words.{field}

abbrev pub unused : Operation → List (ℕ × ℕ)
unused (Operation.Immediate op) = []
unused (Operation.ShiftImmediate op) = (15, 5) ∷ []
unused (Operation.Load op) = []
unused (Operation.Store op) = []
unused (Operation.Branch op) = []
unused (Operation.Register op) = (10, 0) ∷ []
unused (Operation.Extend op) = (20, 16) ∷ (10, 0) ∷ []
unused (Operation.Jump op) = (20, 0) ∷ []
unused (Operation.JumpOffset op) = []
unused Operation.ReadCsr = (20, 16) ∷ (10, 0) ∷ []
unused Operation.WriteCsr = (15, 0) ∷ []
unused Operation.Raise = (25, 5) ∷ []

-- all bits of these rows are zero in a word
abbrev pub clear : List (ℕ × ℕ) → ℕ → Bool
clear [] w = true
clear (row ∷ rows) w = field row.0 row.1 w == 0 && clear rows w
