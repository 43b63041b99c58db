-- Which words are reserved, said of their bits.
use Rattle.std.specs.Prelude.{◌≡◌, ℕ, ◌/◌, ◌%◌, ◌^◌, ◌≤◌, ◌≢◌, ◌⊎◌, List, [], ◌∷◌, Some}
use Rattle.isa.specs.declared.operation.Operation.{Operation}
use Rattle.isa.specs.Unused.{unused}
use Rattle.isa.specs.Opcodes.{named}
use Rattle.isa.specs.Words.{field}

-- bit k of a word is set
abbrev pub IsSet : ℕ → ℕ → Type 0
IsSet k w = w / 2 ^ k % 2 ≡ 1

-- bit k lies in one of these rows
abbrev pub Among : List (ℕ × ℕ) → ℕ → Type 0
Among [] k = ⊥
Among (row ∷ rows) k = ((row.1 ≤ k) × (k ≤ row.0)) ⊎ Among rows k

-- the opcode names nothing
abbrev pub Nameless : ℕ → Type 0
Nameless w = (field 31 26 w ≡ 0x27) ⊎ (field 31 26 w ≡ 0x2A) ⊎ (field 31 26 w ≡ 0x33) ⊎ (field 31 26 w ≡ 0x35)

-- a bit is set that the form of the named operation leaves unused
abbrev pub Stray : ℕ → Type 0
Stray w = (op : Operation) × (named (field 31 26 w) ≡ Some op) × (k : ℕ) × Among (unused op) k × IsSet k w

-- a raise whose low five bits say neither break nor scall
abbrev pub UnknownRaise : ℕ → Type 0
UnknownRaise w = (field 31 26 w ≡ 0x2B) × (field 4 0 w ≢ 2) × (field 4 0 w ≢ 7)

abbrev pub ReservedWord : ℕ → Type 0
ReservedWord w = Nameless w ⊎ Stray w ⊎ UnknownRaise w
