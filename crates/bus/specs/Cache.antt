-- What a cache holds: at most one word for each of 256 sets, each the word that lies below.
use Rattle.std.specs.Prelude.{◌≡◌, ℕ, ◌*◌, ◌/◌, ◌%◌, Bool, true, false, cond, ◌&&◌, List, is_some, is_ok, Some, None, Option, ◌==◌, slice_index_or}
use Rattle.bus.specs.Bytes.{number}
use Rattle.bus.specs.Rules.{Rules, bytes_at, read_answer}
use Rattle.bus.specs.declared.line.Line.{Line}
use Rattle.bus.specs.declared.kind.Kind.{Kind}
use Rattle.bus.specs.declared.kind.Kind.TheVariants.{Absent, Rom, Memory, Device}
use Rattle.bus.specs.declared.size.Size.{Size}

-- bits 9 to 2 of the address
abbrev pub set_of : ℕ → ℕ
set_of a = a / 4 % 256

-- the word of a line, where its tag is the one asked for
abbrev pub word_for : ℕ → Option Line → Option ℕ
word_for t None = None
word_for t (Some l) = cond (l.tag == t) (Some l.word) None

-- the word held for an address
abbrev pub held_word : List (Option Line) → ℕ → Option ℕ
held_word ls a = word_for (a / 4) (slice_index_or ls (set_of a) None)

abbrev pub is_held : List (Option Line) → ℕ → Bool
is_held ls a = is_some (held_word ls a)

abbrev pub is_steady : Kind → Bool
is_steady Absent = false
is_steady Rom = true
is_steady Memory = true
is_steady Device = false

module _ {M : Type 0} (r : Rules M) where
  -- a line of set k is of that set, is of ROM or memory, and has the word that lies below
  abbrev pub RightLine : M → ℕ → Option Line → Type 0
  RightLine m k None = Unit {0}
  RightLine m k (Some l) =
      (l.tag % 256 ≡ k) × (is_steady (r.kind m (l.tag * 4)) ≡ true) × (l.word ≡ number (bytes_at r m (l.tag * 4) 4))

  abbrev pub Right : M → List (Option Line) → Type 0
  Right m ls = (k : ℕ) → RightLine m k (slice_index_or ls k None)

  -- a read is kept where it is accepted, in ROM or memory
  abbrev pub keeps : M → Size → ℕ → Bool
  keeps m s a = is_ok (read_answer r m s a) && is_steady (r.kind m a)

  -- whether the word of b is held after a read at a: the word read is, in place of its set's former one
  abbrev pub held_after_read : M → List (Option Line) → Size → ℕ → ℕ → Bool
  held_after_read m ls s a b = cond (keeps m s a && set_of b == set_of a) (b / 4 == a / 4) (is_held ls b)
