-- What a bus means, whatever its make, and what its calls do to that meaning.
use Rattle.std.specs.Prelude.{◌≡◌, ℕ, zero, suc, ◌+◌, ◌*◌, ◌/◌, ◌%◌, ◌<◌, cond, List, [], ◌∷◌, Ok, Err, Result, ◌==◌, ◌≢◌}
use Rattle.bus.specs.Bytes.{width, number, low_bytes}
use Rattle.bus.specs.declared.size.Size.{Size}
use Rattle.bus.specs.declared.kind.Kind.{Kind}
use Rattle.bus.specs.declared.kind.Kind.TheVariants.{Absent, Rom, Memory, Device}
use Rattle.bus.specs.declared.fault.Home.{Home}
use Rattle.bus.specs.declared.fault.Cause.{Cause}
use Rattle.bus.specs.declared.fault.Cause.TheVariants.{Misaligned, Unmapped, ReadOnly}
use Rattle.bus.specs.declared.fault.Fault.{Fault}

-- The parts of a meaning M: for each address a kind, a home and a byte (which says nothing where the
-- kind is `Absent`), the line word and the bytes sent; the meaning with one byte replaced, and the
-- meaning after a tick.
pub record Rules (M : Type 0) : Type 0 where
  pub kind : M → ℕ → Kind
  pub home : M → ℕ → Home
  pub byte : M → ℕ → ℕ
  pub lines : M → ℕ
  pub sent : M → List ℕ
  pub stored : M → ℕ → ℕ → M
  pub ticked : M → M

-- ROM and memory: what no tick changes
abbrev pub Steady : Kind → Type 0
Steady Absent = ⊥
Steady Rom = Unit {0}
Steady Memory = Unit {0}
Steady Device = ⊥

-- memory and devices: what a write changes
abbrev pub Writable : Kind → Type 0
Writable Absent = ⊥
Writable Rom = ⊥
Writable Memory = Unit {0}
Writable Device = Unit {0}

-- What holds of every meaning of a bus.
pub record Laws {M : Type 0} (r : Rules M) : Type 0 where
  pub word_kind : (m : M) (a : ℕ) → r.kind m a ≡ r.kind m (a / 4 * 4)
  pub byte_fits : (m : M) (a : ℕ) → r.byte m a < 256
  pub stored_kind : (m : M) (a b c : ℕ) → r.kind (r.stored m a b) c ≡ r.kind m c
  pub stored_home : (m : M) (a b c : ℕ) → r.home (r.stored m a b) c ≡ r.home m c
  pub stored_lines : (m : M) (a b : ℕ) → r.lines (r.stored m a b) ≡ r.lines m
  pub stored_sent : (m : M) (a b : ℕ) → r.sent (r.stored m a b) ≡ r.sent m
  pub stored_here : (m : M) (a b : ℕ) → b < 256 → Writable (r.kind m a) → r.byte (r.stored m a b) a ≡ b
  pub stored_there : (m : M) (a b c : ℕ) → (c ≢ a) → r.byte (r.stored m a b) c ≡ r.byte m c
  pub ticked_kind : (m : M) (a : ℕ) → r.kind (r.ticked m) a ≡ r.kind m a
  pub ticked_home : (m : M) (a : ℕ) → r.home (r.ticked m) a ≡ r.home m a
  pub ticked_byte : (m : M) (a : ℕ) → Steady (r.kind m a) → r.byte (r.ticked m) a ≡ r.byte m a

abbrev pub fault : Cause → Home → Fault
fault c h = record { cause = c; home = h }

-- a value that is read at an address of this kind and home: not where there is nothing
abbrev pub readable : {V : Type 0} → Kind → Home → V → Result V Fault
readable Absent h v = Err (fault Unmapped h)
readable Rom h v = Ok v
readable Memory h v = Ok v
readable Device h v = Ok v

-- a value that a write makes: not where there is nothing, nor in ROM
abbrev pub writable : {V : Type 0} → Kind → Home → V → Result V Fault
writable Absent h v = Err (fault Unmapped h)
writable Rom h v = Err (fault ReadOnly h)
writable Memory h v = Ok v
writable Device h v = Ok v

-- a misaligned address is told before anything else
abbrev pub if_aligned : {V : Type 0} → Size → ℕ → Home → Result V Fault → Result V Fault
if_aligned s a h v = cond (a % width s == 0) v (Err (fault Misaligned h))

-- the value, or where there is none another
abbrev pub or_else : {V : Type 0} → V → Result V Fault → V
or_else d (Ok v) = v
or_else d (Err f) = d

module _ {M : Type 0} (r : Rules M) where
  -- the n bytes from an address on
  abbrev pub bytes_at : M → ℕ → ℕ → List ℕ
  bytes_at m a zero = []
  bytes_at m a (suc n) = r.byte m a ∷ bytes_at m (a + 1) n

  -- the meaning with some bytes put from an address on
  abbrev pub stored_all : M → ℕ → List ℕ → M
  stored_all m a [] = m
  stored_all m a (b ∷ bs) = stored_all (r.stored m a b) (a + 1) bs

  -- the answer of a read: the big-endian number at the address, or why it is refused
  abbrev pub read_answer : M → Size → ℕ → Result ℕ Fault
  read_answer m s a = if_aligned s a (r.home m a) (readable (r.kind m a) (r.home m a) (number (bytes_at m a (width s))))

  -- a value that a write makes, or why the write is refused
  abbrev pub writing : {V : Type 0} → M → Size → ℕ → V → Result V Fault
  writing m s a v = if_aligned s a (r.home m a) (writable (r.kind m a) (r.home m a) v)

  -- the answer of a write
  abbrev pub write_answer : M → Size → ℕ → Result (Unit {0}) Fault
  write_answer m s a = writing m s a tt

  -- the meaning after a write: the low bytes of the value, most significant first, in place of the
  -- addressed ones; where it is refused, as it was
  abbrev pub written : M → Size → ℕ → ℕ → M
  written m s a v = or_else m (writing m s a (stored_all m a (low_bytes s v)))
