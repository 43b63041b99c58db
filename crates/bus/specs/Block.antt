-- A block of bytes from address 0 on, up to the last whole word: what RAM, ROM and devices are made of.
use Rattle.std.specs.Prelude.{ℕ, zero, suc, ◌+◌, ◌*◌, ◌/◌, ◌%◌, Bool, true, false, cond, List, [], ◌∷◌, length, nat_lt, slice_index, slice_set}
use Rattle.bus.specs.Bytes.{number, word_bytes}
use Rattle.bus.specs.Rules.{Rules}
use Rattle.bus.specs.declared.kind.Kind.{Kind}
use Rattle.bus.specs.declared.kind.Kind.TheVariants.{Absent, Rom, Memory}
use Rattle.bus.specs.declared.fault.Layer.{Layer}
use Rattle.bus.specs.declared.fault.Layer.TheVariants as layers
use Rattle.bus.specs.declared.fault.Home.{Home}

-- the addresses of whole words have the given kind, those past them none
abbrev pub covered : Kind → List ℕ → ℕ → Kind
covered k bs a = cond (nat_lt a (length bs / 4 * 4)) k Absent

abbrev pub home_in : Layer → ℕ → Home
home_in l a = record { address = a; layer = l }

abbrev pub byte_in : List ℕ → ℕ → ℕ
byte_in bs a = slice_index bs a % 256

-- the n bytes from a place on
abbrev pub bytes_in : List ℕ → ℕ → ℕ → List ℕ
bytes_in bs a zero = []
bytes_in bs a (suc n) = byte_in bs a ∷ bytes_in bs (a + 1) n

-- the block with some bytes put from a place on
abbrev pub patched : List ℕ → ℕ → List ℕ → List ℕ
patched bs a [] = bs
patched bs a (x ∷ xs) = patched (slice_set bs a x) (a + 1) xs

abbrev pub word_in : List ℕ → ℕ → ℕ
word_in bs a = number (bytes_in bs a 4)

abbrev pub with_word : List ℕ → ℕ → ℕ → List ℕ
with_word bs a v = patched bs a (word_bytes v)

-- a block that no tick changes, with no lines and nothing sent
abbrev pub block_rules : Kind → Layer → Rules (List ℕ)
block_rules k l = record {
  kind = covered k;
  home = λ _ a. home_in l a;
  byte = byte_in;
  lines = λ _. 0;
  sent = λ _. [];
  stored = λ bs a b. slice_set bs a b;
  ticked = λ bs. bs;
}

abbrev pub memory_kind : Bool → Kind
memory_kind true = Memory
memory_kind false = Rom

abbrev pub memory_layer : Bool → Layer
memory_layer true = layers.Ram
memory_layer false = layers.Rom

-- the caller's bytes, by whether a write changes them
abbrev pub memory_rules : Bool → Rules (List ℕ)
memory_rules w = block_rules (memory_kind w) (memory_layer w)

-- RAM: the caller's bytes as memory
abbrev pub ram_rules : Rules (List ℕ)
ram_rules = memory_rules true

-- ROM: the caller's bytes, which no write changes
abbrev pub rom_rules : Rules (List ℕ)
rom_rules = memory_rules false
