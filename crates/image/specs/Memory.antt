-- Which addresses of a bus are memory.
use Rattle.std.specs.Prelude.{ℕ, Bool, true, false}
use Rattle.bus.specs.Rules.{Rules}
use Rattle.bus.specs.declared.kind.Kind.{Kind}
use Rattle.bus.specs.declared.kind.Kind.TheVariants.{Absent, Rom, Memory, Device}

abbrev pub is_memory : Kind → Bool
is_memory Absent = false
is_memory Rom = false
is_memory Memory = true
is_memory Device = false

abbrev pub memory_in : {M : Type 0} → Rules M → M → ℕ → Bool
memory_in r m a = is_memory (r.kind m a)
