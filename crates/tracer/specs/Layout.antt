-- The text that an image gives on the board of the programs.
use Rattle.std.specs.Prelude.{ℕ, List, replicate}
use Rattle.layout.specs.Meaning.{rules, first_meaning}
use Rattle.tracer.specs.Whole.{trace_on}

-- memory is first 4096 bytes, all zero
unfoldable pub traced : List ℕ → List ℕ
traced image = trace_on rules (first_meaning (replicate 4096 0)) image
