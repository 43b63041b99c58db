-- How much a step counts, and what a stop leaves.
use Rattle.std.specs.Prelude.{◌≡◌, ℕ, ◌+◌, ◌%◌, ◌^◌}
use Rattle.cpu.specs.declared.answer.Answer.{Answer}
use Rattle.cpu.specs.declared.answer.Answer.TheVariants.{Done, Taken, Stopped}
use Rattle.board.specs.Machine.{Machine}

-- the counter after a step: one more, modulo 2^32, done or taken; as it was, stopped
abbrev pub counter_after : Answer → ℕ → ℕ
counter_after (Done w) n = (n + 1) % 2 ^ 32
counter_after (Taken e) n = (n + 1) % 2 ^ 32
counter_after (Stopped why pc) n = n

-- after a stop t is what s was
abbrev pub UnchangedByStop : {M : Type 0} → Answer → Machine M → Machine M → Type 0
UnchangedByStop (Done w) s t = Unit {0}
UnchangedByStop (Taken e) s t = Unit {0}
UnchangedByStop (Stopped why pc) s t = t ≡ s
