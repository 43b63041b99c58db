-- Runs: the steps that a run makes, and what it answers of them.
use Rattle.std.specs.Prelude.{ℕ, zero, suc, ◌+◌, List, [], ◌∷◌}
use Rattle.bus.specs.Rules.{Rules}
use Rattle.cpu.specs.Exception.{stop_number}
use Rattle.cpu.specs.declared.answer.Answer.{Answer}
use Rattle.cpu.specs.declared.answer.Answer.TheVariants.{Done, Taken, Stopped}
use Rattle.board.specs.Machine.{Machine}
use Rattle.board.specs.Step.{stepped}

-- a step that was made: the machine before it, what it answered, and the machine after it
pub record Made (M : Type 0) : Type 0 where
  pub before : Machine M
  pub answer : Answer
  pub after : Machine M

abbrev pub step_from : {M : Type 0} → Rules M → Machine M → Made M
step_from r s = record { before = s; answer = (stepped r s).0; after = (stepped r s).1 }

-- what goes on after a step: nothing after a stop
abbrev pub unless_stopped : {X : Type 0} → Answer → List X → List X
unless_stopped (Done w) more = more
unless_stopped (Taken e) more = more
unless_stopped (Stopped why pc) more = []

-- the steps of a run, until its budget is made or one stops
unfoldable pub run_steps : {M : Type 0} → Rules M → ℕ → Machine M → List (Made M)
run_steps r zero s = []
run_steps r (suc n) s = step_from r s ∷ unless_stopped (stepped r s).0 (run_steps r n (stepped r s).1)

abbrev pub one_done : Answer → ℕ
one_done (Done w) = 1
one_done (Taken e) = 0
one_done (Stopped why pc) = 0

abbrev pub one_taken : Answer → ℕ
one_taken (Done w) = 0
one_taken (Taken e) = 1
one_taken (Stopped why pc) = 0

abbrev pub total : {M : Type 0} → (Answer → ℕ) → List (Made M) → ℕ
total one [] = 0
total one (x ∷ xs) = one x.answer + total one xs

-- 0, or the number of the stop
abbrev pub ending_from : Answer → ℕ → ℕ
ending_from (Done w) more = more
ending_from (Taken e) more = more
ending_from (Stopped why pc) more = stop_number why

abbrev pub ending : {M : Type 0} → List (Made M) → ℕ
ending [] = 0
ending (x ∷ xs) = ending_from x.answer (ending xs)

-- the machine after some steps from s
abbrev pub last_from : {M : Type 0} → Machine M → List (Made M) → Machine M
last_from s [] = s
last_from s (x ∷ xs) = last_from x.after xs
