-- How a step ended: which it is, what its line says of it, and the outcome of what a step answers.
use Rattle.std.specs.Prelude.{ℕ, Bool, true, false, List, codes}
use Rattle.cpu.specs.Exception.{exception_number, stop_number}
use Rattle.cpu.specs.declared.answer.Answer.{Answer}
use Rattle.cpu.specs.declared.answer.Answer.TheVariants as answers
use Rattle.report.specs.declared.outcome.Outcome.{Outcome}
use Rattle.report.specs.declared.outcome.Outcome.TheVariants.{Done, Taken, Stopped}

-- an instruction done, an exception taken, a stop
abbrev pub letter : Outcome → List ℕ
letter (Done word) = codes "D"
letter (Taken number) = codes "X"
letter (Stopped number) = codes "S"

-- the word done, the number of the exception taken, or the number of the refusal
abbrev pub value_of : Outcome → ℕ
value_of (Done word) = word
value_of (Taken number) = number
value_of (Stopped number) = number

abbrev pub is_done : Outcome → Bool
is_done (Done word) = true
is_done (Taken number) = false
is_done (Stopped number) = false

abbrev pub is_taken : Outcome → Bool
is_taken (Done word) = false
is_taken (Taken number) = true
is_taken (Stopped number) = false

abbrev pub is_stopped : Outcome → Bool
is_stopped (Done word) = false
is_stopped (Taken number) = false
is_stopped (Stopped number) = true

-- what a step answers, as its line tells it
abbrev pub outcome_of : Answer → Outcome
outcome_of (answers.Done word) = Done word
outcome_of (answers.Taken e) = Taken (exception_number e)
outcome_of (answers.Stopped why pc) = Stopped (stop_number why)
