-- The three ways of a step: an exception taken, a stop, and an instruction done. Assumes nothing.
use Rattle.std.proofs.Common.{◌≡◌, ℕ, Some, None, Ok, Err, Option, Result, refl}
use Rattle.isa.specs.Decode.{decoded}
use Rattle.isa.specs.declared.instruction.Instruction.{Instruction}
use Rattle.bus.specs.Rules.{Rules}
use Rattle.cpu.specs.Exception.{while_fetching, while_executing}
use Rattle.cpu.specs.declared.answer.Answer.{Answer}
use Rattle.cpu.specs.declared.answer.Answer.TheVariants.{Done}
use Rattle.cpu.specs.declared.answer.Stop.{Stop}
use Rattle.cpu.specs.declared.answer.Stop.TheVariants.{Reserved}
use Rattle.cpu.specs.declared.exception.Exception.{Exception}
use Rattle.cpu.specs.declared.exception.Exception.TheVariants.{Breakpoint, Interrupt}
use Rattle.cpu.specs.declared.reason.Trouble.{Trouble}
use Rattle.board.specs.Execute.{barred, executed}
use Rattle.board.specs.Machine.{Machine}
use Rattle.board.specs.Step.{noted, settled, takes, stops, if_executed, if_barred, if_decoded, if_fetched, if_interrupted, if_broken, fetched, stepped}

-- what holds of every exception taken from s, of every stop, and of every instruction done, holds of the step
module _ {M : Type 0} (r : Rules M) (s : Machine M) (P : Answer × Machine M → Type 0) (took : (e : Exception) → P (takes r s e))
    (stopped : (why : Stop) → P (stops r s why))
    (did : (w : ℕ) (i : Instruction) (t : Machine M) → decoded w ≡ Some i → executed r (noted r s) i ≡ Ok t → P (Done w, settled r t)) where
  finishing : (w : ℕ) (i : Instruction) (x : Result (Machine M) Trouble) → decoded w ≡ Some i → executed r (noted r s) i ≡ x → P (if_executed r s w x)
  finishing w i (Ok t) d e = did w i t d e
  finishing w i (Err t) d e = took (while_executing t)

  barring : (w : ℕ) (i : Instruction) (x : Option Stop) → decoded w ≡ Some i → P (if_barred r s w i x)
  barring w i (Some why) d = stopped why
  barring w i None d = finishing w i (executed r (noted r s) i) d refl

  decoding : (w : ℕ) (x : Option Instruction) → decoded w ≡ x → P (if_decoded r s w x)
  decoding w None d = stopped Reserved
  decoding w (Some i) d = barring w i (barred s.cpu i) d

  fetching : (x : Result ℕ Trouble) → P (if_fetched r s x)
  fetching (Err t) = took (while_fetching t)
  fetching (Ok w) = decoding w (decoded w) refl

  interrupting : (x : Option ℕ) → P (if_interrupted r s x)
  interrupting (Some line) = took (Interrupt line)
  interrupting None = fetching (fetched r s)

  breaking : (x : Option ℕ) → P (if_broken r s x)
  breaking (Some k) = took (Breakpoint (Some k))
  breaking None = interrupting _

  pub step_cases : P (stepped r s)
  step_cases = breaking _
