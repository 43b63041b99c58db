-- What an answer of a step says of how it came about. Assumes nothing.
use Rattle.std.proofs.Common.{◌≡◌, ℕ, Some, Ok, refl, ap, subst, arith}
use Rattle.isa.specs.Decode.{decoded}
use Rattle.isa.specs.declared.instruction.Instruction.{Instruction}
use Rattle.bus.specs.Rules.{Rules}
use Rattle.cpu.specs.declared.answer.Answer.TheVariants.{Done, Taken}
use Rattle.cpu.specs.declared.exception.Exception.{Exception}
use Rattle.board.specs.Execute.{executed}
use Rattle.board.specs.Machine.{Machine}
use Rattle.board.specs.Step.{noted, settled, departed, stepped}
use Rattle.board.proofs.StepCases.{step_cases}

-- an instruction was done
pub record DoneBy {M : Type 0} (r : Rules M) (s : Machine M) (w : ℕ) (u : Machine M) : Type 0 where
  pub instruction : Instruction
  pub result : Machine M
  pub word : decoded w ≡ Some instruction
  pub does : executed r (noted r s) instruction ≡ Ok result
  pub ends : u ≡ settled r result

module _ {M : Type 0} (r : Rules M) (s : Machine M) where
  pub done_by : (w : ℕ) → (stepped r s).0 ≡ Done w → DoneBy r s w (stepped r s).1
  done_by =
      step_cases r s (λ a. (w : ℕ) → a.0 ≡ Done w → DoneBy r s w a.1)
      (λ e w q. let z : ◌≡◌ {A = ℕ} 0 1 = cc in absurd (omega arith))
      (λ why w q. let z : ◌≡◌ {A = ℕ} 0 1 = cc in absurd (omega arith))
      (λ v i t d e w q.
      let same : v ≡ w = cc in
      record { instruction = i; result = t; word = subst (λ x. decoded x ≡ Some i) same d; does = e; ends = refl })

  -- an exception was taken
  pub taken_by : (e : Exception) → (stepped r s).0 ≡ Taken e → (stepped r s).1 ≡ departed r (noted r s) e
  taken_by =
      step_cases r s (λ a. (e : Exception) → a.0 ≡ Taken e → a.1 ≡ departed r (noted r s) e)
      (λ x e q. let same : x ≡ e = cc in ap (departed r (noted r s)) same)
      (λ why e q. let z : ◌≡◌ {A = ℕ} 0 1 = cc in absurd (omega arith))
      (λ v i t d x e q. let z : ◌≡◌ {A = ℕ} 0 1 = cc in absurd (omega arith))
