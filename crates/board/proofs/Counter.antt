-- The counter over one step, and that a stop leaves the machine as it was. Assumes nothing.
use Rattle.std.proofs.Common.{◌≡◌, ℕ, ◌+◌, ◌%◌, ◌^◌, Ok, refl, ap}
use Rattle.std.proofs.lemmas.Bool.{cond_both}
use Rattle.isa.specs.declared.instruction.Instruction.{Instruction}
use Rattle.alu.specs.Compare.{branches}
use Rattle.bus.specs.Rules.{Rules}
use Rattle.cpu.specs.Config.{debugs}
use Rattle.cpu.specs.Csr.{csr_named, configured_breakpoint, status_written}
use Rattle.cpu.specs.State.{reg}
use Rattle.cpu.specs.declared.csr.Csr.{Csr}
use Rattle.cpu.specs.declared.csr.Csr.TheVariants.{Ie, Im, Ip, Cc, Cfg, Eba, Dc, Deba, Breakpoint, Other}
use Rattle.cpu.specs.declared.processor.Processor.{Processor}
use Rattle.cpu.specs.declared.processor.Status.{Status}
use Rattle.cpu.specs.declared.answer.Answer.{Answer}
use Rattle.board.specs.Counter.{counter_after, UnchangedByStop}
use Rattle.board.specs.Execute.{executed}
use Rattle.board.specs.Machine.{Machine}
use Rattle.board.specs.Step.{noted, stepped}
use Rattle.board.proofs.Executed.{linked_status, after_done}
use Rattle.board.proofs.StepCases.{step_cases}

-- what is shown of a step from s that comes to an answer and a machine
pub record Counted {M : Type 0} (s : Machine M) (a : Answer × Machine M) : Type 0 where
  pub grows : a.1.cpu.status.cc ≡ counter_after a.0 s.cpu.status.cc
  pub stays : UnchangedByStop a.0 s a.1

-- no write of a control and status register reaches the counter
written_cc : (p : Processor) (c : Csr) (v : ℕ) → (status_written p c v).cc ≡ p.status.cc
written_cc p Ie v = refl
written_cc p Im v = refl
written_cc p Ip v = refl
written_cc p Cc v = refl
written_cc p Cfg v = refl
written_cc p Eba v = refl
written_cc p Dc v = cond_both (debugs p.config) _ _ (λ (x : Status). x.cc ≡ p.status.cc) (λ _. refl) (λ _. refl)
written_cc p Deba v = cond_both (debugs p.config) _ _ (λ (x : Status). x.cc ≡ p.status.cc) (λ _. refl) (λ _. refl)
written_cc p (Breakpoint k) v = cond_both (configured_breakpoint p.config k) _ _ (λ (x : Status). x.cc ≡ p.status.cc) (λ _. refl) (λ _. refl)
written_cc p Other v = refl

-- an instruction that is done leaves the counter as it was
done_cc : {M : Type 0} (r : Rules M) (s : Machine M) (i : Instruction) (t : Machine M) → executed r s i ≡ Ok t → t.cpu.status.cc ≡ s.cpu.status.cc
done_cc r s =
    after_done r s (λ i p. p.status.cc ≡ s.cpu.status.cc) (λ i to v d. refl) (λ i. refl)
    (λ op left right offset. cond_both (branches op (reg s.cpu left) (reg s.cpu right)) _ _ (λ (p : Processor). p.status.cc ≡ s.cpu.status.cc) (λ _. refl) (λ _. refl))
    (λ op target. refl) (λ op offset. ap (λ x. x.cc) (linked_status op s.cpu))
    (λ csr from. written_cc s.cpu (csr_named csr.number) (reg s.cpu from))

pub step_counts : {M : Type 0} (r : Rules M) (s : Machine M) → Counted s (stepped r s)
step_counts r s =
    step_cases r s (Counted s)
    (λ e. record { grows = refl; stays = tt })
    (λ why. record { grows = refl; stays = refl })
    (λ w i t d e. record { grows = ap (λ n. (n + 1) % 2 ^ 32) (done_cc r (noted r s) i t e); stays = tt })
