-- Power gives an aligned processor, and a step keeps it so. Assumes nothing.
use Rattle.std.proofs.Common.{◌≡◌, ℕ, ◌+◌, ◌*◌, ◌%◌, ◌^◌, List, Ok, refl, ap, ◌∙◌, arith}
use Rattle.std.proofs.lemmas.Bool.{cond_both}
use Rattle.isa.specs.declared.instruction.Instruction.{Instruction}
use Rattle.alu.specs.Compare.{branches}
use Rattle.bus.specs.Rules.{Rules}
use Rattle.cpu.specs.Config.{debugs}
use Rattle.cpu.specs.Csr.{csr_named, configured_breakpoint, status_written}
use Rattle.cpu.specs.Entry.{base}
use Rattle.cpu.specs.Exception.{exception_number}
use Rattle.cpu.specs.Flow.{following, reached}
use Rattle.cpu.specs.State.{base_of, reg, reset}
use Rattle.cpu.specs.declared.config.Config.{Config}
use Rattle.cpu.specs.declared.csr.Csr.{Csr}
use Rattle.cpu.specs.declared.csr.Csr.TheVariants.{Ie, Im, Ip, Cc, Cfg, Eba, Dc, Deba, Breakpoint, Other}
use Rattle.cpu.specs.declared.processor.Processor.{Processor}
use Rattle.cpu.specs.declared.processor.Status.{Status}
use Rattle.board.specs.Alignment.{Aligned}
use Rattle.board.specs.Execute.{executed}
use Rattle.board.specs.Machine.{Machine}
use Rattle.board.specs.Step.{noted, stepped}
use Rattle.board.proofs.Executed.{linked_status, after_done}
use Rattle.board.proofs.StepCases.{step_cases}

base_aligned : (v : ℕ) → base_of v % 256 ≡ 0
base_aligned v = omega arith

pub reset_aligned : (c : Config) (rs : List ℕ) → Aligned (reset c rs)
reset_aligned c rs = record { pc = omega arith; eba = base_aligned c.eba; deba = base_aligned c.deba }

next_aligned : (pc : ℕ) → pc % 4 ≡ 0 → following pc % 4 ≡ 0
next_aligned pc h = omega arith

reached_aligned : (pc offset : ℕ) → pc % 4 ≡ 0 → reached pc offset % 4 ≡ 0
reached_aligned pc offset h = omega arith

handler_aligned : (b n : ℕ) → b % 256 ≡ 0 → (b + 32 * n) % 2 ^ 32 % 4 ≡ 0
handler_aligned b n h = omega arith

-- the bases of a status
record Bases (s : Status) : Type 0 where
  eba : s.eba % 256 ≡ 0
  deba : s.deba % 256 ≡ 0

written_bases : (p : Processor) (c : Csr) (v : ℕ) → Bases p.status → Bases (status_written p c v)
written_bases p Ie v h = record { eba = h.eba; deba = h.deba }
written_bases p Im v h = record { eba = h.eba; deba = h.deba }
written_bases p Ip v h = record { eba = h.eba; deba = h.deba }
written_bases p Cc v h = h
written_bases p Cfg v h = h
written_bases p Eba v h = record { eba = base_aligned v; deba = h.deba }
written_bases p Dc v h = cond_both (debugs p.config) _ _ Bases (λ _. record { eba = h.eba; deba = h.deba }) (λ _. h)
written_bases p Deba v h = cond_both (debugs p.config) _ _ Bases (λ _. record { eba = h.eba; deba = base_aligned v }) (λ _. h)
written_bases p (Breakpoint k) v h = cond_both (configured_breakpoint p.config k) _ _ Bases (λ _. record { eba = h.eba; deba = h.deba }) (λ _. h)
written_bases p Other v h = h

module _ {M : Type 0} (r : Rules M) (s : Machine M) (h : Aligned s.cpu) where
  next : (q : Processor) → q.pc ≡ following s.cpu.pc → q.status.eba ≡ s.cpu.status.eba → q.status.deba ≡ s.cpu.status.deba → Aligned q
  next q e f k = record {
    pc = ap (λ x. x % 4) e ∙ next_aligned s.cpu.pc h.pc;
    eba = ap (λ x. x % 256) f ∙ h.eba;
    deba = ap (λ x. x % 256) k ∙ h.deba;
  }

  done_aligned : (i : Instruction) (t : Machine M) → executed r s i ≡ Ok t → Aligned t.cpu
  done_aligned =
      after_done r s (λ i p. Aligned p) (λ i to v d. next _ refl refl refl) (λ i. next _ refl refl refl)
      (λ op left right offset.
      cond_both (branches op (reg s.cpu left) (reg s.cpu right)) _ _ Aligned
      (λ _. record { pc = reached_aligned s.cpu.pc _ h.pc; eba = h.eba; deba = h.deba }) (λ _. next _ refl refl refl))
      (λ op target. record { pc = omega arith; eba = h.eba; deba = h.deba })
      (λ op offset. record {
        pc = reached_aligned s.cpu.pc _ h.pc;
        eba = ap (λ x. x.eba % 256) (linked_status op s.cpu) ∙ h.eba;
        deba = ap (λ x. x.deba % 256) (linked_status op s.cpu) ∙ h.deba;
      })
      (λ csr from.
      let bases = written_bases s.cpu (csr_named csr.number) (reg s.cpu from) (record { eba = h.eba; deba = h.deba }) in
      record { pc = next_aligned s.cpu.pc h.pc; eba = bases.eba; deba = bases.deba })

pub step_aligned : {M : Type 0} (r : Rules M) (s : Machine M) → Aligned s.cpu → Aligned (stepped r s).1.cpu
step_aligned r s h =
    let noted-aligned : Aligned (noted r s).cpu = record { pc = h.pc; eba = h.eba; deba = h.deba } in
    step_cases r s (λ a. Aligned a.1.cpu)
    (λ e. record {
      pc = handler_aligned (base (noted r s).cpu e) (exception_number e) (cond_both _ _ _ (λ v. v % 256 ≡ 0) (λ _. h.deba) (λ _. h.eba));
      eba = h.eba;
      deba = h.deba;
    })
    (λ why. h)
    (λ w i t d e.
    let done : Aligned t.cpu = done_aligned r (noted r s) noted-aligned i t e in
    record { pc = done.pc; eba = done.eba; deba = done.deba })
