-- A step writes only what it is said to write. Assumes nothing.
use Rattle.std.proofs.Common.{◌≡◌, ℕ, zero, suc, Bool, true, false, cond, not, ◌&&◌, eqb, List, [], ◌∷◌, length, get_or, drop, set, Some, Ok, sym, refl, ap, ◌∙◌, arith, length-set, get_or-set_other}
use Rattle.std.proofs.lemmas.Bool.{eqb-false, not-true, and_parts, cond_both}
use Rattle.isa.specs.declared.instruction.Instruction.{Instruction}
use Rattle.isa.specs.declared.operation.JumpOp.{JumpOp}
use Rattle.isa.specs.declared.operation.JumpOp.TheVariants.{B, Call}
use Rattle.isa.specs.declared.register.Register.{Register}
use Rattle.alu.specs.Compare.{branches}
use Rattle.bus.specs.Rules.{Rules}
use Rattle.cpu.specs.Csr.{csrs, csr_named, configured_breakpoint, status_written}
use Rattle.cpu.specs.Config.{debugs}
use Rattle.cpu.specs.Enable.{saved_by_exception, saved_by_breakpoint}
use Rattle.cpu.specs.Entry.{saved_in}
use Rattle.cpu.specs.Exception.{is_breakpoint}
use Rattle.cpu.specs.Flow.{linked, returned}
use Rattle.cpu.specs.State.{reg}
use Rattle.cpu.specs.declared.csr.Csr.{Csr}
use Rattle.cpu.specs.declared.csr.Csr.TheVariants.{Ie, Im, Ip, Cc, Cfg, Eba, Dc, Deba, Breakpoint, Other}
use Rattle.cpu.specs.declared.enable.Enable.{Enable}
use Rattle.cpu.specs.declared.processor.Processor.{Processor}
use Rattle.cpu.specs.declared.processor.Status.{Status}
use Rattle.board.specs.Execute.{executed}
use Rattle.board.specs.Machine.{Machine}
use Rattle.board.specs.Step.{noted, stepped}
use Rattle.board.proofs.Executed.{linked_status, after_done}
use Rattle.board.proofs.StepCases.{step_cases}
use Rattle.board.specs.Writers.{link_register, destination, writes_ie, is_register, destination_is, word_writes_ie, WritesOnly}

other : (rs : List ℕ) (k n v : ℕ) → eqb k n ≡ false → get_or (set rs k v) n 0 ≡ get_or rs n 0
other rs k n v e = get_or-set_other rs k n v 0 (λ q. eqb-false k n e (sym q))

-- what an instruction keeps: q after p
record Keeps (i : Instruction) (p q : Processor) : Type 0 where
  registers : (n : ℕ) → is_register n (destination i) ≡ false → get_or q.registers n 0 ≡ get_or p.registers n 0
  size : length q.registers ≡ length p.registers
  eie : writes_ie i ≡ false → q.status.enable.eie ≡ p.status.enable.eie
  bie : writes_ie i ≡ false → q.status.enable.bie ≡ p.status.enable.bie

returned_eie : (op : JumpOp) (r : Register) (e : Enable) → (returned op r e).eie ≡ e.eie
returned_eie B r e = cond_both (eqb r.number 30) _ _ (λ (x : Enable). x.eie ≡ e.eie) (λ _. refl) (λ _. cond_both (eqb r.number 31) _ _ (λ (x : Enable). x.eie ≡ e.eie) (λ _. refl) (λ _. refl))
returned_eie Call r e = refl

returned_bie : (op : JumpOp) (r : Register) (e : Enable) → (returned op r e).bie ≡ e.bie
returned_bie B r e = cond_both (eqb r.number 30) _ _ (λ (x : Enable). x.bie ≡ e.bie) (λ _. refl) (λ _. cond_both (eqb r.number 31) _ _ (λ (x : Enable). x.bie ≡ e.bie) (λ _. refl) (λ _. refl))
returned_bie Call r e = refl

linked_registers : (op : JumpOp) (p : Processor) (n : ℕ) → is_register n (link_register op) ≡ false → get_or (linked op p).registers n 0 ≡ get_or p.registers n 0
linked_registers B p n e = refl
linked_registers Call p n e = other p.registers 29 n _ e

linked_size : (op : JumpOp) (p : Processor) → length (linked op p).registers ≡ length p.registers
linked_size B p = refl
linked_size Call p = length-set p.registers 29 _

is_ie : Csr → Bool
is_ie Ie = true
is_ie Im = false
is_ie Ip = false
is_ie Cc = false
is_ie Cfg = false
is_ie Eba = false
is_ie Dc = false
is_ie Deba = false
is_ie (Breakpoint k) = false
is_ie Other = false

written_enable : (p : Processor) (c : Csr) (v : ℕ) → is_ie c ≡ false → (status_written p c v).enable ≡ p.status.enable
unfolding is_ie
written_enable p Ie v e = let z : ◌≡◌ {A = ℕ} 0 1 = cc in absurd (omega arith)
written_enable p Im v e = refl
written_enable p Ip v e = refl
written_enable p Cc v e = refl
written_enable p Cfg v e = refl
written_enable p Eba v e = refl
written_enable p Dc v e = cond_both (debugs p.config) _ _ (λ (x : Status). x.enable ≡ p.status.enable) (λ _. refl) (λ _. refl)
written_enable p Deba v e = cond_both (debugs p.config) _ _ (λ (x : Status). x.enable ≡ p.status.enable) (λ _. refl) (λ _. refl)
written_enable p (Breakpoint k) v e = cond_both (configured_breakpoint p.config k) _ _ (λ (x : Status). x.enable ≡ p.status.enable) (λ _. refl) (λ _. refl)
written_enable p Other v e = refl

-- only number 0 is IE: a test of the whole table past its first entry
none_is_ie : List Csr → Bool
none_is_ie [] = true
none_is_ie (c ∷ cs) = not (is_ie c) && none_is_ie cs

none_at : (cs : List Csr) (n : ℕ) → none_is_ie cs ≡ true → is_ie (get_or cs n Other) ≡ false
unfolding none_is_ie is_ie
none_at [] n e = refl
none_at (c ∷ cs) zero e = not-true (is_ie c) (and_parts (not (is_ie c)) (none_is_ie cs) e).0
none_at (c ∷ cs) (suc n) e = none_at cs n (and_parts (not (is_ie c)) (none_is_ie cs) e).1

csr_enable : (p : Processor) (n v : ℕ) → eqb n 0 ≡ false → (status_written p (csr_named n) v).enable ≡ p.status.enable
unfolding none_is_ie is_ie
csr_enable p zero v e = let z : ◌≡◌ {A = ℕ} 0 1 = cc in absurd (omega arith)
csr_enable p (suc n) v e = written_enable p (csr_named (suc n)) v (none_at (drop 1 csrs) n refl)

-- a processor whose registers but k, and whose enable bits, are those of p
put_keeps : (i : Instruction) (p q : Processor) (k v : ℕ) → destination i ≡ Some k → q.registers ≡ set p.registers k v → q.status.enable ≡ p.status.enable → Keeps i p q
put_keeps i p q k v d rs en = record {
  registers = λ n e. ap (λ xs. get_or xs n 0) rs ∙ other p.registers k n v (sym (ap (is_register n) d) ∙ e);
  size = ap length rs ∙ length-set p.registers k v;
  eie = λ _. ap (λ x. x.eie) en;
  bie = λ _. ap (λ x. x.bie) en;
}

same_keeps : (i : Instruction) (p q : Processor) → q.registers ≡ p.registers → q.status.enable ≡ p.status.enable → Keeps i p q
same_keeps i p q rs en = record {
  registers = λ n e. ap (λ xs. get_or xs n 0) rs;
  size = ap length rs;
  eie = λ _. ap (λ x. x.eie) en;
  bie = λ _. ap (λ x. x.bie) en;
}

eie_saved : (b : Bool) (x : Enable) → not b ≡ false → (cond b (saved_by_breakpoint x) (saved_by_exception x)).eie ≡ x.eie
eie_saved true x h = refl
eie_saved false x h = let z : ◌≡◌ {A = ℕ} 0 1 = cc in absurd (omega arith)

bie_saved : (b : Bool) (x : Enable) → b ≡ false → (cond b (saved_by_breakpoint x) (saved_by_exception x)).bie ≡ x.bie
bie_saved true x h = let z : ◌≡◌ {A = ℕ} 0 1 = cc in absurd (omega arith)
bie_saved false x h = refl

done_keeps : {M : Type 0} (r : Rules M) (s : Machine M) (i : Instruction) (t : Machine M) → executed r s i ≡ Ok t → Keeps i s.cpu t.cpu
done_keeps r s =
    after_done r s (λ i p. Keeps i s.cpu p) (λ i to v d. put_keeps i s.cpu _ to.number _ d refl refl) (λ i. same_keeps i s.cpu _ refl refl)
    (λ op left right offset.
    cond_both (branches op (reg s.cpu left) (reg s.cpu right)) _ _ (Keeps _ s.cpu) (λ _. same_keeps _ s.cpu _ refl refl) (λ _. same_keeps _ s.cpu _ refl refl))
    (λ op target. record {
      registers = linked_registers op s.cpu;
      size = linked_size op s.cpu;
      eie = λ _. returned_eie op target s.cpu.status.enable;
      bie = λ _. returned_bie op target s.cpu.status.enable;
    })
    (λ op offset. record {
      registers = linked_registers op s.cpu;
      size = linked_size op s.cpu;
      eie = λ _. ap (λ x. x.enable.eie) (linked_status op s.cpu);
      bie = λ _. ap (λ x. x.enable.bie) (linked_status op s.cpu);
    })
    (λ csr from. record {
      registers = λ n e. refl;
      size = refl;
      eie = λ e. ap (λ x. x.eie) (csr_enable s.cpu csr.number (reg s.cpu from) e);
      bie = λ e. ap (λ x. x.bie) (csr_enable s.cpu csr.number (reg s.cpu from) e);
    })

pub step_writes : {M : Type 0} (r : Rules M) (s : Machine M) → WritesOnly (stepped r s).0 s.cpu (stepped r s).1.cpu
step_writes r s =
    step_cases r s (λ a. WritesOnly a.0 s.cpu a.1.cpu)
    (λ e. record {
      registers = λ n h. other s.cpu.registers (saved_in e) n _ h;
      eie = λ h. eie_saved (is_breakpoint e) s.cpu.status.enable h;
      bie = λ h. bie_saved (is_breakpoint e) s.cpu.status.enable h;
    })
    (λ why. record { registers = λ n h. refl; eie = λ h. refl; bie = λ h. refl })
    (λ w i t d e.
    let kept : Keeps i (noted r s).cpu t.cpu = done_keeps r (noted r s) i t e in
    record {
      registers = λ n h. kept.registers n (sym (ap (destination_is n) d) ∙ h);
      eie = λ h. kept.eie (sym (ap word_writes_ie d) ∙ h);
      bie = λ h. kept.bie (sym (ap word_writes_ie d) ∙ h);
    })

-- a step keeps the number of registers
pub step_size : {M : Type 0} (r : Rules M) (s : Machine M) → length (stepped r s).1.cpu.registers ≡ length s.cpu.registers
step_size r s =
    step_cases r s (λ a. length a.1.cpu.registers ≡ length s.cpu.registers)
    (λ e. length-set s.cpu.registers (saved_in e) _)
    (λ why. refl)
    (λ w i t d e.
    let kept : Keeps i (noted r s).cpu t.cpu = done_keeps r (noted r s) i t e in
    kept.size)
