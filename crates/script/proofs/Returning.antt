-- A return brings back what its exception saved, if no step between wrote it. Assumes nothing.
use Rattle.std.proofs.Common.{◌≡◌, ℕ, ◌*◌, ◌/◌, ◌%◌, ◌<◌, Bool, true, false, cond, List, [], ◌∷◌, ◌++◌, length, get_or, Some, Ok, sym, refl, ap, ◌∙◌, subst, arith, get_or-set_same}
use Rattle.std.specs.List.{AllByRecursion}
use Rattle.isa.specs.Decode.{decoded}
use Rattle.isa.specs.Fields.{register}
use Rattle.isa.specs.declared.instruction.Instruction.{Instruction}
use Rattle.isa.specs.declared.operation.JumpOp.TheVariants.{B}
use Rattle.bus.specs.Rules.{Rules}
use Rattle.cpu.specs.Enable.{saved_by_exception, saved_by_breakpoint}
use Rattle.cpu.specs.Entry.{saved_in}
use Rattle.cpu.specs.Exception.{is_breakpoint}
use Rattle.cpu.specs.Flow.{jumped}
use Rattle.cpu.specs.declared.answer.Answer.{Answer}
use Rattle.cpu.specs.declared.answer.Answer.TheVariants.{Done, Taken}
use Rattle.cpu.specs.declared.enable.Enable.{Enable}
use Rattle.cpu.specs.declared.exception.Exception.{Exception}
use Rattle.cpu.specs.declared.processor.Processor.{Processor}
use Rattle.board.specs.Alignment.{Aligned}
use Rattle.board.specs.Execute.{executed}
use Rattle.board.specs.Machine.{Machine, with_cpu}
use Rattle.board.specs.Run.{Made}
use Rattle.board.specs.Step.{noted, departed, settled, stepped}
use Rattle.board.specs.Writers.{writes_eie, writes_bie, WritesOnly}
use Rattle.board.proofs.Alignment.{step_aligned}
use Rattle.board.proofs.Inversion.{done_by, taken_by}
use Rattle.board.proofs.Writers.{step_writes, step_size}
use Rattle.script.specs.Returns.{return_word, LeavesSaved, Resumes}

-- what a return reads of a processor
abbrev pub saved_bit : Bool → Enable → Bool
saved_bit b x = cond b x.bie x.eie

-- two machines that no call but a step tells apart
pub record SameCore {M : Type 0} (s t : Machine M) : Type 0 where
  pub registers : t.cpu.registers ≡ s.cpu.registers
  pub pc : t.cpu.pc ≡ s.cpu.pc
  pub status : t.cpu.status ≡ s.cpu.status

-- a processor with its 32 registers, aligned
pub record Good (p : Processor) : Type 0 where
  pub size : length p.registers ≡ 32
  pub aligned : Aligned p

same_good : {M : Type 0} (s t : Machine M) → SameCore s t → Good s.cpu → Good t.cpu
same_good s t c g = record {
  size = ap length c.registers ∙ g.size;
  aligned = record {
    pc = ap (λ x. x % 4) c.pc ∙ g.aligned.pc;
    eba = ap (λ x. x.eba % 256) c.status ∙ g.aligned.eba;
    deba = ap (λ x. x.deba % 256) c.status ∙ g.aligned.deba;
  };
}

module _ {M : Type 0} (r : Rules M) where
  -- steps that follow one another from s, with calls between that make no step
  abbrev pub Linked : Machine M → List (Made M) → Type 0
  Linked s [] = Unit {0}
  Linked s (x ∷ xs) = SameCore s x.before × (x.answer ≡ (stepped r x.before).0) × (x.after ≡ (stepped r x.before).1) × Linked x.after xs

  step_good : (s : Machine M) → Good s.cpu → Good (stepped r s).1.cpu
  step_good s g = record { size = step_size r s ∙ g.size; aligned = step_aligned r s g.aligned }

  after_good : (x : Made M) → x.after ≡ (stepped r x.before).1 → Good x.before.cpu → Good x.after.cpu
  after_good x e g = subst (λ m. Good m.cpu) (sym e) (step_good x.before g)

  -- what is saved for the return of an exception: where it broke off, and the enable bit
  record Saved (e : Exception) (a : ℕ) (v : Bool) (p : Processor) : Type 0 where
    address : get_or p.registers (saved_in e) 0 ≡ a
    bit : saved_bit (is_breakpoint e) p.status.enable ≡ v

  saved_same : (e : Exception) (a : ℕ) (v : Bool) (s t : Machine M) → SameCore s t → Saved e a v s.cpu → Saved e a v t.cpu
  saved_same e a v s t c h = record {
    address = ap (λ rs. get_or rs (saved_in e) 0) c.registers ∙ h.address;
    bit = ap (λ x. saved_bit (is_breakpoint e) x.enable) c.status ∙ h.bit;
  }

  bit_kept : (b : Bool) (a : Answer) (p q : Processor) → WritesOnly a p q → cond b (writes_bie a) (writes_eie a) ≡ false → saved_bit b q.status.enable ≡ saved_bit b p.status.enable
  bit_kept true a p q w h = w.bie h
  bit_kept false a p q w h = w.eie h

  -- a step that leaves what is saved
  saved_step : (e : Exception) (a : ℕ) (v : Bool) (x : Made M) → x.answer ≡ (stepped r x.before).0 → x.after ≡ (stepped r x.before).1 → LeavesSaved e x.answer →
      Saved e a v x.before.cpu → Saved e a v x.after.cpu
  saved_step e a v x ea es leaves h =
      let w : WritesOnly x.answer x.before.cpu x.after.cpu =
      subst (λ n. WritesOnly n x.before.cpu x.after.cpu) (sym ea) (subst (λ m. WritesOnly (stepped r x.before).0 x.before.cpu m.cpu) (sym es) (step_writes r x.before)) in
      record {
        address = w.registers (saved_in e) leaves.0 ∙ h.address;
        bit = bit_kept (is_breakpoint e) x.answer x.before.cpu x.after.cpu w leaves.1 ∙ h.bit;
      }

  -- over the steps between
  carried : (e : Exception) (a : ℕ) (v : Bool) (s : Machine M) (middle back : List (Made M)) (y : Made M) → Saved e a v s.cpu → Linked s (middle ++ (y ∷ back)) →
      AllByRecursion (λ z. LeavesSaved e z.answer) middle → Saved e a v y.before.cpu
  carried e a v s [] back y h l all = saved_same e a v s y.before l.0 h
  carried e a v s (z ∷ zs) back y h l all =
      carried e a v z.after zs back y (saved_step e a v z l.1 l.2 all.0 (saved_same e a v s z.before l.0 h)) l.3 all.1

  saved_within : (b : Bool) → cond b 31 30 < 32
  saved_within true = omega arith
  saved_within false = omega arith

  bit_saved : (b : Bool) (x : Enable) → saved_bit b (cond b (saved_by_breakpoint x) (saved_by_exception x)) ≡ x.ie
  bit_saved true x = refl
  bit_saved false x = refl

  -- an exception saves where it breaks off, and the enable bit
  saves : (e : Exception) (s : Machine M) → Good s.cpu → Saved e s.cpu.pc s.cpu.status.enable.ie (departed r (noted r s) e).cpu
  saves e s g = record {
    address = get_or-set_same s.cpu.registers (saved_in e) s.cpu.pc 0 (subst (λ n. saved_in e < n) (sym g.size) (saved_within (is_breakpoint e)));
    bit = bit_saved (is_breakpoint e) s.cpu.status.enable;
  }

  -- a jump to a register was done
  jumped_by_lem : (n w : ℕ) (s : Machine M) → decoded w ≡ Some (Instruction.Jump B (register n)) → (stepped r s).0 ≡ Done w →
      (stepped r s).1 ≡ settled r (with_cpu (noted r s) (jumped (noted r s).cpu B (register n)))
  jumped_by_lem n w s d e =
      let by = done_by r s w e in
      let told : Some by.instruction ≡ Some (Instruction.Jump B (register n)) = sym by.word ∙ d in
      let is : by.instruction ≡ Instruction.Jump B (register n) = cc in
      let does : Ok (with_cpu (noted r s) (jumped (noted r s).cpu B (register n))) ≡ Ok by.result = sym (ap (executed r (noted r s)) is) ∙ by.does in
      let result : by.result ≡ with_cpu (noted r s) (jumped (noted r s).cpu B (register n)) = cc in
      by.ends ∙ ap (settled r) result

  -- a return goes where the saved register says, with the saved bit
  returns_by : (b : Bool) (s : Machine M) → (stepped r s).0 ≡ Done (cond b 0xC3E00000 0xC3C00000) →
      ((stepped r s).1.cpu.pc ≡ get_or s.cpu.registers (cond b 31 30) 0 / 4 * 4) × ((stepped r s).1.cpu.status.enable.ie ≡ saved_bit b s.cpu.status.enable)
  unfolding decoded
  returns_by true s e = let is = jumped_by_lem 31 0xC3E00000 s refl e in (ap (λ m. m.cpu.pc) is, ap (λ m. m.cpu.status.enable.ie) is)
  returns_by false s e = let is = jumped_by_lem 30 0xC3C00000 s refl e in (ap (λ m. m.cpu.pc) is, ap (λ m. m.cpu.status.enable.ie) is)

  -- the step after some others
  last_of : (s : Machine M) (middle back : List (Made M)) (y : Made M) → Linked s (middle ++ (y ∷ back)) → (y.answer ≡ (stepped r y.before).0) × (y.after ≡ (stepped r y.before).1)
  last_of s [] back y l = (l.1, l.2)
  last_of s (z ∷ zs) back y l = last_of z.after zs back y l.3

  -- an exception, the steps between, and its return
  resumes : (s : Machine M) (middle back : List (Made M)) (x y : Made M) (e : Exception) → Good s.cpu → Linked s (x ∷ (middle ++ (y ∷ back))) → x.answer ≡ Taken e →
      y.answer ≡ Done (return_word e) → AllByRecursion (λ z. LeavesSaved e z.answer) middle → Resumes x y
  resumes s middle back x y e g l took back-word all =
      let good : Good x.before.cpu = same_good s x.before l.0 g in
      let left : x.after ≡ departed r (noted r x.before) e = l.2 ∙ taken_by r x.before e (sym l.1 ∙ took) in
      let saved : Saved e x.before.cpu.pc x.before.cpu.status.enable.ie x.after.cpu =
      subst (λ m. Saved e x.before.cpu.pc x.before.cpu.status.enable.ie m.cpu) (sym left) (saves e x.before good) in
      let there = carried e x.before.cpu.pc x.before.cpu.status.enable.ie x.after middle back y saved l.3 all in
      let linked = last_of x.after middle back y l.3 in
      let by = returns_by (is_breakpoint e) y.before (sym linked.0 ∙ back-word) in
      let whole : x.before.cpu.pc / 4 * 4 ≡ x.before.cpu.pc = omega (arith, good.aligned.pc) in
      record {
        place = ap (λ m. m.cpu.pc) linked.1 ∙ by.0 ∙ ap (λ n. n / 4 * 4) there.address ∙ whole;
        bit = ap (λ m. m.cpu.status.enable.ie) linked.1 ∙ by.1 ∙ there.bit;
      }

  -- the same wherever the exception stands
  pub resumes_in : (s : Machine M) (front middle back : List (Made M)) (x y : Made M) (e : Exception) → Good s.cpu → Linked s (front ++ (x ∷ (middle ++ (y ∷ back)))) →
      x.answer ≡ Taken e → y.answer ≡ Done (return_word e) → AllByRecursion (λ z. LeavesSaved e z.answer) middle → Resumes x y
  resumes_in s [] middle back x y e g l took word all = resumes s middle back x y e g l took word all
  resumes_in s (z ∷ zs) middle back x y e g l took word all =
      resumes_in z.after zs middle back x y e (after_good z l.2 (same_good s z.before l.0 g)) l.3 took word all
