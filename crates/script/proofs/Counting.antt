-- The counter is the sum of what the replies report. Assumes nothing.
use Rattle.std.proofs.Common.{◌≡◌, ℕ, zero, suc, ◌+◌, ◌%◌, ◌^◌, List, [], ◌∷◌, ap, ◌∙◌, arith}
use Rattle.bus.specs.Rules.{Rules}
use Rattle.cpu.specs.declared.answer.Answer.{Answer}
use Rattle.cpu.specs.declared.answer.Answer.TheVariants.{Done, Taken, Stopped}
use Rattle.board.specs.Counter.{counter_after}
use Rattle.board.specs.Machine.{Machine}
use Rattle.board.specs.Run.{Made, unless_stopped, run_steps, one_done, one_taken, total, last_from}
use Rattle.board.specs.Step as board
use Rattle.board.proofs.Counter.{step_counts}
use Rattle.script.specs.Account.{tells, after, all_told, finally}
use Rattle.script.specs.Counter.{reported, all_reported}
use Rattle.script.specs.Request.{Request, load, lines, look, show, step, run}
use Rattle.script.proofs.Links.{keeping}

abbrev cc : {M : Type 0} → Machine M → ℕ
cc s = s.cpu.status.cc

counted : (a : Answer) (n x : ℕ) → n ≡ x % 2 ^ 32 → counter_after a n ≡ (x + (one_done a + one_taken a)) % 2 ^ 32
counted (Done w) n x e = omega (arith, e)
counted (Taken t) n x e = omega (arith, e)
counted (Stopped why pc) n x e = omega (arith, e)

module _ {M : Type 0} (r : Rules M) where
  one_step : (s : Machine M) (x : ℕ) → cc s ≡ x % 2 ^ 32 → cc (board.stepped r s).1 ≡ (x + (one_done (board.stepped r s).0 + one_taken (board.stepped r s).0)) % 2 ^ 32
  one_step s x e = (step_counts r s).grows ∙ counted (board.stepped r s).0 (cc s) x e

  both : List (Made M) → ℕ
  both xs = total one_done xs + total one_taken xs

  -- the steps of a run that are left, after a step that answered a
  after_one : (s : Machine M) (xs : List (Made M)) (a : Answer) (x : ℕ) → cc s ≡ x % 2 ^ 32 → cc (last_from s xs) ≡ (x + both xs) % 2 ^ 32 →
      cc (last_from s (unless_stopped a xs)) ≡ (x + both (unless_stopped a xs)) % 2 ^ 32
  unfolding both
  after_one s xs (Done w) x e h = h
  after_one s xs (Taken t) x e h = h
  after_one s xs (Stopped why pc) x e h = omega (arith, e)

  running : (n : ℕ) (s : Machine M) (x : ℕ) → cc s ≡ x % 2 ^ 32 → cc (last_from s (run_steps r n s)) ≡ (x + both (run_steps r n s)) % 2 ^ 32
  unfolding run_steps both
  running zero s x e = omega (arith, e)
  running (suc n) s x e =
      let a = (board.stepped r s).0 in
      let t = (board.stepped r s).1 in
      let y = x + (one_done a + one_taken a) in
      let first = one_step s x e in
      let rest = after_one t (run_steps r n t) a y first (running n t y first) in
      rest ∙ ap (λ k. k % 2 ^ 32) (omega arith)

  calling : (s : Machine M) (q : Request) (x : ℕ) → cc s ≡ x % 2 ^ 32 → cc (after r s q) ≡ (x + reported (tells r s q)) % 2 ^ 32
  unfolding both
  calling s (load i) x e = ap (λ z. z.cc) (keeping r s (load i)).status ∙ omega (arith, e)
  calling s (lines w) x e = ap (λ z. z.cc) (keeping r s (lines w)).status ∙ omega (arith, e)
  calling s (look a) x e = omega (arith, e)
  calling s (show i) x e = omega (arith, e)
  calling s step x e = one_step s x e
  calling s (run n) x e = running n s x e

  pub counter_sums : (s : Machine M) (qs : List Request) (x : ℕ) → cc s ≡ x % 2 ^ 32 → cc (finally r s qs) ≡ (x + all_reported (all_told r s qs)) % 2 ^ 32
  counter_sums s [] x e = omega (arith, e)
  counter_sums s (q ∷ qs) x e =
      counter_sums (after r s q) qs (x + reported (tells r s q)) (calling s q x e) ∙ ap (λ k. k % 2 ^ 32) (omega arith)
