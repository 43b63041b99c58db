-- A run, one step at a time: what it has counted, with what is left, is what it counts in all. Assumes nothing.
use Rattle.std.proofs.Common.{◌≡◌, ℕ, suc, ◌+◌, ◌-◌, ◌<◌, ◌≤◌, List, [], ◌∷◌, sym, refl, ap, ◌∙◌, arith}
use Rattle.bus.specs.Rules.{Rules}
use Rattle.cpu.specs.Exception.{stop_number}
use Rattle.cpu.specs.declared.answer.Answer.{Answer}
use Rattle.cpu.specs.declared.answer.Answer.TheVariants.{Done, Taken, Stopped}
use Rattle.cpu.specs.declared.answer.Stop.{Stop}
use Rattle.cpu.specs.declared.exception.Exception.{Exception}
use Rattle.board.specs.Machine.{Machine}
use Rattle.board.specs.Run.{Made, step_from, unless_stopped, run_steps, one_done, one_taken, total, ending_from, ending, last_from}
use Rattle.board.specs.Step.{stepped}

-- k of n steps are made and have led from s to u, with so many done and taken
pub record Left {M : Type 0} (r : Rules M) (n k : ℕ) (s u : Machine M) (done taken : ℕ) : Type 0 where
  pub dones : done + total one_done (run_steps r (n - k) u) ≡ total one_done (run_steps r n s)
  pub takens : taken + total one_taken (run_steps r (n - k) u) ≡ total one_taken (run_steps r n s)
  pub endings : ending (run_steps r (n - k) u) ≡ ending (run_steps r n s)
  pub lasts : last_from u (run_steps r (n - k) u) ≡ last_from s (run_steps r n s)

module _ {M : Type 0} (r : Rules M) where
  next : (n k : ℕ) (u : Machine M) → k < n → run_steps r (n - k) u ≡ step_from r u ∷ unless_stopped (stepped r u).0 (run_steps r (n - (k + 1)) (stepped r u).1)
  unfolding run_steps
  next n k u h =
      let e : n - k ≡ suc (n - (k + 1)) = omega arith in
      ap (λ x. run_steps r x u) e

  none : (n k : ℕ) (u : Machine M) → n ≤ k → run_steps r (n - k) u ≡ []
  unfolding run_steps
  none n k u h =
      let e : n - k ≡ 0 = omega arith in
      ap (λ x. run_steps r x u) e

  pub starts : (n : ℕ) (s : Machine M) → Left r n 0 s s 0 0
  starts n s =
      let e : n - 0 ≡ n = omega arith in
      record {
        dones = ap (λ x. 0 + total one_done (run_steps r x s)) e ∙ omega arith;
        takens = ap (λ x. 0 + total one_taken (run_steps r x s)) e ∙ omega arith;
        endings = ap (λ x. ending (run_steps r x s)) e;
        lasts = ap (λ x. last_from s (run_steps r x s)) e;
      }

  -- a step that does not stop; a is what it answered
  goes : (n k : ℕ) (s u : Machine M) (d t : ℕ) (a : Answer) → k < n → (stepped r u).0 ≡ a →
      ((xs : List (Made M)) → unless_stopped a xs ≡ xs) → ((x : ℕ) → ending_from a x ≡ x) → Left r n k s u d t →
      Left r n (k + 1) s (stepped r u).1 (d + one_done a) (t + one_taken a)
  goes n k s u d t a h e on ends left =
      let rest = run_steps r (n - (k + 1)) (stepped r u).1 in
      let is : run_steps r (n - k) u ≡ step_from r u ∷ rest = next n k u h ∙ ap (λ x. step_from r u ∷ unless_stopped x rest) e ∙ ap (λ xs. step_from r u ∷ xs) (on rest) in
      let dn : total one_done (run_steps r (n - k) u) ≡ one_done a + total one_done rest = ap (total one_done) is ∙ ap (λ x. one_done x + total one_done rest) e in
      let tk : total one_taken (run_steps r (n - k) u) ≡ one_taken a + total one_taken rest = ap (total one_taken) is ∙ ap (λ x. one_taken x + total one_taken rest) e in
      record {
        dones = omega (arith, dn, left.dones);
        takens = omega (arith, tk, left.takens);
        endings = sym (ends (ending rest)) ∙ ap (λ x. ending_from x (ending rest)) (sym e) ∙ sym (ap ending is) ∙ left.endings;
        lasts = sym (ap (last_from u) is) ∙ left.lasts;
      }

  pub done_more : (n k : ℕ) (s u : Machine M) (d t w : ℕ) → k < n → (stepped r u).0 ≡ Done w → Left r n k s u d t → Left r n (k + 1) s (stepped r u).1 (d + 1) t
  done_more n k s u d t w h e left =
      let l = goes n k s u d t (Done w) h e (λ xs. refl) (λ x. refl) left in
      record { dones = l.dones; takens = omega (arith, l.takens); endings = l.endings; lasts = l.lasts }

  pub taken_more : (n k : ℕ) (s u : Machine M) (d t : ℕ) (x : Exception) → k < n → (stepped r u).0 ≡ Taken x → Left r n k s u d t → Left r n (k + 1) s (stepped r u).1 d (t + 1)
  taken_more n k s u d t x h e left =
      let l = goes n k s u d t (Taken x) h e (λ xs. refl) (λ y. refl) left in
      record { dones = omega (arith, l.dones); takens = l.takens; endings = l.endings; lasts = l.lasts }

  -- what the run answers
  pub record Ran (n : ℕ) (s u : Machine M) (d t e : ℕ) : Type 0 where
    pub dones : d ≡ total one_done (run_steps r n s)
    pub takens : t ≡ total one_taken (run_steps r n s)
    pub endings : e ≡ ending (run_steps r n s)
    pub lasts : u ≡ last_from s (run_steps r n s)

  pub all_made : (n k : ℕ) (s u : Machine M) (d t : ℕ) → n ≤ k → Left r n k s u d t → Ran n s u d t 0
  all_made n k s u d t h left =
      let is = none n k u h in
      let dn : total one_done (run_steps r (n - k) u) ≡ 0 = ap (total one_done) is in
      let tk : total one_taken (run_steps r (n - k) u) ≡ 0 = ap (total one_taken) is in
      record {
        dones = omega (arith, dn, left.dones);
        takens = omega (arith, tk, left.takens);
        endings = sym (ap ending is) ∙ left.endings;
        lasts = sym (ap (last_from u) is) ∙ left.lasts;
      }

  pub stopped_at : (n k : ℕ) (s u : Machine M) (d t : ℕ) (why : Stop) (pc : ℕ) → k < n → (stepped r u).0 ≡ Stopped why pc → Left r n k s u d t →
      Ran n s (stepped r u).1 d t (stop_number why)
  stopped_at n k s u d t why pc h e left =
      let rest = run_steps r (n - (k + 1)) (stepped r u).1 in
      let is : run_steps r (n - k) u ≡ step_from r u ∷ [] = next n k u h ∙ ap (λ x. step_from r u ∷ unless_stopped x rest) e in
      let dn : total one_done (run_steps r (n - k) u) ≡ 0 = ap (total one_done) is ∙ ap (λ x. one_done x + 0) e in
      let tk : total one_taken (run_steps r (n - k) u) ≡ 0 = ap (total one_taken) is ∙ ap (λ x. one_taken x + 0) e in
      record {
        dones = omega (arith, dn, left.dones);
        takens = omega (arith, tk, left.takens);
        endings = sym (ap ending is ∙ ap (λ x. ending_from x 0) e) ∙ left.endings;
        lasts = sym (ap (last_from u) is) ∙ left.lasts;
      }
