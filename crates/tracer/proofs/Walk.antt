-- The lines of a run, one step at a time: n steps in all, of which step k is next. ls are the lines so far, and whole those of all.
use Rattle.std.proofs.Common.{◌≡◌, ℕ, suc, ◌+◌, ◌-◌, ◌<◌, ◌≤◌, true, false, List, [], ◌∷◌, ◌++◌, sym, ap, ◌∙◌, append_assoc, append-nil, arith}
use Rattle.std.proofs.lemmas.Bool.{cond-false, cond-true}
use Rattle.bus.specs.Rules.{Rules}
use Rattle.board.specs.Machine.{Machine}
use Rattle.board.specs.Step.{stepped}
use Rattle.report.specs.Outcomes.{is_stopped}
use Rattle.report.specs.declared.line.StepLine.{StepLine}
use Rattle.tracer.specs.Steps.{line_at, unless_stopped, lines}

module _ {M : Type 0} (r : Rules M) where
  next : (n k : ℕ) (s : Machine M) {l : StepLine} → k ≤ n → l ≡ line_at r k s →
      lines r (n + 1 - k) k s ≡ l ∷ unless_stopped l (lines r (n + 1 - (k + 1)) (k + 1) (stepped r s).1)
  unfolding lines
  next n k s le is =
      let e : n + 1 - k ≡ suc (n + 1 - (k + 1)) = omega arith in
      rw (e, is)

  -- one line more
  pub one_more : (n k : ℕ) (s t : Machine M) (ls : List StepLine) {l : StepLine} {now whole : List StepLine} → k ≤ n → l ≡ line_at r k s → t ≡ (stepped r s).1 →
      is_stopped l.outcome ≡ false → now ≡ ls ++ l ∷ [] → ls ++ lines r (n + 1 - k) k s ≡ whole → now ++ lines r (n + 1 - (k + 1)) (k + 1) t ≡ whole
  one_more n k s t ls {l = l} le is to on e before =
      let rest = lines r (n + 1 - (k + 1)) (k + 1) (stepped r s).1 in
      let step = next n k s le is ∙ ap (λ more. l ∷ more) (cond-false (is_stopped l.outcome) [] rest on) in
      (λ i. e i ++ lines r (n + 1 - (k + 1)) (k + 1) (to i)) ∙ append_assoc ls (l ∷ []) rest ∙ ap (λ more. ls ++ more) (sym step) ∙ before

  -- the last line, of a stop
  pub the_last : (n k : ℕ) (s : Machine M) (ls : List StepLine) {l : StepLine} {now whole : List StepLine} → k ≤ n → l ≡ line_at r k s →
      is_stopped l.outcome ≡ true → now ≡ ls ++ l ∷ [] → ls ++ lines r (n + 1 - k) k s ≡ whole → now ≡ whole
  the_last n k s ls {l = l} le is stop e before =
      let step = next n k s le is ∙ ap (λ more. l ∷ more) (cond-true (is_stopped l.outcome) [] _ stop) in
      e ∙ ap (λ more. ls ++ more) (sym step) ∙ before

  -- all steps are made
  pub no_more : (n k : ℕ) (s : Machine M) {ls whole : List StepLine} → n < k → ls ++ lines r (n + 1 - k) k s ≡ whole → ls ≡ whole
  unfolding lines
  no_more n k s {ls = ls} lt before =
      let e : n + 1 - k ≡ 0 = omega arith in
      sym (append-nil ls) ∙ ap (λ x. ls ++ lines r x k s) (sym e) ∙ before
