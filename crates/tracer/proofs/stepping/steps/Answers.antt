-- A line more, the line of a stop, and no step left.
use Rattle.std.proofs.Common.{◌≡◌, ◌+◌, true, false, vec_items, sym, ap, ◌∙◌, subst, arith}
use Rattle.board.specs.Machine.{seen}
use Rattle.report.specs.Outcomes.{is_stopped}
use Rattle.tracer.proofs.Walk.{one_more, the_last, no_more}
use Rattle.tracer.proofs.stepping.steps.Goals as goal
use Rattle.tracer.proofs.stepping.steps.Goals.{else-loop-step-test, then-loop-step-test+in_ok-push+else-is_stopped+else-step-budget}

pub loop-step-preserved : goal.loop-step-preserved
loop-step-preserved g c =
    let b = g.B.Bus in
    let on : is_stopped c.step_line-line.result.outcome ≡ false = sym c.is_stopped.ensures.value ∙ c.if-is_stopped.false in (
      c.step_line-line.ensures.sound,
      one_more b.rules c.args.budget c.loop-step.step (seen b.means c.loop-step.board) (seen b.means c.step_line-line.new.board) (vec_items c.loop-step.found) (omega arith)
          c.step_line-line.ensures.line c.step_line-line.ensures.state on c.in_ok-push.ensures.items c.loop-step.invariant.1,
    )

pub returns-then-is_stopped : goal.returns-then-is_stopped
returns-then-is_stopped g c =
    let b = g.B.Bus in
    let stop : is_stopped c.step_line-line.result.outcome ≡ true = sym c.is_stopped.ensures.value ∙ c.if-is_stopped.true in
    record {
      sound = c.step_line-line.ensures.sound;
      value = the_last b.rules c.args.budget c.loop-step.step (seen b.means c.loop-step.board) (vec_items c.loop-step.found) (omega arith)
          c.step_line-line.ensures.line stop c.in_ok-push.ensures.items c.loop-step.invariant.1;
    }

pub returns : goal.returns
returns g c =
    let b = g.B.Bus in
    let s = seen b.means c.loop-step.board in
    let k = c.loop-step.step in
    elim c.loop-step-test.branch [
      | else-loop-step-test w ↦ record {
        sound = subst (λ x. b.sound x.bus) (sym w.board-is) c.loop-step.invariant.0;
        value = ap vec_items w.found-is ∙ no_more b.rules c.args.budget k s (omega arith) c.loop-step.invariant.1;
      }
      | then-loop-step-test+in_ok-push+else-is_stopped+else-step-budget w ↦
          let t = seen b.means w.step_line-line.new.board in
          let on : is_stopped w.step_line-line.result.outcome ≡ false = sym w.is_stopped.ensures.value ∙ w.if-is_stopped.false in
          record {
            sound = subst (λ x. b.sound x.bus) (sym w.board-is) w.step_line-line.ensures.sound;
            value = ap vec_items w.found-is ∙ no_more b.rules c.args.budget (k + 1) t (omega arith)
                (one_more b.rules c.args.budget k s t (vec_items c.loop-step.found) (omega arith) w.step_line-line.ensures.line w.step_line-line.ensures.state on w.in_ok-push.ensures.items c.loop-step.invariant.1);
          }
    ]
