use Rattle.std.proofs.Common.{◌+◌, ◌<◌, sym, ap, ◌∙◌, subst, arith}
use Rattle.board.specs.Machine.{seen}
use Rattle.board.proofs.Runs.{Left, starts, done_more, taken_more, all_made, stopped_at}
use Rattle.board.proofs.machine.Board.run.Goals as goal
use Rattle.board.proofs.machine.Board.run.Goals.{in-Done, in-Taken}

pub loop-made-init : goal.loop-made-init
loop-made-init g c = (c.requires, omega arith, omega arith, starts g.B.Bus.rules c.args.budget (seen g.B.Bus.means c.args.self.now))

pub loop-made-preserved : goal.loop-made-preserved
loop-made-preserved g c =
    let b = g.B.Bus in
    let n = c.args.budget in
    let k = c.loop-made.made in
    let s = seen b.means c.args.self.now in
    let u = seen b.means c.loop-made.self in
    let state = sym c.step.ensures.state in
    let fact : k < n = omega arith in
    elim c.match-step.branch [
      | in-Done w ↦
          let more = done_more b.rules n k s u c.loop-made.done c.loop-made.taken w.in-Done.field-0 fact (sym c.step.ensures.answer ∙ w.in-Done.is) c.loop-made.invariant.3 in (
            c.step.ensures.sound,
            omega (arith, w.done-is),
            omega (arith, w.taken-is),
            subst (λ d. Left b.rules n (k + 1) s (seen b.means c.step.new.self) d c.match-step.taken) (sym w.done-is)
                (subst (λ t. Left b.rules n (k + 1) s (seen b.means c.step.new.self) (c.loop-made.done + 1) t) (sym w.taken-is)
                (subst (λ m. Left b.rules n (k + 1) s m (c.loop-made.done + 1) c.loop-made.taken) state more)),
          )
      | in-Taken w ↦
          let more = taken_more b.rules n k s u c.loop-made.done c.loop-made.taken w.in-Taken.field-0 fact (sym c.step.ensures.answer ∙ w.in-Taken.is) c.loop-made.invariant.3 in (
            c.step.ensures.sound,
            omega (arith, w.done-is),
            omega (arith, w.taken-is),
            subst (λ d. Left b.rules n (k + 1) s (seen b.means c.step.new.self) d c.match-step.taken) (sym w.done-is)
                (subst (λ t. Left b.rules n (k + 1) s (seen b.means c.step.new.self) c.loop-made.done t) (sym w.taken-is)
                (subst (λ m. Left b.rules n (k + 1) s m c.loop-made.done (c.loop-made.taken + 1)) state more)),
          )
    ]

pub returns-in-Stopped : goal.returns-in-Stopped
returns-in-Stopped g c =
    let b = g.B.Bus in
    let u = seen b.means c.loop-made.self in
    let ran = stopped_at b.rules c.args.budget c.loop-made.made (seen b.means c.args.self.now) u c.loop-made.done c.loop-made.taken
    c.in-Stopped.stop c.in-Stopped.pc (omega arith) (sym c.step.ensures.answer ∙ c.in-Stopped.is) c.loop-made.invariant.3 in
    record {
      sound = c.step.ensures.sound;
      state = c.step.ensures.state ∙ ran.lasts;
      done = ap (λ x. x.0) c.stopped_run.ensures ∙ ran.dones;
      taken = ap (λ x. x.1) c.stopped_run.ensures ∙ ran.takens;
      ending = ap (λ x. x.2) c.stopped_run.ensures ∙ ran.endings;
    }

pub returns : goal.returns
returns g c =
    let b = g.B.Bus in
    let ran = all_made b.rules c.args.budget c.loop-made.made (seen b.means c.args.self.now) (seen b.means c.loop-made.self)
    c.loop-made.done c.loop-made.taken (omega arith) c.loop-made.invariant.3 in
    record { sound = c.loop-made.invariant.0; state = ran.lasts; done = ran.dones; taken = ran.takens; ending = ran.endings }
