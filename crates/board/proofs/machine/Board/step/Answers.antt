use Rattle.std.proofs.Common.{sym, ap, ◌∙◌, subst}
use Rattle.board.specs.Alignment.{Aligned}
use Rattle.board.specs.Counter.{counter_after, UnchangedByStop}
use Rattle.board.specs.Machine.{seen}
use Rattle.board.specs.Step.{stepped}
use Rattle.board.specs.Writers.{WritesOnly}
use Rattle.board.proofs.Alignment.{step_aligned}
use Rattle.board.proofs.Counter.{step_counts}
use Rattle.board.proofs.Writers.{step_writes}
use Rattle.board.proofs.machine.Board.step.Goals as goal

pub returns : goal.returns
returns g c =
    let b = g.B.Bus in
    let s = seen b.means c.args.self.now in
    let t = seen b.means c.make_step.new.self in
    let made = c.make_step.ensures in
    let counted = step_counts b.rules s in
    record {
      sound = made.sound;
      state = made.state;
      answer = made.answer;
      counter = ap (λ m. m.cpu.status.cc) made.state ∙ counted.grows ∙ ap (λ a. counter_after a s.cpu.status.cc) (sym made.answer);
      stop = subst (λ a. UnchangedByStop a s t) (sym made.answer) (subst (λ m. UnchangedByStop (stepped b.rules s).0 s m) (sym made.state) counted.stays);
      aligned = λ h. subst (λ m. Aligned m.cpu) (sym made.state) (step_aligned b.rules s h);
      writes = subst (λ a. WritesOnly a s.cpu t.cpu) (sym made.answer)
          (subst (λ m. WritesOnly (stepped b.rules s).0 s.cpu m.cpu) (sym made.state) (step_writes b.rules s));
    }
