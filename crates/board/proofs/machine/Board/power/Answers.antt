use Rattle.std.proofs.Common.{sym, subst, rules}
use Rattle.board.specs.Alignment.{Aligned}
use Rattle.board.proofs.Alignment.{reset_aligned}
use Rattle.board.proofs.machine.Board.power.Goals as goal

pub returns : goal.returns
returns g c = record {
  sound = c.requires;
  state = search rules;
  aligned = subst Aligned (sym c.new.ensures.state) (reset_aligned c.args.config c.args.registers);
}
