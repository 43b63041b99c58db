use Rattle.std.proofs.Common.{◌/◌, is_some, None, sym, ap, subst}
use Rattle.bus.specs.Cache.{RightLine, word_for, set_of}
use Rattle.bus.proofs.Words.{same_everywhere}
use Rattle.bus.proofs.cache.Cache.new.Goals as goal

pub returns-clause-right : goal.returns-clause-right
returns-clause-right g c k = subst (λ l. RightLine g.B.Bus.rules (g.B.Bus.means c.args.below) k l) (sym (same_everywhere 256 None k)) tt

pub returns-clause-held : goal.returns-clause-held
returns-clause-held g c a = ap (λ l. is_some (word_for (a / 4) l)) (same_everywhere 256 None (set_of a))
