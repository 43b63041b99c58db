-- What a fork means: both its sides, the low one below the split and the high one from there on.
use Rattle.std.specs.Prelude.{ℕ, ◌-◌, ◌*◌, ◌/◌, Bool, cond, ◌++◌, bit_or, nat_lt}
use Rattle.bus.specs.Rules.{Rules}

pub record Both (L H : Type 0) : Type 0 where
  pub split : ℕ
  pub low : L
  pub high : H

module _ {L H : Type 0} where
  abbrev pub both : ℕ → L → H → Both L H
  both s l h = record { split = s; low = l; high = h }

  -- the split with its low two bits cleared
  abbrev pub border : Both L H → ℕ
  border m = m.split / 4 * 4

  abbrev pub is_low : Both L H → ℕ → Bool
  is_low m a = nat_lt a (border m)

  abbrev pub with_low : Both L H → L → Both L H
  with_low m l = both m.split l m.high

  abbrev pub with_high : Both L H → H → Both L H
  with_high m h = both m.split m.low h

abbrev pub fork_rules : {L H : Type 0} → Rules L → Rules H → Rules (Both L H)
fork_rules l h = record {
  kind = λ m a. cond (is_low m a) (l.kind m.low a) (h.kind m.high (a - border m));
  home = λ m a. cond (is_low m a) (l.home m.low a) (h.home m.high (a - border m));
  byte = λ m a. cond (is_low m a) (l.byte m.low a) (h.byte m.high (a - border m));
  lines = λ m. bit_or (l.lines m.low) (h.lines m.high);
  sent = λ m. l.sent m.low ++ h.sent m.high;
  stored = λ m a b. cond (is_low m a) (with_low m (l.stored m.low a b)) (with_high m (h.stored m.high (a - border m) b));
  ticked = λ m. both m.split (l.ticked m.low) (h.ticked m.high);
}
