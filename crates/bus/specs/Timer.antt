-- What a timer means: sixteen device bytes, the words period, count, control and status, and one line.
use Rattle.std.specs.Prelude.{ℕ, ◌-◌, ◌/◌, ◌%◌, ◌^◌, Bool, cond, ◌&&◌, List, [], ◌==◌, slice_set}
use Rattle.bus.specs.Block.{covered, home_in, byte_in, word_in, with_word}
use Rattle.bus.specs.Rules.{Rules}
use Rattle.bus.specs.declared.kind.Kind.TheVariants.{Device}
use Rattle.bus.specs.declared.fault.Layer.TheVariants as layers

-- `line` is the number of the line, `high` whether it is up
pub record Clock : Type 0 where
  pub registers : List ℕ
  pub line : ℕ
  pub high : Bool

abbrev pub period : List ℕ → ℕ
period bs = word_in bs 0

abbrev pub count : List ℕ → ℕ
count bs = word_in bs 4

abbrev pub control : List ℕ → ℕ
control bs = word_in bs 8

abbrev pub status : List ℕ → ℕ
status bs = word_in bs 12

-- control bit 0 lets the timer count
abbrev pub runs : List ℕ → Bool
runs bs = control bs % 2 == 1

-- the line is up where status bit 0 and control bit 1 are set
abbrev pub raises : List ℕ → Bool
raises bs = status bs % 2 == 1 && control bs / 2 % 2 == 1

-- a count of 0 starts again at the period and sets the status; any other falls by one
abbrev pub counted : List ℕ → List ℕ
counted bs = cond (count bs == 0) (with_word (with_word bs 4 (period bs)) 12 1) (with_word bs 4 (count bs - 1))

abbrev pub after_tick : List ℕ → List ℕ
after_tick bs = cond (runs bs) (counted bs) bs

abbrev pub timer_rules : Rules Clock
timer_rules = record {
  kind = λ m a. covered Device m.registers a;
  home = λ _ a. home_in layers.Timer a;
  byte = λ m a. byte_in m.registers a;
  lines = λ m. cond m.high (2 ^ m.line) 0;
  sent = λ _. [];
  stored = λ m a b. record { registers = slice_set m.registers a b; line = m.line; high = m.high };
  ticked = λ m. record { registers = after_tick m.registers; line = m.line; high = raises (after_tick m.registers) };
}
