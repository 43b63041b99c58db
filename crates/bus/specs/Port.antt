-- What a port means: eight device bytes, the words data and strobe, and the bytes sent so far.
use Rattle.std.specs.Prelude.{ℕ, ◌%◌, Bool, cond, not, ◌&&◌, List, [], ◌∷◌, ◌++◌, length, ◌==◌, nat_lt, slice_set}
use Rattle.bus.specs.Block.{covered, home_in, byte_in, word_in, with_word}
use Rattle.bus.specs.Rules.{Rules}
use Rattle.bus.specs.declared.kind.Kind.TheVariants.{Device}
use Rattle.bus.specs.declared.fault.Layer.TheVariants as layers

-- `room` is how many bytes the list of sent bytes takes
pub record Sender : Type 0 where
  pub registers : List ℕ
  pub gone : List ℕ
  pub room : ℕ

abbrev pub payload : List ℕ → ℕ
payload bs = word_in bs 0 % 256

abbrev pub strobe : List ℕ → ℕ
strobe bs = word_in bs 4

-- a byte goes out where the strobe is not 0 and the list is not full
abbrev pub sends : Sender → Bool
sends m = not (strobe m.registers == 0) && nat_lt (length m.gone) m.room

abbrev pub after_send : Sender → Sender
after_send m = record { registers = with_word m.registers 4 0; gone = m.gone ++ payload m.registers ∷ []; room = m.room }

abbrev pub port_rules : Rules Sender
port_rules = record {
  kind = λ m a. covered Device m.registers a;
  home = λ _ a. home_in layers.Port a;
  byte = λ m a. byte_in m.registers a;
  lines = λ _. 0;
  sent = λ m. m.gone;
  stored = λ m a b. record { registers = slice_set m.registers a b; gone = m.gone; room = m.room };
  ticked = λ m. cond (sends m) (after_send m) m;
}
