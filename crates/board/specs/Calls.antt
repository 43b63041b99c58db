-- The calls that set the outside lines, look at a byte and show a register.
use Rattle.std.specs.Prelude.{ℕ, Bool, cond, Ok, Err, Result, nat_le, nat_lt}
use Rattle.bus.specs.Rules.{Rules, read_answer}
use Rattle.bus.specs.declared.fault.Fault.{Fault}
use Rattle.bus.specs.declared.size.Size.TheVariants.{Byte}
use Rattle.cpu.specs.Show.{shown}
use Rattle.cpu.specs.State.{with_outside}
use Rattle.cpu.specs.declared.processor.Processor.{Processor}
use Rattle.board.specs.Machine.{Machine}
use Rattle.board.specs.declared.refusals.LinesRefused.{LinesRefused}
use Rattle.board.specs.declared.refusals.ShowRefused.{ShowRefused}

-- no bit at or above INT is set: the word is within the mask of the configured lines
abbrev pub lines_known : Processor → ℕ → Bool
lines_known p w = nat_le w p.config.mask

-- 14: a line is set that the processor does not have
abbrev pub lines_answer : Processor → ℕ → Result (Unit {0}) LinesRefused
lines_answer p w = cond (lines_known p w) (Ok tt) (Err (record {}))

abbrev pub after_lines : Processor → ℕ → Processor
after_lines p w = cond (lines_known p w) (with_outside p w) p

-- the byte at an address, by a read of the bus
abbrev pub look_answer : {M : Type 0} → Rules M → Machine M → ℕ → Result ℕ Fault
look_answer r s a = read_answer r s.bus Byte a

-- 15: there is nothing above 43
abbrev pub show_answer : Processor → ℕ → Result ℕ ShowRefused
show_answer p i = cond (nat_lt i 44) (Ok (shown p i)) (Err (record {}))
