-- Which lines are pending, whether they interrupt, and which breakpoint register matches.
use Rattle.std.specs.Prelude.{ℕ, zero, suc, ◌+◌, ◌/◌, ◌%◌, Bool, cond, not, ◌&&◌, List, Some, None, Option, ◌==◌, bit_and, bit_or, slice_index}
use Rattle.std.specs.Int.Count.{count_trailing_zeros}
use Rattle.cpu.specs.declared.processor.Processor.{Processor}

-- IP joined with the configured ones of the bus's and the outside lines
abbrev pub pending : Processor → ℕ → ℕ
pending p lines = bit_or p.status.ip (bit_and (bit_or lines p.outside) p.config.mask)

abbrev pub waiting : Processor → ℕ → ℕ
waiting p pend = bit_and pend p.status.im

abbrev pub interrupts : Processor → ℕ → Bool
interrupts p pend = p.status.enable.ie && not (waiting p pend == 0)

-- the lowest line both pending and enabled
abbrev pub lowest_line : Processor → ℕ → ℕ
lowest_line p pend = count_trailing_zeros 32 (waiting p pend)

abbrev pub interrupt_line : Processor → ℕ → Option ℕ
interrupt_line p pend = cond (interrupts p pend) (Some (lowest_line p pend)) None

-- a breakpoint register is on by bit 0, and matches by bits 31 to 2
abbrev pub matches : ℕ → ℕ → Bool
matches pc b = b % 2 == 1 && b / 4 == pc / 4

-- the first of the n registers from k on that matches
abbrev pub first_match : ℕ → List ℕ → ℕ → ℕ → Option ℕ
first_match pc bs k zero = None
first_match pc bs k (suc n) = cond (matches pc (slice_index bs k)) (Some k) (first_match pc bs (k + 1) n)

abbrev pub breakpoint_hit : Processor → Option ℕ
breakpoint_hit p = first_match p.pc p.status.breakpoints 0 4
