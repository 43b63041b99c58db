-- The text of a trace, from the bus that the image is loaded into.
use Rattle.std.specs.Prelude.{ℕ, cond, List, length, replicate, nat_lt}
use Rattle.bus.specs.Rules.{Rules}
use Rattle.cpu.specs.Config.{configuration}
use Rattle.cpu.specs.State.{reset}
use Rattle.cpu.specs.declared.processor.Processor.{Processor}
use Rattle.image.specs.Checking.{Answer, accepted, refused}
use Rattle.board.specs.Load.{load_answer, loaded_into}
use Rattle.board.specs.Machine.{Machine, machine}
use Rattle.report.specs.Lines.{refusal_text, trace_text}
use Rattle.tracer.specs.Steps.{lines}

-- CFG, EBA and DEBA, and every register alike
abbrev pub first_processor : Processor
first_processor = reset (configuration 0x00101137 0x00000000 0x00000800) (replicate 32 0xA5A5A5A5)

module _ {M : Type 0} (r : Rules M) where
  -- what an image is told: one of more than 65536 bytes is not looked at
  abbrev pub admitted : Machine M → List ℕ → Answer
  admitted s image = cond (nat_lt 65536 (length image)) (refused 0 65536) (load_answer r s image)

  -- after that answer: the refusal alone, or the lines of 64 steps at most
  abbrev pub after_load : Machine M → Answer → List ℕ
  after_load s (accepted n) = trace_text (lines r 64 1 s)
  after_load s (refused number place) = refusal_text number place

  abbrev pub trace_on : M → List ℕ → List ℕ
  trace_on m image = after_load (loaded_into r (machine first_processor m) image) (admitted (machine first_processor m) image)
