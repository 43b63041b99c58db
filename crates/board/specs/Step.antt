-- One step of a machine: the order of its checks, what it answers, and what it leaves.
use Rattle.std.specs.Prelude.{ℕ, Some, None, Ok, Err, Option, Result}
use Rattle.isa.specs.Decode.{decoded}
use Rattle.isa.specs.declared.instruction.Instruction.{Instruction}
use Rattle.bus.specs.Rules.{Rules, read_answer}
use Rattle.bus.specs.declared.fault.Fault.{Fault}
use Rattle.bus.specs.declared.size.Size.TheVariants.{Word}
use Rattle.cpu.specs.Entry.{entered}
use Rattle.cpu.specs.Exception.{while_executing, while_fetching}
use Rattle.cpu.specs.Pending.{pending, breakpoint_hit, interrupt_line}
use Rattle.cpu.specs.State.{with_status, with_ip, counted}
use Rattle.cpu.specs.declared.answer.Answer.{Answer}
use Rattle.cpu.specs.declared.answer.Answer.TheVariants.{Done, Taken, Stopped}
use Rattle.cpu.specs.declared.answer.Stop.{Stop}
use Rattle.cpu.specs.declared.answer.Stop.TheVariants.{Reserved}
use Rattle.cpu.specs.declared.exception.Exception.{Exception}
use Rattle.cpu.specs.declared.exception.Exception.TheVariants.{Breakpoint, Interrupt}
use Rattle.cpu.specs.declared.reason.Trouble.{Trouble}
use Rattle.cpu.specs.declared.reason.Trouble.TheVariants.{Bus}
use Rattle.board.specs.Execute.{barred, executed}
use Rattle.board.specs.Machine.{Machine, machine, with_cpu}

-- a bus fault as a trouble, which keeps it whole
abbrev pub as_trouble : {V : Type 0} → Result V Fault → Result V Trouble
as_trouble (Ok v) = Ok v
as_trouble (Err f) = Err (Bus f)

module _ {M : Type 0} (r : Rules M) where
  -- the lines pending as a step begins
  abbrev pub pend : Machine M → ℕ
  pend s = pending s.cpu (r.lines s.bus)

  -- the machine with them remembered in IP
  abbrev pub noted : Machine M → Machine M
  noted s = with_cpu s (with_status s.cpu (with_ip s.cpu.status (pend s)))

  -- how every step ends that does not stop: the counter grows, and the bus ticks
  abbrev pub settled : Machine M → Machine M
  settled s = machine (counted s.cpu) (r.ticked s.bus)

  -- the handler of an exception is next
  abbrev pub departed : Machine M → Exception → Machine M
  departed s e = settled (with_cpu s (entered s.cpu e))

  abbrev pub takes : Machine M → Exception → Answer × Machine M
  takes s e = (Taken e, departed (noted s) e)

  -- a stop leaves the machine as it was
  abbrev pub stops : Machine M → Stop → Answer × Machine M
  stops s why = (Stopped why s.cpu.pc, s)

  abbrev pub if_executed : Machine M → ℕ → Result (Machine M) Trouble → Answer × Machine M
  if_executed s w (Ok t) = (Done w, settled t)
  if_executed s w (Err t) = takes s (while_executing t)

  abbrev pub if_barred : Machine M → ℕ → Instruction → Option Stop → Answer × Machine M
  if_barred s w i (Some why) = stops s why
  if_barred s w i None = if_executed s w (executed r (noted s) i)

  abbrev pub if_decoded : Machine M → ℕ → Option Instruction → Answer × Machine M
  if_decoded s w None = stops s Reserved
  if_decoded s w (Some i) = if_barred s w i (barred s.cpu i)

  abbrev pub fetched : Machine M → Result ℕ Trouble
  fetched s = as_trouble (read_answer r s.bus Word s.cpu.pc)

  abbrev pub if_fetched : Machine M → Result ℕ Trouble → Answer × Machine M
  if_fetched s (Err t) = takes s (while_fetching t)
  if_fetched s (Ok w) = if_decoded s w (decoded w)

  abbrev pub if_interrupted : Machine M → Option ℕ → Answer × Machine M
  if_interrupted s (Some line) = takes s (Interrupt line)
  if_interrupted s None = if_fetched s (fetched s)

  abbrev pub if_broken : Machine M → Option ℕ → Answer × Machine M
  if_broken s (Some k) = takes s (Breakpoint (Some k))
  if_broken s None = if_interrupted s (interrupt_line s.cpu (pend s))

  -- breakpoint registers first, then interrupts, the fetch, the word, its configuration and alignment, and last what it does
  abbrev pub stepped : Machine M → Answer × Machine M
  stepped s = if_broken s (breakpoint_hit s.cpu)
