-- The numbers of exceptions and stops, and which exception a trouble raises.
use Rattle.std.specs.Prelude.{ℕ, Bool, true, false, None}
use Rattle.cpu.specs.declared.answer.Stop.{Stop}
use Rattle.cpu.specs.declared.answer.Stop.TheVariants.{Reserved, NotConfigured, Misaligned}
use Rattle.cpu.specs.declared.exception.Exception.{Exception}
use Rattle.cpu.specs.declared.exception.Exception.TheVariants.{Breakpoint, FetchFault, DataFault, DivideByZero, Interrupt, SystemCall}
use Rattle.cpu.specs.declared.phase.Phase.{Phase}
use Rattle.cpu.specs.declared.phase.Phase.TheVariants.{Fetching, Executing}
use Rattle.cpu.specs.declared.reason.Trouble.{Trouble}
use Rattle.cpu.specs.declared.reason.Trouble.TheVariants.{Bus, Divisor, Break, Scall}

abbrev pub exception_number : Exception → ℕ
exception_number (Breakpoint k) = 1
exception_number (FetchFault f) = 2
exception_number (DataFault f) = 4
exception_number DivideByZero = 5
exception_number (Interrupt line) = 6
exception_number SystemCall = 7

abbrev pub is_breakpoint : Exception → Bool
is_breakpoint (Breakpoint k) = true
is_breakpoint (FetchFault f) = false
is_breakpoint (DataFault f) = false
is_breakpoint DivideByZero = false
is_breakpoint (Interrupt line) = false
is_breakpoint SystemCall = false

abbrev pub stop_number : Stop → ℕ
stop_number Reserved = 8
stop_number NotConfigured = 9
stop_number Misaligned = 10

-- a bus fault keeps its cause, address and layer
abbrev pub while_executing : Trouble → Exception
while_executing (Bus f) = DataFault f
while_executing Divisor = DivideByZero
while_executing Break = Breakpoint None
while_executing Scall = SystemCall

abbrev pub while_fetching : Trouble → Exception
while_fetching (Bus f) = FetchFault f
while_fetching Divisor = DivideByZero
while_fetching Break = Breakpoint None
while_fetching Scall = SystemCall

-- in each phase of a step
abbrev pub raised : Trouble → Phase → Exception
raised t Fetching = while_fetching t
raised t Executing = while_executing t
