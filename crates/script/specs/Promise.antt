-- The promise about scripts, whole: what holds of every script of calls, whatever the bus.
use Rattle.std.specs.Prelude.{◌≡◌, ◌%◌, ◌^◌, List}
use Rattle.bus.specs.Rules.{Rules}
use Rattle.board.specs.Machine.{Machine}
use Rattle.script.specs.Account.{all_told, all_steps, finally}
use Rattle.script.specs.Book.{MemoryIsBook}
use Rattle.script.specs.Counter.{all_reported}
use Rattle.script.specs.Refusals.{RefusalsTouchNothing}
use Rattle.script.specs.Request.{Request, Told}
use Rattle.script.specs.Returns.{ReturnsResume}

-- a board that power gave as `first` was made the calls of `script`; it has answered `answers` and is `last` now
pub record Promise {M : Type 0} (r : Rules M) (first : Machine M) (script : List Request) (answers : List Told) (last : Machine M) : Type 0 where
  -- each call has answered as the account says, and processor and bus meaning are the account's
  pub answered : answers ≡ all_told r first script
  pub ended : last ≡ finally r first script
  -- the cycle counter is the instructions done and exceptions taken that the answers report
  pub counter : last.cpu.status.cc ≡ all_reported answers % 2 ^ 32
  -- each exception's return goes on where the program was broken off, unless something wrote what it reads
  pub returns : ReturnsResume (all_steps r first script)
  -- ROM is as it was, and memory is what was stored and loaded
  pub memory : MemoryIsBook r first script last.bus
  -- what is turned down touches nothing
  pub refusals : RefusalsTouchNothing r first script
