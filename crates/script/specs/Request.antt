-- The calls of a script as values, and what each is told.
use Rattle.std.specs.Prelude.{ℕ, List, Result}
use denote.Ref.{Bor}
use Rattle.image.specs.Checking as image
use Rattle.image.specs.Meaning.{answer_in}
use Rattle.bus.specs.declared.fault.Fault.{Fault}
use Rattle.cpu.specs.declared.answer.Answer.{Answer}
use Rattle.board.specs.declared.refusals.LinesRefused.{LinesRefused}
use Rattle.board.specs.declared.refusals.ShowRefused.{ShowRefused}
use Rattle.script.specs.declared.call.Call.{Call}
use Rattle.script.specs.declared.call.Call.TheVariants as calls
use Rattle.script.specs.declared.call.Reply.{Reply}
use Rattle.script.specs.declared.call.Reply.TheVariants as replies

pub data Request : Type 0 where
  load : List ℕ → Request
  lines : ℕ → Request
  look : ℕ → Request
  show : ℕ → Request
  step : Request
  run : ℕ → Request

pub data Told : Type 0 where
  loaded : image.Answer → Told
  lined : Result (Unit {0}) LinesRefused → Told
  looked : Result ℕ Fault → Told
  shown : Result ℕ ShowRefused → Told
  stepped : Answer → Told
  ran : ℕ → ℕ → ℕ → Told

abbrev pub request : Call (Bor (List ℕ)) → Request
request (calls.Load bytes) = load bytes.now
request (calls.Lines w) = lines w
request (calls.Look a) = look a
request (calls.Show i) = show i
request calls.Step = step
request (calls.Run n) = run n

abbrev pub told : Reply → Told
told (replies.Load x) = loaded (answer_in x)
told (replies.Lines x) = lined x
told (replies.Look x) = looked x
told (replies.Show x) = shown x
told (replies.Step a) = stepped a
told (replies.Run done taken ending) = ran done taken ending
