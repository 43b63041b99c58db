-- What a step comes to, by whether its instruction is ready to be done or what halts it.
use Rattle.std.specs.Prelude.{Some, None, Ok, Err, Option, Result}
use Rattle.bus.specs.Rules.{Rules}
use Rattle.cpu.specs.declared.answer.Answer.{Answer}
use Rattle.cpu.specs.declared.answer.Stop.{Stop}
use Rattle.board.specs.Execute.{executed}
use Rattle.board.specs.Machine.{Machine}
use Rattle.board.specs.Step.{noted, takes, stops, if_executed}
use Rattle.board.specs.declared.halt.Halt.{Halt}
use Rattle.board.specs.declared.halt.Halt.TheVariants as halts
use Rattle.board.specs.declared.halt.Ready.{Ready}

-- an instruction may be done where nothing bars it
abbrev pub allowed : Option Stop → Result (Unit {0}) Stop
allowed None = Ok tt
allowed (Some why) = Err why

-- the instruction at PC is ready, or the step halts
abbrev pub concluded : {M : Type 0} → Rules M → Machine M → Result Ready Halt → Answer × Machine M
concluded r s (Ok x) = if_executed r s x.word (executed r (noted r s) x.instruction)
concluded r s (Err (halts.Exception e)) = takes r s e
concluded r s (Err (halts.Stop why)) = stops r s why
