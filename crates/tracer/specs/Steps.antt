-- The lines of a run: one for each step, up to a stop.
use Rattle.std.specs.Prelude.{ℕ, zero, suc, ◌+◌, cond, List, [], ◌∷◌}
use Rattle.bus.specs.Rules.{Rules}
use Rattle.cpu.specs.declared.answer.Answer.{Answer}
use Rattle.board.specs.Machine.{Machine}
use Rattle.board.specs.Step.{stepped}
use Rattle.report.specs.Outcomes.{outcome_of, is_stopped}
use Rattle.report.specs.declared.line.StepLine.{StepLine}

-- step k, from the PC before it and what it answers
abbrev pub line_of : ℕ → ℕ → Answer → StepLine
line_of k pc a = record { step = k; pc = pc; outcome = outcome_of a }

abbrev pub line_at : {M : Type 0} → Rules M → ℕ → Machine M → StepLine
line_at r k s = line_of k s.cpu.pc (stepped r s).0

-- what follows a step's line: nothing after a stop
abbrev pub unless_stopped : StepLine → List StepLine → List StepLine
unless_stopped l more = cond (is_stopped l.outcome) [] more

-- n steps at most, numbered from k on
unfoldable pub lines : {M : Type 0} → Rules M → ℕ → ℕ → Machine M → List StepLine
lines r zero k s = []
lines r (suc n) k s = line_at r k s ∷ unless_stopped (line_at r k s) (lines r n (k + 1) (stepped r s).1)
