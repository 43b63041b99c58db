-- The text so far is the header and the lines of the steps so far.
use Rattle.std.proofs.Common.{◌≡◌, ◌++◌, take, string_bytes}
use Rattle.std.specs.List.{flat_map}
use Rattle.report.specs.Lines.{header, step_text}
use Rattle.report.proofs.whole.trace.Given as goal

abbrev pub invariant-loop-line : goal.invariant-loop-line
invariant-loop-line l = string_bytes l.text ≡ header ++ flat_map step_text (take l.line-index l.lines)
