-- The lines of a trace: fields with commas between them, each line ended by a line feed.
use Rattle.std.specs.Prelude.{ℕ, Bool, List, [], ◌∷◌, ◌++◌, codes, count_by, decimal}
use Rattle.std.specs.List.{flat_map}
use Rattle.hex_text.specs.Digits.{hex_digits}
use Rattle.report.specs.declared.line.StepLine.{StepLine}
use Rattle.report.specs.Outcomes.{letter, value_of, is_done, is_taken}

-- fields with a comma before each but the first, and a line feed at the end
abbrev pub row : List (List ℕ) → List ℕ
row [] = codes "\n"
row (f ∷ []) = f ++ codes "\n"
row (f ∷ g ∷ fs) = f ++ (codes "," ++ row (g ∷ fs))

abbrev pub header : List ℕ
header = row (codes "n" ∷ codes "pc" ∷ codes "kind" ∷ codes "value" ∷ [])

abbrev pub step_text : StepLine → List ℕ
step_text s = row (decimal s.step ∷ hex_digits 8 s.pc ∷ letter s.outcome ∷ hex_digits 8 (value_of s.outcome) ∷ [])

-- the counts of instructions done and exceptions taken
abbrev pub end_text : ℕ → ℕ → List ℕ
end_text done taken = row (codes "end" ∷ decimal done ∷ decimal taken ∷ [])

-- the number of a refusal, and the place that it names
abbrev pub refusal_text : ℕ → ℕ → List ℕ
refusal_text number place = row (codes "refused" ∷ decimal number ∷ decimal place ∷ [])

-- whether a line tells of an instruction done, and of an exception taken
abbrev pub tells_done : StepLine → Bool
tells_done s = is_done s.outcome

abbrev pub tells_taken : StepLine → Bool
tells_taken s = is_taken s.outcome

-- the header, a line for each step, and the counts
abbrev pub trace_text : List StepLine → List ℕ
trace_text ss = header ++ (flat_map step_text ss ++ end_text (count_by tells_done ss) (count_by tells_taken ss))
