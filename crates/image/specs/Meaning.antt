-- What the reader's values stand for.
use Rattle.std.specs.Prelude.{ℕ, List, take, drop, Some, None, Option, Ok, Err, Result}
use Rattle.image.specs.declared.bytes.Bytes.{Bytes}
use Rattle.image.specs.declared.line.DataLine.{DataLine}
use Rattle.image.specs.declared.line.Line.{Line}
use Rattle.image.specs.declared.line.Line.TheVariants.{Data, End}
use Rattle.image.specs.declared.refusal.Cause.{Cause}
use Rattle.image.specs.declared.refusal.Cause.TheVariants.{Form, Memory, Ending}
use Rattle.image.specs.declared.refusal.Refusal.{Refusal}
use Rattle.image.specs.Checking.{Answer, accepted, refused}
use Rattle.image.specs.Format as format
use Rattle.image.specs.Reading.{Reading, data_line, end_line, malformed}

-- the bytes that are left to be read
abbrev pub bytes_in : Bytes → List ℕ
bytes_in b = drop b.next (take b.count b.items)

abbrev pub data_in : DataLine → format.Data
data_in d = record { address = d.address; bytes = bytes_in d.bytes }

abbrev pub reading_in : Option Line → Reading
reading_in (Some (Data d)) = data_line (data_in d)
reading_in (Some (End n)) = end_line n
reading_in None = malformed

abbrev pub cause_number : Cause → ℕ
cause_number Form = 11
cause_number Memory = 12
cause_number Ending = 13

abbrev pub answer_in : Result ℕ Refusal → Answer
answer_in (Ok n) = accepted n
answer_in (Err r) = refused (cause_number r.cause) r.place
