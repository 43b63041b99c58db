-- Why an image is not traced: what is printed of it, and what loading answered.
use Rattle.std.specs.Prelude.{ℕ, Result, Ok, Err}
use Rattle.image.specs.Checking.{Answer, accepted, refused}
use Rattle.image.specs.Meaning.{cause_number}
use Rattle.tracer.specs.declared.refusal.Refusal.{Refusal}
use Rattle.tracer.specs.declared.refusal.Refusal.TheVariants.{TooLong, Image}

abbrev pub number_of : Refusal → ℕ
number_of TooLong = 0
number_of (Image r) = cause_number r.cause

-- the place in the image; of one that is too long, the first byte too many
abbrev pub place_of : Refusal → ℕ
place_of TooLong = 65536
place_of (Image r) = r.place

abbrev pub answer_of : Result ℕ Refusal → Answer
answer_of (Ok n) = accepted n
answer_of (Err e) = refused (number_of e) (place_of e)
