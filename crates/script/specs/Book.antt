-- The book of a script: for each address the byte last stored or loaded there, or the first. It is fed by done stores at
-- memory addresses and by loads, and not by the bus.
use Rattle.std.specs.Prelude.{◌≡◌, ℕ, ◌+◌, cond, List, [], ◌∷◌, ◌++◌, Some, None, Ok, Option, ◌==◌}
use Rattle.isa.specs.Decode.{decoded}
use Rattle.isa.specs.declared.instruction.Instruction.{Instruction}
use Rattle.bus.specs.Bytes.{low_bytes}
use Rattle.bus.specs.Rules.{Rules, Steady}
use Rattle.bus.specs.declared.kind.Kind.{Kind}
use Rattle.bus.specs.declared.kind.Kind.TheVariants.{Rom}
use Rattle.cpu.specs.State.{reg}
use Rattle.cpu.specs.declared.answer.Answer.{Answer}
use Rattle.cpu.specs.declared.answer.Answer.TheVariants.{Done, Taken, Stopped}
use Rattle.cpu.specs.declared.processor.Processor.{Processor}
use Rattle.image.specs.Checking as image
use Rattle.image.specs.Format.{Data}
use Rattle.image.specs.Memory.{is_memory}
use Rattle.board.specs.Data.{store_size, data_address}
use Rattle.board.specs.Load.{load_answer}
use Rattle.board.specs.Machine.{Machine}
use Rattle.board.specs.Run.{Made}
use Rattle.script.specs.Account.{tells, after, steps, finally}
use Rattle.script.specs.Request.{Request, load, lines, look, show, step, run, looked}

abbrev pub Book : Type 0
Book = ℕ → ℕ

abbrev pub put_byte : Book → ℕ → ℕ → Book
put_byte book a b c = cond (c == a) b (book c)

-- bytes from an address on
abbrev pub put_bytes : Book → ℕ → List ℕ → Book
put_bytes book a [] = book
put_bytes book a (b ∷ bs) = put_bytes (put_byte book a b) (a + 1) bs

abbrev pub put_lines : Book → List Data → Book
put_lines book [] = book
put_lines book (d ∷ ds) = put_lines (put_bytes book d.address d.bytes) ds

-- a done instruction on a processor p: a store at a memory address puts the low bytes of its register
abbrev pub book_instruction : (ℕ → Kind) → Processor → Instruction → Book → Book
book_instruction kinds p (Instruction.Store op base offset from) book =
    cond (is_memory (kinds (data_address p base offset))) (put_bytes book (data_address p base offset) (low_bytes (store_size op) (reg p from))) book
book_instruction kinds p (Instruction.Immediate op from value to) book = book
book_instruction kinds p (Instruction.ShiftImmediate op from amount to) book = book
book_instruction kinds p (Instruction.Load op base offset to) book = book
book_instruction kinds p (Instruction.Branch op left right offset) book = book
book_instruction kinds p (Instruction.Register op left right to) book = book
book_instruction kinds p (Instruction.Extend op from to) book = book
book_instruction kinds p (Instruction.Jump op target) book = book
book_instruction kinds p (Instruction.JumpOffset op offset) book = book
book_instruction kinds p (Instruction.ReadCsr csr to) book = book
book_instruction kinds p (Instruction.WriteCsr csr from) book = book
book_instruction kinds p (Instruction.Raise op) book = book

abbrev pub book_word : (ℕ → Kind) → Processor → Option Instruction → Book → Book
book_word kinds p None book = book
book_word kinds p (Some i) book = book_instruction kinds p i book

abbrev pub book_answer : (ℕ → Kind) → Processor → Answer → Book → Book
book_answer kinds p (Done w) book = book_word kinds p (decoded w) book
book_answer kinds p (Taken e) book = book
book_answer kinds p (Stopped why pc) book = book

abbrev pub book_steps : {M : Type 0} → (ℕ → Kind) → List (Made M) → Book → Book
book_steps kinds [] book = book
book_steps kinds (x ∷ xs) book = book_steps kinds xs (book_answer kinds x.before.cpu x.answer book)

abbrev pub book_image : List ℕ → image.Answer → Book → Book
book_image bytes (image.accepted n) book = put_lines book (image.image_data bytes)
book_image bytes (image.refused n place) book = book

module _ {M : Type 0} (r : Rules M) (kinds : ℕ → Kind) where
  abbrev pub book_call : Machine M → Request → Book → Book
  book_call s (load bytes) book = book_image bytes (load_answer r s bytes) book
  book_call s (lines w) book = book
  book_call s (look a) book = book
  book_call s (show i) book = book
  book_call s step book = book_steps kinds (steps r s step) book
  book_call s (run n) book = book_steps kinds (steps r s (run n)) book

  abbrev pub book_finally : Machine M → List Request → Book → Book
  book_finally s [] book = book
  book_finally s (q ∷ qs) book = book_finally (after r s q) qs (book_call s q book)

-- of a script qs made of a machine s, whose bus means m afterwards
pub record MemoryIsBook {M : Type 0} (r : Rules M) (s : Machine M) (qs : List Request) (m : M) : Type 0 where
  -- no byte of ROM has changed
  pub rom : (a : ℕ) → r.kind s.bus a ≡ Rom → r.byte m a ≡ r.byte s.bus a
  -- each byte of ROM and memory is the book's
  pub bytes : (a : ℕ) → Steady (r.kind s.bus a) → r.byte m a ≡ book_finally r (r.kind s.bus) s qs (r.byte s.bus) a
  -- and so is each that a look shows, by the book as it is then
  pub looks : (front back : List Request) (a : ℕ) → qs ≡ front ++ (look a ∷ back) → Steady (r.kind s.bus a) →
      tells r (finally r s front) (look a) ≡ looked (Ok (book_finally r (r.kind s.bus) s front (r.byte s.bus) a))
