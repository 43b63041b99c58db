-- A step follows the book. Assumes nothing.
use Rattle.std.proofs.Common.{◌≡◌, ℕ, zero, suc, List, Ok, Err, Result, sym, refl, subst}
use Rattle.isa.specs.declared.instruction.Instruction.{Instruction}
use Rattle.bus.specs.Rules.{Rules, Laws, write_answer}
use Rattle.bus.specs.declared.fault.Fault.{Fault}
use Rattle.isa.specs.declared.operation.LoadOp.{LoadOp}
use Rattle.isa.specs.declared.register.Register.{Register}
use Rattle.cpu.specs.State.{reg}
use Rattle.cpu.specs.declared.answer.Answer.{Answer}
use Rattle.cpu.specs.declared.answer.Answer.TheVariants.{Done, Taken, Stopped}
use Rattle.cpu.specs.declared.reason.Trouble.{Trouble}
use Rattle.board.specs.Data.{store_size, data_address}
use Rattle.board.specs.Execute.{executed, put, after_load, after_store}
use Rattle.board.specs.Machine.{Machine}
use Rattle.board.specs.Run.{Made, unless_stopped, run_steps, last_from}
use Rattle.board.specs.Step.{noted, stepped}
use Rattle.board.proofs.StepCases.{step_cases}
use Rattle.script.specs.Book.{Book, book_instruction, book_word, book_answer, book_steps}
use Rattle.script.proofs.Booking.{Follows, ticks, stores}

module _ {M : Type 0} (r : Rules M) (laws : Laws r) (m0 : M) where
  -- an outcome of an instruction whose bus follows
  FollowsIf : Book → Result (Machine M) Trouble → Type 0
  FollowsIf book (Ok t) = Follows r laws m0 t.bus book
  FollowsIf book (Err e) = Unit {0}

  module _ (s : Machine M) (book : Book) (f : Follows r laws m0 s.bus book) where
    loading : (op : LoadOp) (to : Register) (x : Result ℕ Fault) → FollowsIf book (after_load s op to x)
    unfolding FollowsIf
    loading op to (Ok v) = f
    loading op to (Err e) = tt

    putting : (to : Register) (x : Result ℕ Trouble) → FollowsIf book (put s to x)
    unfolding FollowsIf
    putting to (Ok v) = f
    putting to (Err e) = tt

    storing : (m : M) (b : Book) (x : Result (Unit {0}) Fault) → (x ≡ Ok tt → Follows r laws m0 m b) → FollowsIf b (after_store s m x)
    unfolding FollowsIf
    storing m b (Ok v) h = h refl
    storing m b (Err e) h = tt

    executing : (i : Instruction) → FollowsIf (book_instruction (r.kind m0) s.cpu i book) (executed r s i)
    unfolding FollowsIf
    executing (Instruction.Immediate op from value to) = f
    executing (Instruction.ShiftImmediate op from amount to) = f
    executing (Instruction.Load op base offset to) = loading op to _
    executing (Instruction.Store op base offset from) =
        storing _ _ (write_answer r s.bus (store_size op) (data_address s.cpu base offset))
        (λ ok. stores r laws m0 s.bus book (store_size op) (data_address s.cpu base offset) (reg s.cpu from) f ok)
    executing (Instruction.Branch op left right offset) = f
    executing (Instruction.Register op left right to) = putting to _
    executing (Instruction.Extend op from to) = f
    executing (Instruction.Jump op target) = f
    executing (Instruction.JumpOffset op offset) = f
    executing (Instruction.ReadCsr csr to) = f
    executing (Instruction.WriteCsr csr from) = f
    executing (Instruction.Raise op) = tt

  pub stepping : (s : Machine M) (book : Book) → Follows r laws m0 s.bus book → Follows r laws m0 (stepped r s).1.bus (book_answer (r.kind m0) s.cpu (stepped r s).0 book)
  unfolding FollowsIf
  stepping s book f =
      step_cases r s (λ a. Follows r laws m0 a.1.bus (book_answer (r.kind m0) s.cpu a.0 book))
      (λ e. ticks r laws m0 s.bus book f)
      (λ why. f)
      (λ w i t d e.
      let did : Follows r laws m0 t.bus (book_instruction (r.kind m0) s.cpu i book) =
      subst (FollowsIf (book_instruction (r.kind m0) s.cpu i book)) e (executing (noted r s) book f i) in
      ticks r laws m0 t.bus _ (subst (λ x. Follows r laws m0 t.bus (book_word (r.kind m0) s.cpu x book)) (sym d) did))

  unless : (s : Machine M) (xs : List (Made M)) (a : Answer) (book : Book) → Follows r laws m0 s.bus book → Follows r laws m0 (last_from s xs).bus (book_steps (r.kind m0) xs book) →
      Follows r laws m0 (last_from s (unless_stopped a xs)).bus (book_steps (r.kind m0) (unless_stopped a xs) book)
  unless s xs (Done w) book f h = h
  unless s xs (Taken e) book f h = h
  unless s xs (Stopped why pc) book f h = f

  pub running : (n : ℕ) (s : Machine M) (book : Book) → Follows r laws m0 s.bus book →
      Follows r laws m0 (last_from s (run_steps r n s)).bus (book_steps (r.kind m0) (run_steps r n s) book)
  unfolding run_steps
  running zero s book f = f
  running (suc n) s book f =
      let next = stepping s book f in
      unless (stepped r s).1 (run_steps r n (stepped r s).1) (stepped r s).0 _ next (running n (stepped r s).1 _ next)
