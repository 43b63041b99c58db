-- Exceptions and their returns, over the steps of a script.
use Rattle.std.specs.Prelude.{◌≡◌, ℕ, Bool, false, cond, List, ◌∷◌, ◌++◌}
use Rattle.std.specs.List.{AllByRecursion}
use Rattle.cpu.specs.Entry.{saved_in}
use Rattle.cpu.specs.Exception.{is_breakpoint}
use Rattle.cpu.specs.declared.answer.Answer.{Answer}
use Rattle.cpu.specs.declared.answer.Answer.TheVariants.{Done, Taken}
use Rattle.cpu.specs.declared.exception.Exception.{Exception}
use Rattle.board.specs.Run.{Made}
use Rattle.board.specs.Writers.{writes_register, writes_eie, writes_bie}

-- the word that returns from an exception: bret from a breakpoint, eret from any other
abbrev pub return_word : Exception → ℕ
return_word e = cond (is_breakpoint e) 0xC3E00000 0xC3C00000

-- a step writes the saved bit that the return reads
abbrev pub writes_saved_bit : Exception → Answer → Bool
writes_saved_bit e a = cond (is_breakpoint e) (writes_bie a) (writes_eie a)

-- a step writes neither the register nor the bit that the return reads
abbrev pub LeavesSaved : Exception → Answer → Type 0
LeavesSaved e a = (writes_register (saved_in e) a ≡ false) × (writes_saved_bit e a ≡ false)

-- the program goes on after y where x broke it off, with the enable bit that x found
pub record Resumes {M : Type 0} (x y : Made M) : Type 0 where
  pub place : y.after.cpu.pc ≡ x.before.cpu.pc
  pub bit : y.after.cpu.status.enable.ie ≡ x.before.cpu.status.enable.ie

-- of every exception among the steps, and every later return of its kind: where no step between the two wrote what the return reads, it resumes
abbrev pub ReturnsResume : {M : Type 0} → List (Made M) → Type 0
ReturnsResume {M} steps =
    (front middle back : List (Made M)) (x y : Made M) (e : Exception) → steps ≡ front ++ (x ∷ (middle ++ (y ∷ back))) →
    x.answer ≡ Taken e → y.answer ≡ Done (return_word e) → AllByRecursion (λ z. LeavesSaved e z.answer) middle → Resumes x y
