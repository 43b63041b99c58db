-- The steps of an account follow one another. Assumes nothing.
use Rattle.std.proofs.Common.{◌≡◌, ℕ, zero, suc, Bool, true, false, cond, List, [], ◌∷◌, ◌++◌, refl, ◌∙◌}
use Rattle.bus.specs.Rules.{Rules}
use Rattle.cpu.specs.declared.answer.Answer.{Answer}
use Rattle.cpu.specs.declared.answer.Answer.TheVariants.{Done, Taken, Stopped}
use Rattle.cpu.specs.declared.processor.Processor.{Processor}
use Rattle.image.specs.Checking as image
use Rattle.board.specs.Calls.{lines_known}
use Rattle.board.specs.Load.{load_answer, if_accepted}
use Rattle.board.specs.Machine.{Machine, with_cpu}
use Rattle.board.specs.Run.{Made, unless_stopped, run_steps, last_from}
use Rattle.board.specs.Step as board
use Rattle.script.specs.Account.{after, steps, all_steps}
use Rattle.script.specs.Request.{Request, load, lines, look, show, step, run}
use Rattle.script.proofs.Returning.{SameCore, Linked}

same : {M : Type 0} (s : Machine M) → SameCore s s
same s = record { registers = refl; pc = refl; status = refl }

module _ {M : Type 0} (r : Rules M) where
  moved : (s t : Machine M) (xs : List (Made M)) → SameCore s t → Linked r t xs → Linked r s xs
  moved s t [] c l = tt
  moved s t (x ∷ xs) c l =
      (record { registers = l.0.registers ∙ c.registers; pc = l.0.pc ∙ c.pc; status = l.0.status ∙ c.status }, l.1, l.2, l.3)

  appended : (s t : Machine M) (xs ys : List (Made M)) → Linked r s xs → SameCore (last_from s xs) t → Linked r t ys → Linked r s (xs ++ ys)
  appended s t [] ys l c m = moved s t ys c m
  appended s t (x ∷ xs) ys l c m = (l.0, l.1, l.2, appended x.after t xs ys l.3 c m)

  unless : (s : Machine M) (a : Answer) (xs : List (Made M)) → Linked r s xs → Linked r s (unless_stopped a xs)
  unless s (Done w) xs l = l
  unless s (Taken e) xs l = l
  unless s (Stopped why pc) xs l = tt

  running : (n : ℕ) (s : Machine M) → Linked r s (run_steps r n s)
  unfolding run_steps
  running zero s = tt
  running (suc n) s = (same s, refl, refl, unless (board.stepped r s).1 (board.stepped r s).0 _ (running n (board.stepped r s).1))

  linking : (s : Machine M) (q : Request) → Linked r s (steps r s q)
  linking s (load i) = tt
  linking s (lines w) = tt
  linking s (look a) = tt
  linking s (show i) = tt
  linking s step = (same s, refl, refl, tt)
  linking s (run n) = running n s

  if_accepted-same : (s : Machine M) (i : List ℕ) (a : image.Answer) → SameCore s (if_accepted r s i a)
  if_accepted-same s i (image.accepted n) = record { registers = refl; pc = refl; status = refl }
  if_accepted-same s i (image.refused n p) = same s

  lines_same : (s : Machine M) (b : Bool) (p : Processor) → p.registers ≡ s.cpu.registers → p.pc ≡ s.cpu.pc → p.status ≡ s.cpu.status → SameCore s (with_cpu s (cond b p s.cpu))
  lines_same s true p e f g = record { registers = e; pc = f; status = g }
  lines_same s false p e f g = same s

  pub keeping : (s : Machine M) (q : Request) → SameCore (last_from s (steps r s q)) (after r s q)
  keeping s (load i) = if_accepted-same s i (load_answer r s i)
  keeping s (lines w) = lines_same s (lines_known s.cpu w) _ refl refl refl
  keeping s (look a) = same s
  keeping s (show i) = same s
  keeping s step = same _
  keeping s (run n) = same _

  pub all_linked : (s : Machine M) (qs : List Request) → Linked r s (all_steps r s qs)
  all_linked s [] = tt
  all_linked s (q ∷ qs) = appended s (after r s q) (steps r s q) (all_steps r (after r s q) qs) (linking s q) (keeping s q) (all_linked (after r s q) qs)
