-- What is turned down touches nothing. Assumes nothing.
use Rattle.std.proofs.Common.{◌≡◌, ℕ, zero, suc, Bool, true, false, cond, List, [], ◌∷◌, Ok, Err, refl}
use Rattle.std.specs.List.{AllByRecursion}
use Rattle.std.proofs.ByRecursion.{All-append}
use Rattle.bus.specs.Rules.{Rules}
use Rattle.cpu.specs.declared.answer.Answer.{Answer}
use Rattle.cpu.specs.declared.answer.Answer.TheVariants.{Done, Taken, Stopped}
use Rattle.cpu.specs.declared.processor.Processor.{Processor}
use Rattle.image.specs.Checking as image
use Rattle.board.specs.Calls.{lines_known}
use Rattle.board.specs.Counter.{UnchangedByStop}
use Rattle.board.specs.Load.{load_answer, if_accepted}
use Rattle.board.specs.Machine.{Machine, with_cpu}
use Rattle.board.specs.Run.{Made, unless_stopped, run_steps}
use Rattle.board.specs.Step as board
use Rattle.board.proofs.Counter.{step_counts}
use Rattle.script.specs.Account.{tells, after, steps, all_steps, finally}
use Rattle.script.specs.Refusals.{IsStop, IsRefusal, RefusalsTouchNothing}
use Rattle.script.specs.Request.{Request, load, lines, look, show, step, run, loaded, lined}

module _ {M : Type 0} (r : Rules M) where
  loading : (s : Machine M) (i : List ℕ) (a : image.Answer) → IsRefusal (loaded a) → if_accepted r s i a ≡ s
  loading s i (image.accepted n) down = absurd down
  loading s i (image.refused n place) down = refl

  lining : (s : Machine M) (b : Bool) (p : Processor) → IsRefusal (lined (cond b (Ok tt) (Err (record {})))) → with_cpu s (cond b p s.cpu) ≡ s
  lining s true p down = absurd down
  lining s false p down = refl

  stopping : (a : Answer) (s t : Machine M) → UnchangedByStop a s t → IsStop a → t ≡ s
  stopping (Done w) s t u stop = absurd stop
  stopping (Taken e) s t u stop = absurd stop
  stopping (Stopped why pc) s t u stop = u

  pub stays : (s : Machine M) (q : Request) → IsRefusal (tells r s q) → after r s q ≡ s
  stays s (load i) down = loading s i (load_answer r s i) down
  stays s (lines w) down = lining s (lines_known s.cpu w) _ down
  stays s (look a) down = refl
  stays s (show i) down = refl
  stays s step down = stopping (board.stepped r s).0 s _ (step_counts r s).stays down
  stays s (run n) down = absurd down

  StopStays : Made M → Type 0
  StopStays x = IsStop x.answer → x.after ≡ x.before

  unless : (a : Answer) (xs : List (Made M)) → AllByRecursion StopStays xs → AllByRecursion StopStays (unless_stopped a xs)
  unless (Done w) xs all = all
  unless (Taken e) xs all = all
  unless (Stopped why pc) xs all = tt

  running : (n : ℕ) (s : Machine M) → AllByRecursion StopStays (run_steps r n s)
  unfolding run_steps StopStays
  running zero s = tt
  running (suc n) s =
      (stopping (board.stepped r s).0 s _ (step_counts r s).stays, unless (board.stepped r s).0 _ (running n (board.stepped r s).1))

  calling : (s : Machine M) (q : Request) → AllByRecursion StopStays (steps r s q)
  unfolding StopStays
  calling s (load i) = tt
  calling s (lines w) = tt
  calling s (look a) = tt
  calling s (show i) = tt
  calling s step = (stopping (board.stepped r s).0 s _ (step_counts r s).stays, tt)
  calling s (run n) = running n s

  playing : (qs : List Request) (s : Machine M) → AllByRecursion StopStays (all_steps r s qs)
  playing [] s = tt
  playing (q ∷ qs) s = All-append StopStays (steps r s q) (all_steps r (after r s q) qs) (calling s q) (playing qs (after r s q))

  pub touches_nothing : (s : Machine M) (qs : List Request) → RefusalsTouchNothing r s qs
  unfolding StopStays
  touches_nothing s qs = record { calls = λ front back q e down. stays (finally r s front) q down; steps = playing qs s }
