-- The account of a script: what each call is told, the machine after it, and the steps that it makes. It is fed the
-- machine that power gives and the calls, and no answer.
use Rattle.std.specs.Prelude.{List, [], ◌∷◌, ◌++◌}
use Rattle.bus.specs.Rules.{Rules}
use Rattle.board.specs.Calls.{lines_answer, after_lines, look_answer, show_answer}
use Rattle.board.specs.Load.{load_answer, loaded_into}
use Rattle.board.specs.Machine.{Machine, with_cpu}
use Rattle.board.specs.Run.{Made, step_from, run_steps, one_done, one_taken, total, ending, last_from}
use Rattle.board.specs.Step as board
use Rattle.script.specs.Request.{Request, load, lines, look, show, step, run, Told, loaded, lined, looked, shown, stepped, ran}

module _ {M : Type 0} (r : Rules M) where
  abbrev pub tells : Machine M → Request → Told
  tells s (load image) = loaded (load_answer r s image)
  tells s (lines w) = lined (lines_answer s.cpu w)
  tells s (look a) = looked (look_answer r s a)
  tells s (show i) = shown (show_answer s.cpu i)
  tells s step = stepped (board.stepped r s).0
  tells s (run n) = ran (total one_done (run_steps r n s)) (total one_taken (run_steps r n s)) (ending (run_steps r n s))

  abbrev pub after : Machine M → Request → Machine M
  after s (load image) = loaded_into r s image
  after s (lines w) = with_cpu s (after_lines s.cpu w)
  after s (look a) = s
  after s (show i) = s
  after s step = (board.stepped r s).1
  after s (run n) = last_from s (run_steps r n s)

  -- the steps of step and run
  abbrev pub steps : Machine M → Request → List (Made M)
  steps s (load image) = []
  steps s (lines w) = []
  steps s (look a) = []
  steps s (show i) = []
  steps s step = step_from r s ∷ []
  steps s (run n) = run_steps r n s

  abbrev pub all_told : Machine M → List Request → List Told
  all_told s [] = []
  all_told s (q ∷ qs) = tells s q ∷ all_told (after s q) qs

  abbrev pub finally : Machine M → List Request → Machine M
  finally s [] = s
  finally s (q ∷ qs) = finally (after s q) qs

  abbrev pub all_steps : Machine M → List Request → List (Made M)
  all_steps s [] = []
  all_steps s (q ∷ qs) = steps s q ++ all_steps (after s q) qs
