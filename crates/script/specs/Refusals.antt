-- What a script's calls turn down, and that it touches nothing.
use Rattle.std.specs.Prelude.{◌≡◌, List, ◌∷◌, ◌++◌, Ok, Err}
use Rattle.std.specs.List.{AllByRecursion}
use Rattle.bus.specs.Rules.{Rules}
use Rattle.cpu.specs.declared.answer.Answer.{Answer}
use Rattle.cpu.specs.declared.answer.Answer.TheVariants.{Done, Taken, Stopped}
use Rattle.image.specs.Checking.{accepted, refused}
use Rattle.board.specs.Machine.{Machine}
use Rattle.script.specs.Account.{tells, after, finally, all_steps}
use Rattle.script.specs.Request.{Request, Told, loaded, lined, looked, shown, stepped, ran}

-- a step that does nothing: the word is reserved, not configured, or its data address is misaligned
abbrev pub IsStop : Answer → Type 0
IsStop (Done w) = ⊥
IsStop (Taken e) = ⊥
IsStop (Stopped why pc) = Unit {0}

-- a call is turned down; of a run only its last step is
abbrev pub IsRefusal : Told → Type 0
IsRefusal (loaded (accepted n)) = ⊥
IsRefusal (loaded (refused n place)) = Unit {0}
IsRefusal (lined (Ok x)) = ⊥
IsRefusal (lined (Err e)) = Unit {0}
IsRefusal (looked (Ok b)) = ⊥
IsRefusal (looked (Err f)) = Unit {0}
IsRefusal (shown (Ok v)) = ⊥
IsRefusal (shown (Err e)) = Unit {0}
IsRefusal (stepped a) = IsStop a
IsRefusal (ran done taken ending) = ⊥

-- of a script qs made of a machine s
pub record RefusalsTouchNothing {M : Type 0} (r : Rules M) (s : Machine M) (qs : List Request) : Type 0 where
  -- after a call that is turned down, wherever it stands, the machine is what it was before
  pub calls : (front back : List Request) (q : Request) → qs ≡ front ++ (q ∷ back) → IsRefusal (tells r (finally r s front) q) → after r (finally r s front) q ≡ finally r s front
  -- and so after a step that stops, by itself or as the last of a run
  pub steps : AllByRecursion (λ x. IsStop x.answer → x.after ≡ x.before) (all_steps r s qs)
