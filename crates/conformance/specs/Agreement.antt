-- What it means that the board ended a case as the simulator did.
use Rattle.std.specs.Prelude.{◌≡◌, T, vec_items, slice_set}
use Rattle.conformance.specs.Ending.{ending_of, allowed, counted}
use Rattle.conformance.specs.declared.case.Case.{Case}
use Rattle.conformance.specs.declared.machine.Outcome.{Outcome}

-- every register that is shown, every byte of memory, the ending and the steps; CC, at index 39, counts the steps
abbrev pub Agrees : Case → Outcome → Type 0
Agrees c o =
    (vec_items o.shown ≡ slice_set c.end.shown 39 (counted o.course.done o.course.taken))
    × (vec_items o.memory ≡ c.end.memory)
    × (o.course.ending ≡ ending_of c.name.now)
    × T (allowed c.name.now c.steps (counted o.course.done o.course.taken))
