-- The cycle counter over a script: what the replies of step and run count.
use Rattle.std.specs.Prelude.{ℕ, ◌+◌, List, [], ◌∷◌}
use Rattle.board.specs.Run.{one_done, one_taken}
use Rattle.script.specs.Request.{Told, loaded, lined, looked, shown, stepped, ran}

-- the instructions done and the exceptions taken that a reply reports
abbrev pub reported : Told → ℕ
reported (loaded a) = 0
reported (lined x) = 0
reported (looked x) = 0
reported (shown x) = 0
reported (stepped a) = one_done a + one_taken a
reported (ran done taken ending) = done + taken

abbrev pub all_reported : List Told → ℕ
all_reported [] = 0
all_reported (t ∷ ts) = reported t + all_reported ts
