-- How the run of a case has to end, and how many steps it has to make.
use Rattle.std.specs.Prelude.{ℕ, ◌+◌, ◌%◌, ◌^◌, Bool, cond, List, codes, ◌==◌, nat_lt}
use Rattle.std.specs.Str.{bytes_eq}

-- whether the cases of a name end by a stop at a reserved word
abbrev pub stopping : List ℕ → Bool
stopping name = bytes_eq name (codes "reserved")

-- 0, or the number of the stop
abbrev pub ending_of : List ℕ → ℕ
ending_of name = cond (stopping name) 8 0

-- whether so many steps may be made of those that a case asks for: fewer before a stop, else all
abbrev pub allowed : List ℕ → ℕ → ℕ → Bool
allowed name steps n = cond (stopping name) (nat_lt n steps) (n == steps)

-- how many steps were made, of which some were done and some taken, as a counter of 32 bits has it
abbrev pub counted : ℕ → ℕ → ℕ
counted done taken = (done + taken) % 2 ^ 32
