-- Going over the lines of an image.
use Rattle.std.specs.Prelude.{◌≡◌, ℕ, ◌+◌, List, length, Option, MatchOption}
use Rattle.std.specs.Option.{option_map}
use denote.Ref.{Bor}
use Rattle.image.specs.declared.lines.Lines.{Lines}
use Rattle.image.specs.Lines.{LineAt}

-- from s a call gave the line at its place, with that place, and left the lines after it; or none, where no line feed follows
abbrev pub WalksOn : Lines → Option (ℕ × Bor (List ℕ)) → Lines → Type 0
WalksOn s r t =
    (t.image.now ≡ s.image.now) × LineAt s.image.now s.place (option_map (λ x. x.1.now) r)
    × MatchOption r (t.place ≡ s.place) (λ x. (x.0 ≡ s.place) × (t.place ≡ s.place + length x.1.now + 1))
