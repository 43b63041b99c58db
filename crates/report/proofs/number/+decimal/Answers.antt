-- The last digit after those of the tenth part.
use Rattle.std.proofs.Common.{◌≡◌, ◌+◌, ◌%◌, [], ◌∷◌, ◌++◌, string_bytes, decimal, rules}
use Rattle.std.proofs.lemmas.Fmt.{decimal_digit, decimal_step}
use Rattle.report.proofs.Numerals.{writes}
use Rattle.report.proofs.number.+decimal.Goals as goal
use Rattle.report.proofs.number.+decimal.Goals.{then-n-lt10, else-n-lt10+in_ok-text}

pub returns : goal.returns
returns t c =
    let pushed : string_bytes c.push.new.self ≡ string_bytes c.if-n-lt10.text ++ (48 + c.args.n % 10) ∷ [] = search rules in
    let is : string_bytes c.push.new.self ≡ decimal c.args.n =
    elim c.if-n-lt10.branch [ then-n-lt10 w ↦ search (rules, decimal_digit) | else-n-lt10+in_ok-text w ↦ search (rules, decimal_step) ] in
    record { value = is; reads = writes _ _ c.ranges.n.fits is }
