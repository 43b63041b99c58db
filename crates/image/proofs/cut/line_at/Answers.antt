-- The line ends at the first line feed.
use Rattle.image.proofs.Cutting.{first_line}
use Rattle.image.proofs.cut.line_at.Goals as goal

pub returns : goal.returns
returns c =
    let from = c.in_ok-rest.ensures.lookup.0 in
    record { value = first_line c.args.image.now c.args.place c.in_ok-rest.rest.now from.2 c.in_ok-end.end from.0 c.in_ok-end.ensures.value }
