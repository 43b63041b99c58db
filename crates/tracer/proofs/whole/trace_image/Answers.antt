use Rattle.std.proofs.Common.{◌≡◌, IfOk, string_bytes, subst}
use Rattle.layout.specs.Meaning.{Meaning, rules}
use Rattle.tracer.specs.Layout.{traced}
use Rattle.tracer.specs.Whole.{trace_on}
use Rattle.tracer.proofs.whole.trace_image.Goals as goal

pub returns : goal.returns
unfolding traced
returns c =
    let told : Meaning → Type 0 = λ m. IfOk c.trace_on.result (λ t. string_bytes t ≡ trace_on rules m c.args.image.now) in
    record { value = subst told c.in_ok-board_bus.ensures.meaning c.trace_on.ensures.value }
