use Rattle.std.proofs.Common.{◌≡◌, replicate, vec_items, ap, ◌∙◌}
use Rattle.layout.proofs.First.{same_board}
use Rattle.layout.proofs.bus_of_board.board_bus.Goals as goal

pub returns-clause-meaning : goal.returns-clause-meaning
returns-clause-meaning c =
    let bus = c.new-5.result in
    let made-bus = c.new-5.ensures in
    let devices = c.new-devices.ensures in
    let timer = c.new.ensures in
    let port = c.in_ok-new.ensures in
    let cache = c.new-4.ensures in
    let memory : vec_items bus.low.below.bytes ≡ replicate 4096 0 =
    ap (λ l. vec_items l.below.bytes) made-bus.low ∙ ap (λ b. vec_items b.bytes) cache.below ∙ c.new-3.ensures.meaning
    ∙ c.in_ok-bytes.ensures.items_if_clones_equal (λ y e. e) in
    same_board made-bus.split memory
    (ap (λ h. h.split) made-bus.high ∙ devices.split)
    (ap (λ h. h.low.registers) made-bus.high ∙ ap (λ t. t.registers) devices.low ∙ timer.registers)
    (ap (λ h. h.low.line) made-bus.high ∙ ap (λ t. t.line) devices.low ∙ timer.line)
    (ap (λ h. h.low.high) made-bus.high ∙ ap (λ t. t.high) devices.low ∙ timer.high)
    (ap (λ h. h.high.registers) made-bus.high ∙ ap (λ t. t.registers) devices.high ∙ port.0)
    (ap (λ h. vec_items h.high.gone) made-bus.high ∙ ap (λ t. vec_items t.gone) devices.high ∙ port.1)
    (ap (λ h. h.high.room) made-bus.high ∙ ap (λ t. t.room) devices.high ∙ port.2)
