use Rattle.std.proofs.Common.{◌≡◌, replicate, string_bytes, ap, ◌∙◌}
use Rattle.std.proofs.lemmas.Result.{IfOk-weaker}
use Rattle.cpu.specs.State.{reset}
use Rattle.board.specs.Load.{loaded_into}
use Rattle.board.specs.Machine.{seen, machine}
use Rattle.report.specs.Lines.{trace_text}
use Rattle.tracer.specs.Steps.{lines}
use Rattle.tracer.specs.Whole.{first_processor, admitted, after_load, trace_on}
use Rattle.tracer.proofs.whole.trace_on.Goals as goal

pub returns-in-Ok : goal.returns-in-Ok
returns-in-Ok g c =
    let b = g.B.Bus in
    let m = b.means c.args.bus in
    let image = c.args.image.now in
    let s = machine first_processor m in
    let first : seen b.means c.power-board.result ≡ s =
    c.power-board.ensures.state ∙ ap (λ x. machine (reset x (replicate 32 0xA5A5A5A5)) m) c.board_config.ensures.value in
    let after : seen b.means c.load.new.board ≡ loaded_into b.rules s image = c.in-Ok.ensures.state ∙ ap (λ x. loaded_into b.rules x image) first in
    let found : c.deref.result.now ≡ lines b.rules 64 1 (loaded_into b.rules s image) =
    c.deref.ensures.value ∙ c.in_ok-lines-in-Ok.ensures.value ∙ ap (lines b.rules 64 1) after in
    let whole : trace_text c.deref.result.now ≡ trace_on b.rules m image =
    ap trace_text found ∙ ap (after_load b.rules (loaded_into b.rules s image)) (c.in-Ok.ensures.answer ∙ ap (λ x. admitted b.rules x image) first) in
    record {
      value = IfOk-weaker c.trace.result (λ t. string_bytes t ≡ trace_text c.deref.result.now) (λ t. string_bytes t ≡ trace_on b.rules m image) (λ t e. e ∙ whole) c.trace.ensures.value;
    }
