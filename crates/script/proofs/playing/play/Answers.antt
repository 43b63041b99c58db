use Rattle.std.proofs.Common.{◌≡◌, map, length, vec_items, ap, ◌∙◌, arith, rules}
use Rattle.board.specs.Machine.{seen}
use Rattle.script.specs.Account.{all_told, finally}
use Rattle.script.specs.Request.{request, told}
use Rattle.script.proofs.Calls.{told_more, final_more, told_all, final_all}
use Rattle.script.proofs.Promised.{promised}
use Rattle.script.proofs.playing.play.Goals as goal

pub loop-call-preserved : goal.loop-call-preserved
loop-call-preserved g c =
    let b = g.B.Bus in
    let s = seen b.means c.loop-call.board in
    let t = seen b.means c.perform-reply.new.board in (
      c.perform-reply.ensures.sound,
      omega arith,
      omega arith,
      told_more b.rules s t (vec_items c.loop-call.replies) (vec_items c.push_reserved.new.self) c.perform-reply.result _ c.args.script.now
          c.loop-call.call-index _ (omega arith) c.push_reserved.ensures.items c.perform-reply.ensures.answer c.perform-reply.ensures.state c.loop-call.invariant.3,
      final_more b.rules s t _ c.args.script.now c.loop-call.call-index _ (omega arith) c.perform-reply.ensures.state c.loop-call.invariant.4,
    )

pub returns : goal.returns
returns g c =
    let b = g.B.Bus in
    let s = seen b.means c.loop-call.board in
    let script = c.args.script.now in
    let size : length c.args.registers ≡ 32 = search rules in
    record {
      promise =
          promised b.rules g.met.B.Bus.lawful c.args.config c.args.registers size (b.means c.args.bus) (map request script) _ _
          (told_all b.rules s (map told (vec_items c.loop-call.replies)) _ script c.loop-call.call-index (omega arith) c.loop-call.invariant.3
          ∙ ap (λ m. all_told b.rules m (map request script)) c.power-board.ensures.state)
          (final_all b.rules s _ script c.loop-call.call-index (omega arith) c.loop-call.invariant.4
          ∙ ap (λ m. finally b.rules m (map request script)) c.power-board.ensures.state);
      sound = c.loop-call.invariant.0;
      refused = tt;
    }
