use Rattle.std.proofs.Common.{◌≡◌, ◌/◌, set, Some, None, Ok, sym, ap, ◌∙◌, subst}
use Rattle.bus.specs.Cache.{Right, held_word, set_of}
use Rattle.bus.specs.Rules.{write_answer}
use Rattle.bus.proofs.Holding.{entry, right_written, right_written_free}
use Rattle.bus.proofs.cache.CacheBus.write.Goals as goal

-- a held word takes the bytes that the write puts below it
pub returns-in-Some-clause-sound : goal.returns-in-Some-clause-sound
returns-in-Some-clause-sound g c =
    let b = g.B.Bus in
    let old = c.args.self.now in
    let m = b.means old.below in
    let s = c.args.size in
    let a = c.args.address in
    let w = c.in-Some.word in
    let ok : write_answer b.rules m s a ≡ Ok tt = sym c.write.ensures.answer ∙ c.in_ok-write.was in
    let held : held_word old.lines a ≡ Some w = sym c.find-held.ensures ∙ c.in-Some.is in
    let lines = c.keep.ensures ∙ ap (λ x. set old.lines (set_of a) (entry (a / 4) x)) c.merge.ensures in
    let right = right_written b.rules g.met.B.Bus.lawful m old.lines s a c.args.value w c.requires.1 old.sets ok held in
    (c.write.ensures.sound, subst (λ n. Right b.rules n c.keep.new.lines) (sym c.write.ensures.meaning) (subst (Right b.rules _) (sym lines) right))

pub returns-in_default-clause-sound : goal.returns-in_default-clause-sound
returns-in_default-clause-sound g c =
    let b = g.B.Bus in
    let old = c.args.self.now in
    let m = b.means old.below in
    let ok : write_answer b.rules m c.args.size c.args.address ≡ Ok tt = sym c.write.ensures.answer ∙ c.in_ok-write.was in
    let held : held_word old.lines c.args.address ≡ None = sym c.find-held.ensures ∙ c.in_default.is in
    let right = right_written_free b.rules g.met.B.Bus.lawful m old.lines c.args.size c.args.address c.args.value c.requires.1 ok held in
    (c.write.ensures.sound, subst (λ n. Right b.rules n old.lines) (sym c.write.ensures.meaning) right)
