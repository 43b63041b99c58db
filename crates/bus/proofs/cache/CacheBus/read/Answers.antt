use Rattle.std.proofs.Common.{◌≡◌, ◌%◌, true, Some, Ok, sym, ap, ◌∙◌}
use Rattle.std.proofs.lemmas.Bool.{eqb-true}
use Rattle.bus.specs.Bytes.{width}
use Rattle.bus.specs.Cache.{held_word, is_steady}
use Rattle.bus.proofs.Holding.{read_held, read_whole, read_part}
use Rattle.bus.proofs.cache.CacheBus.read.Goals as goal

pub returns-in-Some-clause-answer : goal.returns-in-Some-clause-answer
returns-in-Some-clause-answer g c =
    let b = g.B.Bus in
    let old = c.args.self.now in
    let m = b.means old.below in
    let s = c.args.size in
    let a = c.args.address in
    let al : a % width s ≡ 0 = eqb-true (a % width s) 0 (sym c.is_aligned.ensures.value ∙ c.if-is_aligned.true) in
    let held : held_word old.lines a ≡ Some c.in-Some.word = sym c.find.ensures ∙ c.in-Some.is in
    ap Ok c.part.ensures ∙ sym (read_held b.rules g.met.B.Bus.lawful m old.lines s a c.in-Some.word c.requires.1 al held)

pub returns-then-is_steady-clause-answer : goal.returns-then-is_steady-clause-answer
returns-then-is_steady-clause-answer g c =
    let b = g.B.Bus in
    let law = g.met.B.Bus.lawful in
    let m = b.means c.args.self.now.below in
    let s = c.args.size in
    let a = c.args.address in
    let w = c.in_ok-word.word in
    let al : a % width s ≡ 0 = eqb-true (a % width s) 0 (sym c.is_aligned.ensures.value ∙ c.if-is_aligned.true) in
    let st : is_steady (b.rules.kind m a) ≡ true = ap is_steady (sym c.kind.ensures) ∙ sym c.is_steady.ensures ∙ c.if-is_steady.true in
    let whole = read_whole b.rules law m a w st (sym c.in_ok-word.was ∙ c.read.ensures.answer) in
    ap Ok c.part-then-is_steady.ensures ∙ sym (read_part b.rules law m s a w al whole.0 whole.1)
