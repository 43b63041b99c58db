-- The first line is at the front, and each data line is put.
use Rattle.std.proofs.Common.{◌≡◌, ℕ, ◌+◌, length, drop, Some, sym, ap, ◌∙◌, subst, rules}
use Rattle.bus.specs.Rules.{stored_all}
use Rattle.image.specs.Checking.{data_of}
use Rattle.image.specs.Lines.{lines_of, LineAt}
use Rattle.image.specs.Meaning.{data_in}
use Rattle.image.specs.Reading.{data_line, read_line}
use Rattle.board.specs.Load.{put_data}
use Rattle.board.proofs.Loading.{Placed, lines_more, lines_placed}
use Rattle.board.proofs.load.put_lines.Goals as goal

pub loop-line-init : goal.loop-line-init
loop-line-init g c =
    let first : c.into_iter-line-iterator.result.place ≡ 0 = search rules in
    let same : c.into_iter-line-iterator.result.image.now ≡ c.args.image.now = search rules in
    let m = g.B.Bus.means c.args.bus.now in (
      c.requires.sound,
      ap (λ (k : ℕ). put_data g.B.Bus.rules m (data_of (lines_of (drop k c.args.image.now)))) first,
      subst (λ (k : ℕ). Placed g.B.Bus.rules m (data_of (lines_of (drop k c.args.image.now)))) (sym first) c.requires.placed,
      same,
    )

pub loop-line-preserved : goal.loop-line-preserved
loop-line-preserved g c =
    let r = g.B.Bus.rules in
    let m = g.B.Bus.means c.loop-line.bus in
    let n = g.B.Bus.means c.put_bytes.new.bus in
    let image = c.args.image.now in
    let place = c.loop-line.line-iterator.place in
    let l = c.in-Some.line.now in
    let d = data_in c.in-Some-Data.found in
    let at : LineAt image place (Some l) = subst (λ xs. LineAt xs place (Some l)) c.loop-line.invariant.3 c.in-Some.ensures.steps.1 in
    let is : data_line d ≡ read_line l = search rules in
    let put : n ≡ stored_all r m d.address d.bytes = search rules in
    let to : c.next.new.self.place ≡ place + length l + 1 = search rules in
    let same : c.next.new.self.image.now ≡ image = search rules in (
      c.put_bytes.ensures.sound,
      ap (λ (k : ℕ). put_data r n (data_of (lines_of (drop k image)))) to ∙ lines_more r image place l at d is m n put ∙ c.loop-line.invariant.1,
      subst (λ (k : ℕ). Placed r n (data_of (lines_of (drop k image)))) (sym to) (lines_placed r image place l at d is m n put g.met.B.Bus.lawful c.loop-line.invariant.2),
      same,
    )
