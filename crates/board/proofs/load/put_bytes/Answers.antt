-- A byte on memory is put, and the bytes after it are left.
use Rattle.std.proofs.Common.{◌≡◌, ℕ, ◌+◌, ◌<◌, ◌≤◌, ◌^◌, true, ◌∷◌, sym, ◌∙◌, subst, rules}
use Rattle.bus.specs.Rules.{stored_all, written}
use Rattle.bus.specs.declared.size.Size.TheVariants.{Byte}
use Rattle.image.specs.Checking.{on_memory}
use Rattle.image.specs.Meaning.{bytes_in}
use Rattle.image.specs.Memory.{memory_in}
use Rattle.board.proofs.Loading.{bytes_more, bytes_placed}
use Rattle.board.proofs.load.put_bytes.Goals as goal

pub loop-at-preserved : goal.loop-at-preserved
loop-at-preserved g c =
    let r = g.B.Bus.rules in
    let m = g.B.Bus.means c.loop-at.bus in
    let n = g.B.Bus.means c.write.new.self in
    let at : ℕ = c.loop-at.at-iterator.a.start in
    let b : ℕ = c.in-Some.byte in
    let more = bytes_in c.next.new.self.b in
    let cut : bytes_in c.loop-at.at-iterator.b ≡ b ∷ more = search rules in
    let on : on_memory (memory_in r m) at (bytes_in c.loop-at.at-iterator.b) ≡ true = c.loop-at.invariant.2 in
    let small : b < 256 = search rules in
    let put : n ≡ written r m Byte at b = search rules in
    let to : c.next.new.self.a.start ≡ at + 1 = search rules in
    let end : c.next.new.self.a.start ≤ 2 ^ 32 = search rules in (
      c.write.ensures.sound,
      subst (λ (k : ℕ). stored_all r n k more ≡ stored_all r m at (bytes_in c.loop-at.at-iterator.b)) (sym to) (bytes_more r g.met.B.Bus.lawful m n at b _ more cut on small put) ∙ c.loop-at.invariant.1,
      subst (λ (k : ℕ). on_memory (memory_in r n) k more ≡ true) (sym to) (bytes_placed r g.met.B.Bus.lawful m n at b _ more cut on small put),
      end,
    )
