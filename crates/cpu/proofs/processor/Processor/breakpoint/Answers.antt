-- Where no register is on, none matches; else the place of the first that does is told.
use Rattle.std.proofs.Common.{◌≡◌, ℕ, ◌/◌, ◌%◌, List, [], ◌∷◌, length, false, ◌&&◌, eqb, get_or, ap, arith, rules, tests, refl, ◌∙◌}
use lib.Bits.{bit_or, or_step}
use Rattle.std.proofs.lemmas.Bool.{ne_eqb}
use Rattle.std.proofs.lemmas.Iterator.{YieldsList-from_slice}
use Rattle.std.proofs.lemmas.Iterator.Search.{position_from_yields_List}
use Rattle.std.proofs.lemmas.Iterator.Adapters.{position_from-zero}
use Rattle.std.specs.List.{position_from}
use Rattle.cpu.specs.Pending.{matches, first_match}
use Rattle.cpu.proofs.processor.Processor.breakpoint.Goals as goal

both_off : (a b : ℕ) → bit_or a b % 2 ≡ 0 → (a % 2 ≡ 0) × (b % 2 ≡ 0)
both_off a b h = let s = or_step a b in (omega arith, omega arith)

no_match : (pc b : ℕ) → b % 2 ≡ 0 → matches pc b ≡ false
no_match pc b h = ap (λ t. t && eqb (b / 4) (pc / 4)) (ne_eqb (b % 2) 1 (λ e. omega arith))

position_of_four : (pc : ℕ) (bs : List ℕ) → length bs ≡ 4 → position_from (matches pc) 0 bs ≡ first_match pc bs 0 4
position_of_four pc (a ∷ b ∷ c ∷ d ∷ []) h = refl
position_of_four pc [] h = cc
position_of_four pc (a ∷ []) h = absurd (omega arith)
position_of_four pc (a ∷ b ∷ []) h = absurd (omega arith)
position_of_four pc (a ∷ b ∷ c ∷ []) h = absurd (omega arith)
position_of_four pc (a ∷ b ∷ c ∷ d ∷ e ∷ r) h = absurd (omega arith)

pub returns-then-a-b-eq0 : goal.returns-then-a-b-eq0
returns-then-a-b-eq0 c =
    let pc = c.args.self.now.pc in
    let at : ℕ → ℕ = λ k. get_or c.args.self.now.status.breakpoints k 0 in
    let abc = both_off (bit_or (bit_or (at 0) (at 1)) (at 2)) (at 3) c.if-a-b-eq0.true in
    let ab = both_off (bit_or (at 0) (at 1)) (at 2) abc.0 in
    let a = both_off (at 0) (at 1) ab.0 in
    record { value = rw (no_match pc (at 0) a.0, no_match pc (at 1) a.1, no_match pc (at 2) ab.1, no_match pc (at 3) abc.1) }

pub returns : goal.returns
returns c =
    let pc = c.args.self.now.pc in
    let bs = c.args.self.now.status.breakpoints in
    let found : c.position.result ≡ first_match pc bs 0 4 =
    position_from_yields_List (matches pc) _ _ c.position.result c.position.ensures.ran (YieldsList-from_slice _ c.iter.ensures.rest) (λ x b q k. search (rules, tests))
    ∙ position_from-zero (matches pc) bs
    ∙ position_of_four pc bs (omega arith) in
    let kept : c.map.result ≡ c.position.result = search (rules, tests) in
    record { value = kept ∙ found }
