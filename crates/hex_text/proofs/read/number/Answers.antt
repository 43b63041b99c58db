-- A wrong count of digits, a digit more, a byte that is no digit, and the end of the digits.
use Rattle.std.proofs.Common.{◌≡◌, ℕ, ◌+◌, ◌<◌, eqb, List, length, get_or, drop, None, Option, sym, ◌∙◌, arith}
use Rattle.std.proofs.lemmas.List.{at_drop_more, at_drop_all}
use Rattle.std.proofs.lemmas.Bool.{cond-true, cond-false, eq-eqb, ne_eqb}
use Rattle.hex_text.specs.Digits.{hex_number, hex_number_in, Undoes}
use Rattle.hex_text.proofs.Inverse.{undoes}
use Rattle.hex_text.proofs.Reading.{hex_after, after_digit, after_none, digit_below, room, one_more}
use Rattle.hex_text.proofs.read.number.Goals as goal

read_so : (k : ℕ) (bs : List ℕ) (r : Option ℕ) → r ≡ hex_number_in k bs → record { value : r ≡ hex_number_in k bs; inverse : Undoes k bs r }
read_so k bs r is = record { value = is; inverse = undoes k bs r is }

told : (k : ℕ) (bs : List ℕ) → length bs ≡ k → (r : Option ℕ) → r ≡ hex_number bs → record { value : r ≡ hex_number_in k bs; inverse : Undoes k bs r }
told k bs sized r e = read_so k bs r (e ∙ sym (cond-true (eqb (length bs) k) (hex_number bs) None (eq-eqb (length bs) k sized)))

small : {g : _} (c : goal.After-from g) → c.from.result < 16
small c = omega (arith, digit_below (get_or c.args.digits.now c.loop-b.b-index 0) _ c.in_ok-digit.ensures.value, c.from.ensures)

pub returns-then-digits : goal.returns-then-digits
returns-then-digits g c =
    let digits = c.args.digits.now in
    read_so g.row.COUNT digits None (sym (cond-false (eqb (length digits) g.row.COUNT) (hex_number digits) None (ne_eqb (length digits) g.row.COUNT c.if-digits.true)))

pub overflow_mul-number : goal.overflow_mul-number
overflow_mul-number g c = omega (arith, room c.loop-b.b-index c.loop-b.number (omega arith) c.loop-b.invariant.1)

pub overflow_add-number : goal.overflow_add-number
overflow_add-number g c = omega (arith, small c, room c.loop-b.b-index c.loop-b.number (omega arith) c.loop-b.invariant.1)

pub loop-b-preserved : goal.loop-b-preserved
loop-b-preserved g c =
    let digits = c.args.digits.now in
    let i = c.loop-b.b-index in
    let on = at_drop_more (hex_after c.loop-b.number) digits i 0 c.loop-b-test.true in
    let step = after_digit c.loop-b.number (get_or digits i 0) (drop (i + 1) digits) _ c.in_ok-digit.ensures.value in (
      rw c.from.ensures (sym step ∙ sym on ∙ c.loop-b.invariant.0),
      one_more i c.loop-b.number c.from.result c.loop-b.invariant.1 (small c),
    )

pub returns-in_err-digit : goal.returns-in_err-digit
returns-in_err-digit g c =
    let digits = c.args.digits.now in
    let i = c.loop-b.b-index in
    let on = at_drop_more (hex_after c.loop-b.number) digits i 0 c.loop-b-test.true in
    let stop = after_none c.loop-b.number (get_or digits i 0) (drop (i + 1) digits) c.in_err-digit.ensures.value in
    told g.row.COUNT digits (omega arith) _ (c.from_residual.ensures ∙ sym stop ∙ sym on ∙ c.loop-b.invariant.0)

pub returns : goal.returns
returns g c =
    let digits = c.args.digits.now in
    let on = at_drop_all (hex_after c.loop-b.number) digits c.loop-b.b-index c.loop-b-test.false in
    told g.row.COUNT digits (omega arith) _ (sym on ∙ c.loop-b.invariant.0)
