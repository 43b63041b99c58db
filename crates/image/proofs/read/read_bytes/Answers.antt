-- A wrong count of digits, a pair that is no byte, a byte more, and the last byte.
use Rattle.std.proofs.Common.{◌≡◌, ◌+◌, ◌*◌, ◌/◌, length, take, drop, Some, sym, ap, ◌∙◌, arith, length-set}
use Rattle.std.specs.Option.{option_map}
use Rattle.std.proofs.lemmas.List.{take_more_set, length-take-le}
use Rattle.image.specs.Meaning.{bytes_in}
use Rattle.image.specs.Reading.{bytes_of, one_to32}
use Rattle.image.proofs.Pairs.{after, pair_more, pair_none, pairs_all, payload_none, payload_all}
use Rattle.image.proofs.read.read_bytes.Goals as goal

pub returns-then-digits-ne0 : goal.returns-then-digits-ne0
returns-then-digits-ne0 c = record { value = sym (payload_none c.args.digits.now (λ n sized low high. omega arith)) }

pub returns-in_err-items : goal.returns-in_err-items
returns-in_err-items c =
    let none = pair_none c.args.digits.now c.loop-k.k (take c.loop-k.k c.loop-k.items) (omega arith) c.loop-k.invariant.0 c.in_err-items.ensures.value in
    record { value = ap (option_map bytes_in) c.from_residual.ensures ∙ ap one_to32 none }

pub loop-k-preserved : goal.loop-k-preserved
loop-k-preserved c =
    let k = c.loop-k.k in
    let items = c.loop-k.items in
    let more = pair_more c.args.digits.now k (take k items) (omega arith) c.loop-k.invariant.0 _ c.in_ok-items.ensures.value in
    (ap (λ xs. after xs (bytes_of (drop (2 * (k + 1)) c.args.digits.now))) (take_more_set items k _ (omega arith)) ∙ more, length-set items k _ ∙ c.loop-k.invariant.1)

pub returns : goal.returns
returns c =
    let k = c.loop-k.k in
    let xs = take k c.loop-k.items in
    let long : length xs ≡ k = length-take-le k c.loop-k.items (omega arith) in
    let all = pairs_all c.args.digits.now k xs (omega arith) c.loop-k.invariant.0 in
    let last : length c.args.digits.now / 2 ≡ k = omega arith in
    record { value = ap (λ n. Some (take n c.loop-k.items)) last ∙ sym (payload_all c.args.digits.now xs all (omega arith) (omega arith)) }
