-- Past its end the table names nothing.
use Rattle.std.proofs.Common.{◌≡◌, ◌≤◌, false, ltb, sym, arith, rules}
use Rattle.std.proofs.lemmas.Bool.{ltb-false}
use Rattle.std.proofs.lemmas.List.{get_or_past}
use Rattle.isa.proofs.operation.Operation.from_opcode.Goals as goal

pub returns-in_err-get : goal.returns-in_err-get
returns-in_err-get c =
    let past : false ≡ ltb c.from.result 64 = (rw c.in_err-get.was at c.get.ensures.lookup).0 in
    let outside : 64 ≤ c.args.opcode = omega (arith, c.from.ensures, ltb-false _ _ (sym past)) in
    search (rules, get_or_past)
