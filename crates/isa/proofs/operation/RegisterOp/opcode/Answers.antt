-- The forms with three registers stand above those with an immediate.
use Rattle.std.proofs.Common.{◌≡◌, rules}
use Rattle.isa.proofs.Table.{binary, shift, above_binary, above_shift}
use Rattle.isa.proofs.operation.RegisterOp.opcode.Goals as goal

pub returns-after-op-clause-value : goal.returns-after-op-clause-value
returns-after-op-clause-value c =
    let e : c.match-op.result ≡ binary c.in-Binary.op = search rules in
    rw (e, c.in-Binary.is) (above_binary c.in-Binary.op)

pub returns-after-op-2-clause-value : goal.returns-after-op-2-clause-value
returns-after-op-2-clause-value c =
    let e : c.match-op-2.result ≡ shift c.in-Shift.op = search rules in
    rw (e, c.in-Shift.is) (above_shift c.in-Shift.op)
