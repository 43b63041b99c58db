-- A jump by an offset stands above the one to a register.
use Rattle.std.proofs.Common.{◌≡◌, rules}
use Rattle.isa.proofs.Table.{jump, above_jump}
use Rattle.isa.proofs.operation.Operation.code.Goals as goal

pub returns-after-op-7-clause-value : goal.returns-after-op-7-clause-value
returns-after-op-7-clause-value c =
    let e : c.match-op-7.result ≡ jump c.in-JumpOffset.op = search rules in
    rw (e, c.in-JumpOffset.is) (above_jump c.in-JumpOffset.op)
