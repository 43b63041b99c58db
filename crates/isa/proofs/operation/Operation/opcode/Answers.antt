-- By the table's rule no other opcode names the operation.
use Rattle.isa.proofs.Table.{single}
use Rattle.isa.proofs.operation.Operation.opcode.Goals as goal

pub returns : goal.returns
returns c =
    record {
      value = c.code.ensures.value;
      within = c.code.ensures.within;
      only = λ k e. single c.args.self k c.code.result e c.code.ensures.value;
    }
