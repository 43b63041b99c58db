-- What is read of the word decides all three.
use Rattle.std.proofs.Common.{◌≡◌, arith}
use Rattle.std.specs.Option.{ok_or}
use Rattle.isa.specs.Decode.{decoded}
use Rattle.isa.specs.Refusal.{refusal}
use Rattle.isa.proofs.Answered.{answered}
use Rattle.isa.proofs.instruction.Instruction.decode.Goals as goal

pub returns : goal.returns
unfolding decoded
returns c =
    let w = c.args.word in
    let e : c.ok_or.result ≡ ok_or (decoded w) refusal = cc in
    let a = answered w (omega arith) in
    record { answer = e; cases = rw e a.0; one_word = rw e a.1; reserved = rw e a.2 }
