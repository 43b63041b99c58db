-- The parts make the word, which is the instruction; and no other word is.
use Rattle.std.proofs.Common.{◌≡◌, ◌*◌, ◌%◌, ◌^◌, ◌<◌, Some, arith}
use lib.Bits.{bit_or}
use Rattle.isa.specs.Decode.{decoded}
use Rattle.isa.specs.Opcodes.{named}
use Rattle.isa.specs.Operations.{named_by}
use Rattle.isa.proofs.Packed.{opcode_or}
use Rattle.isa.proofs.Whole.{laid_below, one_word, word_back}
use Rattle.isa.proofs.instruction.Instruction.encode.Goals as goal

pub returns : goal.returns
returns c =
    let i = c.args.self in
    let k = c.from.result in
    let n = c.below_opcode.result in
    let l = c.below_opcode.ensures.value in
    let six : k < 64 = omega (arith, c.from.ensures, c.opcode.ensures.within) in
    let e : named k ≡ Some (named_by i) = cc in
    let sum = opcode_or k n six (laid_below i n l) in
    let b : decoded (bit_or (k * 2 ^ 26 % 2 ^ 32) n) ≡ Some i = rw sum (word_back k n i six e l) in
    let small : bit_or (k * 2 ^ 26 % 2 ^ 32) n < 2 ^ 32 = rw sum (omega (arith, six, laid_below i n l)) in
    record { back = b; only = λ v h d. one_word v _ i h small d b }
