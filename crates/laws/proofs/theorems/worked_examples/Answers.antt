use Rattle.std.proofs.Common.{refl, rules}
use Rattle.isa.specs.Decode.{decoded}
use Rattle.laws.proofs.theorems.worked_examples.Goals as goal

pub returns : goal.returns
unfolding decoded
returns c = record {
  examples = record {
    xor_zero = refl;
    addi = refl;
    addi_result = refl;
    add = refl;
    is_eret = refl;
    is_bret = refl;
    is_break = refl;
    reserved = refl;
    bi = refl;
    bi_target = λ p at. search rules;
    is_scall = refl;
    scall = λ p at. search rules;
    sri = refl;
    srui = refl;
  };
}
