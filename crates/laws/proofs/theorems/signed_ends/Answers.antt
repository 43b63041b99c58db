use Rattle.std.proofs.Common.{refl}
use Rattle.laws.proofs.theorems.signed_ends.Goals as goal

pub returns : goal.returns
returns c = record {
  ends = record {
    compares = record {
      greatest = refl;
      least = refl;
      minus_one = refl;
      equal = refl;
      equal_least = refl;
      under_least = refl;
      unsigned = refl;
      unsigned_equal = refl;
      unsigned_zero = refl;
    };
    shifts = record { none = refl; one = refl; all = refl; minus_one = refl; greatest = refl };
    extensions = record {
      greatest_half = refl;
      least_half = refl;
      minus_one = refl;
      greatest_offset = refl;
      least_offset = refl;
      byte = refl;
      half = refl;
      small_byte = refl;
    };
  };
}
