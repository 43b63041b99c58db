-- The address is read and the bytes are not, or both are.
use Rattle.std.proofs.Common.{◌≡◌, true, rules}
use Rattle.image.specs.Reading.{starts_data}
use Rattle.image.proofs.Forms.{data_parts}
use Rattle.image.proofs.read.read_data.Goals as goal

pub returns : goal.returns
returns c =
    let l = c.args.line.now in
    let starts : starts_data l ≡ true = search rules in
    record { value = data_parts l _ _ starts c.in_ok-address.ensures.value c.in_ok-bytes.ensures.value }
