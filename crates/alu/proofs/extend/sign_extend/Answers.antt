-- Both shifts are by the places above the width.
use Rattle.std.proofs.Common.{◌≡◌, ◌+◌, ◌-◌, ◌%◌, ◌^◌, w32, to_z, of_z, arith, rules}
use Rattle.std.proofs.lemmas.Int.{to_z-of_z}
use Rattle.std.specs.Int.{w32}
use Rattle.std.specs.Int.RustNames.{FitsSigned}
use Rattle.std.specs.Int.Signed.{shr_z, mag_shr}
use Rattle.std.proofs.lemmas.Nat.{mod_below, pow_pos}
use Rattle.alu.proofs.SignBit.{shifted_out, filled}
use Rattle.alu.proofs.extend.sign_extend.Goals as goal

pub returns : goal.returns
returns g c =
    let w = g.row.WIDTH in
    let p = 32 - w in
    let n = c.args.bits in
    let z = c.cast_signed.result in
    let whole : w + p ≡ 32 = omega arith in
    let first : to_z w32 (of_z w32 z) ≡ z = to_z-of_z w32 z (search rules) in
    let small : FitsSigned w32 (shr_z z (2 ^ p)) = record { sfits = omega (arith, mag_shr z (2 ^ p)) } in
    let second = to_z-of_z w32 (shr_z z (2 ^ p)) small in
    let f = filled w p (n % 2 ^ w) (omega arith) whole (mod_below n (2 ^ w) (pow_pos w)) in
    let o = shifted_out w p n whole in
    record { value = rw (c.cast_unsigned.ensures, first, second, c.cast_signed.ensures, o) f }
