-- Parts of a word that are joined by OR are added, since none reaches into another.
use Rattle.std.proofs.Common.{◌≡◌, ℕ, ◌+◌, ◌*◌, ◌%◌, ◌^◌, ◌<◌, arith}
use lib.Bits.{bit_or}
use Rattle.std.proofs.lemmas.Nat.{or_shifted}

pub packed_or : (a b low : ℕ) → a < 32 → b < 32 → low < 2 ^ 16 → bit_or (bit_or (a * 2 ^ 21 % 2 ^ 32) (b * 2 ^ 16 % 2 ^ 32)) low ≡ a * 2 ^ 21 + b * 2 ^ 16 + low
packed_or a b low ha hb hl =
    let p : a * 2 ^ 21 % 2 ^ 32 ≡ a * 2 ^ 21 = omega arith in
    let q : b * 2 ^ 16 % 2 ^ 32 ≡ b * 2 ^ 16 = omega arith in
    let s : bit_or (a * 2 ^ 21) (b * 2 ^ 16) ≡ (a * 32 + b) * 2 ^ 16 = omega (arith, or_shifted a 21 (b * 2 ^ 16) (omega arith)) in
    rw (p, q, s) (omega (arith, or_shifted (a * 32 + b) 16 low hl))

pub opcode_or : (k rest : ℕ) → k < 64 → rest < 2 ^ 26 → bit_or (k * 2 ^ 26 % 2 ^ 32) rest ≡ k * 2 ^ 26 + rest
opcode_or k rest hk hr =
    let p : k * 2 ^ 26 % 2 ^ 32 ≡ k * 2 ^ 26 = omega arith in
    rw p (or_shifted k 26 rest hr)
