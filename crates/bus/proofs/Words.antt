-- Words and their four bytes, and blocks of bytes with some replaced. Assumes nothing.
use Rattle.std.proofs.Common.{◌≡◌, ℕ, zero, suc, ◌+◌, ◌/◌, ◌%◌, ◌<◌, List, [], ◌∷◌, length, get_or, set, replicate, refl, ◌∙◌, arith, length-set}
use Rattle.bus.specs.Bytes.{width, number, word_bytes, low_bytes}
use Rattle.bus.specs.Block.{patched}
use Rattle.bus.specs.declared.size.Size.{Size}
use Rattle.bus.specs.declared.size.Size.TheVariants.{Byte, Half, Word}

pub length-patched : (xs : List ℕ) (a : ℕ) (bs : List ℕ) → length (patched xs a bs) ≡ length xs
length-patched xs a [] = refl
length-patched xs a (b ∷ bs) = length-patched (set xs a b) (a + 1) bs ∙ length-set xs a b

-- the bytes of the word that four bytes make are those four
pub word_of_four : (a b c d : ℕ) → a < 256 → b < 256 → c < 256 → d < 256 → word_bytes (number (a ∷ b ∷ c ∷ d ∷ [])) ≡ a ∷ b ∷ c ∷ d ∷ []
word_of_four a b c d ha hb hc hd =
    let w = number (a ∷ b ∷ c ∷ d ∷ []) in
    let ea : w / 16777216 % 256 ≡ a = omega arith in
    let eb : w / 65536 % 256 ≡ b = omega arith in
    let ec : w / 256 % 256 ≡ c = omega arith in
    let ed : w % 256 ≡ d = omega arith in
    rw (ea, eb, ec, ed)

pub low_length : (s : Size) (v : ℕ) → length (low_bytes s v) ≡ width s
low_length Byte v = refl
low_length Half v = refl
low_length Word v = refl

pub same_everywhere : {X : Type 0} (n : ℕ) (x : X) (k : ℕ) → get_or (replicate n x) k x ≡ x
same_everywhere zero x k = refl
same_everywhere (suc n) x zero = refl
same_everywhere (suc n) x (suc k) = same_everywhere n x k
