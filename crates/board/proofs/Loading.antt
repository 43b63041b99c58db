-- Bytes and lines put on memory, one by one.
use Rattle.std.proofs.Common.{◌≡◌, ℕ, ◌+◌, ◌%◌, ◌^◌, ◌<◌, true, ◌&&◌, ltb, List, [], ◌∷◌, length, drop, Some, Ok, Err, Result, sym, refl, ap, ◌∙◌, subst, arith}
use Rattle.std.proofs.lemmas.Bool.{and_parts, eq-eqb}
use Rattle.std.specs.List.{AllByRecursion}
use Rattle.bus.specs.Rules.{Rules, Laws, writable, or_else, stored_all, writing, written}
use Rattle.bus.specs.declared.fault.Fault.{Fault}
use Rattle.bus.specs.declared.fault.Home.{Home}
use Rattle.bus.specs.declared.kind.Kind.{Kind}
use Rattle.bus.specs.declared.kind.Kind.TheVariants.{Absent, Rom, Memory, Device}
use Rattle.bus.specs.declared.size.Size.TheVariants.{Byte}
use Rattle.image.specs.Checking.{on_memory, data_first, data_of}
use Rattle.image.specs.Format.{Data}
use Rattle.image.specs.Lines.{lines_of, LineAt}
use Rattle.image.specs.Memory.{is_memory, memory_in}
use Rattle.image.specs.Reading.{data_line, read_line}
use Rattle.board.specs.Load.{put_data}

not_both : {V : Type 0} {x : Result V Fault} {v : V} {f : Fault} → x ≡ Ok v → x ≡ Err f → ⊥
not_both ok err = let z : ◌≡◌ {A = ℕ} 0 1 = cc in omega arith

-- nothing keeps a write from memory
on_memory_lem : {V : Type 0} (k : Kind) (h : Home) (v : V) → is_memory k ≡ true → writable k h v ≡ Ok v
on_memory_lem Absent h v e = let z : ◌≡◌ {A = ℕ} 0 1 = cc in absurd (omega arith)
on_memory_lem Rom h v e = let z : ◌≡◌ {A = ℕ} 0 1 = cc in absurd (omega arith)
on_memory_lem Memory h v e = refl
on_memory_lem Device h v e = let z : ◌≡◌ {A = ℕ} 0 1 = cc in absurd (omega arith)

module _ {M : Type 0} (r : Rules M) where
  -- the bytes of all data lines fall on memory
  abbrev pub Placed : M → List Data → Type 0
  Placed m ds = AllByRecursion (λ d. on_memory (memory_in r m) d.address d.bytes ≡ true) ds

  module _ (laws : Laws r) where
    -- kinds never change
    stored_memory : (m : M) (a b : ℕ) → memory_in r (r.stored m a b) ≡ memory_in r m
    stored_memory m a b = (λ i c. is_memory (laws.stored_kind m a b c i))

    all_memory : (m : M) (a : ℕ) (bs : List ℕ) → memory_in r (stored_all r m a bs) ≡ memory_in r m
    all_memory m a [] = refl
    all_memory m a (b ∷ bs) = all_memory (r.stored m a b) (a + 1) bs ∙ stored_memory m a b

  -- the first of some bytes that fall on memory is put there, and the others fall on memory still
  module _ (laws : Laws r) (m n : M) (at b : ℕ) (bs more : List ℕ) (cut : bs ≡ b ∷ more) (on : on_memory (memory_in r m) at bs ≡ true) (small : b < 256) (put : n ≡ written r m Byte at b) where
    parts : ((ltb at (2 ^ 32) && memory_in r m at) ≡ true) × (on_memory (memory_in r m) (at + 1) more ≡ true)
    parts = and_parts _ _ (sym (ap (on_memory (memory_in r m) at) cut) ∙ on)

    stored : n ≡ r.stored m at b
    stored =
        let whole : at % 1 ≡ 0 = omega arith in
        let low : b % 256 ≡ b = omega arith in
        let free : writing r m Byte at (r.stored m at (b % 256)) ≡ Ok (r.stored m at (b % 256)) =
        rw (eq-eqb (at % 1) 0 whole) (on_memory_lem (r.kind m at) (r.home m at) _ (and_parts (ltb at (2 ^ 32)) (memory_in r m at) parts.0).1) in
        put ∙ ap (or_else m) free ∙ ap (r.stored m at) low

    pub bytes_more : stored_all r n (at + 1) more ≡ stored_all r m at bs
    bytes_more = ap (λ k. stored_all r k (at + 1) more) stored ∙ sym (ap (stored_all r m at) cut)

    pub bytes_placed : on_memory (memory_in r n) (at + 1) more ≡ true
    bytes_placed = ap (λ k. on_memory (memory_in r k) (at + 1) more) stored ∙ ap (λ f. on_memory f (at + 1) more) (stored_memory laws m at b) ∙ parts.1

  -- a data line at a place of an image
  module _ (image : List ℕ) (place : ℕ) (l : List ℕ) (at : LineAt image place (Some l)) (d : Data) (is : data_line d ≡ read_line l) where
    line_data : data_of (lines_of (drop place image)) ≡ d ∷ data_of (lines_of (drop (place + length l + 1) image))
    line_data = ap data_of at.0 ∙ ap (λ x. data_first x (data_of (lines_of (drop (place + length l + 1) image)))) (sym is)

    module _ (m n : M) (put : n ≡ stored_all r m d.address d.bytes) where
      pub lines_more : put_data r n (data_of (lines_of (drop (place + length l + 1) image))) ≡ put_data r m (data_of (lines_of (drop place image)))
      lines_more = ap (λ k. put_data r k (data_of (lines_of (drop (place + length l + 1) image)))) put ∙ sym (ap (put_data r m) line_data)

      pub lines_placed : Laws r → Placed m (data_of (lines_of (drop place image))) → Placed n (data_of (lines_of (drop (place + length l + 1) image)))
      lines_placed laws on =
          let all : Placed m (d ∷ data_of (lines_of (drop (place + length l + 1) image))) = subst (Placed m) line_data on in
          let same : memory_in r m ≡ memory_in r n = sym (ap (memory_in r) put ∙ all_memory laws m d.address d.bytes) in
          subst (λ f. AllByRecursion (λ x. on_memory f x.address x.bytes ≡ true) (data_of (lines_of (drop (place + length l + 1) image)))) same all.1
