-- Loads, and with them whole scripts, follow the book. Assumes nothing.
use Rattle.std.proofs.Common.{◌≡◌, ℕ, zero, suc, ◌+◌, ◌*◌, ◌%◌, ◌^◌, ◌<◌, Bool, true, cond, ◌&&◌, ltb, List, [], ◌∷◌, length, Ok, Err, sym, refl, ap, ◌∙◌, subst, arith}
use Rattle.std.specs.List.{AllByRecursion}
use Rattle.std.proofs.lemmas.Bool.{and_parts, eq-eqb}
use Rattle.bus.specs.Rules.{Rules, Laws, Steady, readable, fault}
use Rattle.bus.specs.declared.fault.Cause.TheVariants.{Misaligned}
use Rattle.bus.specs.declared.fault.Home.{Home}
use Rattle.bus.specs.declared.kind.Kind.{Kind}
use Rattle.bus.specs.declared.kind.Kind.TheVariants.{Absent, Rom, Memory, Device}
use Rattle.bus.proofs.Holding.{Below}
use Rattle.image.specs.Checking.{Answer, accepted, refused, on_memory, image_data}
use Rattle.image.specs.Format.{Data, Sound}
use Rattle.image.specs.Memory.{is_memory, memory_in}
use Rattle.image.proofs.Acceptance.{accepts}
use Rattle.board.specs.Load.{put_data, load_answer, if_accepted}
use Rattle.board.specs.Machine.{Machine}
use Rattle.script.specs.Account.{tells, after, finally}
use Rattle.script.specs.Book.{Book, put_lines, book_image, book_call, book_finally, MemoryIsBook}
use Rattle.script.specs.Request.{Request, load, lines, look, show, step, run, looked}
use Rattle.script.proofs.Booking.{Follows, on_memory_lem}
use Rattle.script.proofs.StepBook.{stepping, running}

below : (bs : List ℕ) → AllByRecursion (λ b. b < 256) bs → Below bs
unfolding Below
below [] all = tt
below (b ∷ bs) all = (all.0, below bs all.1)

is_memory_lem : (k : Kind) → is_memory k ≡ true → k ≡ Memory
is_memory_lem Absent e = let z : ◌≡◌ {A = ℕ} 0 1 = cc in absurd (omega arith)
is_memory_lem Rom e = let z : ◌≡◌ {A = ℕ} 0 1 = cc in absurd (omega arith)
is_memory_lem Memory e = refl
is_memory_lem Device e = let z : ◌≡◌ {A = ℕ} 0 1 = cc in absurd (omega arith)

-- each byte of some that fall on memory
each_on : (memory : ℕ → Bool) (bs : List ℕ) (a j : ℕ) → on_memory memory a bs ≡ true → j < length bs → memory (a + j) ≡ true
each_on memory [] a j on h = absurd (omega arith)
each_on memory (b ∷ bs) a zero on h =
    let at : a + 0 ≡ a = omega arith in
    ap memory at ∙ (and_parts (ltb a (2 ^ 32)) (memory a) (and_parts (ltb a (2 ^ 32) && memory a) (on_memory memory (a + 1) bs) on).0).1
each_on memory (b ∷ bs) a (suc j) on h =
    let at : a + suc j ≡ a + 1 + j = omega arith in
    ap memory at ∙ each_on memory bs (a + 1) j (and_parts (ltb a (2 ^ 32) && memory a) (on_memory memory (a + 1) bs) on).1 (omega arith)

read_steady : {V : Type 0} (k : Kind) (h : Home) (v : V) → Steady k → readable k h v ≡ Ok v
read_steady Absent h v st = absurd st
read_steady Rom h v st = refl
read_steady Memory h v st = refl
read_steady Device h v st = absurd st

module _ {M : Type 0} (r : Rules M) (laws : Laws r) (m0 : M) where
  put_lines_lem : (ds : List Data) (m : M) (book : Book) (memory : ℕ → Bool) → ((a : ℕ) → memory a ≡ true → r.kind m0 a ≡ Memory) → AllByRecursion Sound ds →
      AllByRecursion (λ d. on_memory memory d.address d.bytes ≡ true) ds → Follows r laws m0 m book → Follows r laws m0 (put_data r m ds) (put_lines book ds)
  put_lines_lem [] m book memory is sound placed f = f
  put_lines_lem (d ∷ ds) m book memory is sound placed f =
      put_lines_lem ds _ _ memory is sound.1 placed.1
      (on_memory_lem r laws m0 m book d.address d.bytes (below d.bytes sound.0.bytes)
      (λ j h. is (d.address + j) (each_on memory d.bytes d.address j placed.0 h)) f)

  loading : (s : Machine M) (image : List ℕ) (book : Book) (a : Answer) → a ≡ load_answer r s image → Follows r laws m0 s.bus book →
      Follows r laws m0 (if_accepted r s image a).bus (book_image image a book)
  loading s image book (refused n place) e f = f
  loading s image book (accepted n) e f =
      let got = ((accepts (memory_in r s.bus) image (accepted n) e).read n refl).0 in
      put_lines_lem (image_data image) s.bus book (memory_in r s.bus)
      (λ a on. sym (f.kinds a) ∙ is_memory_lem (r.kind s.bus a) on) got.sound got.placed f

  calling : (s : Machine M) (q : Request) (book : Book) → Follows r laws m0 s.bus book → Follows r laws m0 (after r s q).bus (book_call r (r.kind m0) s q book)
  calling s (load image) book f = loading s image book (load_answer r s image) refl f
  calling s (lines w) book f = f
  calling s (look a) book f = f
  calling s (show i) book f = f
  calling s step book f = stepping r laws m0 s book f
  calling s (run n) book f = running r laws m0 n s book f

  playing : (qs : List Request) (s : Machine M) (book : Book) → Follows r laws m0 s.bus book → Follows r laws m0 (finally r s qs).bus (book_finally r (r.kind m0) s qs book)
  playing [] s book f = f
  playing (q ∷ qs) s book f = playing qs (after r s q) _ (calling s q book f)

  looking : (s : Machine M) (book : Book) (a : ℕ) → Follows r laws m0 s.bus book → Steady (r.kind m0 a) → tells r s (look a) ≡ looked (Ok (book a))
  looking s book a f st =
      let whole : a % 1 ≡ 0 = omega arith in
      let value : r.byte s.bus a * 256 ^ 0 + 0 ≡ book a = omega (arith, f.bytes a st) in
      ap (λ b. looked (cond b (readable (r.kind s.bus a) (r.home s.bus a) (r.byte s.bus a * 256 ^ 0 + 0)) (Err (fault Misaligned (r.home s.bus a))))) (eq-eqb (a % 1) 0 whole)
      ∙ ap looked (read_steady (r.kind s.bus a) (r.home s.bus a) _ (subst Steady (sym (f.kinds a)) st))
      ∙ ap (λ v. looked (Ok v)) value

module _ {M : Type 0} (r : Rules M) (laws : Laws r) (s : Machine M) where
  followed : (qs : List Request) → Follows r laws s.bus (finally r s qs).bus (book_finally r (r.kind s.bus) s qs (r.byte s.bus))
  followed qs = playing r laws s.bus qs s (r.byte s.bus) (record { kinds = λ c. refl; bytes = λ c st. refl; rom = λ c e. refl })

  pub memory_is_book : (qs : List Request) → MemoryIsBook r s qs (finally r s qs).bus
  memory_is_book qs = record {
    rom = λ a e. (followed qs).bytes a (subst Steady (sym e) tt) ∙ (followed qs).rom a e;
    bytes = λ a st. (followed qs).bytes a st;
    looks = λ front back a e st. looking r laws s.bus (finally r s front) _ a (followed front) st;
  }
