-- An accepted image is the text of its data lines, and the text of loadable data lines is accepted.
use Rattle.std.proofs.Common.{◌≡◌, ℕ, zero, suc, ◌+◌, ◌/◌, ◌%◌, ◌^◌, ◌<◌, Bool, true, false, cond, eqb, ltb, List, [], ◌∷◌, ◌++◌, length, codes, sym, refl, ap, ◌∙◌, arith}
use Rattle.std.specs.List.{flat_map, AllByRecursion}
use Rattle.std.proofs.ByRecursion.{All-append, All-push}
use Rattle.std.proofs.lemmas.List.{append_assoc}
use Rattle.std.proofs.lemmas.Bool.{cond-true, cond_both, eqb-true, eq-eqb, ne_eqb}
use Rattle.hex_text.specs.Digits.{hex_digit, hex_digits}
use Rattle.image.specs.Acceptance.{Accepts}
use Rattle.image.specs.Checking.{Answer, accepted, refused, ended, on_memory, check_line, check_from, checked, data_first, data_of, image_data}
use Rattle.image.specs.Format.{Data, Sound, data_text, end_text}
use Rattle.image.specs.Lines.{Lines, line, rest, longer, lines_of}
use Rattle.image.specs.Reading.{Reading, data_line, end_line, malformed, read_line}
use Rattle.image.proofs.Inverse.{undoes}

-- the bytes of lines, with their line feeds
abbrev flat : Lines → List ℕ
flat (line l ls) = l ++ 10 ∷ flat ls
flat (rest bs) = bs

flat_longer : (b : ℕ) (ls : Lines) → flat (longer b ls) ≡ b ∷ flat ls
flat_longer b (line l ls) = refl
flat_longer b (rest bs) = refl

flat_lines : (bs : List ℕ) → flat (lines_of bs) ≡ bs
flat_lines [] = refl
flat_lines (b ∷ bs) = by (flat_lines bs) (eqb b 10) refl
  where
    by : flat (lines_of bs) ≡ bs → (t : Bool) → eqb b 10 ≡ t → flat (cond t (line [] (lines_of bs)) (longer b (lines_of bs))) ≡ b ∷ bs
    by more true e = (λ i. sym (eqb-true b 10 e) i ∷ more i)
    by more false e = flat_longer b (lines_of bs) ∙ ap (λ xs. b ∷ xs) more

abbrev data_lines : List Data → List ℕ
data_lines ds = flat_map (λ d. data_text d ++ codes "\n") ds

-- what an accepted run of lines is
record Run (memory : ℕ → Bool) (count n : ℕ) (ls : Lines) (ds : List Data) : Type 0 where
  text : flat ls ≡ data_lines ds ++ (end_text n ++ codes "\n")
  counted : n ≡ count + length ds
  small : n < 2 ^ 32
  sound : AllByRecursion Sound ds
  placed : AllByRecursion (λ d. on_memory memory d.address d.bytes ≡ true) ds

module _ (memory : ℕ → Bool) where
  run_data : {count n : ℕ} {ls : Lines} {ds : List Data} (l : List ℕ) (d : Data) → Sound d → on_memory memory d.address d.bytes ≡ true → l ≡ data_text d → Run memory (count + 1) n ls ds → Run memory count n (line l ls) (d ∷ ds)
  run_data {count} {n} {ls} {ds} l d sound on is more = record {
    text = (λ i. is i ++ 10 ∷ more.text i) ∙ sym (append_assoc (data_text d) (codes "\n") (data_lines ds ++ (end_text n ++ codes "\n"))) ∙ sym (append_assoc (data_text d ++ codes "\n") (data_lines ds) (end_text n ++ codes "\n"));
    counted = omega (arith, more.counted);
    small = more.small;
    sound = (sound, more.sound);
    placed = (on, more.placed);
  }

  run_end : (count n m : ℕ) (l : List ℕ) (ls : Lines) (place : ℕ) → n < 2 ^ 32 → l ≡ end_text n → n ≡ count → ended n place ls ≡ accepted m → Run memory count m (line l ls) []
  run_end count n m l (rest []) place small is same e =
      let got : n ≡ m = cc in
      record { text = ap (λ xs. xs ++ codes "\n") (is ∙ ap end_text got); counted = omega (arith, got); small = omega (arith, got); sound = tt; placed = tt }
  run_end count n m l (rest (b ∷ bs)) place small is same e = absurd (let z : ◌≡◌ {A = ℕ} 0 1 = cc in omega arith)
  run_end count n m l (line k ls) place small is same e = absurd (let z : ◌≡◌ {A = ℕ} 0 1 = cc in omega arith)

  run_line : (l : List ℕ) (r : Reading) → read_line l ≡ r → (place count next n : ℕ) (ls : Lines) (more : Answer) (after : more ≡ accepted n → Run memory (count + 1) n ls (data_of ls)) → check_line memory r place count next ls more ≡ accepted n → Run memory count n (line l ls) (data_first r (data_of ls))
  run_line l (data_line d) is place count next n ls more after e = by (on_memory memory d.address d.bytes) refl e
    where
      by : (t : Bool) → on_memory memory d.address d.bytes ≡ t → cond t more (refused 12 place) ≡ accepted n → Run memory count n (line l ls) (d ∷ data_of ls)
      by true on e = let told = (undoes l (data_line d) (sym is)).data_read d refl in run_data l d told.0 on told.1 (after e)
      by false on e = absurd (let z : ◌≡◌ {A = ℕ} 0 1 = cc in omega arith)
  run_line l (end_line m) is place count next n ls more after e = by (eqb m count) refl e
    where
      by : (t : Bool) → eqb m count ≡ t → cond t (ended m next ls) (refused 13 place) ≡ accepted n → Run memory count n (line l ls) []
      by true same e = let told = (undoes l (end_line m) (sym is)).end_read m refl in run_end count m n l ls next told.0 told.1 (eqb-true m count same) e
      by false same e = absurd (let z : ◌≡◌ {A = ℕ} 0 1 = cc in omega arith)
  run_line l malformed is place count next n ls more after e = absurd (let z : ◌≡◌ {A = ℕ} 0 1 = cc in omega arith)

  run : (ls : Lines) (place count n : ℕ) → check_from memory place count ls ≡ accepted n → Run memory count n ls (data_of ls)
  run (rest []) place count n e = absurd (let z : ◌≡◌ {A = ℕ} 0 1 = cc in omega arith)
  run (rest (b ∷ bs)) place count n e = absurd (let z : ◌≡◌ {A = ℕ} 0 1 = cc in omega arith)
  run (line l ls) place count n e = run_line l (read_line l) refl place count (place + length l + 1) n ls (check_from memory (place + length l + 1) (count + 1) ls) (run ls (place + length l + 1) (count + 1) n) e

-- no line feed stands inside a line

abbrev NoFeed : ℕ → Type 0
NoFeed b = b ≡ 10 → ⊥

cut_line : (l more : List ℕ) → AllByRecursion NoFeed l → lines_of (l ++ 10 ∷ more) ≡ line l (lines_of more)
cut_line [] more none = refl
cut_line (b ∷ l) more none =
    ap (λ t. cond t (line [] (lines_of (l ++ 10 ∷ more))) (longer b (lines_of (l ++ 10 ∷ more)))) (ne_eqb b 10 none.0) ∙ ap (longer b) (cut_line l more none.1)

digit_no_feed : (d : ℕ) → NoFeed (hex_digit d)
digit_no_feed d = cond_both (ltb d 10) (48 + d) (55 + d) NoFeed (λ _ e. omega arith) (λ _ e. omega arith)

digits_no_feed : (k n : ℕ) → AllByRecursion NoFeed (hex_digits k n)
digits_no_feed zero n = tt
digits_no_feed (suc k) n = All-push NoFeed (hex_digits k (n / 16)) (hex_digit (n % 16)) (digits_no_feed k (n / 16)) (digit_no_feed (n % 16))

pairs_no_feed : (bs : List ℕ) → AllByRecursion NoFeed (flat_map (hex_digits 2) bs)
pairs_no_feed [] = tt
pairs_no_feed (b ∷ bs) = All-append NoFeed (hex_digits 2 b) (flat_map (hex_digits 2) bs) (digits_no_feed 2 b) (pairs_no_feed bs)

data_no_feed : (d : Data) → AllByRecursion NoFeed (data_text d)
data_no_feed d =
    ((λ e. omega arith), ((λ e. omega arith), All-append NoFeed (hex_digits 8 d.address) (codes "," ++ flat_map (hex_digits 2) d.bytes) (digits_no_feed 8 d.address) ((λ e. omega arith), pairs_no_feed d.bytes)))

end_no_feed : (n : ℕ) → AllByRecursion NoFeed (end_text n)
end_no_feed n = ((λ e. omega arith), ((λ e. omega arith), digits_no_feed 8 n))

module _ (memory : ℕ → Bool) where
  taken_end : (place count n : ℕ) → n < 2 ^ 32 → n ≡ count → (ls : Lines) → ls ≡ line (end_text n) (rest []) → (check_from memory place count ls ≡ accepted n) × (data_of ls ≡ [])
  taken_end place count n small same ls is =
      let r : read_line (end_text n) ≡ end_line n = (undoes (end_text n) (read_line (end_text n)) refl).end_written n small refl in (
        ap (check_from memory place count) is
            ∙ ap (λ x. check_line memory x place count (place + length (end_text n) + 1) (rest []) (check_from memory (place + length (end_text n) + 1) (count + 1) (rest []))) r
            ∙ cond-true (eqb n count) (accepted n) (refused 13 place) (eq-eqb n count same),
        ap data_of is ∙ ap (λ x. data_first x []) r,
      )

  taken_data : (place count n : ℕ) (d : Data) (ds : List Data) (more ls : Lines) → Sound d → on_memory memory d.address d.bytes ≡ true → ls ≡ line (data_text d) more → ((next : ℕ) → (check_from memory next (count + 1) more ≡ accepted n) × (data_of more ≡ ds)) → (check_from memory place count ls ≡ accepted n) × (data_of ls ≡ d ∷ ds)
  taken_data place count n d ds more ls sound on is after =
      let r : read_line (data_text d) ≡ data_line d = (undoes (data_text d) (read_line (data_text d)) refl).data_written d sound refl in
      let next = place + length (data_text d) + 1 in (
        ap (check_from memory place count) is
            ∙ ap (λ x. check_line memory x place count next more (check_from memory next (count + 1) more)) r
            ∙ cond-true (on_memory memory d.address d.bytes) (check_from memory next (count + 1) more) (refused 12 place) on
            ∙ (after next).0,
        ap data_of is ∙ ap (λ x. data_first x (data_of more)) r ∙ ap (λ xs. d ∷ xs) (after next).1,
      )

  taken : (ds : List Data) (place count n : ℕ) → n < 2 ^ 32 → n ≡ count + length ds → AllByRecursion Sound ds → AllByRecursion (λ d. on_memory memory d.address d.bytes ≡ true) ds → (check_from memory place count (lines_of (data_lines ds ++ (end_text n ++ codes "\n"))) ≡ accepted n) × (data_of (lines_of (data_lines ds ++ (end_text n ++ codes "\n"))) ≡ ds)
  taken [] place count n small same sound placed = taken_end place count n small (omega arith) _ (cut_line (end_text n) [] (end_no_feed n))
  taken (d ∷ ds) place count n small same sound placed =
      let more = data_lines ds ++ (end_text n ++ codes "\n") in
      let text : (data_text d ++ codes "\n" ++ data_lines ds) ++ (end_text n ++ codes "\n") ≡ data_text d ++ 10 ∷ more =
      append_assoc (data_text d ++ codes "\n") (data_lines ds) (end_text n ++ codes "\n") ∙ append_assoc (data_text d) (codes "\n") more in
      taken_data place count n d ds (lines_of more) _ sound.0 placed.0 (ap lines_of text ∙ cut_line (data_text d) more (data_no_feed d)) (λ next. taken ds next (count + 1) n small (omega arith) sound.1 placed.1)

  pub accepts : (image : List ℕ) (a : Answer) → a ≡ checked memory image → Accepts memory image a
  accepts image a is = record {
    read = λ n e.
        let got = run memory (lines_of image) 0 0 n (sym is ∙ e) in
        let count : n ≡ length (image_data image) = omega (arith, got.counted) in (
          record { sound = got.sound; placed = got.placed; few = omega (arith, got.small) },
          sym (flat_lines image) ∙ got.text ∙ ap (λ m. data_lines (image_data image) ++ (end_text m ++ codes "\n")) count,
          count,
        );
    written = λ ds ok e.
        let got = taken ds 0 0 (length ds) ok.few (omega arith) ok.sound ok.placed in
        (is ∙ ap (checked memory) e ∙ got.0, ap image_data e ∙ got.1);
  }
