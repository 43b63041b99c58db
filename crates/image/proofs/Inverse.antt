-- A line is read as a data line or an end line just where it is the text of one.
use Rattle.std.proofs.Common.{◌≡◌, ℕ, ◌+◌, ◌^◌, ◌<◌, ◌≤◌, Bool, true, false, cond, ◌&&◌, eqb, ltb, leb, List, [], ◌∷◌, ◌++◌, length, get_or, take, drop, Some, None, codes, Option, sym, refl, ap, ◌∙◌, arith}
use Rattle.std.specs.List.{flat_map, AllByRecursion}
use Rattle.std.proofs.lemmas.List.{drop_more, drop-drop, take-append-drop}
use Rattle.std.proofs.lemmas.Bool.{and_parts, and_from, ltb-true, leb-true, eqb-true, lt-ltb, eq-eqb}
use Rattle.hex_text.specs.Digits.{hex_digits, hex_number, hex_number_in}
use Rattle.hex_text.proofs.Inverse.{undoes as digits-undo}
use Rattle.image.specs.Format.{Data, Sound, data_text, end_text}
use Rattle.image.specs.Inverse.{Undoes}
use Rattle.image.specs.Reading.{Reading, data_line, end_line, has, before, bytes_of, one_to32, payload, starts_data, data_from, read_data, starts_end, read_end, first_of, read_line}
use Rattle.image.proofs.Pairs.{payload_all}

-- bytes in pairs of digits

before_some : (o : Option ℕ) (p : Option (List ℕ)) (bs : List ℕ) → before o p ≡ Some bs → (b : ℕ) × (cs : List ℕ) × (o ≡ Some b) × (p ≡ Some cs) × (bs ≡ b ∷ cs)
before_some None p bs e = absurd (let z : ◌≡◌ {A = ℕ} 0 1 = cc in omega arith)
before_some (Some b) None bs e = absurd (let z : ◌≡◌ {A = ℕ} 0 1 = cc in omega arith)
before_some (Some b) (Some cs) bs e = (b, cs, refl, refl, cc)

bytes_read : (ds bs : List ℕ) → bytes_of ds ≡ Some bs → (ds ≡ flat_map (hex_digits 2) bs) × AllByRecursion (λ b. b < 256) bs
bytes_read [] bs e = let none : bs ≡ [] = cc in rw none (refl, tt)
bytes_read (h ∷ []) bs e = absurd (let z : ◌≡◌ {A = ℕ} 0 1 = cc in omega arith)
bytes_read (h ∷ l ∷ ds) bs e =
    let parts = before_some (hex_number (h ∷ l ∷ [])) (bytes_of ds) bs e in
    let b = parts.0 in
    let cs = parts.1 in
    let first = (digits-undo 2 (h ∷ l ∷ []) (hex_number (h ∷ l ∷ [])) refl).read b parts.2 in
    let more = bytes_read ds cs parts.3 in
    rw parts.4 (λ i. first.1 i ++ more.0 i, (first.0, more.1))

bytes_written : (bs : List ℕ) → AllByRecursion (λ b. b < 256) bs → bytes_of (flat_map (hex_digits 2) bs) ≡ Some bs
bytes_written [] all = refl
bytes_written (b ∷ bs) all =
    let first : hex_number (hex_digits 2 b) ≡ Some b = (digits-undo 2 (hex_digits 2 b) (hex_number (hex_digits 2 b)) refl).written b all.0 refl in
    (λ i. before (first i) (bytes_written bs all.1 i))

few_some : (o : Option (List ℕ)) (bs : List ℕ) → one_to32 o ≡ Some bs → (o ≡ Some bs) × (1 ≤ length bs) × (length bs ≤ 32)
few_some None bs e = absurd (let z : ◌≡◌ {A = ℕ} 0 1 = cc in omega arith)
few_some (Some cs) bs e = by (leb 1 (length cs) && leb (length cs) 32) refl e
  where
    by : (t : Bool) → (leb 1 (length cs) && leb (length cs) 32) ≡ t → cond t (Some cs) None ≡ Some bs → (Some cs ≡ Some bs) × (1 ≤ length bs) × (length bs ≤ 32)
    by true is e =
        let parts = and_parts (leb 1 (length cs)) (leb (length cs) 32) is in
        let same : cs ≡ bs = cc in
        rw (← same) (refl, leb-true 1 (length cs) parts.0, leb-true (length cs) 32 parts.1)
    by false is e = absurd (let z : ◌≡◌ {A = ℕ} 0 1 = cc in omega arith)

-- a data line

has_byte : (l : List ℕ) (place byte : ℕ) → has l place byte ≡ true → drop place l ≡ byte ∷ drop (place + 1) l
has_byte l place byte e =
    let parts = and_parts (ltb place (length l)) (eqb (get_or l place 0) byte) e in
    drop_more l place 0 (ltb-true place (length l) parts.0) ∙ ap (λ b. b ∷ drop (place + 1) l) (eqb-true (get_or l place 0) byte parts.1)

data_cut : (l : List ℕ) → starts_data l ≡ true → l ≡ codes "M," ++ (take 8 (drop 2 l) ++ (codes "," ++ drop 11 l))
data_cut l e =
    let first = and_parts (has l 0 77) (has l 1 44 && has l 10 44) e in
    let commas = and_parts (has l 1 44) (has l 10 44) first.1 in
    has_byte l 0 77 first.0 ∙ ap (λ xs. 77 ∷ xs) (has_byte l 1 44 commas.0)
    ∙ ap (λ xs. 77 ∷ 44 ∷ xs) (sym (take-append-drop 8 (drop 2 l)) ∙ ap (λ xs. take 8 (drop 2 l) ++ xs) (drop-drop 8 2 l ∙ has_byte l 10 44 commas.1))

data_from_lem : (o : Option ℕ) (p : Option (List ℕ)) (d : Data) → data_from o p ≡ Some d → (o ≡ Some d.address) × (p ≡ Some d.bytes)
data_from_lem None p d e = absurd (let z : ◌≡◌ {A = ℕ} 0 1 = cc in omega arith)
data_from_lem (Some a) None d e = absurd (let z : ◌≡◌ {A = ℕ} 0 1 = cc in omega arith)
data_from_lem (Some a) (Some bs) d e =
    let same : record { address = a; bytes = bs } ≡ d = cc in
    (ap (λ x. Some x.address) same, ap (λ x. Some x.bytes) same)

data_read : (l : List ℕ) (d : Data) (t : Bool) → starts_data l ≡ t → cond t (data_from (hex_number_in 8 (take 8 (drop 2 l))) (payload (drop 11 l))) None ≡ Some d → Sound d × (l ≡ data_text d)
data_read l d true starts e =
    let parts = data_from_lem (hex_number_in 8 (take 8 (drop 2 l))) (payload (drop 11 l)) d e in
    let address = (digits-undo 8 (take 8 (drop 2 l)) (hex_number_in 8 (take 8 (drop 2 l))) refl).read d.address parts.0 in
    let size = few_some (bytes_of (drop 11 l)) d.bytes parts.1 in
    let bytes = bytes_read (drop 11 l) d.bytes size.0 in (
      record { address = address.0; some = size.1; few = size.2; bytes = bytes.1 },
      data_cut l starts ∙ (λ i. codes "M," ++ (address.1 i ++ (codes "," ++ bytes.0 i))),
    )
data_read l d false starts e = absurd (let z : ◌≡◌ {A = ℕ} 0 1 = cc in omega arith)

byte_there : (l : List ℕ) (place byte : ℕ) → place < length l → get_or l place 0 ≡ byte → has l place byte ≡ true
byte_there l place byte h e = and_from (ltb place (length l)) (eqb (get_or l place 0) byte) (lt-ltb place (length l) h) (eq-eqb (get_or l place 0) byte e)

data_written : (d : Data) → Sound d → read_data (data_text d) ≡ Some d
data_written d sound =
    let l = data_text d in
    let starts : starts_data l ≡ true =
    and_from (has l 0 77) (has l 1 44 && has l 10 44) (byte_there l 0 77 (omega arith) refl)
    (and_from (has l 1 44) (has l 10 44) (byte_there l 1 44 (omega arith) refl) (byte_there l 10 44 (omega arith) refl)) in
    let address : hex_number_in 8 (hex_digits 8 d.address) ≡ Some d.address = (digits-undo 8 (hex_digits 8 d.address) (hex_number_in 8 (hex_digits 8 d.address)) refl).written d.address sound.address refl in
    let bytes = payload_all (flat_map (hex_digits 2) d.bytes) d.bytes (bytes_written d.bytes sound.bytes) sound.some sound.few in
    ap (λ t. cond t (data_from (hex_number_in 8 (take 8 (drop 2 l))) (payload (drop 11 l))) None) starts ∙ (λ i. data_from (address i) (bytes i))

-- an end line

end_cut : (l : List ℕ) → starts_end l ≡ true → l ≡ codes "E," ++ drop 2 l
end_cut l e =
    let parts = and_parts (has l 0 69) (has l 1 44) e in
    has_byte l 0 69 parts.0 ∙ ap (λ xs. 69 ∷ xs) (has_byte l 1 44 parts.1)

end_read : (l : List ℕ) (n : ℕ) (t : Bool) → starts_end l ≡ t → cond t (hex_number_in 8 (drop 2 l)) None ≡ Some n → (n < 2 ^ 32) × (l ≡ end_text n)
end_read l n true starts e =
    let count = (digits-undo 8 (drop 2 l) (hex_number_in 8 (drop 2 l)) refl).read n e in
    (count.0, end_cut l starts ∙ ap (λ xs. codes "E," ++ xs) count.1)
end_read l n false starts e = absurd (let z : ◌≡◌ {A = ℕ} 0 1 = cc in omega arith)

end_written : (n : ℕ) → n < 2 ^ 32 → read_end (end_text n) ≡ Some n
end_written n h =
    let l = end_text n in
    let starts : starts_end l ≡ true = and_from (has l 0 69) (has l 1 44) (byte_there l 0 69 (omega arith) refl) (byte_there l 1 44 (omega arith) refl) in
    ap (λ t. cond t (hex_number_in 8 (drop 2 l)) None) starts ∙ (digits-undo 8 (hex_digits 8 n) (hex_number_in 8 (hex_digits 8 n)) refl).written n h refl

end_no_data : (n : ℕ) → read_data (end_text n) ≡ None
end_no_data n = refl

-- a line

first_data : (o : Option Data) (p : Option ℕ) (d : Data) → first_of o p ≡ data_line d → o ≡ Some d
first_data (Some x) p d e = cc
first_data None (Some n) d e = absurd (let z : ◌≡◌ {A = ℕ} 0 1 = cc in omega arith)
first_data None None d e = absurd (let z : ◌≡◌ {A = ℕ} 0 1 = cc in omega arith)

first_end : (o : Option Data) (p : Option ℕ) (n : ℕ) → first_of o p ≡ end_line n → p ≡ Some n
first_end (Some x) p n e = absurd (let z : ◌≡◌ {A = ℕ} 0 1 = cc in omega arith)
first_end None (Some m) n e = cc
first_end None None n e = absurd (let z : ◌≡◌ {A = ℕ} 0 1 = cc in omega arith)

pub undoes : (l : List ℕ) (r : Reading) → r ≡ read_line l → Undoes l r
undoes l r is = record {
  data_read = λ d e. data_read l d (starts_data l) refl (first_data (read_data l) (read_end l) d (sym is ∙ e));
  data_written = λ d sound e. is ∙ ap read_line e ∙ ap (λ o. first_of o (read_end (data_text d))) (data_written d sound);
  end_read = λ n e. end_read l n (starts_end l) refl (first_end (read_data l) (read_end l) n (sym is ∙ e));
  end_written = λ n h e. is ∙ ap read_line e ∙ (λ i. first_of (end_no_data n i) (end_written n h i));
}
