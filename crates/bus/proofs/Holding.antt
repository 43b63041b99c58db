-- What a cache holds stays the word that lies below. Assumes nothing.
use Rattle.std.proofs.Common.{◌≡◌, ℕ, zero, suc, ◌+◌, ◌*◌, ◌/◌, ◌%◌, ◌<◌, ◌≤◌, Bool, true, false, cond, eqb, ◌⊎◌, List, [], ◌∷◌, length, get_or, set, Some, None, Ok, Err, Option, sym, refl, ap, ◌∙◌, subst, inl, inr, ⊎_elim, arith, length-set, get_or-set_other, get_or-set_same}
use Rattle.std.proofs.lemmas.Bool.{cases_Bool, cases_eq, cases_lt, eqb-true, eq-eqb}
use Rattle.bus.specs.Bytes.{width, number, word_bytes, low_bytes}
use Rattle.bus.specs.Block.{byte_in, bytes_in, patched}
use Rattle.bus.specs.Rules.{Rules, Laws, Writable, readable, writable, or_else, bytes_at, stored_all, read_answer, writing, write_answer, written}
use Rattle.bus.specs.Cache.{set_of, word_for, held_word, is_steady, RightLine, Right}
use Rattle.bus.specs.declared.line.Line.{Line}
use Rattle.bus.specs.declared.kind.Kind.{Kind}
use Rattle.bus.specs.declared.kind.Kind.TheVariants.{Absent, Rom, Memory, Device}
use Rattle.bus.specs.declared.fault.Home.{Home}
use Rattle.bus.specs.declared.fault.Fault.{Fault}
use Rattle.bus.specs.declared.size.Size.{Size}
use Rattle.bus.specs.declared.size.Size.TheVariants.{Byte, Half, Word}
use Rattle.bus.proofs.Words.{word_of_four, length-patched, low_length}

-- a line of the cache with a tag and a word
abbrev pub entry : ℕ → ℕ → Option Line
entry t w = Some (record { tag = t; word = w })

-- an access of an aligned address stays within its word
pub inside : (s : Size) (a : ℕ) → a % width s ≡ 0 → a % 4 + width s ≤ 4
inside Byte a e = omega arith
inside Half a e = omega arith
inside Word a e = omega arith

read_steady : {V : Type 0} (k : Kind) (h : Home) (v : V) → is_steady k ≡ true → readable k h v ≡ Ok v
read_steady Absent h v e = cc
read_steady Rom h v e = refl
read_steady Memory h v e = refl
read_steady Device h v e = cc

unfoldable pub Below : List ℕ → Type 0
Below [] = Unit {0}
Below (b ∷ bs) = (b < 256) × Below bs

pub low_below : (s : Size) (v : ℕ) → Below (low_bytes s v)
unfolding Below
low_below Byte v = (omega arith, tt)
low_below Half v = (omega arith, (omega arith, tt))
low_below Word v = (omega arith, (omega arith, (omega arith, (omega arith, tt))))

-- an address of one word is beside an access within another
beside : (t a j n len : ℕ) → (t ≡ a / 4 → ⊥) → j < 4 → a % 4 + n ≤ 4 → len ≡ n → (t * 4 + j < a) ⊎ (a + len ≤ t * 4 + j)
beside t a j n len ne h ins e =
    ⊎_elim (λ lt. inl (omega arith)) (λ le. inr (omega arith)) (cases_lt (t * 4 + j) a)

-- what an accepted write says of its address
pub accepted : (b : Bool) (k : Kind) (h : Home) (f : Fault) → cond b (writable {V = Unit {0}} k h tt) (Err f) ≡ Ok tt → (b ≡ true) × Writable k
accepted false k h f e = cc
accepted true Absent h f e = cc
accepted true Rom h f e = cc
accepted true Memory h f e = (refl, tt)
accepted true Device h f e = (refl, tt)

accepted_value : {N : Type 0} (b : Bool) (k : Kind) (h : Home) (f : Fault) (d n : N) → cond b (writable {V = Unit {0}} k h tt) (Err f) ≡ Ok tt →
    or_else d (cond b (writable k h n) (Err f)) ≡ n
accepted_value false k h f d n e = cc
accepted_value true Absent h f d n e = cc
accepted_value true Rom h f d n e = cc
accepted_value true Memory h f d n e = refl
accepted_value true Device h f d n e = refl

module _ {M : Type 0} (r : Rules M) (laws : Laws r) where
  -- the four bytes of the word that lies at an address
  bytes_of_word : (m : M) (b : ℕ) → word_bytes (number (bytes_at r m b 4)) ≡ bytes_at r m b 4
  bytes_of_word m b = word_of_four _ _ _ _ (laws.byte_fits m b) (laws.byte_fits m (b + 1)) (laws.byte_fits m (b + 1 + 1)) (laws.byte_fits m (b + 1 + 1 + 1))

  byte_of_word : (m : M) (b k : ℕ) → k < 4 → get_or (bytes_at r m b 4) k 0 ≡ r.byte m (b + k)
  byte_of_word m b zero h = ap (r.byte m) (omega arith)
  byte_of_word m b (suc zero) h = ap (r.byte m) (omega arith)
  byte_of_word m b (suc (suc zero)) h = ap (r.byte m) (omega arith)
  byte_of_word m b (suc (suc (suc zero))) h = ap (r.byte m) (omega arith)
  byte_of_word m b (suc (suc (suc (suc k)))) h = absurd (omega arith)

  -- a part of the word that lies below is what lies there
  parts : (m : M) (b n k : ℕ) → k + n ≤ 4 → bytes_in (word_bytes (number (bytes_at r m b 4))) k n ≡ bytes_at r m (b + k) n
  parts m b zero k h = refl
  parts m b (suc n) k h =
      let here : byte_in (word_bytes (number (bytes_at r m b 4))) k ≡ r.byte m (b + k) =
      ap (λ ws. get_or ws k 0 % 256) (bytes_of_word m b) ∙ ap (λ x. x % 256) (byte_of_word m b k (omega arith)) ∙ omega (arith, laws.byte_fits m (b + k)) in
      let rest : bytes_in (word_bytes (number (bytes_at r m b 4))) (k + 1) n ≡ bytes_at r m (b + k + 1) n =
      parts m b n (k + 1) (omega arith) ∙ ap (λ x. bytes_at r m x n) (omega arith) in
      ap (λ x. x ∷ bytes_in (word_bytes (number (bytes_at r m b 4))) (k + 1) n) here ∙ ap (λ xs. r.byte m (b + k) ∷ xs) rest

  -- a read of ROM or memory by way of the whole word
  pub read_part : (m : M) (s : Size) (a w : ℕ) → a % width s ≡ 0 → is_steady (r.kind m (a / 4 * 4)) ≡ true → w ≡ number (bytes_at r m (a / 4 * 4) 4) →
      read_answer r m s a ≡ Ok (number (bytes_in (word_bytes w) (a % 4) (width s)))
  read_part m s a w al st e =
      let steady : is_steady (r.kind m a) ≡ true = ap is_steady (laws.word_kind m a) ∙ st in
      let at : a / 4 * 4 + a % 4 ≡ a = omega arith in
      let same : bytes_in (word_bytes w) (a % 4) (width s) ≡ bytes_at r m a (width s) =
      ap (λ x. bytes_in (word_bytes x) (a % 4) (width s)) e ∙ parts m (a / 4 * 4) (width s) (a % 4) (inside s a al) ∙ ap (λ x. bytes_at r m x (width s)) at in
      rw (eq-eqb (a % width s) 0 al) (read_steady (r.kind m a) (r.home m a) _ steady ∙ ap (λ bs. Ok (number bs)) (sym same))

  -- the word below an aligned address of ROM or memory can be read
  read_word : (m : M) (a : ℕ) → is_steady (r.kind m a) ≡ true → read_answer r m Word (a / 4 * 4) ≡ Ok (number (bytes_at r m (a / 4 * 4) 4))
  read_word m a st =
      let e : a / 4 * 4 % 4 ≡ 0 = omega arith in
      rw (eq-eqb (a / 4 * 4 % 4) 0 e) (read_steady (r.kind m (a / 4 * 4)) (r.home m (a / 4 * 4)) _ (ap is_steady (sym (laws.word_kind m a)) ∙ st))

  -- and where it was read, it is the one that lies there
  pub read_whole : (m : M) (a w : ℕ) → is_steady (r.kind m a) ≡ true → Ok w ≡ read_answer r m Word (a / 4 * 4) →
      (is_steady (r.kind m (a / 4 * 4)) ≡ true) × (w ≡ number (bytes_at r m (a / 4 * 4) 4))
  read_whole m a w st is =
      let whole : is_steady (r.kind m (a / 4 * 4)) ≡ true = ap is_steady (sym (laws.word_kind m a)) ∙ st in
      let got : Ok w ≡ Ok (number (bytes_at r m (a / 4 * 4) 4)) = is ∙ read_word m a st in
      let word : w ≡ number (bytes_at r m (a / 4 * 4) 4) = cc in
      (whole, word)

  -- what a line that is right says of the word asked for
  right_word : (m : M) (k t w : ℕ) (o : Option Line) → RightLine r m k o → word_for t o ≡ Some w →
      (is_steady (r.kind m (t * 4)) ≡ true) × (w ≡ number (bytes_at r m (t * 4) 4))
  right_word m k t w None h e = cc
  right_word m k t w (Some l) h e =
      ⊎_elim
      (λ q. let tag : l.tag ≡ t = eqb-true l.tag t q in
      let word : Some l.word ≡ Some w = rw q at e in
      let is : l.word ≡ w = cc in
      subst (λ x. (is_steady (r.kind m (x * 4)) ≡ true) × (w ≡ number (bytes_at r m (x * 4) 4))) tag (h.1, sym is ∙ h.2))
      (λ q. let none : None ≡ Some w = rw q at e in
      cc)
      (cases_Bool (eqb l.tag t))

  -- a held word serves every read of it
  pub read_held : (m : M) (ls : List (Option Line)) (s : Size) (a w : ℕ) → Right r m ls → a % width s ≡ 0 → held_word ls a ≡ Some w →
      read_answer r m s a ≡ Ok (number (bytes_in (word_bytes w) (a % 4) (width s)))
  read_held m ls s a w right al e =
      let is = right_word m (set_of a) (a / 4) w (get_or ls (set_of a) None) (right (set_of a)) e in
      read_part m s a w al is.0 is.1

  four_agree : (m : M) (ws : List ℕ) (b : ℕ) → length ws ≡ 4 → ((j : ℕ) → j < 4 → r.byte m (b + j) ≡ get_or ws j 0) → bytes_at r m b 4 ≡ ws
  four_agree m (x ∷ y ∷ z ∷ u ∷ []) b e f =
      let e0 : b + 0 ≡ b = omega arith in
      let e2 : b + 2 ≡ b + 1 + 1 = omega arith in
      let e3 : b + 3 ≡ b + 1 + 1 + 1 = omega arith in
      let f0 : r.byte m b ≡ x = rw e0 at (f 0 (omega arith)) in
      let f1 : r.byte m (b + 1) ≡ y = f 1 (omega arith) in
      let f2 : r.byte m (b + 1 + 1) ≡ z = rw e2 at (f 2 (omega arith)) in
      let f3 : r.byte m (b + 1 + 1 + 1) ≡ u = rw e3 at (f 3 (omega arith)) in
      rw (f0, f1, f2, f3)
  four_agree m [] b e f = absurd (omega arith)
  four_agree m (x ∷ []) b e f = absurd (omega arith)
  four_agree m (x ∷ y ∷ []) b e f = absurd (omega arith)
  four_agree m (x ∷ y ∷ z ∷ []) b e f = absurd (omega arith)
  four_agree m (x ∷ y ∷ z ∷ u ∷ q ∷ ws) b e f = absurd (omega arith)

  -- four bytes that are the same one by one
  same_four : (m n : M) (b : ℕ) → ((k : ℕ) → k < 4 → r.byte m (b + k) ≡ r.byte n (b + k)) → bytes_at r m b 4 ≡ bytes_at r n b 4
  same_four m n b f =
      let e0 : b + 0 ≡ b = omega arith in
      let e2 : b + 2 ≡ b + 1 + 1 = omega arith in
      let e3 : b + 3 ≡ b + 1 + 1 + 1 = omega arith in
      let f0 : r.byte m b ≡ r.byte n b = rw e0 at (f 0 (omega arith)) in
      let f1 : r.byte m (b + 1) ≡ r.byte n (b + 1) = f 1 (omega arith) in
      let f2 : r.byte m (b + 1 + 1) ≡ r.byte n (b + 1 + 1) = rw e2 at (f 2 (omega arith)) in
      let f3 : r.byte m (b + 1 + 1 + 1) ≡ r.byte n (b + 1 + 1 + 1) = rw e3 at (f 3 (omega arith)) in
      rw (f0, f1, f2, f3)

  pub stored_kinds : (m : M) (a : ℕ) (bs : List ℕ) (c : ℕ) → r.kind (stored_all r m a bs) c ≡ r.kind m c
  stored_kinds m a [] c = refl
  stored_kinds m a (b ∷ bs) c = stored_kinds (r.stored m a b) (a + 1) bs c ∙ laws.stored_kind m a b c

  pub stored_outside : (m : M) (a : ℕ) (bs : List ℕ) (c : ℕ) → (c < a) ⊎ (a + length bs ≤ c) → r.byte (stored_all r m a bs) c ≡ r.byte m c
  stored_outside m a [] c h = refl
  stored_outside m a (b ∷ bs) c h =
      stored_outside (r.stored m a b) (a + 1) bs c (⊎_elim (λ l. inl (omega arith)) (λ l. inr (omega arith)) h)
      ∙ laws.stored_there m a b c (λ e. ⊎_elim (λ l. omega arith) (λ l. omega arith) h)

  -- The word of a base address after a write into it: b is the base, and k the place in the word.
  Agree : M → List ℕ → ℕ → Type 0
  Agree m ws b = (j : ℕ) → j < 4 → r.byte m (b + j) ≡ get_or ws j 0

  Takes : M → ℕ → Type 0
  Takes m b = (j : ℕ) → j < 4 → Writable (r.kind m (b + j))

  stored_agrees : (bs : List ℕ) (m : M) (ws : List ℕ) (b k : ℕ) → k + length bs ≤ 4 → length ws ≡ 4 → Below bs → Takes m b → Agree m ws b →
      Agree (stored_all r m (b + k) bs) (patched ws k bs) b
  unfolding Agree Takes Below
  stored_agrees [] m ws b k h len lt takes agree = agree
  stored_agrees (x ∷ xs) m ws b k h len lt takes agree =
      let first : Agree (r.stored m (b + k) x) (set ws k x) b = λ j hj.
      ⊎_elim
      (λ e. ap (λ i. r.byte (r.stored m (b + k) x) (b + i)) e ∙ laws.stored_here m (b + k) x lt.0 (takes k (omega arith))
      ∙ sym (ap (λ i. get_or (set ws k x) i 0) e ∙ get_or-set_same ws k x 0 (omega arith)))
      (λ e. laws.stored_there m (b + k) x (b + j) (λ q. e (omega arith)) ∙ agree j hj ∙ sym (get_or-set_other ws k j x 0 e))
      (cases_eq j k) in
      let kinds : Takes (r.stored m (b + k) x) b = λ j hj. subst Writable (sym (laws.stored_kind m (b + k) x (b + j))) (takes j hj) in
      let at : b + (k + 1) ≡ b + k + 1 = omega arith in
      subst (λ c. Agree (stored_all r (r.stored m (b + k) x) c xs) (patched (set ws k x) (k + 1) xs) b) at
      (stored_agrees xs (r.stored m (b + k) x) (set ws k x) b (k + 1) (omega arith) (length-set ws k x ∙ len) lt.1 kinds first)

  pub accepts : (d m n : M) (s : Size) (a : ℕ) → write_answer r m s a ≡ Ok tt → or_else d (writing r m s a n) ≡ n
  accepts d m n s a ok = accepted_value (eqb (a % width s) 0) (r.kind m a) (r.home m a) _ d n ok

  -- the word that a write leaves below is the one that the cache makes of its own
  merged : (m : M) (s : Size) (a v w : ℕ) → a % width s ≡ 0 → Writable (r.kind m a) → w ≡ number (bytes_at r m (a / 4 * 4) 4) →
      number (patched (word_bytes w) (a % 4) (low_bytes s v)) ≡ number (bytes_at r (stored_all r m a (low_bytes s v)) (a / 4 * 4) 4)
  unfolding Agree Takes
  merged m s a v w al wr e =
      let b = a / 4 * 4 in
      let bytes : word_bytes w ≡ bytes_at r m b 4 = ap word_bytes e ∙ bytes_of_word m b in
      let before : Agree m (word_bytes w) b = λ j h. sym (ap (λ ws. get_or ws j 0) bytes ∙ byte_of_word m b j h) in
      let kinds : Takes m b = λ j h.
      let same : (b + j) / 4 * 4 ≡ b = omega arith in
      subst Writable (laws.word_kind m a ∙ sym (laws.word_kind m (b + j) ∙ ap (r.kind m) same)) wr in
      let after : Agree (stored_all r m (b + a % 4) (low_bytes s v)) (patched (word_bytes w) (a % 4) (low_bytes s v)) b =
      stored_agrees (low_bytes s v) m (word_bytes w) b (a % 4) (rw low_length (inside s a al)) refl (low_below s v) kinds before in
      let at : b + a % 4 ≡ a = omega arith in
      let there : Agree (stored_all r m a (low_bytes s v)) (patched (word_bytes w) (a % 4) (low_bytes s v)) b =
      subst (λ c. Agree (stored_all r m c (low_bytes s v)) (patched (word_bytes w) (a % 4) (low_bytes s v)) b) at after in
      ap number (sym (four_agree (stored_all r m a (low_bytes s v)) (patched (word_bytes w) (a % 4) (low_bytes s v)) b (length-patched (word_bytes w) (a % 4) (low_bytes s v)) there))

  -- a line of another word than the one written stays right
  line_elsewhere : (m : M) (s : Size) (a v : ℕ) → a % width s ≡ 0 → (k : ℕ) (o : Option Line) → ((l : Line) → o ≡ Some l → l.tag ≡ a / 4 → ⊥) →
      RightLine r m k o → RightLine r (stored_all r m a (low_bytes s v)) k o
  line_elsewhere m s a v al k None other h = tt
  line_elsewhere m s a v al k (Some l) other h =
      let ne : l.tag ≡ a / 4 → ⊥ = other l refl in
      let ins = inside s a al in
      let len = low_length s v in (
        h.0,
        ap is_steady (stored_kinds m a (low_bytes s v) (l.tag * 4)) ∙ h.1,
        h.2 ∙ ap number (same_four m (stored_all r m a (low_bytes s v)) (l.tag * 4)
            (λ j hj. sym (stored_outside m a (low_bytes s v) (l.tag * 4 + j) (beside l.tag a j (width s) (length (low_bytes s v)) ne hj ins len)))),
      )

  tag_set : (m : M) (k t : ℕ) (o : Option Line) (l : Line) → RightLine r m k o → o ≡ Some l → l.tag ≡ t → k ≡ t % 256
  tag_set m k t o l h e q = let h' : RightLine r m k (Some l) = subst (RightLine r m k) e h in sym h'.0 ∙ ap (λ x. x % 256) q

  pub right_written : (m : M) (ls : List (Option Line)) (s : Size) (a v w : ℕ) → Right r m ls → length ls ≡ 256 → write_answer r m s a ≡ Ok tt →
      held_word ls a ≡ Some w → Right r (written r m s a v) (set ls (set_of a) (entry (a / 4) (number (patched (word_bytes w) (a % 4) (low_bytes s v)))))
  right_written m ls s a v w right len ok held k =
      let parts = accepted (eqb (a % width s) 0) (r.kind m a) (r.home m a) _ ok in
      let al : a % width s ≡ 0 = eqb-true (a % width s) 0 parts.0 in
      let is = right_word m (set_of a) (a / 4) w (get_or ls (set_of a) None) (right (set_of a)) held in
      let after : written r m s a v ≡ stored_all r m a (low_bytes s v) = accepts m m (stored_all r m a (low_bytes s v)) s a ok in
      let n = stored_all r m a (low_bytes s v) in
      let new = entry (a / 4) (number (patched (word_bytes w) (a % 4) (low_bytes s v))) in
      let here : RightLine r n (set_of a) new =
      (refl, ap is_steady (stored_kinds m a (low_bytes s v) (a / 4 * 4)) ∙ is.0, merged m s a v w al parts.1 is.1) in
      let there : RightLine r n k (get_or (set ls (set_of a) new) k None) =
      ⊎_elim
      (λ q. subst (RightLine r n k) (sym (ap (λ x. get_or (set ls (set_of a) new) x None) q ∙ get_or-set_same ls (set_of a) new None (omega arith)))
      (subst (λ x. RightLine r n x new) (sym q) here))
      (λ q. subst (RightLine r n k) (sym (get_or-set_other ls (set_of a) k new None q))
      (line_elsewhere m s a v al k (get_or ls k None) (λ l e p. q (tag_set m k (a / 4) (get_or ls k None) l (right k) e p)) (right k)))
      (cases_eq k (set_of a)) in
      subst (λ x. RightLine r x k (get_or (set ls (set_of a) new) k None)) (sym after) there

  -- the same where the word written is not held
  pub right_written_free : (m : M) (ls : List (Option Line)) (s : Size) (a v : ℕ) → Right r m ls → write_answer r m s a ≡ Ok tt → held_word ls a ≡ None →
      Right r (written r m s a v) ls
  right_written_free m ls s a v right ok held k =
      let parts = accepted (eqb (a % width s) 0) (r.kind m a) (r.home m a) _ ok in
      let al : a % width s ≡ 0 = eqb-true (a % width s) 0 parts.0 in
      let after : written r m s a v ≡ stored_all r m a (low_bytes s v) = accepts m m (stored_all r m a (low_bytes s v)) s a ok in
      subst (λ n. RightLine r n k (get_or ls k None)) (sym after)
      (line_elsewhere m s a v al k (get_or ls k None)
      (λ l e p.
      let here : k ≡ set_of a = tag_set m k (a / 4) (get_or ls k None) l (right k) e p in
      let line : get_or ls (set_of a) None ≡ Some l = ap (λ x. get_or ls x None) (sym here) ∙ e in
      let found : word_for (a / 4) (Some l) ≡ None = sym (ap (word_for (a / 4)) line) ∙ held in
      let some : Some l.word ≡ None = rw (eq-eqb l.tag (a / 4) p) at found in
      cc)
      (right k))
