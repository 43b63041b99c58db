-- Memory follows the book. Assumes nothing.
use Rattle.std.proofs.Common.{◌≡◌, ℕ, ◌+◌, ◌-◌, ◌*◌, ◌/◌, ◌%◌, ◌<◌, ◌≤◌, false, cond, eqb, ◌⊎◌, List, [], ◌∷◌, length, Ok, sym, refl, ap, ◌∙◌, subst, inl, inr, ⊎_elim, arith}
use Rattle.std.proofs.lemmas.Bool.{cases_eq, cases_lt, eq-eqb, ne_eqb, eqb-true}
use Rattle.bus.specs.Bytes.{width, low_bytes}
use Rattle.bus.specs.Rules.{Rules, Laws, Steady, Writable, stored_all, write_answer, written}
use Rattle.bus.specs.declared.kind.Kind.{Kind}
use Rattle.bus.specs.declared.kind.Kind.TheVariants.{Absent, Rom, Memory, Device}
use Rattle.bus.specs.declared.size.Size.{Size}
use Rattle.bus.specs.declared.size.Size.TheVariants.{Byte, Half, Word}
use Rattle.bus.proofs.Holding.{accepted, accepts, stored_kinds, stored_outside, Below, low_below}
use Rattle.bus.proofs.Words.{low_length}
use Rattle.image.specs.Memory.{is_memory}
use Rattle.script.specs.Book.{Book, put_byte, put_bytes}

put_outside : (bs : List ℕ) (book : Book) (a c : ℕ) → (c < a) ⊎ (a + length bs ≤ c) → put_bytes book a bs c ≡ book c
put_outside [] book a c h = refl
put_outside (b ∷ bs) book a c h =
    let ne : eqb c a ≡ false = ne_eqb c a (λ e. ⊎_elim (λ l. omega arith) (λ l. omega arith) h) in
    put_outside bs (put_byte book a b) (a + 1) c (⊎_elim (λ l. inl (omega arith)) (λ l. inr (omega arith)) h) ∙ ap (λ t. cond t b (book c)) ne

-- an address within an aligned access is of the same word
same_word : (s : Size) (a c : ℕ) → a % width s ≡ 0 → a ≤ c → c < a + width s → c / 4 * 4 ≡ a / 4 * 4
same_word Byte a c al lo hi = omega arith
same_word Half a c al lo hi = omega arith
same_word Word a c al lo hi = omega arith

rom_not_memory : Rom ≡ Memory → ⊥
rom_not_memory e = let z : ◌≡◌ {A = ℕ} 0 1 = cc in omega arith

module _ {M : Type 0} (r : Rules M) (laws : Laws r) where
  -- bytes put into the meaning and into the book
  put_both : (bs : List ℕ) (m : M) (book : Book) (a c : ℕ) → Below bs → ((j : ℕ) → j < length bs → Writable (r.kind m (a + j))) → r.byte m c ≡ book c →
      r.byte (stored_all r m a bs) c ≡ put_bytes book a bs c
  unfolding Below
  put_both [] m book a c lt wr e = e
  put_both (b ∷ bs) m book a c lt wr e =
      let z : a + 0 ≡ a = omega arith in
      let here : Writable (r.kind m a) = subst (λ x. Writable (r.kind m x)) z (wr 0 (omega arith)) in
      let one : r.byte (r.stored m a b) c ≡ put_byte book a b c =
      ⊎_elim
      (λ q. ap (r.byte (r.stored m a b)) q ∙ laws.stored_here m a b lt.0 here ∙ sym (ap (λ t. cond t b (book c)) (eq-eqb c a q)))
      (λ q. laws.stored_there m a b c q ∙ e ∙ sym (ap (λ t. cond t b (book c)) (ne_eqb c a q)))
      (cases_eq c a) in
      put_both bs (r.stored m a b) (put_byte book a b) (a + 1) c lt.1
      (λ j h.
      let at : a + (1 + j) ≡ a + 1 + j = omega arith in
      subst Writable (sym (laws.stored_kind m a b (a + 1 + j))) (subst (λ x. Writable (r.kind m x)) at (wr (1 + j) (omega arith))))
      one

  -- m follows from m0, and the book with it
  pub record Follows (m0 m : M) (book : Book) : Type 0 where
    pub kinds : (c : ℕ) → r.kind m c ≡ r.kind m0 c
    pub bytes : (c : ℕ) → Steady (r.kind m0 c) → r.byte m c ≡ book c
    pub rom : (c : ℕ) → r.kind m0 c ≡ Rom → book c ≡ r.byte m0 c

  pub ticks : (m0 m : M) (book : Book) → Follows m0 m book → Follows m0 (r.ticked m) book
  ticks m0 m book f = record {
    kinds = λ c. laws.ticked_kind m c ∙ f.kinds c;
    bytes = λ c st. laws.ticked_byte m c (subst Steady (sym (f.kinds c)) st) ∙ f.bytes c st;
    rom = f.rom;
  }

  -- an address of another kind is beside bytes of one kind
  beside : (m0 : M) (k : Kind) (a n c : ℕ) → ((j : ℕ) → j < n → r.kind m0 (a + j) ≡ k) → (r.kind m0 c ≡ k → ⊥) → (c < a) ⊎ (a + n ≤ c)
  beside m0 k a n c all ne =
      ⊎_elim inl
      (λ le.
      ⊎_elim
      (λ lt.
      let at : a + (c - a) ≡ c = omega arith in
      absurd (ne (sym (ap (r.kind m0) at) ∙ all (c - a) (omega arith))))
      inr (cases_lt c (a + n)))
      (cases_lt c a)

  -- bytes that all fall on memory
  pub on_memory_lem : (m0 m : M) (book : Book) (a : ℕ) (bs : List ℕ) → Below bs → ((j : ℕ) → j < length bs → r.kind m0 (a + j) ≡ Memory) → Follows m0 m book →
      Follows m0 (stored_all r m a bs) (put_bytes book a bs)
  on_memory_lem m0 m book a bs lt mem f = record {
    kinds = λ c. stored_kinds r laws m a bs c ∙ f.kinds c;
    bytes = λ c st. put_both bs m book a c lt (λ j h. subst Writable (sym (f.kinds (a + j) ∙ mem j h)) tt) (f.bytes c st);
    rom = λ c k. put_outside bs book a c (beside m0 Memory a (length bs) c mem (λ e. rom_not_memory (sym k ∙ e))) ∙ f.rom c k;
  }

  -- bytes that all fall on devices
  on_devices : (m0 m : M) (book : Book) (a : ℕ) (bs : List ℕ) → ((j : ℕ) → j < length bs → r.kind m0 (a + j) ≡ Device) → Follows m0 m book → Follows m0 (stored_all r m a bs) book
  on_devices m0 m book a bs dev f = record {
    kinds = λ c. stored_kinds r laws m a bs c ∙ f.kinds c;
    bytes = λ c st. stored_outside r laws m a bs c (beside m0 Device a (length bs) c dev (λ e. subst Steady e st)) ∙ f.bytes c st;
    rom = f.rom;
  }

  -- the bytes of an aligned access have one kind
  within : (m0 : M) (s : Size) (a v j : ℕ) → a % width s ≡ 0 → j < length (low_bytes s v) → r.kind m0 (a + j) ≡ r.kind m0 a
  within m0 s a v j al h =
      let hi : a + j < a + width s = omega (arith, low_length s v) in
      let word : (a + j) / 4 * 4 ≡ a / 4 * 4 = same_word s a (a + j) al (omega arith) hi in
      laws.word_kind m0 (a + j) ∙ ap (r.kind m0) word ∙ sym (laws.word_kind m0 a)

  -- an accepted store, by the kind of its address
  by_kind : (k : Kind) (m0 m : M) (book : Book) (s : Size) (a v : ℕ) → r.kind m0 a ≡ k → Writable k → a % width s ≡ 0 → Follows m0 m book →
      Follows m0 (stored_all r m a (low_bytes s v)) (cond (is_memory k) (put_bytes book a (low_bytes s v)) book)
  by_kind Absent m0 m book s a v e w al f = absurd w
  by_kind Rom m0 m book s a v e w al f = absurd w
  by_kind Memory m0 m book s a v e w al f = on_memory_lem m0 m book a (low_bytes s v) (low_below s v) (λ j h. within m0 s a v j al h ∙ e) f
  by_kind Device m0 m book s a v e w al f = on_devices m0 m book a (low_bytes s v) (λ j h. within m0 s a v j al h ∙ e) f

  pub stores : (m0 m : M) (book : Book) (s : Size) (a v : ℕ) → Follows m0 m book → write_answer r m s a ≡ Ok tt →
      Follows m0 (written r m s a v) (cond (is_memory (r.kind m0 a)) (put_bytes book a (low_bytes s v)) book)
  stores m0 m book s a v f ok =
      let parts = accepted (eqb (a % width s) 0) (r.kind m a) (r.home m a) _ ok in
      let w : Writable (r.kind m0 a) = subst Writable (f.kinds a) parts.1 in
      subst (λ n. Follows m0 n (cond (is_memory (r.kind m0 a)) (put_bytes book a (low_bytes s v)) book))
      (sym (accepts r laws m m (stored_all r m a (low_bytes s v)) s a ok))
      (by_kind (r.kind m0 a) m0 m book s a v refl w (eqb-true (a % width s) 0 parts.0) f)
