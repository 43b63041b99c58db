-- A fork keeps the laws of its sides. Assumes nothing.
use Rattle.std.proofs.Common.{◌≡◌, ℕ, ◌-◌, ◌*◌, ◌/◌, ◌<◌, ◌≤◌, ◌≢◌, true, false, refl, ⊎_elim, arith}
use Rattle.std.proofs.lemmas.Bool.{lt-ltb, le-ltb, cases_lt}
use Rattle.bus.specs.Rules.{Rules, Laws, Steady, Writable}
use Rattle.bus.specs.Fork.{Both, border, is_low, fork_rules}

-- an address falls on the low side or on the high one
by_side : {L H : Type 0} (m : Both L H) (a : ℕ) (P : Type 0) → (is_low m a ≡ true → a < border m → P) → (is_low m a ≡ false → border m ≤ a → P) → P
by_side m a P low high = ⊎_elim (λ lt. low (lt-ltb a (border m) lt) lt) (λ ge. high (le-ltb a (border m) ge) ge) (cases_lt a (border m))

module _ {L H : Type 0} (l : Rules L) (h : Rules H) (low : Laws l) (high : Laws h) where
  abbrev r : Rules (Both L H)
  r = fork_rules l h

  word_kind : (m : Both L H) (a : ℕ) → r.kind m a ≡ r.kind m (a / 4 * 4)
  word_kind m a =
      by_side m a _
      (λ here lt.
      let there : is_low m (a / 4 * 4) ≡ true = lt-ltb (a / 4 * 4) (border m) (omega arith) in
      rw (here, there) (low.word_kind m.low a))
      (λ here ge.
      let there : is_low m (a / 4 * 4) ≡ false = le-ltb (a / 4 * 4) (border m) (omega arith) in
      let at : a / 4 * 4 - border m ≡ (a - border m) / 4 * 4 = omega arith in
      rw (here, there, at) (high.word_kind m.high (a - border m)))

  byte_fits : (m : Both L H) (a : ℕ) → r.byte m a < 256
  byte_fits m a = by_side m a _ (λ here lt. rw here (low.byte_fits m.low a)) (λ here ge. rw here (high.byte_fits m.high (a - border m)))

  stored_kind : (m : Both L H) (a b c : ℕ) → r.kind (r.stored m a b) c ≡ r.kind m c
  stored_kind m a b c =
      by_side m a _
      (λ here lt. by_side m c _ (λ there k. rw (here, there) (low.stored_kind m.low a b c)) (λ there k. rw (here, there) refl))
      (λ here ge. by_side m c _ (λ there k. rw (here, there) refl) (λ there k. rw (here, there) (high.stored_kind m.high (a - border m) b (c - border m))))

  stored_home : (m : Both L H) (a b c : ℕ) → r.home (r.stored m a b) c ≡ r.home m c
  stored_home m a b c =
      by_side m a _
      (λ here lt. by_side m c _ (λ there k. rw (here, there) (low.stored_home m.low a b c)) (λ there k. rw (here, there) refl))
      (λ here ge. by_side m c _ (λ there k. rw (here, there) refl) (λ there k. rw (here, there) (high.stored_home m.high (a - border m) b (c - border m))))

  stored_lines : (m : Both L H) (a b : ℕ) → r.lines (r.stored m a b) ≡ r.lines m
  stored_lines m a b = by_side m a _ (λ here lt. rw (here, low.stored_lines m.low a b) refl) (λ here ge. rw (here, high.stored_lines m.high (a - border m) b) refl)

  stored_sent : (m : Both L H) (a b : ℕ) → r.sent (r.stored m a b) ≡ r.sent m
  stored_sent m a b = by_side m a _ (λ here lt. rw (here, low.stored_sent m.low a b) refl) (λ here ge. rw (here, high.stored_sent m.high (a - border m) b) refl)

  stored_here : (m : Both L H) (a b : ℕ) → b < 256 → Writable (r.kind m a) → r.byte (r.stored m a b) a ≡ b
  stored_here m a b fits writable =
      by_side m a _
      (λ here lt. rw (here, here) (low.stored_here m.low a b fits (rw here at writable)))
      (λ here ge. rw (here, here) (high.stored_here m.high (a - border m) b fits (rw here at writable)))

  stored_there : (m : Both L H) (a b c : ℕ) → (c ≢ a) → r.byte (r.stored m a b) c ≡ r.byte m c
  stored_there m a b c ne =
      by_side m a _
      (λ here lt. by_side m c _ (λ there k. rw (here, there) (low.stored_there m.low a b c ne)) (λ there k. rw (here, there) refl))
      (λ here ge.
      by_side m c _ (λ there k. rw (here, there) refl)
      (λ there k. rw (here, there) (high.stored_there m.high (a - border m) b (c - border m) (λ e. ne (omega arith)))))

  ticked_kind : (m : Both L H) (a : ℕ) → r.kind (r.ticked m) a ≡ r.kind m a
  ticked_kind m a = by_side m a _ (λ here lt. rw here (low.ticked_kind m.low a)) (λ here ge. rw here (high.ticked_kind m.high (a - border m)))

  ticked_home : (m : Both L H) (a : ℕ) → r.home (r.ticked m) a ≡ r.home m a
  ticked_home m a = by_side m a _ (λ here lt. rw here (low.ticked_home m.low a)) (λ here ge. rw here (high.ticked_home m.high (a - border m)))

  ticked_byte : (m : Both L H) (a : ℕ) → Steady (r.kind m a) → r.byte (r.ticked m) a ≡ r.byte m a
  ticked_byte m a steady =
      by_side m a _
      (λ here lt. rw here (low.ticked_byte m.low a (rw here at steady)))
      (λ here ge. rw here (high.ticked_byte m.high (a - border m) (rw here at steady)))

  pub fork_laws : Laws (fork_rules l h)
  fork_laws = record {
    word_kind = word_kind;
    byte_fits = byte_fits;
    stored_kind = stored_kind;
    stored_home = stored_home;
    stored_lines = stored_lines;
    stored_sent = stored_sent;
    stored_here = stored_here;
    stored_there = stored_there;
    ticked_kind = ticked_kind;
    ticked_home = ticked_home;
    ticked_byte = ticked_byte;
  }
