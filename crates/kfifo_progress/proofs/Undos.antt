-- An enqueue that means to take its item out began its round in a visit that the head has left since.
use Rattle.std.proofs.Common.{◌≡◌, ◌≢◌, ℕ, ◌+◌, ◌-◌, ◌<◌, ◌≤◌, inl, inr, true, false, refl, sym, ◌∙◌, arith, Option}
use Rattle.std.proofs.Common.{Some, None}
use Rattle.std.specs.Prelude.{nat_le}
use Rattle.std.proofs.lemmas.Bool.{cases_eq, cases_lt}
use Rattle.std.proofs.lemmas.Bool.Decides.{nat_tests}
use Rattle.std.proofs.lemmas.Option.{none-some, same_Some}
use Rattle.kfifo_linear.proofs.Types.{Begin, Running, Shape}
use Rattle.kfifo_machine.specs.declared.place.EnqueuePhase.TheVariants as E
use Rattle.kfifo_machine.specs.declared.place.Running.TheVariants as R
use Rattle.kfifo_linear.proofs.Abstract.{OutsideCalls, noted-other, noted-same, table_size, words_by}
use Rattle.kfifo_linear.proofs.Base.{Sane, get_or_replicate}
use Rattle.kfifo_linear.proofs.Claims.{EndsChange, IfGoes, Loaded, Round, ends_change}
use Rattle.kfifo_linear.proofs.Invariant.{Inv, ThreadOk}
use Rattle.kfifo_linear.proofs.Ring.{distance-mod}
use Rattle.kfifo_linear.proofs.Threads.{goes_at}
use Rattle.kfifo_linear.proofs.Invariance.{inv_begin, inv_opening, inv_step, inv_table, inv_outside}
use Rattle.kfifo_linear.specs.Ledger.{Ledger, blank, called, found_in, noted, stepped}
use Rattle.kfifo_machine.proofs.NoWrap.{EndsOk}
use Rattle.kfifo_machine.specs.Machine.{begun, may_begin, opening, place_after, place_of, word_at}
use Rattle.kfifo_machine.specs.Program.{access, accessed, advance}
use Rattle.kfifo_words.specs.Ring.{clock_at, distance}
use Rattle.kfifo_words.specs.Words.{head_of, tail_of}

-- an enqueue that means to take its item out has no other round, or the head has left the visit in which its round
-- began
abbrev pub HasPassed : Ledger → ℕ → Running → Type 0
HasPassed l t (R.Enqueue item start left (E.Undo index filled false)) = left ≢ 1 → l.tail_seen t < l.head
HasPassed l t other = Unit {0}

-- a segment that does not lie between head and tail is that of a visit which the head has left
passed : (shape : Shape) (w : ℕ → ℕ) (l : Ledger) (t ends : ℕ) → EndsOk shape (w 0) l.head l.tail
    → Loaded shape w l t ends → Round l t
    → nat_le (distance shape.n (head_of (w 0)) (tail_of ends)) (distance shape.n (head_of (w 0)) (tail_of (w 0)))
    ≡ false
    → l.tail_seen t < l.head
passed shape w l t ends ok ld round beyond =
    elim (cases_lt (l.tail_seen t) l.head) [
      | inl lt ↦ lt
      | inr ge ↦
          let o = ok.ordered in
          let wrap = ok.no_wrap in
          let below = round.tail_below in
          let d1 : distance shape.n (head_of (w 0)) (tail_of ends) ≡ l.tail_seen t - l.head =
          rw (ok.head, ld.ends.tail) (distance-mod shape.n l.head (l.tail_seen t) ge (omega arith)) in
          let d2 : distance shape.n (head_of (w 0)) (tail_of (w 0)) ≡ l.tail - l.head =
          rw (ok.head, ok.tail) (distance-mod shape.n l.head l.tail o (omega arith)) in
          grind (arith, nat_tests)
    ]

module _ (shape : Shape) (again : shape.holds_again ≡ true) (w : ℕ → ℕ) (l : Ledger) (t : ℕ) (r : Running)
    (s : Sane shape r) (ok : EndsOk shape (w 0) l.head l.tail) (me : ThreadOk shape w l t r) where
  own_passed : IfGoes (HasPassed (stepped shape w t r l) t) (advance shape r (found_in shape w r))
  unfolding stepped
  own_passed =
      let ld = me.loaded in
      let round = me.round in
      let gone = λ (ends : ℕ). passed shape w l t ends ok in
      grind (arith, nat_tests)

  own_seen : (u : ℕ) → u ≢ t → (stepped shape w t r l).tail_seen u ≡ l.tail_seen u
  unfolding stepped
  own_seen u ne = grind (arith, nat_tests, noted-other)

HasPassed-others : (l l' : Ledger) (u : ℕ) (q : Running) → l.head ≤ l'.head → l'.tail_seen u ≡ l.tail_seen u
    → HasPassed l u q → HasPassed l' u q
HasPassed-others l l' u q rise same h = grind arith

begun_passed : (l : Ledger) (t : ℕ) (b : Begin) (r : Running) → begun b ≡ Some r → HasPassed l t r
begun_passed l t b r g = grind (arith, nat_tests)

-- the invariant of the order with what undos know
pub record Undos (shape : Shape) (w : ℕ → ℕ) (p : ℕ → Option Running) (l : Ledger) : Type 0 where
  pub inv : Inv shape w p l
  pub passed : (t : ℕ) (r : Running) → p t ≡ Some r → HasPassed l t r

module _ (shape : Shape) (again : shape.holds_again ≡ true) where
  pub undos_step : (w : ℕ → ℕ) (p : ℕ → Option Running) (l : Ledger) (t : ℕ) (r : Running) → Undos shape w p l
      → p t ≡ Some r
      → Undos shape (words_by (access shape r) w) (noted p t (place_after (advance shape r (found_in shape w r))))
      (stepped shape w t r l)
  undos_step w p l t r h e =
      let s : Sane shape r = h.inv.base.sane t r e in
      let ok : EndsOk shape (w 0) l.head l.tail = h.inv.base.ends in
      let me : ThreadOk shape w l t r = h.inv.threads t r e in
      let change : EndsChange w (words_by (access shape r) w) l (stepped shape w t r l) =
      ends_change shape w l t r s ok in
      record {
        inv = inv_step shape w p l t r h.inv e;
        passed = λ u q f. elim (cases_eq u t) [
          | inl same ↦ rw same (goes_at (HasPassed (stepped shape w t r l) t) (advance shape r (found_in shape w r)) q
              (sym (noted-same p t u (place_after (advance shape r (found_in shape w r))) same) ∙ f)
              (own_passed shape again w l t r s ok me))
          | inr ne ↦
              let g : p u ≡ Some q = sym (noted-other p t u (place_after (advance shape r (found_in shape w r))) ne)
              ∙ f in
              HasPassed-others l (stepped shape w t r l) u q change.head_rise
              (own_seen shape again w l t r s ok me u ne) (h.passed u q g)
        ];
      }

  pub undos_begin : (w : ℕ → ℕ) (p : ℕ → Option Running) (l : Ledger) (t : ℕ) (b : Begin) (r : Running)
      → Undos shape w p l → p t ≡ None
      → may_begin shape b ≡ true → begun b ≡ Some r → Undos shape w (noted p t (Some r)) (called t b l)
  unfolding called
  undos_begin w p l t b r h e m g =
      record {
        inv = inv_begin shape w p l t b r h.inv e m g;
        passed = λ u q f. elim (cases_eq u t) [
          | inl same ↦ rw (same, ← (same_Some r q (sym (noted-same p t u (Some r) same) ∙ f)))
              (begun_passed (called t b l) t b r g)
          | inr ne ↦ HasPassed-others l (called t b l) u q (omega arith) refl
              (h.passed u q (sym (noted-other p t u (Some r) ne) ∙ f))
        ];
      }

  pub undos_outside : (w v : ℕ → ℕ) (p : ℕ → Option Running) (l : Ledger) → OutsideCalls shape w v → Undos shape w p l
      → Undos shape v p (record l { now = l.now + 1 })
  undos_outside w v p l o h = record {
    inv = inv_outside shape w v p l o h.inv;
    passed = λ u q f. HasPassed-others l (record l { now = l.now + 1 }) u q (omega arith) refl (h.passed u q f);
  }

  pub undos_table : (w : ℕ → ℕ) (p : ℕ → Option Running) (l : Ledger) (t : ℕ) (r : Running) → Undos shape w p l
      → p t ≡ Some r
      → accessed (access shape r) < table_size shape
  undos_table w p l t r h e = inv_table shape w p l t r h.inv e

  pub undos_opening : (threads : ℕ)
      → Undos shape (word_at (opening shape threads)) (place_of (opening shape threads)) blank
  unfolding opening word_at place_of
  undos_opening threads = record {
    inv = inv_opening shape threads;
    passed = λ t r f. absurd (none-some r (sym (get_or_replicate threads t None) ∙ f));
  }
