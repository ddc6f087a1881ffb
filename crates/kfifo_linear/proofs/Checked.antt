-- At the Recheck before an item's put the tail has not left the item's visit.
use Rattle.std.proofs.Common.{◌≡◌, ◌≢◌, ◌⊎◌, ℕ, ◌+◌, ◌%◌, ◌<◌, ◌≤◌, List, Bool, true, false, Option, Some, None, inl}
use Rattle.std.proofs.Common.{inr, refl, sym, ap, ◌∙◌, arith}
use Rattle.std.proofs.lemmas.Bool.{cases_eq, cases_lt}
use Rattle.std.proofs.lemmas.Bool.Decides.{nat_tests}
use Rattle.std.proofs.lemmas.Option.{none-some, same_Some}
use Rattle.kfifo_linear.proofs.Types.{Begin, Event, Running, Shape}
use Rattle.kfifo_machine.specs.declared.place.EnqueuePhase.TheVariants as E
use Rattle.kfifo_machine.specs.declared.place.Running.TheVariants as R
use Rattle.kfifo_machine.specs.Program.{access, advance}
use Rattle.kfifo_machine.specs.Machine.{World, begun, may_begin, opening, place_after, place_of, run, word_at}
use Rattle.kfifo_machine.proofs.NoWrap.{EndsOk}
use Rattle.kfifo_linear.specs.Ledger.{Ledger, noted, stepped, found_in, called, blank, ledger_of, Outside, Inside, Gone}
use Rattle.kfifo_linear.specs.Roles.{Puts}
use Rattle.kfifo_linear.specs.Order.{number_at}
use Rattle.kfifo_linear.proofs.Ring.{place_below}
use Rattle.kfifo_linear.proofs.Numbers.{number_within}
use Rattle.kfifo_linear.proofs.Facts.{Stands, puts_standing}
use Rattle.kfifo_linear.proofs.Abstract.{OutsideCalls, words_by, noted_tells, noted-same, noted-other, after_all}
use Rattle.kfifo_linear.proofs.Base.{Sane, get_or_replicate, opening_size}
use Rattle.kfifo_linear.proofs.Claims.{IfGoes, EndsChange, ends_change}
use Rattle.kfifo_linear.proofs.Invariant.{Inv, ThreadOk, InsideOk}
use Rattle.kfifo_linear.proofs.Threads.{Slots, slots_facts, goes_at}
use Rattle.kfifo_linear.proofs.Calls.{standing_gone}
use Rattle.kfifo_linear.proofs.Invariance.{begun_standing, inv_table, inv_begin, inv_step, inv_outside, inv_opening}

-- at step q the tail had not left visit v
pub record NotLeft (l : Ledger) (v q : ℕ) : Type 0 where
  pub past : q ≤ l.now
  pub held : (x : ℕ) → x < l.tail → l.tails x < q → x < v

stays : (w w' : ℕ → ℕ) (l l' : Ledger) (v q : ℕ) → EndsChange w w' l l' → l'.now ≡ l.now + 1 → NotLeft l v q
    → NotLeft l' v q
stays w w' l l' v q c now h = record {
  past = omega (arith, h.past);
  held = λ x below lt. elim (cases_lt x l.tail) [
    | inl old ↦ h.held x old (omega (arith, c.tails_kept x old))
    | inr new ↦ absurd (omega (arith, c.tails_new x new below, h.past))
  ];
}

wider : (l : Ledger) (v u q : ℕ) → v ≤ u → NotLeft l v q → NotLeft l u q
wider l v u q le h = record { past = h.past; held = λ x below lt. omega (arith, h.held x below lt) }

-- a thread that is about to put made its Recheck while the tail was where it was when the round began
abbrev pub HasRecheck : Ledger → ℕ → Running → Type 0
HasRecheck l t (R.Enqueue item start left (E.Put ends index empty)) = NotLeft l (l.tail_seen t) (l.rechecked t)
HasRecheck l t other = Unit {0}

abbrev is_put : Running → Bool
is_put (R.Enqueue item start left (E.Put ends index empty)) = true
is_put other = false

put_recheck : (l : Ledger) (t : ℕ) (r : Running) → is_put r ≡ true → HasRecheck l t r
    → NotLeft l (l.tail_seen t) (l.rechecked t)
put_recheck l t (R.Enqueue item start left (E.Put ends index empty)) e h = h
put_recheck l t r e h = grind arith

HasRecheck-others : (l l' : Ledger) (u : ℕ) (q : Running)
    → (NotLeft l (l.tail_seen u) (l.rechecked u) → NotLeft l' (l'.tail_seen u) (l'.rechecked u)) → HasRecheck l u q
    → HasRecheck l' u q
HasRecheck-others l l' u (R.Enqueue item start left (E.Put ends index empty)) keep h = keep h
HasRecheck-others l l' u other keep h = tt

module _ (shape : Shape) (w : ℕ → ℕ) (l : Ledger) (t : ℕ) (r : Running) (s : Sane shape r)
    (ok : EndsOk shape (w 0) l.head l.tail) (me : ThreadOk shape w l t r) where
  -- a Recheck that leads to a put
  own_recheck : IfGoes (HasRecheck (stepped shape w t r l) t) (advance shape r (found_in shape w r))
  unfolding stepped
  own_recheck = let ld = me.loaded in grind (arith, nat_tests, noted-same)

  other_same : (u : ℕ) → (u ≡ t → ⊥) → ((stepped shape w t r l).tail_seen u ≡ l.tail_seen u)
      × ((stepped shape w t r l).rechecked u ≡ l.rechecked u)
  unfolding stepped
  other_same u ne = grind (arith, nat_tests, noted-other)

  now_next : (stepped shape w t r l).now ≡ l.now + 1
  unfolding stepped
  now_next = refl

  recheck_kept : (c : ℕ) → l.standing c ≢ Outside → (stepped shape w t r l).recheck_before_put c
      ≡ l.recheck_before_put c
  unfolding stepped
  recheck_kept c not_out = let f = me.fresh in grind (arith, nat_tests, noted_tells)

  inside_from : (c i : ℕ) → (l.standing c ≡ Inside i → InsideOk shape w l c i) → (stepped shape w t r l).standing c
      ≡ Inside i
      → ((l.standing c ≡ Inside i) × ((stepped shape w t r l).tail_at_load i ≡ l.tail_at_load i))
      ⊎ (((stepped shape w t r l).tail_at_load i ≡ l.tail_seen t)
      × ((stepped shape w t r l).recheck_before_put c ≡ l.rechecked t)
      × (is_put r ≡ true))
  unfolding stepped
  inside_from c i old e = let f = me.fresh in let own = me.own in grind (arith, nat_tests, noted_tells)

-- the invariant with what the Rechecks saw
pub record Checks (shape : Shape) (w : ℕ → ℕ) (p : ℕ → Option Running) (l : Ledger) : Type 0 where
  pub inv : Inv shape w p l
  pub threads : (t : ℕ) (r : Running) → p t ≡ Some r → HasRecheck l t r
  pub inside : (c i : ℕ) → l.standing c ≡ Inside i → NotLeft l (l.tail_at_load i) (l.recheck_before_put c)
  pub gone : (c i v q : ℕ) → l.standing c ≡ Gone i v q → NotLeft l v (l.recheck_before_put c)

inside_outside : (i : ℕ) → Inside i ≡ Outside → ⊥
inside_outside i e = cc

gone_outside : (i v q : ℕ) → Gone i v q ≡ Outside → ⊥
gone_outside i v q e = cc

module _ (shape : Shape) where
  checks_step : (w : ℕ → ℕ) (p : ℕ → Option Running) (l : Ledger) (t : ℕ) (r : Running) → Checks shape w p l
      → p t ≡ Some r
      → Checks shape (words_by (access shape r) w) (noted p t (place_after (advance shape r (found_in shape w r))))
      (stepped shape w t r l)
  checks_step w p l t r h e =
      let s : Sane shape r = h.inv.base.sane t r e in
      let ok : EndsOk shape (w 0) l.head l.tail = h.inv.base.ends in
      let me : ThreadOk shape w l t r = h.inv.threads t r e in
      let all : Slots shape w l = slots_facts shape w l h.inv.slots in
      let change : EndsChange w (words_by (access shape r) w) l (stepped shape w t r l) =
      ends_change shape w l t r s ok in
      let on = λ (v q : ℕ). stays w (words_by (access shape r) w) l (stepped shape w t r l) v q change
      (now_next shape w l t r s ok me) in
      record {
        inv = inv_step shape w p l t r h.inv e;
        threads = λ u q f. elim (cases_eq u t) [
          | inl same ↦ rw same (goes_at (HasRecheck (stepped shape w t r l) t) (advance shape r (found_in shape w r)) q
              (sym (noted-same p t u (place_after (advance shape r (found_in shape w r))) same) ∙ f)
              (own_recheck shape w l t r s ok me))
          | inr ne ↦
              let g : p u ≡ Some q = sym (noted-other p t u (place_after (advance shape r (found_in shape w r))) ne)
              ∙ f in
              let k = other_same shape w l t r s ok me u ne in
              HasRecheck-others l (stepped shape w t r l) u q
              (λ c. rw (k.0, k.1) (on (l.tail_seen u) (l.rechecked u) c)) (h.threads u q g)
        ];
        inside = λ c i f. elim (inside_from shape w l t r s ok me c i (h.inv.calls.inside c i) f) [
          | inl k ↦ rw (k.1, recheck_kept shape w l t r s ok me c (λ o. inside_outside i (sym k.0 ∙ o)))
              (on (l.tail_at_load i) (l.recheck_before_put c) (h.inside c i k.0))
          | inr k ↦ rw (k.0, k.1) (on (l.tail_seen t) (l.rechecked t) (put_recheck l t r k.2 (h.threads t r e)))
        ];
        gone = λ c i v q f. elim (standing_gone shape w l t r s ok me h.inv.times all c i v q f) [
          | inl k ↦ rw (recheck_kept shape w l t r s ok me c (λ o. gone_outside i v q (sym k ∙ o)))
              (on v (l.recheck_before_put c) (h.gone c i v q k))
          | inr k ↦
              let at : l.standing c ≡ Inside i = ap l.standing k.2 ∙ k.0.inside in
              let le : l.tail_at_load i ≤ v = omega (arith, k.0.loaded, k.3) in
              rw (recheck_kept shape w l t r s ok me c (λ o. inside_outside i (sym at ∙ o)))
              (on v (l.recheck_before_put c) (wider l (l.tail_at_load i) v (l.recheck_before_put c) le
              (h.inside c i at)))
        ];
      }

  -- a ledger with the same numbers of the tail, and steps
  same_tail : (l l' : Ledger) (v q : ℕ) → l'.tail ≡ l.tail → l'.tails ≡ l.tails → l.now ≤ l'.now → NotLeft l v q
      → NotLeft l' v q
  same_tail l l' v q b tails now h = record {
    past = omega (arith, h.past);
    held = λ x below lt. h.held x (omega arith) (let e : l'.tails x ≡ l.tails x = ap (λ f. f x) tails in omega arith);
  }

  begun_recheck : (l : Ledger) (t : ℕ) (b : Begin) (r : Running) → begun b ≡ Some r → HasRecheck (called t b l) t r
  begun_recheck l t b r g = grind (arith, nat_tests)

  begun_tail : (l : Ledger) (t : ℕ) (b : Begin) → ((called t b l).tail ≡ l.tail) × ((called t b l).tails ≡ l.tails)
      × ((called t b l).now ≡ l.now) × ((called t b l).tail_seen ≡ l.tail_seen)
      × ((called t b l).rechecked ≡ l.rechecked)
      × ((called t b l).recheck_before_put ≡ l.recheck_before_put) × ((called t b l).tail_at_load ≡ l.tail_at_load)
  unfolding called
  begun_tail l t b = (refl, refl, refl, refl, refl, refl, refl)

  checks_begin : (w : ℕ → ℕ) (p : ℕ → Option Running) (l : Ledger) (t : ℕ) (b : Begin) (r : Running)
      → Checks shape w p l → p t ≡ None
      → may_begin shape b ≡ true → begun b ≡ Some r → Checks shape w (noted p t (Some r)) (called t b l)
  unfolding called
  checks_begin w p l t b r h e m g =
      let k = begun_tail l t b in
      let on = λ (v q : ℕ). same_tail l (called t b l) v q k.0 k.1 (omega (arith, k.2)) in
      record {
        inv = inv_begin shape w p l t b r h.inv e m g;
        threads = λ u q f. elim (cases_eq u t) [
          | inl same ↦ rw (same, ← (same_Some r q (sym (noted-same p t u (Some r) same) ∙ f))) (begun_recheck l t b r g)
          | inr ne ↦
              let x : p u ≡ Some q = sym (noted-other p t u (Some r) ne) ∙ f in
              HasRecheck-others l (called t b l) u q (λ c. rw (k.3, k.4) (on (l.tail_seen u) (l.rechecked u) c))
              (h.threads u q x)
        ];
        inside = λ c i f. let was = begun_standing l t b c (Inside i) f (inside_outside i) in
            rw (k.5, k.6) (on (l.tail_at_load i) (l.recheck_before_put c) (h.inside c i was.0));
        gone = λ c i v q f. let was = begun_standing l t b c (Gone i v q) f (gone_outside i v q) in
            rw k.5 (on v (l.recheck_before_put c) (h.gone c i v q was.0));
      }

  checks_outside : (w v : ℕ → ℕ) (p : ℕ → Option Running) (l : Ledger) → OutsideCalls shape w v → Checks shape w p l
      → Checks shape v p (record l { now = l.now + 1 })
  checks_outside w v p l o h =
      let next : Ledger = record l { now = l.now + 1 } in
      let on = λ (visit q : ℕ). same_tail l next visit q refl refl (omega arith) in
      record {
        inv = inv_outside shape w v p l o h.inv;
        threads = λ u q f. HasRecheck-others l next u q (on (l.tail_seen u) (l.rechecked u)) (h.threads u q f);
        inside = λ c i f. on (l.tail_at_load i) (l.recheck_before_put c) (h.inside c i f);
        gone = λ c i u q f. on u (l.recheck_before_put c) (h.gone c i u q f);
      }

  checks_opening : (threads : ℕ)
      → Checks shape (word_at (opening shape threads)) (place_of (opening shape threads)) blank
  unfolding opening word_at place_of blank
  checks_opening threads =
      record {
        inv = inv_opening shape threads;
        threads = λ t r f. absurd (none-some r (sym (get_or_replicate threads t None) ∙ f));
        inside = λ c i f. absurd (inside_outside i (sym f));
        gone = λ c i v q f. absurd (gone_outside i v q (sym f));
      }

  pub checks : (threads : ℕ) (events : List Event) (final : World) → run shape (Some (opening shape threads)) events
      ≡ Some final
      → Checks shape (word_at final) (place_of final) (ledger_of shape (Some (opening shape threads)) events blank)
  checks threads events final e =
      (after_all shape (Checks shape) (λ w p l t r h f. inv_table shape w p l t r h.inv f) checks_begin checks_step
      checks_outside events
      (opening shape threads) final blank
      (record { size = opening_size shape threads; holds = checks_opening threads })
      e).holds

  -- of an item in the order
  pub put_in_visit : (w : ℕ → ℕ) (p : ℕ → Option Running) (l : Ledger) (c v i q : ℕ) → Checks shape w p l
      → Stands l c (Puts v i) q
      → number_at l.tails l.tail (l.recheck_before_put c) ≤ v
  put_in_visit w p l c v i q h e = elim (puts_standing l c v i q e) [
    | inl gone ↦ number_within l.tails l.tail v (l.recheck_before_put c) (h.gone c i v q gone).held
    | inr k ↦
        let here : InsideOk shape w l c i = h.inv.calls.inside c i k.0 in
        let full = (h.inv.slots i here.is_slot).full here.full in
        let settled = (h.inv.slots i here.is_slot).settled k.1 in
        let le : l.tail_at_load i ≤ v = place_below shape.n v (l.tail_at_load i)
        (omega (arith, full.load_to_tail, h.inv.base.ends.no_wrap, settled.from_head, k.2))
        (full.place ∙ sym settled.place ∙ ap (λ x. x % shape.n) k.2) in
        number_within l.tails l.tail v (l.recheck_before_put c)
        (wider l (l.tail_at_load i) v (l.recheck_before_put c) le (h.inside c i k.0)).held
  ]
