-- A stretch in which no call ends, with what was spent in it, goes on with each step, each begin of a call and each
-- tick.
use Rattle.std.proofs.Common.{◌≡◌, ℕ, ◌+◌, ◌*◌, ◌<◌, ◌≤◌, Bool, true, false, inl, inr, refl, sym, ◌∙◌, ap, arith}
use Rattle.std.proofs.Common.{Option, Some, None}
use Rattle.std.proofs.lemmas.Bool.{cases_eq, false≢true}
use Rattle.std.proofs.lemmas.Bool.Decides.{nat_tests}
use Rattle.std.proofs.lemmas.Option.{none-some, same_Some}
use Rattle.kfifo_model.specs.declared.calls.Answer.TheVariants.{Busy}
use Rattle.kfifo_machine.specs.declared.place.Next.TheVariants.{Answers}
use Rattle.kfifo_linear.proofs.Types.{Begin, Running, Shape}
use Rattle.kfifo_linear.proofs.Abstract.{tick_outside, noted-other, noted-same, words_by}
use Rattle.kfifo_linear.proofs.Base.{Sane}
use Rattle.kfifo_linear.proofs.Claims.{ends_change, at_load}
use Rattle.kfifo_linear.proofs.Threads.{goes_at}
use Rattle.kfifo_linear.specs.Ledger.{Ledger, called, found_in, noted, stepped}
use Rattle.kfifo_machine.specs.Machine.{begun, may_begin, place_after}
use Rattle.kfifo_machine.specs.Places.{IsPlace, IsSlotIndex}
use Rattle.kfifo_machine.specs.Program.{access, advance}
use Rattle.kfifo_words.specs.Ring.{clock_at}
use Rattle.kfifo_words.specs.Words.{value_of}
use Rattle.kfifo_progress.proofs.Charges.{HasKept, HasKept-others}
use Rattle.kfifo_progress.proofs.Cost.{AreEnough, Prices, cost, cost_at}
use Rattle.kfifo_progress.proofs.Counting.{fewer_old, old_threads, total_rises}
use Rattle.kfifo_progress.proofs.Kept.{Every, Kept, charge_after, goes, goes_quiet, quiet}
use Rattle.kfifo_progress.proofs.Changing.{changes_at, changes_made, has_passed, last_undo_two, no_last_undo, to_change}
use Rattle.kfifo_progress.proofs.Changing.{top}
use Rattle.kfifo_progress.proofs.Rounds.{disturbed, rounds_left}
use Rattle.kfifo_progress.proofs.Spending.{move_price, others_disturbed, own_rounds, purse}
use Rattle.kfifo_progress.proofs.Spending.{spends, won_by}
use Rattle.kfifo_progress.proofs.Stretches.{Stretch, stretch_ends, stretch_step}
use Rattle.kfifo_progress.specs.Progress.{HasTurns}
use Rattle.kfifo_progress.proofs.Undos.{Undos, undos_begin, undos_step, undos_outside}

-- the stretch: the visit in which the tail was at its begin, the sum of the visits of both ends, and what the threads
-- had.
-- A thread that is not old makes a call that began with at least so many turns, and lost at most so many rounds before
pub record Begun : Type 0 where
  pub tail : ℕ
  pub ends : ℕ
  pub purse : ℕ
  pub to_change : ℕ
  pub names : ℕ
  pub spare : ℕ
  pub turns : ℕ
  pub lost : ℕ

pub record Live (shape : Shape) (threads : ℕ) (x : Prices) (b : Begun) (old : ℕ → Bool) (w : ℕ → ℕ)
    (p : ℕ → Option Running) (l : Ledger) (spent : ℕ) : Type 0 where
  pub undos : Undos shape w p l
  pub names : threads ≤ b.names
  pub charge : ℕ → Option ℕ
  pub stretch : Stretch shape threads b.names b.tail old w p l charge
  pub account : spent + purse shape x w p threads + move_price x threads * b.ends
      ≤ b.purse + move_price x threads * (l.head + l.tail)
  pub changed : ℕ
  pub reached : b.tail ≤ l.tail
  pub changes : changed + to_change b.tail l p threads + b.spare * old_threads old threads + b.ends + threads * 2 *
      b.tail ≤ b.to_change + (l.head + l.tail) + threads * 2 * top b.tail l
  pub young : (t : ℕ) (r : Running) → p t ≡ Some r → old t ≡ false
      → b.turns + disturbed w r ≤ rounds_left r + b.lost + 1 + changed

-- a tick changes no word but the clock
ticked_word : (shape : Shape) (w : ℕ → ℕ) (x i : ℕ) → i < clock_at shape.k shape.n
    → noted w (clock_at shape.k shape.n) x i ≡ w i
ticked_word shape w x i h = noted-other w (clock_at shape.k shape.n) i x (λ z. omega (arith, h, z))

kept_same : (shape : Shape) (w w' : ℕ → ℕ) (charge : ℕ → Option ℕ) (Slots : ℕ → Type 0) (v : ℕ)
    → ((i : ℕ) → IsSlotIndex shape i → w' i ≡ w i) → Kept shape w charge Slots v → Kept shape w' charge Slots v
kept_same shape w w' charge Slots v same k =
    record {
      charged =
          λ all. k.charged (λ i is_slot at in_slots. ap value_of (sym (same i is_slot)) ∙ all i is_slot at in_slots);
    }

cost_same : (shape : Shape) (x : Prices) (w w' : ℕ → ℕ) (q : Running) → Sane shape q → w' 0 ≡ w 0
    → ((i : ℕ) → 0 < i → i < 1 + shape.n * shape.k → w' i ≡ w i) → cost shape x w' q ≡ cost shape x w q
cost_same shape x w w' q s ends slots = grind (arith, nat_tests, slots)

begun_cost : (shape : Shape) (x : Prices) (w : ℕ → ℕ) (b : Begin) (r : Running) → begun b ≡ Some r
    → (cost shape x w r ≡ x.round + x.put) × (at_load r ≡ true)
begun_cost shape x w b r g = grind arith

disturbed_same : (shape : Shape) (w w' : ℕ → ℕ) (q : Running) → Sane shape q → w' 0 ≡ w 0
    → ((i : ℕ) → 0 < i → i < 1 + shape.n * shape.k → w' i ≡ w i) → disturbed w' q ≡ disturbed w q
disturbed_same shape w w' q s ends slots = grind (arith, nat_tests, slots)

begun_round : (w : ℕ → ℕ) (b : Begin) (r : Running) → begun b ≡ Some r
    → (disturbed w r ≡ 0) × ((least : ℕ) → HasTurns least (Some b) → least ≤ rounds_left r)
begun_round w b r g = grind arith

begun_changes_one : (passed : Bool) (b : Begin) (r : Running) → begun b ≡ Some r → changes_at passed (Some r) ≡ 1
begun_changes_one passed b r g = grind arith

begun_kept : (shape : Shape) (from : ℕ) (w : ℕ → ℕ) (l : Ledger) (charge : ℕ → Option ℕ) (b : Begin) (r : Running)
    → begun b ≡ Some r
    → HasKept shape from w l charge r
begun_kept shape from w l charge b r g = grind arith

module _ (shape : Shape) (again : shape.holds_again ≡ true) (threads : ℕ) (x : Prices)
    (enough : AreEnough shape threads x) (b : Begun) (old : ℕ → Bool)
    (w : ℕ → ℕ) (p : ℕ → Option Running) (l : Ledger) (spent : ℕ) (h : Live shape threads x b old w p l spent) where
  -- a step after which the call goes on
  pub live_step : (t : ℕ) (r : Running) → p t ≡ Some r → t < threads → IsPlace shape r
      → goes (advance shape r (found_in shape w r)) ≡ true
      → Live shape threads x b old (words_by (access shape r) w)
      (noted p t (place_after (advance shape r (found_in shape w r))))
      (stepped shape w t r l) (spent + 1)
  live_step t r e in_range place calm =
      let calm_too = goes_quiet (advance shape r (found_in shape w r)) calm in
      record {
        names = h.names;
        undos = undos_step shape again w p l t r h.undos e;
        charge = charge_after shape w l t r h.charge;
        stretch = stretch_step shape threads b.tail w p l t r h.charge h.undos e in_range b.names old h.stretch calm
            h.names;
        account =
            let k = spends shape threads x enough w p l t r e in_range (h.undos.inv.base.sane t r e) place
            h.undos.inv.base.ends calm_too in
            omega (arith, k, h.account);
        changed = h.changed + won_by shape w r;
        changes =
            let k = changes_made shape threads b.tail w p l t r e in_range (h.undos.inv.base.sane t r e) place
            h.undos.inv.base.ends calm_too
            (h.undos.passed t r e) h.reached in
            omega (arith, k, h.changes, no_last_undo shape w r calm);
        reached =
            let change = ends_change shape w l t r (h.undos.inv.base.sane t r e) h.undos.inv.base.ends in
            omega (arith, h.reached, change.tail_rise);
        young = λ u q f new. elim (cases_eq u t) [
          | inl same ↦
              let k = goes_at (λ q. rounds_left r + disturbed (words_by (access shape r) w) q
              ≤ rounds_left q + won_by shape w r + disturbed w r) (advance shape r (found_in shape w r)) q
              (sym (noted-same p t u (place_after (advance shape r (found_in shape w r))) same) ∙ f)
              (own_rounds shape threads x enough w p l t r e in_range (h.undos.inv.base.sane t r e) place
              h.undos.inv.base.ends calm_too) in
              omega (arith, k, h.young t r e (ap old (sym same) ∙ new))
          | inr ne ↦
              let g : p u ≡ Some q = sym (noted-other p t u (place_after (advance shape r (found_in shape w r))) ne)
              ∙ f in
              let k = others_disturbed shape threads x enough w p l t r e in_range (h.undos.inv.base.sane t r e) place
              h.undos.inv.base.ends calm_too q in
              omega (arith, k, h.young u q g new)
        ];
      }

  -- the step with which a thread's first call in the stretch ends, with Busy
  pub live_ends : (t : ℕ) (r : Running) → p t ≡ Some r → t < threads → IsPlace shape r
      → advance shape r (found_in shape w r) ≡ Answers Busy → old t ≡ true → b.names ≡ 2 * threads → b.spare ≡ 2
      → ((u : ℕ) (q : Running) → p u ≡ Some q → u < threads)
      → Live shape threads x b (noted old t false) (words_by (access shape r) w)
      (noted p t (place_after (advance shape r (found_in shape w r)))) (stepped shape w t r l) (spent + 1)
  live_ends t r e in_range place busy was_old names spare range =
      let calm : quiet (advance shape r (found_in shape w r)) ≡ true = ap quiet busy in
      let gone : place_after (advance shape r (found_in shape w r)) ≡ None = ap place_after busy in
      record {
        names = h.names;
        undos = undos_step shape again w p l t r h.undos e;
        charge = charge_after shape w l (threads + t) r h.charge;
        stretch = stretch_ends shape threads b.tail w p l t r h.charge h.undos e in_range b.names old h.stretch calm
            gone was_old names range;
        account =
            let k = spends shape threads x enough w p l t r e in_range (h.undos.inv.base.sane t r e) place
            h.undos.inv.base.ends calm in
            omega (arith, k, h.account);
        changed = h.changed + won_by shape w r;
        changes =
            let k = changes_made shape threads b.tail w p l t r e in_range (h.undos.inv.base.sane t r e) place
            h.undos.inv.base.ends calm
            (h.undos.passed t r e) h.reached in
            let fewer = fewer_old old threads t in_range was_old in
            let s1 : b.spare * old_threads old threads ≡ 2 * old_threads old threads =
            ap (λ z. z * old_threads old threads) spare in
            let s2 : b.spare * old_threads (noted old t false) threads ≡ 2 * old_threads (noted old t false) threads =
            ap (λ z. z * old_threads (noted old t false) threads) spare in
            omega (arith, k, h.changes, fewer, s1, s2, last_undo_two w r);
        reached =
            let change = ends_change shape w l t r (h.undos.inv.base.sane t r e) h.undos.inv.base.ends in
            omega (arith, h.reached, change.tail_rise);
        young = λ u q f new. elim (cases_eq u t) [
          | inl same ↦
              absurd (none-some q
              (sym gone ∙ sym (noted-same p t u (place_after (advance shape r (found_in shape w r))) same)
              ∙ f))
          | inr ne ↦
              let g : p u ≡ Some q = sym (noted-other p t u (place_after (advance shape r (found_in shape w r))) ne)
              ∙ f in
              let k = others_disturbed shape threads x enough w p l t r e in_range (h.undos.inv.base.sane t r e) place
              h.undos.inv.base.ends calm q in
              omega (arith, k, h.young u q g (sym (noted-other old t u false ne) ∙ new))
        ];
      }

  begun_changes : (t : ℕ) (begin : Begin) (r : Running) → p t ≡ None → begun begin ≡ Some r → (u : ℕ)
      → changes_at (has_passed b.tail l u) (noted p t (Some r) u) ≤ changes_at (has_passed b.tail l u) (p u) + 0
  begun_changes t begin r idle g u = elim (cases_eq u t) [
    | inl same ↦
        let new : noted p t (Some r) u ≡ Some r = noted-same p t u (Some r) same in
        let old : p u ≡ None = ap p same ∙ idle in
        rw (new, old) (omega (arith, begun_changes_one (has_passed b.tail l u) begin r g))
    | inr ne ↦ rw (noted-other p t u (Some r) ne) (omega arith)
  ]

  begun_places : (t : ℕ) (begin : Begin) (r : Running) → p t ≡ None → begun begin ≡ Some r → (u : ℕ)
      → cost_at shape x w (noted p t (Some r) u) ≤ cost_at shape x w (p u) + 0
  begun_places t begin r idle g u = elim (cases_eq u t) [
    | inl same ↦
        let new : noted p t (Some r) u ≡ Some r = noted-same p t u (Some r) same in
        let old : p u ≡ None = ap p same ∙ idle in
        rw (new, old) (omega (arith, (begun_cost shape x w begin r g).0))
    | inr ne ↦ rw (noted-other p t u (Some r) ne) (omega arith)
  ]

  pub live_begin : (t : ℕ) (begin : Begin) (r : Running) → p t ≡ None → may_begin shape begin ≡ true
      → begun begin ≡ Some r
      → HasTurns b.turns (Some begin) → Live shape threads x b old w (noted p t (Some r)) (called t begin l) spent
  unfolding called
  live_begin t begin r idle may g turns =
      record {
        names = h.names;
        undos = undos_begin shape again w p l t begin r h.undos idle may g;
        charge = h.charge;
        stretch = record {
          kept = h.stretch.kept;
          charged = h.stretch.charged;
          looks = λ u q f. elim (cases_eq u t) [
            | inl same ↦ rw (← (same_Some r q (sym (noted-same p t u (Some r) same) ∙ f)))
                (begun_kept shape b.tail w (called t begin l) h.charge begin r g)
            | inr ne ↦
                let k : p u ≡ Some q = sym (noted-other p t u (Some r) ne) ∙ f in
                HasKept-others shape b.tail w w l (called t begin l) h.charge h.charge u q
                (λ ends ld z. (z, refl, refl))
                (λ Slots v a c kept. kept) (λ v c. c) h.undos.inv.base.ends.ordered (h.undos.inv.threads u q k).loaded
                (h.stretch.looks u q k)
          ];
          to_tail = h.stretch.to_tail;
          to_round = λ v u q c f loaded. elim (cases_eq u t) [
            | inl same ↦
                let at : r ≡ q = same_Some r q (sym (noted-same p t u (Some r) same) ∙ f) in
                absurd (false≢true (sym loaded ∙ ap at_load (sym at) ∙ (begun_cost shape x w begin r g).1))
            | inr ne ↦ h.stretch.to_round v u q c (sym (noted-other p t u (Some r) ne) ∙ f) loaded
          ];
          apart = h.stretch.apart;
          within = h.stretch.within;
          second = h.stretch.second;
        };
        account =
            let k = total_rises (λ u. cost_at shape x w (p u)) (λ u. cost_at shape x w (noted p t (Some r) u)) threads 0
            (λ u _. begun_places t begin r idle g u) in
            omega (arith, k, h.account);
        changed = h.changed;
        changes =
            let k = total_rises (λ u. changes_at (has_passed b.tail l u) (p u))
            (λ u. changes_at (has_passed b.tail l u) (noted p t (Some r) u)) threads 0
            (λ u _. begun_changes t begin r idle g u) in
            omega (arith, k, h.changes);
        reached = h.reached;
        young = λ u q f new. elim (cases_eq u t) [
          | inl same ↦ rw (← (same_Some r q (sym (noted-same p t u (Some r) same) ∙ f)))
              (let k = begun_round w begin r g in omega (arith, k.0, k.1 b.turns turns))
          | inr ne ↦ h.young u q (sym (noted-other p t u (Some r) ne) ∙ f) new
        ];
      }

  pub live_tick : Live shape threads x b old (noted w (clock_at shape.k shape.n) (w (clock_at shape.k shape.n) + 1)) p
      (record l { now = l.now + 1 }) spent
  live_tick =
      let z = ticked_word shape w (w (clock_at shape.k shape.n) + 1) in
      record {
        names = h.names;
        undos = undos_outside shape again w _ p l (tick_outside shape w _) h.undos;
        charge = h.charge;
        stretch = record {
          kept = λ v f a c. kept_same shape w (noted w (clock_at shape.k shape.n) (w (clock_at shape.k shape.n) + 1))
              h.charge Every v (λ i is_slot. z i is_slot.below) (h.stretch.kept v f a c);
          charged = h.stretch.charged;
          looks = λ u q f.
              HasKept-others shape b.tail w (noted w (clock_at shape.k shape.n) (w (clock_at shape.k shape.n) + 1)) l
              (record l { now = l.now + 1 }) h.charge h.charge u q
              (λ ends ld e. (sym (z 0 (omega arith)) ∙ e, refl, refl))
              (λ Slots v a c kept. kept_same shape w
              (noted w (clock_at shape.k shape.n) (w (clock_at shape.k shape.n) + 1)) h.charge
              Slots v (λ i is_slot. z i is_slot.below) kept)
              (λ v c. c) h.undos.inv.base.ends.ordered (h.undos.inv.threads u q f).loaded (h.stretch.looks u q f);
          to_tail = h.stretch.to_tail;
          to_round = h.stretch.to_round;
          apart = h.stretch.apart;
          within = h.stretch.within;
          second = h.stretch.second;
        };
        account =
            let k = total_rises (λ u. cost_at shape x w (p u))
            (λ u. cost_at shape x (noted w (clock_at shape.k shape.n) (w (clock_at shape.k shape.n) + 1)) (p u))
            threads 0
            (λ u _. tick_cost u (p u) refl) in
            omega (arith, k, h.account);
        changed = h.changed;
        changes = h.changes;
        reached = h.reached;
        young = λ u q f new.
            let y = ticked_word shape w (w (clock_at shape.k shape.n) + 1) in
            let k = disturbed_same shape w (noted w (clock_at shape.k shape.n) (w (clock_at shape.k shape.n) + 1)) q
            (h.undos.inv.base.sane u q f) (y 0 (omega arith)) (λ i above below. y i below) in
            omega (arith, k, h.young u q f new);
      }
    where
      tick_cost : (u : ℕ) (o : Option Running) → p u ≡ o
          → cost_at shape x (noted w (clock_at shape.k shape.n) (w (clock_at shape.k shape.n) + 1)) o ≤ cost_at shape x
          w o + 0
      tick_cost u None is = omega arith
      tick_cost u (Some q) is =
          let y = ticked_word shape w (w (clock_at shape.k shape.n) + 1) in
          let k = cost_same shape x w (noted w (clock_at shape.k shape.n) (w (clock_at shape.k shape.n) + 1)) q
          (h.undos.inv.base.sane u q is) (y 0 (omega arith)) (λ i above below. y i below) in
          omega (arith, k)
