-- The invariant holds after every schedule.
use Rattle.std.proofs.Common.{◌≡◌, ℕ, ◌+◌, ◌<◌, ◌≤◌, inl, inr, true, refl, sym, ◌∙◌, ap, arith, Option, Some, None}
use Rattle.std.proofs.lemmas.Bool.{false≢true, cases_eq}
use Rattle.std.proofs.lemmas.Bool.Decides.{nat_tests}
use Rattle.std.proofs.lemmas.Option.{none-some, same_Some}
use Rattle.std.proofs.Common.{List, is_some}
use Rattle.kfifo_linear.proofs.Abstract.{OutsideCalls, after_all, noted-other, noted-same, noted_tells, table_size}
use Rattle.kfifo_linear.proofs.Abstract.{words_by}
use Rattle.kfifo_linear.proofs.Base.{Sane, base_begin, base_opening, base_step, base_table, base_outside}
use Rattle.kfifo_linear.proofs.Base.{get_or_replicate, opening_size}
use Rattle.kfifo_linear.proofs.Calls.{calls_stay}
use Rattle.kfifo_linear.proofs.Claims.{HasLoaded-others}
use Rattle.kfifo_linear.proofs.Invariant.{AtHead, AtTail, Calls, Fits, GoneOk, Inv, SlotOk, StoodOk, ThreadOk, Times}
use Rattle.kfifo_linear.proofs.Invariant.{TookOk, is_gone}
use Rattle.kfifo_linear.proofs.Slots.{slot_stays, times_stay}
use Rattle.kfifo_linear.proofs.Threads.{HasClear-others, HasOwn-others, HasTarget-others, Slots, other_thread}
use Rattle.kfifo_linear.proofs.Threads.{own_thread, slots_facts}
use Rattle.kfifo_linear.specs.Ledger.{Gone, Inside, Ledger, Outside, Standing, Stood, Took, blank, called, found_in}
use Rattle.kfifo_linear.specs.Ledger.{item_of, ledger_of, noted, stepped}
use Rattle.kfifo_machine.proofs.NoWrap.{EndsOk}
use Rattle.kfifo_machine.specs.Machine.{World, begun, may_begin, opening, place_after, place_of, run, word_at}
use Rattle.kfifo_machine.specs.Places.{IsSlotIndex}
use Rattle.kfifo_machine.specs.Program.{access, accessed, advance}
use Rattle.kfifo_linear.proofs.Types.{Answer, Begin, Event, Running, Shape}
use Rattle.kfifo_model.specs.declared.calls.Answer.TheVariants.{Got}
use Rattle.kfifo_words.specs.Words.{value_of}

-- a call's begin
begun_thread : (shape : Shape) (w : ℕ → ℕ) (l : Ledger) (t : ℕ) (b : Begin) (r : Running) → begun b ≡ Some r
    → ThreadOk shape w (called t b l) t r
unfolding called
begun_thread shape w l t b r g = grind (arith, nat_tests, noted-same)

begun_other : (shape : Shape) (w : ℕ → ℕ) (l : Ledger) (t : ℕ) (b : Begin) (u : ℕ) (q : Running) → (u ≡ t → ⊥)
    → Sane shape q
    → ThreadOk shape w l u q → ThreadOk shape w (called t b l) u q
unfolding called
begun_other shape w l t b u q ne s h =
    let c : noted l.caller t l.calls u ≡ l.caller u = noted-other l.caller t u l.calls ne in
    let apart : l.caller u ≡ l.calls → ⊥ = λ z. omega (arith, h.known, z) in
    let f : noted l.first l.calls l.now (l.caller u) ≡ l.first (l.caller u) =
    noted-other l.first l.calls (l.caller u) l.now apart in
    let e : noted l.last l.calls None (l.caller u) ≡ l.last (l.caller u) =
    noted-other l.last l.calls (l.caller u) None apart in
    let an : noted l.answer l.calls None (l.caller u) ≡ l.answer (l.caller u) =
    noted-other l.answer l.calls (l.caller u) None apart in
    let bg : noted l.begin l.calls b (l.caller u) ≡ l.begin (l.caller u) =
    noted-other l.begin l.calls (l.caller u) b apart in
    let st : noted l.standing l.calls Outside (l.caller u) ≡ l.standing (l.caller u) =
    noted-other l.standing l.calls (l.caller u) Outside apart in
    record {
      known = rw c (omega (arith, h.known));
      started = rw (c, f) h.started;
      unended = rw (c, e) h.unended;
      unanswered = rw (c, an) h.unanswered;
      makes = rw (c, bg) h.makes;
      round = λ a. let r = h.round a in record {
        head_below = r.head_below;
        tail_below = r.tail_below;
        tails_after = λ v v1 v2. rw (c, f) (r.tails_after v v1 v2);
        heads_after = λ v v1 v2. rw (c, f) (r.heads_after v v1 v2);
      };
      loaded = HasLoaded-others shape w w l (called t b l) u q
          (λ x ld. record {
            ends = ld.ends;
            below = ld.below;
            head_same = ld.head_same;
            tail_same = ld.tail_same;
          }) h.loaded;
      fresh = λ a. rw (c, st) (h.fresh a);
      own = HasOwn-others shape w w l (called t b l) u q s refl
          (λ index filled _ _ own. record {
            below = own.below;
            place = own.place;
            owner = λ z. own.owner z ∙ sym c;
            inside = λ z. rw (c, st) (own.inside z);
            unsettled = own.unsettled;
            gone = λ z. rw (c, st) (own.gone z);
          }) h.own;
      target = HasTarget-others shape w w l (called t b l) u q s
          (λ index empty _ x. record { place = x.place; below = x.below })
          (λ index empty _ x untaken. untaken)
          (λ index filled _ x. record { place = x.place; below = x.below })
          (λ index filled _ x old. old)
          (λ z. z) h.target;
      clear = HasClear-others shape w w l (called t b l) u q (λ ends start offset ld x. x) h.loaded h.clear;
    }

begun_slot : (shape : Shape) (w : ℕ → ℕ) (l : Ledger) (t : ℕ) (b : Begin) (i : ℕ) → SlotOk shape w l i
    → SlotOk shape w (called t b l) i
unfolding called
begun_slot shape w l t b i h = grind (arith, nat_tests, noted_tells)

begun_times : (l : Ledger) (t : ℕ) (b : Begin) → Times l → Times (called t b l)
unfolding called
begun_times l t b h = record {
  tails_past = h.tails_past;
  tails_rise = h.tails_rise;
  heads_past = h.heads_past;
  heads_rise = h.heads_rise;
  tail_first = h.tail_first;
}

-- a tick and a seal leave the slots, and a seal the segments of the ends: what a round loaded first still stands only
-- if it stood
outside_thread : (shape : Shape) (w v : ℕ → ℕ) (l : Ledger) (u : ℕ) (q : Running) → OutsideCalls shape w v
    → Sane shape q → ThreadOk shape w l u q
    → ThreadOk shape v (record l { now = l.now + 1 }) u q
outside_thread shape w v l u q o s h =
    let stood : (x : ℕ) → x ≤ w 0 → v 0 ≡ x → w 0 ≡ x = λ x below e. omega (arith, below, o.rise, e) in
    record {
      known = h.known;
      started = omega (arith, h.started);
      unended = h.unended;
      unanswered = h.unanswered;
      makes = h.makes;
      round = λ a. let r = h.round a in record {
        head_below = r.head_below;
        tail_below = r.tail_below;
        tails_after = r.tails_after;
        heads_after = r.heads_after;
      };
      loaded = HasLoaded-others shape w v l
          (record l { now = l.now + 1 }) u q (λ x ld.
          record {
            ends = ld.ends;
            below = omega (arith, o.rise, ld.below);
            head_same = λ e. ld.head_same (stood x ld.below e);
            tail_same = λ e. ld.tail_same (stood x ld.below e);
          }) h.loaded;
      fresh = h.fresh;
      own = HasOwn-others shape w v l (record l { now = l.now + 1 }) u
          q s refl
          (λ index filled i _ own.
          let y = o.slots index i.above i.below in
          record {
            below = omega (arith, y, own.below);
            place = own.place;
            owner = λ e. own.owner (sym y ∙ e);
            inside = λ e. own.inside (sym y ∙ e);
            unsettled = λ e. own.unsettled (sym y ∙ e);
            gone = λ n. own.gone (λ e. n (y ∙ e));
          })
          h.own;
      target = HasTarget-others shape w v l
          (record l { now = l.now + 1 }) u q s
          (λ index empty i x. record { place = x.place; below = omega (arith, o.slots index i.above i.below, x.below) })
          (λ index empty i x untaken e. untaken (sym (o.slots index i.above i.below) ∙ e))
          (λ index filled i x. record {
            place = x.place;
            below = omega (arith, o.slots index i.above i.below, x.below);
          })
          (λ index filled i x old e. old (sym (o.slots index i.above i.below) ∙ e))
          (λ y. y) h.target;
      clear = HasClear-others shape w v l
          (record l { now = l.now + 1 }) u q (λ ends start offset ld x e. x (stood ends ld.below e)) h.loaded h.clear;
    }

outside_slot : (shape : Shape) (w v : ℕ → ℕ) (l : Ledger) (i : ℕ) → OutsideCalls shape w v → IsSlotIndex shape i
    → SlotOk shape w l i
    → SlotOk shape v (record l { now = l.now + 1 }) i
outside_slot shape w v l i o is_slot h =
    let z = o.slots i is_slot.above is_slot.below in
    record {
      untaken_to_tail = h.untaken_to_tail;
      empty = λ e. h.empty (ap value_of (sym z) ∙ e);
      full = λ v. let f = h.full (λ e. v (ap value_of z ∙ e)) in
          record {
            inside = f.inside;
            known = f.known;
            begun = omega (arith, f.begun);
            untaken_to_load = f.untaken_to_load;
            load_to_tail = f.load_to_tail;
            place = f.place;
            after = f.after;
            unsettled = f.unsettled;
          };
      item = λ v. h.item (λ e. v (ap value_of z ∙ e)) ∙ ap value_of (sym z);
      settled = λ e. let f = h.settled e in record {
        from_head = f.from_head;
        to_tail = f.to_tail;
        place = f.place;
        at_tail = record {
          reached = f.at_tail.reached;
          after = f.at_tail.after;
          before = f.at_tail.before;
          past = omega (arith, f.at_tail.past);
        };
        started = f.started;
        ended = f.ended;
      };
    }

-- where a call stood before another began
pub begun_standing : (l : Ledger) (t : ℕ) (b : Begin) (c : ℕ) (s : Standing) → (called t b l).standing c ≡ s
    → (s ≡ Outside → ⊥)
    → (l.standing c ≡ s) × (c ≡ l.calls → ⊥)
unfolding called
begun_standing l t b c s e n = elim (cases_eq c l.calls) [
  | inl same ↦ absurd (n (sym e ∙ noted-same l.standing l.calls c Outside same))
  | inr ne ↦ (sym (noted-other l.standing l.calls c Outside ne) ∙ e, ne)
]

gone_outside : {s : Standing} → is_gone s ≡ true → s ≡ Outside → ⊥
gone_outside g e = false≢true (sym (ap is_gone e) ∙ g)

took_outside : {o v q : ℕ} → Took o v q ≡ Outside → ⊥
took_outside e = cc

outside_gone : {i v p : ℕ} → Outside ≡ Gone i v p → ⊥
outside_gone e = cc

begun_standing-kept : (l : Ledger) (t : ℕ) (b : Begin) (c : ℕ) (s : Standing) → l.standing c ≡ s → (c ≡ l.calls → ⊥)
    → (called t b l).standing c ≡ s
unfolding called
begun_standing-kept l t b c s e ne = noted-other l.standing l.calls c Outside ne ∙ e

begun_later : (l : Ledger) (t : ℕ) (b : Begin) → ((c : ℕ) → l.calls ≤ c → l.standing c ≡ Outside) → (c : ℕ)
    → (called t b l).calls ≤ c
    → (called t b l).standing c ≡ Outside
unfolding called
begun_later l t b h c z = noted-other l.standing l.calls c Outside (λ e. omega (arith, e, z)) ∙ h c (omega (arith, z))

begun_owner : (l : Ledger) (t : ℕ) (b : Begin) (i : ℕ) → (called t b l).owner i ≡ l.owner i
unfolding called
begun_owner l t b i = refl

begun_at_tail : (l : Ledger) (t : ℕ) (b : Begin) (v p : ℕ) → AtTail l v p → AtTail (called t b l) v p
unfolding called
begun_at_tail l t b v p h = record { reached = h.reached; after = h.after; before = h.before; past = h.past }

begun_at_head : (l : Ledger) (t : ℕ) (b : Begin) (v p : ℕ) → AtHead l v p → AtHead (called t b l) v p
unfolding called
begun_at_head l t b v p h = record {
  reached = h.reached;
  after = h.after;
  before = h.before;
  past = h.past;
  tail_past = h.tail_past;
  tail_before = h.tail_before;
}

begun_gone : (shape : Shape) (l : Ledger) (t : ℕ) (b : Begin) (c i v p : ℕ) → (c ≡ l.calls → ⊥) → GoneOk shape l c i v p
    → GoneOk shape (called t b l) c i v p
unfolding called
begun_gone shape l t b c i v p ne h =
    record {
      is_slot = h.is_slot;
      place = h.place;
      at_tail = begun_at_tail l t b v p h.at_tail;
      started = rw (noted-other l.first l.calls c l.now ne) h.started;
      ended = λ e f. h.ended e (sym (noted-other l.last l.calls c None ne) ∙ f);
      under = h.under;
    }

begun_took : (l : Ledger) (t : ℕ) (b : Begin) (c o v p : ℕ) → (c ≡ l.calls → ⊥) → (o ≡ l.calls → ⊥) → TookOk l c o v p
    → TookOk (called t b l) c o v p
unfolding called
begun_took l t b c o v p ne no_ h =
    record {
      at_head = begun_at_head l t b v p h.at_head;
      started = rw (noted-other l.first l.calls c l.now ne) h.started;
      ended = λ e f. h.ended e (sym (noted-other l.last l.calls c None ne) ∙ f);
      gone = rw (noted-other l.standing l.calls o Outside no_) h.gone;
      same_visit = rw (noted-other l.standing l.calls o Outside no_) h.same_visit;
      finished = rw (noted-other l.answer l.calls c None ne) h.finished;
    }

begun_stood : (shape : Shape) (l : Ledger) (t : ℕ) (b : Begin) (c v p : ℕ) → (c ≡ l.calls → ⊥)
    → ((d i u q : ℕ) → (called t b l).standing d ≡ Gone i u q → l.standing d ≡ Gone i u q) → StoodOk shape l c v p
    → StoodOk shape (called t b l) c v p
unfolding called
begun_stood shape l t b c v p ne was h =
    record {
      at_tail = begun_at_tail l t b v p h.at_tail;
      head_reached = h.head_reached;
      head_after = h.head_after;
      head_before = h.head_before;
      started = rw (noted-other l.first l.calls c l.now ne) h.started;
      ended = λ e f. h.ended e (sym (noted-other l.last l.calls c None ne) ∙ f);
      finished = rw (noted-other l.answer l.calls c None ne) h.finished;
      none_gone = λ d i u q f z. h.none_gone d i u q (was d i u q f) z;
      none_settled = h.none_settled;
      no_tail = h.no_tail;
    }

Fits-begin : (begin begin' : ℕ → Begin) (x : Answer) (s : Standing)
    → ((o v p : ℕ) → s ≡ Took o v p → begin' o ≡ begin o) → Fits begin x s
    → Fits begin' x s
Fits-begin begin begin' (Got item) (Took o v p) k h = ap item_of (k o v p refl) ∙ h
Fits-begin begin begin' x s k h = h

-- where an answer's call stood keeps saying the answer
begun_answered : (shape : Shape) (w : ℕ → ℕ) (l : Ledger) (t : ℕ) (b : Begin) → Calls shape w l → (c : ℕ) (x : Answer)
    → (called t b l).answer c ≡ Some x → Fits (called t b l).begin x ((called t b l).standing c)
unfolding called
begun_answered shape w l t b h c x e = elim (cases_eq c l.calls) [
  | inl same ↦ absurd (none-some x (sym (noted-same l.answer l.calls c None same) ∙ e))
  | inr ne ↦
      rw (noted-other l.standing l.calls c Outside ne)
      (Fits-begin l.begin (noted l.begin l.calls b) x (l.standing c)
      (λ o v p f. noted-other l.begin l.calls o b
      (λ z. gone_outside (h.took c o v p f).gone (ap l.standing z ∙ h.later l.calls (omega arith))))
      (h.answered c x (sym (noted-other l.answer l.calls c None ne) ∙ e)))
]

begun_ended : (shape : Shape) (w : ℕ → ℕ) (l : Ledger) (t : ℕ) (b : Begin) → Calls shape w l → (c e : ℕ)
    → (called t b l).last c ≡ Some e
    → is_some ((called t b l).answer c) ≡ true
unfolding called
begun_ended shape w l t b h c e f = elim (cases_eq c l.calls) [
  | inl same ↦ absurd (none-some e (sym (noted-same l.last l.calls c None same) ∙ f))
  | inr ne ↦ rw (noted-other l.answer l.calls c None ne) (h.ended c e (sym (noted-other l.last l.calls c None ne) ∙ f))
]

begun_lasts : (shape : Shape) (w : ℕ → ℕ) (l : Ledger) (t : ℕ) (b : Begin) → Calls shape w l → (c e : ℕ)
    → (called t b l).last c ≡ Some e
    → ((called t b l).first c ≤ e) × (e < (called t b l).now)
unfolding called
begun_lasts shape w l t b h c e f = elim (cases_eq c l.calls) [
  | inl same ↦ absurd (none-some e (sym (noted-same l.last l.calls c None same) ∙ f))
  | inr ne ↦ let g = h.lasts c e (sym (noted-other l.last l.calls c None ne) ∙ f) in
      (rw (noted-other l.first l.calls c l.now ne) g.0, g.1)
]

begun_unended : (shape : Shape) (w : ℕ → ℕ) (l : Ledger) (t : ℕ) (b : Begin) → Calls shape w l → (c : ℕ)
    → (called t b l).last c ≡ None
    → (called t b l).answer c ≡ None
unfolding called
begun_unended shape w l t b h c f = elim (cases_eq c l.calls) [
  | inl same ↦ noted-same l.answer l.calls c None same
  | inr ne ↦ noted-other l.answer l.calls c None ne ∙ h.unended c (sym (noted-other l.last l.calls c None ne) ∙ f)
]

begun_calls : (shape : Shape) (w : ℕ → ℕ) (l : Ledger) (t : ℕ) (b : Begin) → Calls shape w l
    → Calls shape w (called t b l)
begun_calls shape w l t b h =
    let was = begun_standing l t b in
    record {
      later = begun_later l t b h.later;
      inside = λ c i e. let k = was c (Inside i) e (λ x. cc) in let g = h.inside c i k.0 in
          record { is_slot = g.is_slot; full = g.full; owner = begun_owner l t b i ∙ g.owner };
      gone = λ c i v p e. let k = was c (Gone i v p) e (λ x. cc) in
          begun_gone shape l t b c i v p k.1 (h.gone c i v p k.0);
      took = λ c o v p e. let k = was c (Took o v p) e (λ x. cc) in
          begun_took l t b c o v p k.1
          (λ z. gone_outside (h.took c o v p k.0).gone (ap l.standing z ∙ h.later l.calls (omega arith)))
          (h.took c o v p k.0);
      stood = λ c v p e. let k = was c (Stood v p) e (λ x. cc) in
          begun_stood shape l t b c v p k.1 (λ d i u q f. (was d (Gone i u q) f (λ x. cc)).0) (h.stood c v p k.0);
      answered = begun_answered shape w l t b h;
      ended = begun_ended shape w l t b h;
      lasts = begun_lasts shape w l t b h;
      unended = begun_unended shape w l t b h;
      apart = λ c d i v p u q e f g. h.apart c d i v p u q (was c (Gone i v p) e (λ x. cc)).0
          (was d (Gone i u q) f (λ x. cc)).0 g;
      taker = λ c i v p e.
          let g = h.taker c i v p (was c (Gone i v p) e (λ x. cc)).0 in (
            g.0,
            (
              g.1.0,
              begun_standing-kept l t b g.0 (Took c v g.1.0) g.1.1
                  (λ z. took_outside (sym g.1.1 ∙ ap l.standing z ∙ h.later l.calls (omega arith))),
            ),
          );
      once = λ c d o v p u q e f. h.once c d o v p u q (was c (Took o v p) e (λ x. cc)).0
          (was d (Took o u q) f (λ x. cc)).0;
    }

later_at_tail : (l : Ledger) (v p : ℕ) → AtTail l v p → AtTail (record l { now = l.now + 1 }) v p
later_at_tail l v p h = record { reached = h.reached; after = h.after; before = h.before; past = omega (arith, h.past) }

outside_calls : (shape : Shape) (w v : ℕ → ℕ) (l : Ledger) → OutsideCalls shape w v → Calls shape w l
    → Calls shape v (record l { now = l.now + 1 })
outside_calls shape w v l o h =
    let next : Ledger = record l { now = l.now + 1 } in
    record {
      later = h.later;
      inside = λ c i e. let g = h.inside c i e in
          record {
            is_slot = g.is_slot;
            full = λ z.
                g.full (ap value_of (sym (o.slots i g.is_slot.above g.is_slot.below)) ∙ z);
            owner = g.owner;
          };
      gone = λ c i v p e. let g = h.gone c i v p e in
          record {
            is_slot = g.is_slot;
            place = g.place;
            at_tail = later_at_tail l v p g.at_tail;
            started = g.started;
            ended = g.ended;
            under = g.under;
          };
      took = λ c o v p e. let g = h.took c o v p e in
          record {
            at_head = record {
              reached = g.at_head.reached;
              after = g.at_head.after;
              before = g.at_head.before;
              past = omega (arith, g.at_head.past);
              tail_past = g.at_head.tail_past;
              tail_before = g.at_head.tail_before;
            };
            started = g.started;
            ended = g.ended;
            gone = g.gone;
            same_visit = g.same_visit;
            finished = g.finished;
          };
      stood = λ c v p e. let g = h.stood c v p e in
          record {
            at_tail = later_at_tail l v p g.at_tail;
            head_reached = g.head_reached;
            head_after = g.head_after;
            head_before = g.head_before;
            started = g.started;
            ended = g.ended;
            finished = g.finished;
            none_gone = g.none_gone;
            none_settled =
                g.none_settled;
            no_tail = g.no_tail;
          };
      answered = h.answered;
      ended = h.ended;
      lasts = λ c e f. let g = h.lasts c e f in (g.0, omega (arith, g.1));
      unended = h.unended;
      apart = h.apart;
      taker = h.taker;
      once = h.once;
    }

module _ (shape : Shape) where
  -- who is in a call after the step was in it before
  pub there : (w : ℕ → ℕ) (p : ℕ → Option Running) (t : ℕ) (r : Running) (next : Option Running) → p t ≡ Some r
      → (u : ℕ) (q : Running)
      → noted p t next u ≡ Some q → (x : Running) × (p u ≡ Some x)
  there w p t r next e u q f = elim (cases_eq u t) [
    | inl same ↦ (r, ap p same ∙ e)
    | inr ne ↦ (q, sym (noted-other p t u next ne) ∙ f)
  ]

  pub inv_step : (w : ℕ → ℕ) (p : ℕ → Option Running) (l : Ledger) (t : ℕ) (r : Running) → Inv shape w p l
      → p t ≡ Some r
      → Inv shape (words_by (access shape r) w) (noted p t (place_after (advance shape r (found_in shape w r))))
      (stepped shape w t r l)
  unfolding stepped
  inv_step w p l t r h e =
      let s : Sane shape r = h.base.sane t r e in
      let ok : EndsOk shape (w 0) l.head l.tail = h.base.ends in
      let me : ThreadOk shape w l t r = h.threads t r e in
      let all : Slots shape w l = slots_facts shape w l h.slots in
      record {
        base = base_step shape w p l t r h.base e;
        threads = λ u q f. elim (cases_eq u t) [
          | inl same ↦ rw same (own_thread shape w l t r s ok me all q
              (sym (noted-same p t u (place_after (advance shape r (found_in shape w r))) same) ∙ f))
          | inr ne ↦
              let g : p u ≡ Some q = sym (noted-other p t u (place_after (advance shape r (found_in shape w r))) ne)
              ∙ f in
              other_thread shape w l t r s ok me all u q ne (h.base.sane u q g) (h.threads u q g)
              (λ z. ne (h.callers u t q r g e z))
        ];
        callers = λ u v q x f g c. h.callers u v (there w p t r (place_after (advance shape r (found_in shape w r))) e u
            q f).0 (there w p t r (place_after (advance shape r (found_in shape w r))) e v x g).0
            (there w p t r (place_after (advance shape r (found_in shape w r))) e u q f).1
            (there w p t r (place_after (advance shape r (found_in shape w r))) e v x g).1 c;
        slots = λ i is_slot. slot_stays shape w l t r s ok me h.times all i is_slot (h.slots i is_slot);
        times = times_stay shape w l t r s ok me h.times;
        calls = calls_stay shape w l t r s ok me h.times all h.slots
            (λ i is_slot. slot_stays shape w l t r s ok me h.times all i is_slot (h.slots i is_slot)) h.calls;
      }

  begun_callers : (w : ℕ → ℕ) (p : ℕ → Option Running) (l : Ledger) (t : ℕ) (b : Begin) (r : Running) → Inv shape w p l
      → p t ≡ None
      → (u v : ℕ) (q x : Running) → noted p t (Some r) u ≡ Some q → noted p t (Some r) v ≡ Some x
      → (called t b l).caller u ≡ (called t b l).caller v → u ≡ v
  unfolding called
  begun_callers w p l t b r h e u v q x f k c =
      elim (cases_eq u t) [
        | inl same ↦ elim (cases_eq v t) [
          | inl also ↦ same ∙ sym also
          | inr nv ↦
              let g : p v ≡ Some x = sym (noted-other p t v (Some r) nv) ∙ k in
              absurd (omega (
                arith,
                (h.threads v x g).known,
                c,
                noted-same l.caller t u l.calls same,
                noted-other
                    l.caller t v l.calls nv,
              ))
        ]
        | inr nu ↦
            let g : p u ≡ Some q = sym (noted-other p t u (Some r) nu) ∙ f in
            elim (cases_eq v t) [
              | inl also ↦ absurd (omega (
                arith,
                (h.threads u q g).known,
                c,
                noted-same l.caller t v l.calls also,
                noted-other l.caller t u l.calls nu,
              ))
              | inr nv ↦ h.callers u v q x g (sym (noted-other p t v (Some r) nv) ∙ k)
                  (sym (noted-other l.caller t u l.calls nu) ∙ c ∙ noted-other l.caller t v l.calls nv)
            ]
      ]

  pub inv_begin : (w : ℕ → ℕ) (p : ℕ → Option Running) (l : Ledger) (t : ℕ) (b : Begin) (r : Running) → Inv shape w p l
      → p t ≡ None
      → may_begin shape b ≡ true → begun b ≡ Some r → Inv shape w (noted p t (Some r)) (called t b l)
  inv_begin w p l t b r h e m g =
      record {
        base = base_begin shape w p l t b r h.base e m g;
        threads = λ u q f. elim (cases_eq u t) [
          | inl same ↦ rw (same, sym (same_Some r q (sym (noted-same p t u (Some r) same) ∙ f)))
              (begun_thread shape w l t b r g)
          | inr ne ↦
              let k : p u ≡ Some q = sym (noted-other p t u (Some r) ne) ∙ f in
              begun_other shape w l t b u q ne (h.base.sane u q k) (h.threads u q k)
        ];
        callers = begun_callers w p l t b r h e;
        slots = λ i is_slot. begun_slot shape w l t b i (h.slots i is_slot);
        times = begun_times l t b h.times;
        calls = begun_calls shape w l t b h.calls;
      }

  pub inv_outside : (w v : ℕ → ℕ) (p : ℕ → Option Running) (l : Ledger) → OutsideCalls shape w v → Inv shape w p l
      → Inv shape v p (record l { now = l.now + 1 })
  inv_outside w v p l o h =
      record {
        base = base_outside shape w v p l o h.base;
        threads = λ u q f. outside_thread shape w v l u q o (h.base.sane u q f) (h.threads u q f);
        callers = h.callers;
        slots = λ i is_slot. outside_slot shape w v l i o is_slot (h.slots i is_slot);
        times = record {
          tails_past = λ v z. omega (arith, h.times.tails_past v z);
          tails_rise = h.times.tails_rise;
          heads_past = λ v z. omega (arith, h.times.heads_past v z);
          heads_rise = h.times.heads_rise;
          tail_first = h.times.tail_first;
        };
        calls = outside_calls shape w v l o h.calls;
      }

  pub inv_table : (w : ℕ → ℕ) (p : ℕ → Option Running) (l : Ledger) (t : ℕ) (r : Running) → Inv shape w p l
      → p t ≡ Some r
      → accessed (access shape r) < table_size shape
  inv_table w p l t r h e = base_table shape w p l t r h.base e

  pub inv_opening : (threads : ℕ) → Inv shape (word_at (opening shape threads)) (place_of (opening shape threads)) blank
  unfolding opening word_at place_of blank value_of
  inv_opening threads =
      record {
        base = base_opening shape threads;
        threads = λ t r f. absurd (none-some r (sym (get_or_replicate threads t None) ∙ f));
        callers = λ t u r q f g c. absurd (none-some r (sym (get_or_replicate threads t None) ∙ f));
        slots = λ i is_slot. record {
          untaken_to_tail = omega arith;
          empty = λ _. refl;
          full = λ v. absurd (v (ap value_of (get_or_replicate {X = ℕ} (table_size shape) i 0) ∙ refl));
          item = λ v. absurd (v (ap value_of (get_or_replicate {X = ℕ} (table_size shape) i 0) ∙ refl));
          settled = λ e. absurd (false≢true e);
        };
        times = record {
          tails_past = λ v z. absurd (omega arith);
          tails_rise = λ u v z y. absurd (omega arith);
          heads_past = λ v z. absurd (omega arith);
          heads_rise = λ u v z y. absurd (omega arith);
          tail_first =
              λ v z. absurd (omega arith);
        };
        calls = record {
          later = λ c z. refl;
          inside = λ c i e. cc;
          gone = λ c i v p e. cc;
          took = λ c o v p e. cc;
          stood = λ c v p e. cc;
          answered = λ c x e. cc;
          ended = λ c e f. cc;
          lasts = λ c e f. absurd (none-some e f);
          unended = λ c f. refl;
          apart = λ c d i v p u q e f g. cc;
          taker = λ c i v p e. absurd (outside_gone e);
          once = λ c d o v p u q e f. cc;
        };
      }

  -- the invariant holds after every schedule
  pub invariant : (threads : ℕ) (events : List Event) (final : World) → run shape (Some (opening shape threads)) events
      ≡ Some final
      → Inv shape (word_at final) (place_of final) (ledger_of shape (Some (opening shape threads)) events blank)
  invariant threads events final e =
      (after_all shape (Inv shape) inv_table inv_begin inv_step inv_outside events (opening shape threads) final blank
      (record { size = opening_size shape threads; holds = inv_opening threads })
      e).holds
