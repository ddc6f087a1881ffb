-- What the order of calls is made of: of each call's role and place, after every schedule.
use Rattle.std.proofs.Common.{◌≡◌, ℕ, ◌+◌, ◌-◌, ◌%◌, ◌<◌, ◌≤◌, ◌⊎◌, inl, inr, Bool, true, false, refl, sym, ◌∙◌, ap}
use Rattle.std.proofs.Common.{arith, Option, Some, None, is_some}
use Rattle.std.proofs.lemmas.Bool.{cases_Bool, false≢true}
use Rattle.std.proofs.lemmas.Option.{none-some, same_Some}
use Rattle.std.proofs.Common.{List}
use Rattle.kfifo_linear.proofs.Claims.{segment_of}
use Rattle.kfifo_linear.proofs.Invariant.{AtHead, AtTail, Fits, FullOk, GoneOk, InsideOk, Inv, SettledOk, StoodOk}
use Rattle.kfifo_linear.proofs.Invariant.{TookOk, gone_visit, is_gone}
use Rattle.kfifo_linear.proofs.Ring.{place_below}
use Rattle.kfifo_linear.proofs.Invariance.{invariant}
use Rattle.kfifo_linear.specs.Ledger.{Gone, Inside, Ledger, Outside, Standing, Stood, Took, blank, item_of, ledger_of}
use Rattle.kfifo_linear.specs.Roles.{FindsNone, Gets, Puts, Refused, Role, Spot, refused_at, spot, spot_if, spot_of}
use Rattle.kfifo_machine.specs.Machine.{World, opening, place_of, run, word_at}
use Rattle.kfifo_machine.specs.Places.{IsSlotIndex}
use Rattle.kfifo_linear.proofs.Types.{Answer, Event, Running, Shape}
use Rattle.kfifo_model.specs.declared.calls.Answer.TheVariants.{Busy, Done, Empty, Full, Got, Worn}

-- a call stands in the order with this role at this place
abbrev pub Stands : Ledger → ℕ → Role → ℕ → Type 0
Stands l c role p = spot l c ≡ Some (record { role = role; point = p })

-- where the head is at a place
pub record HeadAt (l : Ledger) (v p : ℕ) : Type 0 where
  pub reached : v ≤ l.head
  pub after : 0 < v → l.heads (v - 1) < p
  pub before : v < l.head → p ≤ l.heads v

-- an answer's role
abbrev pub RoleAnswers : (ℕ → ℕ) → Answer → Role → Type 0
RoleAnswers items Done (Puts visit index) = Unit {0}
RoleAnswers items (Got item) (Gets call visit) = items call ≡ item
RoleAnswers items Empty (FindsNone visit) = Unit {0}
RoleAnswers items Full Refused = Unit {0}
RoleAnswers items Busy Refused = Unit {0}
RoleAnswers items Worn Refused = Unit {0}
RoleAnswers items other role = ⊥

pub record Facts (shape : Shape) (l : Ledger) : Type 0 where
  -- an enqueue has its place where the tail is in its item's visit, which is of its slot's segment
  pub puts_tail : (c v i p : ℕ) → Stands l c (Puts v i) p → AtTail l v p
  pub puts_slot : (c v i p : ℕ) → Stands l c (Puts v i) p → IsSlotIndex shape i × (v % shape.n ≡ segment_of shape i)
  -- a dequeue that gets an item has its place where the head is in the item's visit, and the tail past it
  pub gets_head : (c o v p : ℕ) → Stands l c (Gets o v) p → AtHead l v p
  pub gets_item : (c o v p : ℕ) → Stands l c (Gets o v) p → (i : ℕ) × ((q : ℕ) × Stands l o (Puts v i) q)
  -- an item whose visit the head has left was taken
  pub left : (c v i p : ℕ) → Stands l c (Puts v i) p → v < l.head → (d : ℕ) × ((q : ℕ) × Stands l d (Gets c v) q)
  -- two items of one visit are in different slots
  pub apart : (c d v i p q : ℕ) → Stands l c (Puts v i) p → Stands l d (Puts v i) q → c ≡ d
  -- an Empty has its place where head and tail are in one visit, and each item whose place is not later is of an
  -- earlier visit
  pub none_tail : (c v p : ℕ) → Stands l c (FindsNone v) p → AtTail l v p × HeadAt l v p
  pub none_before : (c v p d u i q : ℕ) → Stands l c (FindsNone v) p → Stands l d (Puts u i) q → q ≤ p → u < v
  -- and that place is its last step
  pub none_last : (c v p e : ℕ) → Stands l c (FindsNone v) p → l.last c ≡ Some e → p ≡ e
  -- each place is between its call's first and last step
  pub within : (c : ℕ) (s : Spot) → spot l c ≡ Some s → (l.first c ≤ s.point)
      × ((e : ℕ) → l.last c ≡ Some e → s.point ≤ e)
      × (s.point < l.now)
  -- no two dequeues get one item
  pub once : (c d o v p u q : ℕ) → Stands l c (Gets o v) p → Stands l d (Gets o u) q → c ≡ d
  -- a finished call stands in the order, in the role that its answer says; an unfinished one there is an enqueue
  pub finished : (c : ℕ) (x : Answer) → l.answer c ≡ Some x → (s : Spot) × (spot l c ≡ Some s)
      × RoleAnswers (λ o. item_of (l.begin o)) x s.role
  pub unfinished : (c : ℕ) (s : Spot) → l.answer c ≡ None → spot l c ≡ Some s
      → (v : ℕ) × ((i : ℕ) × (s.role ≡ Puts v i))

-- what a role says of the standing
pub puts_standing : (l : Ledger) (c v i p : ℕ) → Stands l c (Puts v i) p → (l.standing c ≡ Gone i v p)
    ⊎ ((l.standing c ≡ Inside i) × (l.settled i ≡ true) × (l.visit i ≡ v) × (l.point i ≡ p))
unfolding spot
puts_standing l c v i p e = grind arith

pub gets_standing : (l : Ledger) (c o v p : ℕ) → Stands l c (Gets o v) p → l.standing c ≡ Took o v p
unfolding spot
gets_standing l c o v p e = grind arith

none_standing : (l : Ledger) (c v p : ℕ) → Stands l c (FindsNone v) p → l.standing c ≡ Stood v p
unfolding spot
none_standing l c v p e = grind arith

-- and the other way round
gone_stands : (l : Ledger) (c i v p : ℕ) → l.standing c ≡ Gone i v p → Stands l c (Puts v i) p
unfolding spot
gone_stands l c i v p e = rw e refl

pub took_stands : (l : Ledger) (c o v p : ℕ) → l.standing c ≡ Took o v p → Stands l c (Gets o v) p
unfolding spot
took_stands l c o v p e = rw e refl

gone_spelled : (s : Standing) → is_gone s ≡ true → (i : ℕ) × ((q : ℕ) × (s ≡ Gone i (gone_visit s) q))
gone_spelled (Gone i v q) e = (i, (q, refl))
gone_spelled Outside e = absurd (false≢true e)
gone_spelled (Inside i) e = absurd (false≢true e)
gone_spelled (Took o v q) e = absurd (false≢true e)
gone_spelled (Stood v q) e = absurd (false≢true e)

abbrev Within : Ledger → ℕ → Spot → Type 0
Within l c s = (l.first c ≤ s.point) × ((e : ℕ) → l.last c ≡ Some e → s.point ≤ e) × (s.point < l.now)

within_refused : (l : Ledger) (c : ℕ) (last : Option ℕ) (s : Spot) → l.last c ≡ last
    → ((e : ℕ) → l.last c ≡ Some e → (l.first c ≤ e) × (e < l.now)) → refused_at last ≡ Some s → Within l c s
within_refused l c None s f h e = absurd (none-some s e)
within_refused l c (Some x) s f h e =
    let g : record { role = Refused; point = x } ≡ s = same_Some (record { role = Refused; point = x }) s e in
    rw (← g) ((h x f).0, (λ y z. omega (arith, same_Some x y (sym f ∙ z))), (h x f).1)

within_inside : (l : Ledger) (c i : ℕ) (settled : Bool) (s : Spot)
    → (settled ≡ true → Within l c (record { role = Puts (l.visit i) i; point = l.point i }))
    → spot_if settled (record { role = Puts (l.visit i) i; point = l.point i }) ≡ Some s → Within l c s
within_inside l c i true s h e = rw (← (same_Some (record {
  role = Puts (l.visit i) i;
  point = l.point i;
}) s e)) (h refl)
within_inside l c i false s h e = absurd (none-some s e)

some_of : (o : Option ℕ) → (o ≡ None → ⊥) → (e : ℕ) × (o ≡ Some e)
some_of None h = absurd (h refl)
some_of (Some e) h = (e, refl)

refused_stands : (l : Ledger) (c p : ℕ) → l.standing c ≡ Outside → l.last c ≡ Some p → Stands l c Refused p
unfolding spot
refused_stands l c p o e = rw (o, e) refl

refused_ended : (l : Ledger) (c : ℕ) (last : Option ℕ) (s : Spot) → refused_at last ≡ Some s → (e : ℕ) × (last ≡ Some e)
refused_ended l c None s e = absurd (none-some s e)
refused_ended l c (Some x) s e = (x, refl)

inside_role : (v i p : ℕ) (settled : Bool) (s : Spot) → spot_if settled (record { role = Puts v i; point = p }) ≡ Some s
    → s.role ≡ Puts v i
inside_role v i p true s e = ap (λ x. x.role) (sym (same_Some (record { role = Puts v i; point = p }) s e))
inside_role v i p false s e = absurd (none-some s e)

inside_stands : (l : Ledger) (c i : ℕ) → l.standing c ≡ Inside i → l.settled i ≡ true
    → Stands l c (Puts (l.visit i) i) (l.point i)
unfolding spot
inside_stands l c i e s = rw (e, s) refl

stood_stands : (l : Ledger) (c v p : ℕ) → l.standing c ≡ Stood v p → Stands l c (FindsNone v) p
unfolding spot
stood_stands l c v p e = rw e refl

module _ (shape : Shape) (w : ℕ → ℕ) (p : ℕ → Option Running) (l : Ledger) (inv : Inv shape w p l) where
  -- the slot of a settled item
  slot_of : (c i : ℕ) → l.standing c ≡ Inside i → InsideOk shape w l c i
  slot_of c i e = inv.calls.inside c i e

  settled_of : (c i : ℕ) → l.standing c ≡ Inside i → l.settled i ≡ true → SettledOk shape l i
  settled_of c i e s = (inv.slots i (slot_of c i e).is_slot).settled s

  -- a settled item's visit is not below that of any item that was taken from its slot
  above_untaken : (c i : ℕ) → l.standing c ≡ Inside i → l.settled i ≡ true → l.untaken_from i ≤ l.visit i
  above_untaken c i e s =
      let k : InsideOk shape w l c i = slot_of c i e in
      let f : FullOk shape l i = (inv.slots i k.is_slot).full k.full in
      let g : SettledOk shape l i = settled_of c i e s in
      let wrap : l.tail < l.head + shape.n = inv.base.ends.no_wrap in
      let same : l.tail_at_load i % shape.n ≡ l.visit i % shape.n = f.place ∙ sym g.place in
      let under : l.tail_at_load i ≤ l.visit i =
      place_below shape.n (l.visit i) (l.tail_at_load i) (omega (arith, f.load_to_tail, g.from_head)) same in
      omega (arith, f.untaken_to_load)

  within_of : (c : ℕ) (x : Standing) (s : Spot) → l.standing c ≡ x → spot_of l c x ≡ Some s → Within l c s
  within_of c Outside s k e = within_refused l c (l.last c) s refl (inv.calls.lasts c) e
  within_of c (Inside i) s k e =
      within_inside l c i (l.settled i) s (λ st.
      let g : SettledOk shape l i = settled_of c i k st in
      let o : l.owner i ≡ c = (slot_of c i k).owner in
      (rw o at g.started, rw o at g.ended, g.at_tail.past)) e
  within_of c (Gone i v q) s k e =
      let g : GoneOk shape l c i v q = inv.calls.gone c i v q k in
      rw (← (same_Some (record { role = Puts v i; point = q }) s e)) (g.started, g.ended, g.at_tail.past)
  within_of c (Took o v q) s k e =
      let g : TookOk l c o v q = inv.calls.took c o v q k in
      rw (← (same_Some (record { role = Gets o v; point = q }) s e)) (g.started, g.ended, g.at_head.past)
  within_of c (Stood v q) s k e =
      let g : StoodOk shape l c v q = inv.calls.stood c v q k in
      rw (← (same_Some (record {
        role = FindsNone v;
        point = q;
      }) s e)) (g.started, (λ y z. omega (arith, g.ended y z)), g.at_tail.past)

  refused : (c : ℕ) (x : Answer) → RoleAnswers (λ o. item_of (l.begin o)) x Refused → l.standing c ≡ Outside
      → l.answer c ≡ Some x
      → (s : Spot) × (spot l c ≡ Some s) × RoleAnswers (λ o. item_of (l.begin o)) x s.role
  refused c x h k e =
      let g = some_of (l.last c) (λ z. none-some x (sym (inv.calls.unended c z) ∙ e)) in
      (record { role = Refused; point = g.0 }, refused_stands l c g.0 k g.1, h)

  finished_of : (c : ℕ) (x : Answer) (st : Standing) → l.standing c ≡ st → l.answer c ≡ Some x → Fits l.begin x st
      → (s : Spot)
      × (spot l c ≡ Some s) × RoleAnswers (λ o. item_of (l.begin o)) x s.role
  finished_of c Done (Inside i) k e h =
      let g : InsideOk shape w l c i = slot_of c i k in
      let f : FullOk shape l i = (inv.slots i g.is_slot).full g.full in
      elim (cases_Bool (l.settled i)) [
        | inl st ↦ (record { role = Puts (l.visit i) i; point = l.point i }, inside_stands l c i k st, tt)
        | inr st ↦ absurd (none-some Done (sym (inv.calls.unended c (ap l.last (sym g.owner) ∙ f.unsettled st)) ∙ e))
      ]
  finished_of c Done (Gone i v q) k e h = (record { role = Puts v i; point = q }, gone_stands l c i v q k, tt)
  finished_of c Full Outside k e h = refused c Full tt k e
  finished_of c Busy Outside k e h = refused c Busy tt k e
  finished_of c Worn Outside k e h = refused c Worn tt k e
  finished_of c (Got item) (Took o v q) k e h = (record { role = Gets o v; point = q }, took_stands l c o v q k, h)
  finished_of c Empty (Stood v q) k e h = (record { role = FindsNone v; point = q }, stood_stands l c v q k, tt)
  finished_of c x st k e h = absurd h

  unfinished_of : (c : ℕ) (x : Standing) (s : Spot) → l.standing c ≡ x → l.answer c ≡ None → spot_of l c x ≡ Some s
      → (v : ℕ)
      × ((i : ℕ) × (s.role ≡ Puts v i))
  unfinished_of c Outside s k n e =
      let g = refused_ended l c (l.last c) s e in
      absurd (false≢true (ap is_some (sym n) ∙ inv.calls.ended c g.0 g.1))
  unfinished_of c (Inside i) s k n e = (l.visit i, (i, inside_role (l.visit i) i (l.point i) (l.settled i) s e))
  unfinished_of c (Gone i v q) s k n e = (
    v,
    (
      i,
      ap (λ x. x.role) (sym (same_Some (record {
        role = Puts v i;
        point = q;
      }) s e)),
    ),
  )
  unfinished_of c (Took o v q) s k n e = absurd (false≢true (ap is_some (sym n) ∙ (inv.calls.took c o v q k).finished))
  unfinished_of c (Stood v q) s k n e = absurd (false≢true (ap is_some (sym n) ∙ (inv.calls.stood c v q k).finished))

  pub facts : Facts shape l
  unfolding spot
  facts =
      record {
        puts_tail = λ c v i q e. elim (puts_standing l c v i q e) [
          | inl k ↦ (inv.calls.gone c i v q k).at_tail
          | inr k ↦ rw (← k.2, ← k.3) (settled_of c i k.0 k.1).at_tail
        ];
        puts_slot = λ c v i q e. elim (puts_standing l c v i q e) [
          | inl k ↦ ((inv.calls.gone c i v q k).is_slot, (inv.calls.gone c i v q k).place)
          | inr k ↦ ((slot_of c i k.0).is_slot, ap (λ x. x % shape.n) (sym k.2) ∙ (settled_of c i k.0 k.1).place)
        ];
        gets_head = λ c o v q e. (inv.calls.took c o v q (gets_standing l c o v q e)).at_head;
        gets_item = λ c o v q e.
            let t : TookOk l c o v q = inv.calls.took c o v q (gets_standing l c o v q e) in
            let g = gone_spelled (l.standing o) t.gone in
            (g.0, (g.1.0, gone_stands l o g.0 v g.1.0 (g.1.1 ∙ ap (λ x. Gone g.0 x g.1.0) t.same_visit)));
        left = λ c v i q e below. elim (puts_standing l c v i q e) [
          | inl k ↦ let t = inv.calls.taker c i v q k in (t.0, (t.1.0, took_stands l t.0 c v t.1.0 t.1.1))
          | inr k ↦ absurd (omega (arith, below, k.2, (settled_of c i k.0 k.1).from_head))
        ];
        apart = λ c d v i q x e f. elim (puts_standing l c v i q e) [
          | inl k ↦ elim (puts_standing l d v i x f) [
            | inl m ↦ inv.calls.apart c d i v q v x k m refl
            | inr m ↦ absurd (omega (arith, (inv.calls.gone c i v q k).under, above_untaken d i m.0 m.1, m.2))
          ]
          | inr k ↦ elim (puts_standing l d v i x f) [
            | inl m ↦ absurd (omega (arith, (inv.calls.gone d i v x m).under, above_untaken c i k.0 k.1, k.2))
            | inr m ↦ sym (slot_of c i k.0).owner ∙ (slot_of d i m.0).owner
          ]
        ];
        none_tail = λ c v q e.
            let s : StoodOk shape l c v q = inv.calls.stood c v q (none_standing l c v q e) in
            (s.at_tail, record { reached = s.head_reached; after = s.head_after; before = s.head_before });
        none_before = λ c v q d u i x e f z.
            let s : StoodOk shape l c v q = inv.calls.stood c v q (none_standing l c v q e) in
            elim (puts_standing l d u i x f) [
              | inl k ↦ s.none_gone d i u x k z
              | inr k ↦ absurd (omega (arith, s.none_settled i (slot_of d i k.0).is_slot k.1, k.3, z))
            ];
        none_last = λ c v q x e f. (inv.calls.stood c v q (none_standing l c v q e)).ended x f;
        within = λ c s e. within_of c (l.standing c) s refl e;
        once = λ c d o v q u x e f. inv.calls.once c d o v q u x (gets_standing l c o v q e)
            (gets_standing l d o u x f);
        finished = λ c x e. finished_of c x (l.standing c) refl e (inv.calls.answered c x e);
        unfinished = λ c s e f. unfinished_of c (l.standing c) s refl e f;
      }

-- after every schedule
pub facts_after : (shape : Shape) → (threads : ℕ) (events : List Event) (final : World)
    → run shape (Some (opening shape threads)) events ≡ Some final
    → Facts shape (ledger_of shape (Some (opening shape threads)) events blank)
facts_after shape threads events final e =
    facts shape (word_at final) (place_of final) (ledger_of shape (Some (opening shape threads)) events blank)
    (invariant shape threads events final e)
