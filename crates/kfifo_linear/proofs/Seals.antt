-- A queue that was found empty and then sealed stays empty: no item is settled any more.
use Rattle.std.proofs.Common.{◌≡◌, ◌≢◌, ℕ, ◌+◌, ◌<◌, ◌≤◌, List, [], ◌∷◌, ◌++◌, length, Option, Some, None, Ok}
use Rattle.std.proofs.Common.{refl, sym, ap, ◌∙◌, inl, inr, arith, true, false}
use Rattle.std.proofs.lemmas.Bool.{cases_eq, cases_Bool}
use Rattle.std.proofs.lemmas.Bool.Decides.{nat_tests}
use Rattle.kfifo_linear.proofs.Types.{Answer, Begin, Event, Outcome, Running, Shape}
use Rattle.kfifo_model.specs.declared.calls.Answer.TheVariants.{Empty}
use Rattle.kfifo_model.specs.Histories.{call}
use Rattle.kfifo_words.specs.Words.{value_of, version_of, head_of, tail_of}
use Rattle.kfifo_words.specs.Ring.{distance}
use Rattle.kfifo_machine.specs.declared.event.Begin.TheVariants as B
use Rattle.kfifo_machine.specs.declared.event.Outcome.TheVariants.{Went, Ended}
use Rattle.kfifo_machine.specs.declared.place.EnqueuePhase.TheVariants as E
use Rattle.kfifo_machine.specs.declared.place.DequeuePhase.TheVariants as D
use Rattle.kfifo_machine.specs.declared.place.Running.TheVariants as R
use Rattle.kfifo_machine.specs.declared.place.Access.TheVariants.{Load}
use Rattle.kfifo_machine.specs.declared.place.Next.TheVariants.{Answers}
use Rattle.kfifo_machine.specs.Program.{access, accessed, advance}
use Rattle.kfifo_machine.specs.Machine.{World, opening, word_at, place_of, found, moved, step, run, world_of, after}
use Rattle.kfifo_machine.specs.Runs.{going}
use Rattle.kfifo_machine.specs.Calls.{log_of}
use Rattle.kfifo_machine.specs.Places.{IsSlotIndex}
use Rattle.kfifo_machine.proofs.Ahead.{distance-value}
use Rattle.kfifo_machine.proofs.Schedules.{Some-injective, first_made, stepped, run_on}
use Rattle.kfifo_machine.proofs.Sound.{IsSound, sound, step_sound}
use Rattle.kfifo_machine.proofs.Versions.{no_going_seal, one_word, word_rises, run_rises}
use Rattle.kfifo_machine.proofs.BusyIsDisturbed.{sound-ends}
use Rattle.kfifo_machine.proofs.Calls.{first_goes, log_is}
use Rattle.kfifo_machine.proofs.Paths.{answered, begins_from}
use Rattle.kfifo_linear.specs.Ledger.{Inside, Ledger, Outside, Stood, action, blank, called, found_in, ledger_after}
use Rattle.kfifo_linear.specs.Ledger.{ledger_from}
use Rattle.kfifo_linear.specs.Ledger.{ledger_of}
use Rattle.kfifo_linear.specs.Ledger as ledger
use Rattle.kfifo_linear.specs.declared.action.Action.TheVariants.{RecheckEmpty}
use Rattle.kfifo_linear.specs.Order.{ledger_after_all}
use Rattle.kfifo_linear.specs.Seals.{AllSeal, HasPut, IsPutBy, StaysEmpty}
use Rattle.kfifo_linear.proofs.Abstract.{event_at, noted-same, noted_tells, word_at-moved, words_by}
use Rattle.kfifo_linear.proofs.Base.{InRing, Sane, ends_in_ring}
use Rattle.kfifo_linear.proofs.Invariant.{HasOwn, Inv, Own, ThreadOk, is_gone, is_putting}
use Rattle.kfifo_linear.proofs.Ring.{ends_word-above}
use Rattle.kfifo_linear.proofs.Invariance.{inv_table, inv_begin, inv_step, inv_outside, invariant}
use Rattle.kfifo_linear.proofs.Agrees.{InvAt, end_of}
use Rattle.kfifo_linear.proofs.Schedule.{agreed}

-- the invariant after every schedule, and a thread's access is within the table
pub inv_after : (shape : Shape) (threads : ℕ) (events : List Event) (here : World)
    → after shape threads events ≡ Some here
    → InvAt shape here (ledger_after_all shape threads events)
inv_after shape threads events here is = record {
  size = (sound shape threads events here is).size;
  holds = invariant shape threads events here is;
}

pub inv_within : (shape : Shape) (here : World) (l : Ledger) (t : ℕ) (r : Running) → InvAt shape here l
    → place_of here t ≡ Some r
    → accessed (access shape r) < length here.words
inv_within shape here l t r inv at =
    omega (arith, inv_table shape (word_at here) (place_of here) l t r inv.holds at, inv.size)

-- no slot has a settled item
abbrev pub NoneSettled : Shape → Ledger → Type 0
NoneSettled shape l = (i : ℕ) → IsSlotIndex shape i → l.settled i ≡ false

-- from head to tail is no way where they are in one segment, and to any other segment some
apart : (n h s t : ℕ) → h < n → s < n → h ≡ t → s ≢ h → distance n h t < distance n h s
apart n h s t h_in s_in same ne =
    elim (distance-value n h t h_in (omega arith)) [
      | inl a ↦ elim (distance-value n h s h_in s_in) [ inl b ↦ far (λ e. ne e) a.1 b.1 | inr b ↦ omega arith ]
      | inr a ↦ absurd (omega arith)
    ]
  where
    far : (s ≡ h → ⊥) → distance n h t + h ≡ t → distance n h s + h ≡ s → distance n h t < distance n h s
    far ne a b = elim (cases_eq s h) [ inl e ↦ absurd (ne e) | inr lt ↦ omega (arith, lt) ]

-- where head and tail are in one segment, a step that leaves the ends as they are settles nothing
none_settles : (shape : Shape) (w : ℕ → ℕ) (l : Ledger) (t : ℕ) (r : Running) → Sane shape r → InRing shape (w 0)
    → (i : ℕ)
    → words_by (access shape r) w 0 ≡ w 0 → head_of (w 0) ≡ tail_of (w 0) → l.settled i ≡ false
    → (ledger.stepped shape w t r l).settled i ≡ false
unfolding ledger.stepped
none_settles shape w l t r s ring i stays together f =
    let few = shape.few_segments in
    grind (arith, nat_tests, noted_tells, ends_word-above, apart)

-- a dequeue answers Empty where it finds head and tail in one segment, and loads the ends word
empties : (shape : Shape) (r : Running) (word : ℕ) → advance shape r word ≡ Answers Empty
    → (action shape r word ≡ RecheckEmpty)
    × (access shape r ≡ Load 0) × (head_of word ≡ tail_of word)
empties shape r word e = grind (arith, nat_tests)

-- a call's first step answers nothing
first_none : (shape : Shape) (place : Option Running) (call : Begin) (r : Running) (word : ℕ)
    → going shape place (Some call) ≡ Some r
    → advance shape r word ≡ Answers Empty → ⊥
first_none shape place call r word goes ends =
    first_goes shape call r word Empty (begins_from shape place call r goes) ends

-- so the event that ends a dequeue is a step from its place
ends_from : (shape : Shape) (w : ℕ → ℕ) (t : ℕ) (place : Option Running) (begin : Option Begin) (r : Running) (word : ℕ)
    (l : Ledger)
    → going shape place begin ≡ Some r → advance shape r word ≡ Answers Empty
    → (place ≡ Some r) × (ledger_from shape w t place begin l ≡ ledger.stepped shape w t r l)
ends_from shape w t None None r word l goes ends = absurd (cc)
ends_from shape w t None (Some b) r word l goes ends = absurd (first_none shape None b r word goes ends)
ends_from shape w t (Some q) None r word l goes ends =
    let same : q ≡ r = Some-injective q r goes in
    (ap (λ (x : Running). Some x) same, ap (λ (x : Running). ledger.stepped shape w t x l) same)
ends_from shape w t (Some q) (Some b) r word l goes ends = absurd (cc)

-- after such a step no slot has a settled item
emptied : (shape : Shape) (w v : ℕ → ℕ) (p : ℕ → Option Running) (t : ℕ) (r : Running) (l : Ledger)
    → action shape r (found_in shape w r) ≡ RecheckEmpty → advance shape r (found_in shape w r) ≡ Answers Empty
    → Inv shape v p (ledger.stepped shape w t r l) → NoneSettled shape (ledger.stepped shape w t r l)
unfolding ledger.stepped
emptied shape w v p t r l does answers inv i is_slot =
    let next = ledger.stepped shape w t r l in
    let stands : next.standing (l.caller t) ≡ Stood l.head l.now =
    rw does (noted-same l.standing (l.caller t) (l.caller t) (Stood l.head l.now) refl) in
    elim (cases_Bool (next.settled i)) [
      | inl settled ↦
          let late : l.now < next.point i = (inv.calls.stood (l.caller t) l.head l.now stands).none_settled i is_slot
          settled in
          let early : next.point i < l.now + 1 = ((inv.slots i is_slot).settled settled).at_tail.past in
          absurd (omega arith)
      | inr unsettled ↦ unsettled
    ]

-- an event that answers Empty leaves no settled item, and the ends as they were, with head and tail in one segment
pub record Emptied (shape : Shape) (here : World) (e : Event) (next : World) (l : Ledger) : Type 0 where
  pub none : NoneSettled shape (ledger_after shape here e l)
  pub together : head_of (word_at here 0) ≡ tail_of (word_at here 0)
  pub same : word_at next 0 ≡ word_at here 0

pub event_empties : (shape : Shape) (here : World) (e : Event) (next : World) (l : Ledger) → InvAt shape here l
    → step shape here e ≡ Ok (next, Ended Empty) → Emptied shape here e next l
unfolding ledger_after found
event_empties shape here e next l inv made =
    elim (stepped shape here e next (Ended Empty) made) [
      | inl s ↦
          let r = s.running in
          let w = word_at here in
          let answers : advance shape r (found_in shape w r) ≡ Answers Empty =
          answered (advance shape r (found_in shape w r)) Empty s.outcome_is in
          let does = empties shape r (found_in shape w r) answers in
          let from = ends_from shape w e.thread (place_of here e.thread) e.begin r (found_in shape w r) l s.goes
          answers in
          let at : InvAt shape next (ledger_from shape w e.thread (place_of here e.thread) e.begin l) =
          event_at shape (Inv shape) (inv_table shape) (inv_begin shape) (inv_step shape) (inv_outside shape) here next
          (Ended Empty) e l inv
          made in
          let word : found_in shape w r ≡ w 0 = ap (λ a. w (accessed a)) does.1 in
          let table : accessed (access shape r) < length here.words = inv_within shape here l e.thread r inv from.0 in
          record {
            none = rw from.1 (emptied shape w (word_at next) (place_of next) e.thread r l does.0 answers
                (rw from.1 at at.holds));
            together = sym (ap head_of word) ∙ does.2 ∙ ap tail_of word;
            same = ap (λ (x : World). word_at x 0) s.there_is
                ∙ ap (λ (x : ℕ → ℕ). x 0) (word_at-moved shape here e.thread r table)
                ∙ ap (λ a. words_by a w 0) does.1;
          }
      | inr o ↦ absurd (let h : Ended Empty ≡ Went = o.outcome_is in cc)
    ]

-- a call's first step settles nothing
enqueue_settles_none : (shape : Shape) (w : ℕ → ℕ) (t item start turns : ℕ) (l : Ledger) (i : ℕ)
    → (ledger.stepped shape w t (R.Enqueue item start turns E.LoadEnds)
    (called t (B.Enqueue item start turns) l)).settled i ≡ l.settled i
unfolding ledger.stepped called
enqueue_settles_none shape w t item start turns l i = refl

dequeue_settles_none : (shape : Shape) (w : ℕ → ℕ) (t start turns : ℕ) (l : Ledger) (i : ℕ)
    → (ledger.stepped shape w t (R.Dequeue start turns D.LoadEnds) (called t (B.Dequeue start turns) l)).settled i
    ≡ l.settled i
unfolding ledger.stepped called
dequeue_settles_none shape w t start turns l i = refl

-- an event that leaves the ends as they are settles nothing
pub event_settles_none : (shape : Shape) (here : World) (e : Event) (next : World) (outcome : Outcome) (l : Ledger)
    → InvAt shape here l
    → step shape here e ≡ Ok (next, outcome) → head_of (word_at here 0) ≡ tail_of (word_at here 0)
    → word_at next 0 ≡ word_at here 0 → NoneSettled shape l → NoneSettled shape (ledger_after shape here e l)
unfolding ledger_after
event_settles_none shape here e next outcome l inv made together same none i is_slot =
    elim (stepped shape here e next outcome made) [
      | inl s ↦ by_place (place_of here e.thread) e.begin s.running refl s.goes s.there_is
      | inr o ↦ elim o.by [
        | inl t ↦ rw (o.idle, t.begins) (none i is_slot)
        | inr z ↦ rw (o.idle, z.begins) (none i is_slot)
      ]
    ]
  where
    by_place : (place : Option Running) (begin : Option Begin) (r : Running) → place_of here e.thread ≡ place
        → going shape place begin ≡ Some r → next ≡ moved shape here e.thread r
        → (ledger_from shape (word_at here) e.thread place begin l).settled i ≡ false
    by_place None None r was goes is = absurd (cc)
    by_place None (Some B.Tick) r was goes is = absurd (cc)
    by_place None (Some B.Seal) r was goes is = absurd (cc)
    by_place None (Some (B.Enqueue item start turns)) r was goes is =
        enqueue_settles_none shape (word_at here) e.thread item start turns l i ∙ none i is_slot
    by_place None (Some (B.Dequeue start turns)) r was goes is =
        dequeue_settles_none shape (word_at here) e.thread start turns l i ∙ none i is_slot
    by_place (Some q) (Some b) r was goes is = absurd (cc)
    by_place (Some q) None r was goes is =
        let mine : q ≡ r = Some-injective q r goes in
        let table : accessed (access shape q) < length here.words = inv_within shape here l e.thread q inv was in
        let stays : words_by (access shape q) (word_at here) 0 ≡ word_at here 0 =
        sym (ap (λ (x : World). word_at x 0) (is ∙ ap (moved shape here e.thread) (sym mine))
        ∙ ap (λ (x : ℕ → ℕ). x 0) (word_at-moved shape here e.thread q table)) ∙ same in
        none_settles shape (word_at here) l e.thread q (inv.holds.base.sane e.thread q was)
        (ends_in_ring shape (word_at here 0) l.head l.tail inv.holds.base.ends) i stays together (none i is_slot)

-- so does a seal
seal_settles_none : (shape : Shape) (here : World) (e : Event) (next : World) (outcome : Outcome) (l : Ledger)
    → step shape here e ≡ Ok (next, outcome) → e.begin ≡ Some B.Seal → NoneSettled shape l
    → NoneSettled shape (ledger_after shape here e l)
unfolding ledger_after
seal_settles_none shape here e next outcome l made seals none i is_slot =
    elim (stepped shape here e next outcome made) [
      | inl s ↦ absurd (no_going_seal shape (place_of here e.thread) e.begin s.running seals s.goes)
      | inr o ↦ rw (o.idle, seals) (none i is_slot)
    ]

next_inv : (shape : Shape) (here : World) (e : Event) (next : World) (outcome : Outcome) (l : Ledger)
    → InvAt shape here l
    → step shape here e ≡ Ok (next, outcome) → InvAt shape next (ledger_after shape here e l)
next_inv shape here e next outcome l inv made =
    event_at shape (Inv shape) (inv_table shape) (inv_begin shape) (inv_step shape) (inv_outside shape) here next
    outcome e l inv made

ledger_on : (shape : Shape) (here : World) (e : Event) (next : World) (outcome : Outcome) (es : List Event) (l : Ledger)
    → step shape here e ≡ Ok (next, outcome)
    → ledger_of shape (Some here) (e ∷ es) l ≡ ledger_of shape (Some next) es (ledger_after shape here e l)
ledger_on shape here e next outcome es l made =
    ap (λ r. ledger_of shape (world_of r) es (ledger_after shape here e l)) made

-- events that leave the ends as they are
pub run_settles_none : (shape : Shape) (here there : World) (events : List Event) (l : Ledger) → IsSound shape here
    → InvAt shape here l
    → run shape (Some here) events ≡ Some there → head_of (word_at here 0) ≡ tail_of (word_at here 0)
    → word_at there 0 ≡ word_at here 0 → NoneSettled shape l → NoneSettled shape (ledger_of shape (Some here) events l)
run_settles_none shape here there [] l safe inv is together same none = none
run_settles_none shape here there (e ∷ es) l safe inv is together same none =
    let m = first_made shape here e there es is in
    let later : IsSound shape m.0 = step_sound shape here e m.0 m.1.0 safe m.1.1.0 in
    let up : word_at here 0 ≤ word_at m.0 0 = word_rises shape here e m.0 m.1.0 0 safe m.1.1.0 in
    let further : word_at m.0 0 ≤ word_at there 0 = run_rises shape m.0 there es 0 later m.1.1.1 in
    let stood : word_at m.0 0 ≡ word_at here 0 = omega arith in
    rw (ledger_on shape here e m.0 m.1.0 es l m.1.1.0)
    (run_settles_none shape m.0 there es (ledger_after shape here e l) later
    (next_inv shape here e m.0 m.1.0 l inv m.1.1.0) m.1.1.1
    (ap head_of stood ∙ together ∙ ap tail_of (sym stood)) (same ∙ sym stood)
    (event_settles_none shape here e m.0 m.1.0 l inv m.1.1.0 together stood none))

-- seals
seals_settle_none : (shape : Shape) (here there : World) (events : List Event) (l : Ledger) → AllSeal events
    → run shape (Some here) events ≡ Some there → NoneSettled shape l
    → NoneSettled shape (ledger_of shape (Some here) events l)
seals_settle_none shape here there [] l all is none = none
seals_settle_none shape here there (e ∷ es) l all is none =
    let m = first_made shape here e there es is in
    rw (ledger_on shape here e m.0 m.1.0 es l m.1.1.0)
    (seals_settle_none shape m.0 there es (ledger_after shape here e l) all.1 m.1.1.1
    (seal_settles_none shape here e m.0 m.1.0 l m.1.1.0 all.0 none))

-- Ends of the last version stand for ever
pub event_stands : (shape : Shape) (here : World) (e : Event) (next : World) (outcome : Outcome) → IsSound shape here
    → step shape here e ≡ Ok (next, outcome) → version_of (word_at here 0) ≡ shape.last
    → word_at next 0 ≡ word_at here 0
event_stands shape here e next outcome safe made last =
    let one = one_word shape here e next outcome safe made in
    elim (cases_eq (word_at next 0) (word_at here 0)) [
      | inl same ↦ same
      | inr ne ↦ elim (one.only_so 0 ne) [
        | inl w ↦
            let more : version_of (word_at next 0) ≡ version_of (word_at here 0) + 1 =
            (one.won 0 (word_at next 0) w).1 in
            let most : version_of (word_at next 0) ≤ shape.last =
            (sound-ends shape next (step_sound shape here e next outcome safe made)).version in
            absurd (omega arith)
        | inr (inl t) ↦ absurd (let c = t.clock in omega arith)
        | inr (inr z) ↦ absurd (let less = (one.sealed 0 z).1 in omega arith)
      ]
    ]

pub run_stands : (shape : Shape) (here there : World) (events : List Event) → IsSound shape here
    → run shape (Some here) events ≡ Some there
    → version_of (word_at here 0) ≡ shape.last → word_at there 0 ≡ word_at here 0
run_stands shape here there [] safe is last = ap (λ (w : World). word_at w 0) (sym (Some-injective here there is))
run_stands shape here there (e ∷ es) safe is last =
    let m = first_made shape here e there es is in
    let first : word_at m.0 0 ≡ word_at here 0 = event_stands shape here e m.0 m.1.0 safe m.1.1.0 last in
    run_stands shape m.0 there es (step_sound shape here e m.0 m.1.0 safe m.1.1.0) m.1.1.1 (ap version_of first ∙ last)
    ∙ first

-- the ledger of a schedule that goes on
pub ledger-append : (shape : Shape) (world here : World) (xs ys : List Event) (l : Ledger)
    → run shape (Some world) xs ≡ Some here
    → ledger_of shape (Some world) (xs ++ ys) l ≡ ledger_of shape (Some here) ys (ledger_of shape (Some world) xs l)
ledger-append shape world here [] ys l is =
    ap (λ (w : World). ledger_of shape (Some w) ys l) (Some-injective world here is)
ledger-append shape world here (x ∷ xs) ys l is =
    let m = first_made shape world x here xs is in
    ledger_on shape world x m.0 m.1.0 (xs ++ ys) l m.1.1.0
    ∙ ledger-append shape m.0 here xs ys (ledger_after shape world x l) m.1.1.1
    ∙ ap (ledger_of shape (Some here) ys) (sym (ledger_on shape world x m.0 m.1.0 xs l m.1.1.0))

-- a thread whose item is in a slot has put there what that slot has
has_put : (shape : Shape) (w : ℕ → ℕ) (l : Ledger) (t i : ℕ) (r : Running) → ThreadOk shape w l t r
    → l.standing (l.caller t) ≡ Inside i → HasPut r i (w i)
has_put shape w l t i r ok inside = by_place r ok.fresh ok.own
  where
    owned : (index filled : ℕ) → Own shape w l t index filled → (index ≡ i) × (filled ≡ w i)
    owned index filled own = elim (cases_eq (w index) filled) [
      | inl same ↦
          let here : Inside i ≡ Inside index = sym inside ∙ own.inside same in
          let at : index ≡ i = cc in
          (at, sym same ∙ ap w at)
      | inr ne ↦ absurd (let gone : is_gone (Inside i) ≡ true = ap is_gone (sym inside) ∙ own.gone ne in cc)
    ]

    none : l.standing (l.caller t) ≡ Outside → ⊥
    none outside = let differs : Inside i ≡ Outside = sym inside ∙ outside in cc

    by_place : (r : Running) → (is_putting r ≡ false → l.standing (l.caller t) ≡ Outside) → HasOwn shape w l t r
        → HasPut r i (w i)
    by_place (R.Enqueue item start left E.LoadEnds) fresh own = absurd (none (fresh refl))
    by_place (R.Enqueue item start left (E.ScanTail ends offset)) fresh own = absurd (none (fresh refl))
    by_place (R.Enqueue item start left (E.Recheck ends seen)) fresh own = absurd (none (fresh refl))
    by_place (R.Enqueue item start left (E.Put ends index empty)) fresh own = absurd (none (fresh refl))
    by_place (R.Enqueue item start left (E.ReloadSlot ends index filled)) fresh own = owned index filled own
    by_place (R.Enqueue item start left (E.ReloadEnds ends index filled)) fresh own = owned index filled own
    by_place (R.Enqueue item start left (E.HoldHead ends index filled held)) fresh own = owned index filled own.0
    by_place (R.Enqueue item start left (E.Undo index filled worn)) fresh own = owned index filled own
    by_place (R.Enqueue item start left (E.ScanHead ends offset)) fresh own = absurd (none (fresh refl))
    by_place (R.Enqueue item start left (E.ConfirmFull ends)) fresh own = absurd (none (fresh refl))
    by_place (R.Enqueue item start left (E.MoveHead ends)) fresh own = absurd (none (fresh refl))
    by_place (R.Enqueue item start left (E.MoveTail ends)) fresh own = absurd (none (fresh refl))
    by_place (R.Dequeue start left phase) fresh own = absurd (none (fresh refl))

-- with no settled item, what is in a slot was put there by an enqueue in progress
filled_by : (shape : Shape) (threads : ℕ) (events : List Event) (here : World) → threads ≤ 64
    → after shape threads events ≡ Some here
    → NoneSettled shape (ledger_after_all shape threads events)
    → (i : ℕ) → IsSlotIndex shape i → value_of (word_at here i) ≢ 0 → (thread : ℕ) × IsPutBy here thread i
filled_by shape threads events here few is none i is_slot filled =
    let l = ledger_after_all shape threads events in
    let inv : Inv shape (word_at here) (place_of here) l = invariant shape threads events here is in
    let agrees = agreed shape threads events here is in
    let log = log_is shape threads events here few is in
    let full = (inv.slots i is_slot).full filled in
    let open_end : l.last (l.owner i) ≡ None = full.unsettled (none i is_slot) in
    let no_end : (call (log_of shape threads events).calls (l.owner i)).end ≡ None =
    (agrees.each (l.owner i) full.known).end ∙ ap (λ (o : Option ℕ). end_of o (l.answer (l.owner i))) open_end
    ∙ no_end_of (l.answer (l.owner i)) in
    let o = log.open_calls (l.owner i) (let c = agrees.count in let k = full.known in omega arith) no_end in
    let t = (call (log_of shape threads events).calls (l.owner i)).thread in
    let mine : l.caller t ≡ l.owner i = sym (agrees.latest t) ∙ o.number in (
      t,
      (
        o.running,
        o.there,
        has_put shape (word_at here) l t i o.running (inv.threads t o.running o.there)
            (ap l.standing mine ∙ full.inside),
      ),
    )
  where
    no_end_of : (answer : Option Answer) → end_of None answer ≡ None
    no_end_of None = refl
    no_end_of (Some a) = refl

-- The law
pub stays_empty : (shape : Shape) (threads : ℕ) → threads ≤ 64 → StaysEmpty shape threads
stays_empty shape threads few events more here z is index is_slot filled =
    let f = z.was_empty in
    let start : Ledger = ledger_after_all shape threads f.earlier in
    let inv : InvAt shape f.here start = inv_after shape threads f.earlier f.here f.reached in
    let empty = event_empties shape f.here f.empty f.next start inv f.answers in
    let safe : IsSound shape f.here = sound shape threads f.earlier f.here f.reached in
    let safe_next : IsSound shape f.next = step_sound shape f.here f.empty f.next (Ended Empty) safe f.answers in
    let found_at : after shape threads (f.earlier ++ f.empty ∷ f.later) ≡ Some f.there =
    ap (after shape threads) (sym f.split) ∙ f.ends_at in
    let to_there : run shape (Some f.here) (f.empty ∷ f.later) ≡ Some f.there =
    sym (run_on shape (Some (opening shape threads)) f.here f.earlier (f.empty ∷ f.later) f.reached) ∙ found_at in
    let later_run : run shape (Some f.next) f.later ≡ Some f.there =
    ap (λ r. run shape (world_of r) f.later) (sym f.answers) ∙ to_there in
    let none_there : NoneSettled shape
    (ledger_of shape (Some f.next) f.later (ledger_after shape f.here f.empty start)) =
    run_settles_none shape f.next f.there f.later (ledger_after shape f.here f.empty start) safe_next
    (next_inv shape f.here f.empty f.next (Ended Empty) start inv f.answers) later_run
    (ap head_of empty.same ∙ empty.together ∙ ap tail_of (sym empty.same)) (f.stands ∙ sym empty.same) empty.none in
    let found_ledger : ledger_after_all shape threads z.found
    ≡ ledger_of shape (Some f.next) f.later (ledger_after shape f.here f.empty start) =
    ap (ledger_after_all shape threads) f.split
    ∙ ledger-append shape (opening shape threads) f.here f.earlier (f.empty ∷ f.later) blank f.reached
    ∙ ledger_on shape f.here f.empty f.next (Ended Empty) f.later start f.answers in
    let none_found : NoneSettled shape (ledger_after_all shape threads z.found) = rw found_ledger none_there in
    let seals_run : run shape (Some f.there) z.seals ≡ Some z.here =
    sym (run_on shape (Some (opening shape threads)) f.there z.found z.seals f.ends_at)
    ∙ ap (after shape threads) (sym z.split) ∙ z.reached in
    let none_sealed : NoneSettled shape (ledger_after_all shape threads events) =
    rw (ap (ledger_after_all shape threads) z.split
    ∙ ledger-append shape (opening shape threads) f.there z.found z.seals blank f.ends_at)
    (seals_settle_none shape f.there z.here z.seals (ledger_after_all shape threads z.found) z.all_seal seals_run
    none_found) in
    let safe_here : IsSound shape z.here = sound shape threads events z.here z.reached in
    let more_run : run shape (Some z.here) more ≡ Some here =
    sym (run_on shape (Some (opening shape threads)) z.here events more z.reached) ∙ is in
    let none_more : NoneSettled shape (ledger_after_all shape threads (events ++ more)) =
    rw (ledger-append shape (opening shape threads) z.here events more blank z.reached)
    (run_settles_none shape z.here here more (ledger_after_all shape threads events) safe_here
    (inv_after shape threads events z.here z.reached) more_run z.sealed.together
    (run_stands shape z.here here more safe_here more_run z.sealed.last) none_sealed) in
    filled_by shape threads (events ++ more) here few is none_more index is_slot filled
