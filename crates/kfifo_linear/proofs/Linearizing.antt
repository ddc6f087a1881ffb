-- A linearizer that has followed a schedule has followed it with one event more.
use Rattle.std.proofs.Common.{◌≡◌, ℕ, ◌+◌, ◌*◌, ◌<◌, ◌≤◌, inl, inr, ◌==◌, Bool, true, false, cond, refl, sym, ◌∙◌, ap}
use Rattle.std.proofs.Common.{subst, arith, List, [], ◌∷◌, ◌++◌, length, filter, length-append, Option, Some, None, Ok}
use Rattle.std.proofs.Common.{Err, IsTrue, is_some, get_or, take, drop, take-append-drop, suc}
use Rattle.std.proofs.lemmas.Bool.{cases_Bool, eqb-true, false≢true}
use Rattle.std.proofs.lemmas.List.{length-replicate, length-set}
use Rattle.std.proofs.lemmas.List.Elements.{filter-append}
use Rattle.std.proofs.Math.Seq.{drop-cons}
use Rattle.std.proofs.lemmas.Option.{none-some}
use Rattle.kfifo_words.specs.Words.{tail_of, value_of}
use Rattle.kfifo_linear.proofs.Types.{Begin, Event, Outcome, Running, Shape}
use Rattle.kfifo_machine.specs.declared.event.Begin.TheVariants as B
use Rattle.kfifo_machine.specs.declared.event.NotEnabled.{NotEnabled}
use Rattle.kfifo_machine.specs.declared.event.Outcome.TheVariants.{Went}
use Rattle.kfifo_machine.specs.declared.place.Next.TheVariants.{Goes}
use Rattle.kfifo_machine.specs.declared.place.DequeuePhase.TheVariants as D
use Rattle.kfifo_machine.specs.declared.place.EnqueuePhase.TheVariants as E
use Rattle.kfifo_machine.specs.declared.place.Found.TheVariants.{Nothing, Slot}
use Rattle.kfifo_machine.specs.declared.place.Running.TheVariants as R
use Rattle.kfifo_machine.specs.Machine.{IsSchedule, World, after, found, may_begin, opening, outcome_of, place_of, run}
use Rattle.kfifo_machine.specs.Machine.{step, word_at, world_of}
use Rattle.kfifo_machine.specs.Calls.{log_of}
use Rattle.kfifo_machine.specs.Places.{IsEnds, IsFoundBy, IsSlotIndex}
use Rattle.kfifo_machine.specs.Program.{access, accessed, advance}
use Rattle.kfifo_machine.specs.Runs.{going}
use Rattle.kfifo_machine.proofs.Schedules.{Some-injective, after-snoc, made_within, run_on, stepped, take-next}
use Rattle.kfifo_machine.proofs.Sound.{sound_ends, sound_threads}
use Rattle.kfifo_linear.specs.declared.action.Action.{Action}
use Rattle.kfifo_linear.specs.declared.action.Action.TheVariants.{HoldHead, LoadEnds, MoveHead, MoveTail, Unnoted, Put}
use Rattle.kfifo_linear.specs.declared.action.Action.TheVariants.{Recheck, RecheckEmpty, ReloadEnds, Take, Undo}
use Rattle.kfifo_linear.specs.Ledger as ledger
use Rattle.kfifo_linear.specs.Ledger.{Ledger, blank, called, action, action_if, found_in, ledger_after, ledger_from}
use Rattle.kfifo_linear.specs.Ledger.{ledger_of, noted, Outside}
use Rattle.kfifo_linear.specs.Notes.{later, HasRoom, Notes, begins_call, calls_begun, action_at, fed, marked, no_caller}
use Rattle.kfifo_linear.specs.Notes.{no_filling, no_notes, later, noted_event, own_call, slot}
use Rattle.kfifo_linear.specs.declared.notes.Whereabouts.TheVariants.{Nowhere}
use Rattle.kfifo_linear.specs.Notes as note
use Rattle.kfifo_linear.specs.Following.{Follower, Follows, IsFollowing, Sizes, Tells, follower}
use Rattle.kfifo_linear.specs.Order.{ledger_after_all}
use Rattle.kfifo_linear.proofs.Abstract.{noted-same, run-none}
use Rattle.kfifo_linear.proofs.Base.{get_or_replicate}
use Rattle.kfifo_linear.proofs.Invariant.{FullOk, ThreadOk}
use Rattle.kfifo_linear.proofs.Late.{Both, both}
use Rattle.kfifo_linear.proofs.Agrees.{Agrees}
use Rattle.kfifo_linear.proofs.Schedule.{agreed}
use Rattle.kfifo_linear.proofs.Telling.{CanTell, told, told_call, told_outside}

-- an action that is one where a test holds
by_test : (P : Action → Type 0) (test : Bool) (what : Action) → P Unnoted → (test ≡ true → P what)
    → P (action_if test what)
by_test P true what none one = one refl
by_test P false what none one = none

-- what a step does can be told
module _ (shape : Shape) (w : ℕ → ℕ) (p : ℕ → Option Running) (l : Ledger) (n : Notes) (t threads room : ℕ)
    (ok : Both shape w p l) (h : Tells l n) (sizes : Sizes shape threads room n) (counted : l.calls ≤ room) where
  slot_known : (index : ℕ) → IsSlotIndex shape index → index < length n.slots
  slot_known index is = omega (arith, is.below, sizes.slots)

  can_enqueue : (item start left : ℕ) (phase : _) → p t ≡ Some (R.Enqueue item start left phase)
      → CanTell shape l n t
      (action shape (R.Enqueue item start left phase) (found_in shape w (R.Enqueue item start left phase)))
  can_enqueue item start left E.LoadEnds at = tt
  can_enqueue item start left (E.ScanTail ends offset) at = tt
  can_enqueue item start left (E.Recheck ends seen) at = tt
  can_enqueue item start left (E.Put ends index empty) at =
      let s = ok.inv.base.sane t (R.Enqueue item start left (E.Put ends index empty)) at in
      by_test (CanTell shape l n t) _ (Put index) tt (λ e. slot_known index s.3.1)
  can_enqueue item start left (E.ReloadSlot ends index filled) at = tt
  can_enqueue item start left (E.ReloadEnds ends index filled) at =
      let s = ok.inv.base.sane t (R.Enqueue item start left (E.ReloadEnds ends index filled)) at in
      by_test (CanTell shape l n t) _ (ReloadEnds index (tail_of ends)) tt (λ e. (slot_known index s.3.1, s.3.0.tail))
  can_enqueue item start left (E.HoldHead ends index filled held) at =
      let s = ok.inv.base.sane t (R.Enqueue item start left (E.HoldHead ends index filled held)) at in
      by_test (CanTell shape l n t) _ (HoldHead index) tt (λ e. slot_known index s.3.1)
  can_enqueue item start left (E.Undo index filled worn) at =
      let s = ok.inv.base.sane t (R.Enqueue item start left (E.Undo index filled worn)) at in
      by_test (CanTell shape l n t) _ (Undo index) tt (λ e. slot_known index s.3.0)
  can_enqueue item start left (E.ScanHead ends offset) at = tt
  can_enqueue item start left (E.ConfirmFull ends) at = tt
  can_enqueue item start left (E.MoveHead ends) at = by_test (CanTell shape l n t) _ MoveHead tt (λ e. tt)
  can_enqueue item start left (E.MoveTail ends) at = by_test (CanTell shape l n t) _ MoveTail tt (λ e. tt)

  -- of a take that is won: its slot holds the item of a known call, and the latest visits have its visit
  can_take : (start left ends index filled : ℕ) → p t ≡ Some (R.Dequeue start left (D.Take ends index filled))
      → w index ≡ filled
      → CanTell shape l n t (Take index)
  can_take start left ends index filled at won =
      let s = ok.inv.base.sane t (R.Dequeue start left (D.Take ends index filled)) at in
      let target = (ok.inv.threads t (R.Dequeue start left (D.Take ends index filled)) at).target in
      let full : FullOk shape l index = (ok.inv.slots index s.1.0).full (λ e. s.1.1 (ap value_of (sym won) ∙ e)) in
      let near : l.head ≤ l.head_seen t + shape.n =
      (ok.late.chosen t (R.Dequeue start left (D.Take ends index filled)) at).near won in
      let wrap = ok.inv.base.ends.no_wrap in (
        slot_known index s.1.0,
        omega (arith, full.known, counted, sizes.calls),
        target.2,
        omega (arith, near, wrap, sizes.tails),
        omega (arith, near, sizes.heads),
      )

  can_dequeue : (start left : ℕ) (phase : _) → p t ≡ Some (R.Dequeue start left phase)
      → CanTell shape l n t (action shape (R.Dequeue start left phase) (found_in shape w (R.Dequeue start left phase)))
  can_dequeue start left D.LoadEnds at = tt
  can_dequeue start left (D.ScanHead ends offset) at = tt
  can_dequeue start left (D.Recheck ends (Slot index seen)) at = tt
  can_dequeue start left (D.Recheck ends Nothing) at = by_test (CanTell shape l n t) _ RecheckEmpty tt (λ e. tt)
  can_dequeue start left (D.MoveTail ends index filled) at = by_test (CanTell shape l n t) _ MoveTail tt (λ e. tt)
  can_dequeue start left (D.Take ends index filled) at =
      by_test (CanTell shape l n t) (w index == filled) (Take index) tt
      (λ e. can_take start left ends index filled at (eqb-true (w index) filled e))
  can_dequeue start left (D.MoveHead ends) at = by_test (CanTell shape l n t) _ MoveHead tt (λ e. tt)

  pub can_tell : (r : Running) → p t ≡ Some r → CanTell shape l n t (action shape r (found_in shape w r))
  can_tell (R.Enqueue item start left phase) at = can_enqueue item start left phase at
  can_tell (R.Dequeue start left phase) at = can_dequeue start left phase at

  -- there is room for what is told
  pub has_room : (what : Action) → CanTell shape l n t what → HasRoom shape n what
  has_room Unnoted can = tt
  has_room LoadEnds can = tt
  has_room Recheck can = tt
  has_room (Put index) can = can
  has_room (Undo index) can = can
  has_room (ReloadEnds index segment) can = can
  has_room (HoldHead index) can = can
  has_room (Take index) can = (can.0, omega (arith, h.owner index, can.1))
  has_room MoveHead can = tt
  has_room MoveTail can = tt
  has_room RecheckEmpty can = tt

  -- the step of a thread in a call
  pub tells_step : (r : Running) → t < threads → p t ≡ Some r
      → Tells (ledger.stepped shape w t r l) (note.stepped shape t (w 0) (action shape r (found_in shape w r))
      (outcome_of (advance shape r (found_in shape w r))) n)
  unfolding ledger.stepped
  tells_step r thread at =
      let mine : ThreadOk shape w l t r = ok.inv.threads t r at in
      told shape l n t (w 0) h (omega (arith, sizes.callers)) (omega (arith, mine.known, counted, sizes.calls))
      mine.unended
      (omega (arith, ok.inv.base.ends.no_wrap, sizes.tails)) (omega (arith, shape.some_segments, sizes.heads))
      (omega (arith, shape.some_segments, sizes.tails))
      (action shape r (found_in shape w r)) (advance shape r (found_in shape w r)) (can_tell r at)

-- the lists keep their sizes
sizes_marked : (shape : Shape) (threads room : ℕ) (n : Notes) (t ends : ℕ) (what : Action) (outcome : Outcome)
    → Sizes shape threads room n
    → Sizes shape threads room (note.stepped shape t ends what outcome n)
sizes_marked shape threads room n t ends what outcome h = record {
  heads = grind (arith, length-set, h.heads);
  tails = grind (arith, length-set, h.tails);
  slots = grind (arith, length-set, h.slots);
  callers = grind (arith, length-set, h.callers);
  calls = grind (arith, length-set, h.calls);
  begun = grind (arith, h.begun);
  head = grind (arith, h.head);
  tail = grind (arith, h.tail);
}

sizes_called : (shape : Shape) (threads room : ℕ) (n : Notes) (t : ℕ) → Sizes shape threads room n → n.begun < room
    → Sizes shape threads room (note.called t n)
sizes_called shape threads room n t h less =
    record {
      heads = h.heads;
      tails = h.tails;
      slots = h.slots;
      callers = length-set n.callers t _ ∙ h.callers;
      calls = h.calls;
      begun = omega arith;
      head = h.head;
      tail = h.tail;
    }

sizes_later : (shape : Shape) (threads room : ℕ) (n : Notes) → Sizes shape threads room n
    → Sizes shape threads room (later n)
sizes_later shape threads room n h =
    record {
      heads = h.heads;
      tails = h.tails;
      slots = h.slots;
      callers = h.callers;
      calls = h.calls;
      begun = h.begun;
      head = omega (arith, h.head);
      tail = omega (arith, h.tail);
    }

sizes_event : (shape : Shape) (threads room : ℕ) (n : Notes) (t ends : ℕ) (begin : Option Begin) (what : Action)
    (outcome : Outcome)
    → Sizes shape threads room n → (begins_call begin ≡ true → n.begun < room)
    → Sizes shape threads room (noted_event shape t begin ends what outcome n)
sizes_event shape threads room n t ends None what outcome h less =
    sizes_marked shape threads room n t ends what outcome h
sizes_event shape threads room n t ends (Some (B.Enqueue item start turns)) what outcome h less =
    sizes_marked shape threads room (note.called t n) t ends LoadEnds outcome
    (sizes_called shape threads room n t h (less refl))
sizes_event shape threads room n t ends (Some (B.Dequeue start turns)) what outcome h less =
    sizes_marked shape threads room (note.called t n) t ends LoadEnds outcome
    (sizes_called shape threads room n t h (less refl))
sizes_event shape threads room n t ends (Some B.Tick) what outcome h less = sizes_later shape threads room n h
sizes_event shape threads room n t ends (Some B.Seal) what outcome h less = sizes_later shape threads room n h

begun_is : (test : Bool) (first r : Running) → cond test (Some first) None ≡ Some r → first ≡ r
begun_is true first r e = Some-injective first r e
begun_is false first r e = absurd (none-some r e)

module _ (shape : Shape) (world next : World) (outcome : Outcome) (e : Event) (l : Ledger) (n : Notes)
    (threads room : ℕ)
    (ok : Both shape (word_at world) (place_of world) l) (h : Tells l n) (sizes : Sizes shape threads room n)
    (counted : l.calls ≤ room)
    (outside : l.standing l.calls ≡ Outside) (unended : l.last l.calls ≡ None) (within : e.thread < threads)
    (less : begins_call e.begin ≡ true → n.begun < room) where
  -- the first step of a call
  tells_begin : (b : Begin) (r q : Running) → n.begun < room → action shape r (found_in shape (word_at world) r)
      ≡ LoadEnds
      → advance shape r (found_in shape (word_at world) r) ≡ Goes q
      → Tells (ledger.stepped shape (word_at world) e.thread r (called e.thread b l))
      (note.stepped shape e.thread (word_at world 0) LoadEnds Went (note.called e.thread n))
  unfolding ledger.stepped called
  tells_begin b r q some loads goes =
      let mine : noted l.caller e.thread l.calls e.thread ≡ l.calls =
      noted-same l.caller e.thread e.thread l.calls refl in
      let new : Tells (called e.thread b l) (note.called e.thread n) =
      told_call l n e.thread b h (omega (arith, sizes.callers)) outside unended in
      let size : length (note.called e.thread n).callers ≡ length n.callers = length-set n.callers e.thread _ in
      rw (loads, goes)
      (told shape (called e.thread b l) (note.called e.thread n) e.thread (word_at world 0) new
      (omega (arith, size, sizes.callers))
      (omega (arith, mine, h.begun, sizes.calls)) (rw mine (noted-same l.last l.calls l.calls None refl))
      (omega (arith, ok.inv.base.ends.no_wrap, sizes.tails)) (omega (arith, shape.some_segments, sizes.heads))
      (omega (arith, shape.some_segments, sizes.tails)) LoadEnds (Goes q) tt)

  tells_by_place : (place : Option Running) (begin : Option Begin) (r : Running) → place_of world e.thread ≡ place
      → e.begin ≡ begin
      → going shape place begin ≡ Some r → outcome ≡ outcome_of (advance shape r (found shape world r))
      → Tells (ledger_from shape (word_at world) e.thread place begin l)
      (noted_event shape e.thread begin (word_at world 0) (action_at shape world place) outcome n)
  unfolding found
  tells_by_place None None r was is goes comes = absurd (cc)
  tells_by_place (Some q) (Some b) r was is goes comes = absurd (cc)
  tells_by_place (Some q) None r was is goes comes =
      let same : q ≡ r = Some-injective q r goes in
      subst (λ (o : Outcome). Tells (ledger.stepped shape (word_at world) e.thread q l)
      (note.stepped shape e.thread (word_at world 0) (action shape q (found_in shape (word_at world) q)) o n))
      (sym (comes ∙ ap (λ (x : Running). outcome_of (advance shape x (found_in shape (word_at world) x))) (sym same)))
      (tells_step shape (word_at world) (place_of world) l n e.thread threads room ok h sizes counted q within was)
  tells_by_place None (Some (B.Enqueue item start turns)) r was is goes comes =
      let first : Running = R.Enqueue item start turns E.LoadEnds in
      let same : first ≡ r = begun_is (may_begin shape (B.Enqueue item start turns)) first r goes in
      let went : outcome ≡ Went = comes
      ∙ ap (λ (x : Running). outcome_of (advance shape x (found_in shape (word_at world) x)))
      (sym same) in
      rw went (tells_begin (B.Enqueue item start turns) first _ (less (ap begins_call is)) refl refl)
  tells_by_place None (Some (B.Dequeue start turns)) r was is goes comes =
      let first : Running = R.Dequeue start turns D.LoadEnds in
      let same : first ≡ r = begun_is (may_begin shape (B.Dequeue start turns)) first r goes in
      let went : outcome ≡ Went = comes
      ∙ ap (λ (x : Running). outcome_of (advance shape x (found_in shape (word_at world) x)))
      (sym same) in
      rw went (tells_begin (B.Dequeue start turns) first _ (less (ap begins_call is)) refl refl)
  tells_by_place None (Some B.Tick) r was is goes comes = absurd (cc)
  tells_by_place None (Some B.Seal) r was is goes comes = absurd (cc)

  -- any event that was made
  tells_event : step shape world e ≡ Ok (next, outcome)
      → Tells (ledger_after shape world e l) (fed shape world e outcome n)
  unfolding ledger_after
  tells_event made =
      elim (stepped shape world e next outcome made) [
        | inl s ↦ tells_by_place (place_of world e.thread) e.begin s.running refl refl s.goes s.outcome_is
        | inr o ↦ elim o.by [
          | inl t ↦
              let goal : Tells (ledger_from shape (word_at world) e.thread None (Some B.Tick) l)
              (noted_event shape e.thread (Some B.Tick) (word_at world 0) (action_at shape world None) outcome n) =
              told_outside l n h in
              rw (t.begins, o.idle) goal
          | inr z ↦
              let goal : Tells (ledger_from shape (word_at world) e.thread None (Some B.Seal) l)
              (noted_event shape e.thread (Some B.Seal) (word_at world 0) (action_at shape world None) outcome n) =
              told_outside l n h in
              rw (z.begins, o.idle) goal
        ]
      ]

-- the ledger after one event more
ledger_more : (shape : Shape) (world : Option World) (here : World) (events : List Event) (e : Event) (l : Ledger)
    → run shape world events ≡ Some here → ledger_of shape world (events ++ e ∷ []) l
    ≡ ledger_after shape here e (ledger_of shape world events l)
ledger_more shape None here [] e l is = absurd (none-some here is)
ledger_more shape None here (d ∷ events) e l is = absurd (none-some here is)
ledger_more shape (Some world) here [] e l is = ap (λ w. ledger_after shape w e l) (Some-injective world here is)
ledger_more shape (Some world) here (d ∷ events) e l is =
    ledger_more shape (world_of (step shape world d)) here events e (ledger_after shape world d l) is

-- one event more, and one call more where it begins one
steps_more : (shape : Shape) (n : Notes) (t ends : ℕ) (begin : Option Begin) (what : Action) (outcome : Outcome)
    → (noted_event shape t begin ends what outcome n).step ≡ n.step + 1
steps_more shape n t ends begin what outcome = grind arith

begun_more : (shape : Shape) (n : Notes) (t ends : ℕ) (begin : Option Begin) (what : Action) (outcome : Outcome)
    → (noted_event shape t begin ends what outcome n).begun ≡ n.begun + cond (begins_call begin) 1 0
begun_more shape n t ends begin what outcome = grind arith

length-filter_one : {X : Type 0} (test : X → Bool) (x : X) → length (filter test (x ∷ [])) ≡ cond (test x) 1 0
length-filter_one test x = elim (cases_Bool (test x)) [ inl e ↦ rw e refl | inr e ↦ rw e refl ]

pub calls_more : (events : List Event) (e : Event) → calls_begun (events ++ e ∷ [])
    ≡ calls_begun events + cond (begins_call e.begin) 1 0
calls_more events e =
    let test : Event → Bool = λ x. begins_call x.begin in
    ap length (filter-append test events (e ∷ [])) ∙ length-append (filter test events) (filter test (e ∷ []))
    ∙ ap (λ k. calls_begun events + k) (length-filter_one test e)

-- The linearizer has then followed the schedule with this event
pub follows_on : (shape : Shape) (threads room : ℕ) (events : List Event) (world next : World) (outcome : Outcome)
    (e : Event) (n : Notes)
    → Follows threads room events (follower shape world n) → step shape world e ≡ Ok (next, outcome)
    → (begins_call e.begin ≡ true → n.begun < room)
    → Follows threads room (events ++ e ∷ []) (follower shape next (fed shape world e outcome n))
follows_on shape threads room events world next outcome e n h made less =
    let l : Ledger = ledger_after_all shape threads events in
    let ok : Both shape (word_at world) (place_of world) l = both shape threads events world h.reached in
    let same : Agrees (log_of shape threads events) l (length events) = agreed shape threads events world h.reached in
    let more : ledger_after_all shape threads (events ++ e ∷ []) ≡ ledger_after shape world e l =
    ledger_more shape (Some (opening shape threads)) world events e blank h.reached in
    let within : e.thread < threads = omega (
      arith,
      made_within shape world e next outcome made,
      sound_threads shape threads events world h.reached,
    ) in
    record {
      reached = after-snoc shape threads events world e h.reached ∙ ap world_of made;
      steps = steps_more shape n e.thread (word_at world 0) e.begin (action_at shape world (place_of world e.thread))
          outcome
          ∙ ap (λ k. k + 1) h.steps ∙ sym (length-append events (e ∷ []));
      begun = begun_more shape n e.thread (word_at world 0) e.begin (action_at shape world (place_of world e.thread))
          outcome
          ∙ ap (λ k. k + cond (begins_call e.begin) 1 0) h.begun ∙ sym (calls_more events e);
      tells = rw more (tells_event shape world next outcome e l n threads room ok h.tells h.sizes
          (omega (arith, h.tells.begun, h.sizes.begun)) (ok.inv.calls.later l.calls (omega arith))
          (same.none l.calls (omega arith)).0
          within less made);
      sizes = sizes_event shape threads room n e.thread (word_at world 0) e.begin
          (action_at shape world (place_of world e.thread)) outcome h.sizes less;
    }

-- an event that begins nothing goes on with a call
going_on : (shape : Shape) (world : World) (e : Event) (next : World) (outcome : Outcome)
    → step shape world e ≡ Ok (next, outcome)
    → e.begin ≡ None → (r : Running) × (place_of world e.thread ≡ Some r)
going_on shape world e next outcome made none =
    elim (stepped shape world e next outcome made) [
      | inl s ↦ by_place (place_of world e.thread) e.begin s.running refl none s.goes
      | inr o ↦ absurd (elim o.by [
        | inl t ↦ none-some B.Tick (sym none ∙ t.begins)
        | inr z ↦ none-some B.Seal (sym none ∙ z.begins)
      ])
    ]
  where
    by_place : (place : Option Running) (begin : Option Begin) (r : Running) → place_of world e.thread ≡ place
        → begin ≡ None
        → going shape place begin ≡ Some r → (r : Running) × (place_of world e.thread ≡ Some r)
    by_place (Some q) begin r was is goes = (q, was)
    by_place None None r was is goes = absurd (cc)
    by_place None (Some b) r was is goes = absurd (none-some b (sym is))

-- At first it has followed no event
pub follows_none : (shape : Shape) (threads room : ℕ)
    → Follows threads room [] (follower shape (opening shape threads) (no_notes shape threads room))
unfolding blank
follows_none shape threads room = record {
  reached = refl;
  steps = refl;
  begun = refl;
  tells = record {
    step = refl;
    head = refl;
    tail = refl;
    begun = refl;
    heads = λ visit below near. absurd (omega arith);
    tails = λ visit below near. absurd (omega arith);
    owner = λ i. ap (λ s. s.owner) (get_or_replicate (1 + shape.n * shape.k) i no_filling);
    settled = λ i. ap (λ s. s.settled) (get_or_replicate (1 + shape.n * shape.k) i no_filling);
    point = λ i. ap (λ s. s.point) (get_or_replicate (1 + shape.n * shape.k) i no_filling);
    own = λ t. ap (λ c. c.call) (get_or_replicate threads t no_caller);
    head_seen = λ t. ap (λ c. c.head_seen) (get_or_replicate threads t no_caller);
    calls = λ c. get_or_replicate room c Nowhere;
  };
  sizes = record {
    heads = length-replicate (2 * shape.n) 0;
    tails = length-replicate (2 * shape.n) 0;
    slots = length-replicate (1 + shape.n * shape.k) no_filling;
    callers = length-replicate threads no_caller;
    calls = length-replicate room Nowhere;
    begun = omega arith;
    head = omega arith;
    tail = omega arith;
  };
}

-- What a step asks of the notes
pub record CanFeed (f : Follower) (e : Event) : Type 0 where
  pub ends : IsEnds f.shape (word_at f.world 0)
  pub thread : e.thread < length f.notes.callers
  pub call : e.begin ≡ None → own_call f.notes e.thread < length f.notes.calls
  pub room : e.begin ≡ None → HasRoom f.shape f.notes (action_at f.shape f.world (place_of f.world e.thread))
  pub head : f.notes.head ≤ f.notes.step
  pub tail : f.notes.tail ≤ f.notes.step

pub can_feed : (f : Follower) (next : World) (outcome : Outcome) (e : Event) → IsFollowing f
    → step f.shape f.world e ≡ Ok (next, outcome)
    → CanFeed f e
unfolding found
can_feed f next outcome e h made =
    let l : Ledger = ledger_after_all f.shape h.threads h.events in
    let ok : Both f.shape (word_at f.world) (place_of f.world) l =
    both f.shape h.threads h.events f.world h.follows.reached in
    let counted : l.calls ≤ h.room = omega (arith, h.follows.tells.begun, h.follows.sizes.begun) in
    record {
      ends = sound_ends f.shape h.threads h.events f.world h.follows.reached;
      thread = omega (
        arith,
        made_within f.shape f.world e next outcome made,
        sound_threads f.shape h.threads h.events f.world h.follows.reached,
        h.follows.sizes.callers,
      );
      call = λ none. let r = going_on f.shape f.world e next outcome made none in
          omega (
            arith,
            (ok.inv.threads e.thread r.0 r.1).known,
            h.follows.tells.own e.thread,
            counted,
            h.follows.sizes.calls,
          );
      room = λ none. let r = going_on f.shape f.world e next outcome made none in
          rw r.1 (has_room f.shape (word_at f.world) (place_of f.world) l f.notes e.thread h.threads h.room ok
          h.follows.tells
          h.follows.sizes counted (action f.shape r.0 (found_in f.shape (word_at f.world) r.0))
          (can_tell f.shape (word_at f.world) (place_of f.world) l f.notes e.thread h.threads h.room ok h.follows.tells
          h.follows.sizes
          counted r.0 r.1));
      head = h.follows.sizes.head;
      tail = h.follows.sizes.tail;
    }

-- what a thread finds when it reloads the ends is a word of the ends
pub finds_ends : (shape : Shape) (r : Running) (word : ℕ) → (accessed (access shape r) ≡ 0 → IsEnds shape word)
    → IsFoundBy shape r word
finds_ends shape r word ends = grind arith

pub follower_ends : (f : Follower) → IsFollowing f → IsEnds f.shape (word_at f.world 0)
follower_ends f h = sound_ends f.shape h.threads h.events f.world h.follows.reached

-- an event that was made and noted
pub feeds : (f : Follower) (shape : Shape) (next : World) (notes : Notes) (outcome : Outcome) (e : Event)
    (threads room : ℕ)
    (events : List Event) → Follows threads room events f → shape ≡ f.shape
    → step f.shape f.world e ≡ Ok (next, outcome)
    → notes ≡ fed f.shape f.world e outcome f.notes
    → (begins_call e.begin ≡ true → f.notes.begun < length f.notes.calls)
    → Follows threads room (events ++ e ∷ []) (follower shape next notes)
feeds f shape next notes outcome e threads room events h same made is less =
    rw (same, is) (follows_on f.shape threads room events f.world next outcome e f.notes h made
    (λ b. omega (arith, less b, h.sizes.calls)))

-- while a call is begun, not all calls were begun before
pub room_left : (events : List Event) (place : ℕ) (d : Event) → place < length events
    → begins_call (get_or events place d).begin ≡ true
    → calls_begun (take place events) < calls_begun events
room_left events place d within begins =
    let test : Event → Bool = λ x. begins_call x.begin in
    let next : calls_begun (take (place + 1) events) ≡ calls_begun (take place events) + 1 =
    ap calls_begun (take-next events place d within) ∙ calls_more (take place events) (get_or events place d)
    ∙ ap (λ b. calls_begun (take place events) + cond b 1 0) begins in
    let all : calls_begun events
    ≡ calls_begun (take (place + 1) events) + length (filter test (drop (place + 1) events)) =
    ap calls_begun (sym (take-append-drop (place + 1) events))
    ∙ ap length (filter-append test (take (place + 1) events) (drop (place + 1) events))
    ∙ length-append (filter test (take (place + 1) events)) (filter test (drop (place + 1) events)) in
    omega arith

-- events of which one is not enabled are no schedule
pub no_schedule : (shape : Shape) (threads : ℕ) (events : List Event) (place : ℕ) (d : Event) (here : World)
    (fault : NotEnabled)
    → place < length events → after shape threads (take place events) ≡ Some here
    → step shape here (get_or events place d) ≡ Err fault
    → IsSchedule shape threads events → ⊥
no_schedule shape threads events place d here fault within is refused schedule =
    let parted : events ≡ take place events ++ (get_or events place d ∷ drop (suc place) events) =
    sym (take-append-drop place events) ∙ ap (λ t. take place events ++ t) (drop-cons events place d within) in
    let none : after shape threads events ≡ None =
    ap (after shape threads) parted ∙ run_on shape (Some (opening shape threads)) here (take place events)
    (get_or events place d ∷ drop (suc place) events) is
    ∙ ap (λ o. run shape (world_of o) (drop (suc place) events)) refused ∙ run-none shape (drop (suc place) events) in
    false≢true (subst (λ (o : Option World). IsTrue (is_some o)) none schedule)

pub is_schedule : (shape : Shape) (threads : ℕ) (events : List Event) (here : World)
    → after shape threads events ≡ Some here
    → IsSchedule shape threads events
is_schedule shape threads events here is = subst (λ (o : Option World). IsTrue (is_some o)) (sym is) refl
