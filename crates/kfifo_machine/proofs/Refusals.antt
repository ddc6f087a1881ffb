-- A call that is refused leaves no item of its own in the table.
use Rattle.std.proofs.Common.{◌≡◌, ◌≢◌, ◌⊎◌, ℕ, ◌-◌, ◌<◌, ◌≤◌, List, [], ◌∷◌, ◌++◌, length, Option, Some, None, Ok}
use Rattle.std.proofs.Common.{Bool, true, false, refl, sym, ap, ◌∙◌, subst, inl, inr, arith, cond, eqb, eq-eqb}
use Rattle.std.proofs.Common.{eqb-true}
use Rattle.std.proofs.lemmas.Bool.Decides.{nat_tests}
use Rattle.std.proofs.lemmas.List.{append_cancel_left, append_assoc}
use Rattle.kfifo_machine.proofs.Types.{Answer, Begin, EnqueuePhase, Event, Next, Outcome, Running, Shape}
use Rattle.kfifo_model.specs.declared.calls.Answer.TheVariants.{Done, Busy}
use Rattle.kfifo_machine.specs.declared.event.Outcome.TheVariants.{Went, Ended}
use Rattle.kfifo_machine.specs.declared.place.EnqueuePhase.TheVariants as E
use Rattle.kfifo_machine.specs.declared.place.Running.TheVariants as R
use Rattle.kfifo_machine.specs.declared.place.Next.TheVariants.{Goes, Answers}
use Rattle.kfifo_machine.specs.declared.place.Access.TheVariants.{Exchange}
use Rattle.kfifo_machine.specs.Program.{access, accessed, advance, filled_with, emptied}
use Rattle.kfifo_machine.specs.Machine.{World, opening, word_at, place_of, place_after, outcome_of, moved, found, step}
use Rattle.kfifo_machine.specs.Machine.{world_of, run, after}
use Rattle.kfifo_machine.specs.Runs.{event, own, going, AllGoOn, BeginsOnce, CompleteExecution}
use Rattle.kfifo_machine.specs.Places.{IsPlace}
use Rattle.kfifo_machine.specs.Laws.{IsRefusal, PutsNext, LeavesNone}
use Rattle.kfifo_machine.proofs.Schedules.{Some-injective, run_on, after-snoc, first_made, made_within, stepped}
use Rattle.kfifo_machine.proofs.Schedules.{other_place, own-append}
use Rattle.kfifo_machine.proofs.Sound.{IsSound, sound, place_is, step_sound}
use Rattle.kfifo_machine.proofs.Versions.{rises, won_word, word_rises, run_rises}
use Rattle.kfifo_machine.proofs.Budget.{own_place, own_first, goes_on_from}

-- the thread has put this word at this index, and has not yet undone it
abbrev pub Carries : EnqueuePhase → ℕ → ℕ → Type 0
Carries (E.ReloadSlot ends i filled) index word = (i ≡ index) × (filled ≡ word)
Carries (E.ReloadEnds ends i filled) index word = (i ≡ index) × (filled ≡ word)
Carries (E.HoldHead ends i filled held) index word = (i ≡ index) × (filled ≡ word)
Carries (E.Undo i filled worn) index word = (i ≡ index) × (filled ≡ word)
Carries other index word = ⊥

abbrev pub CarriesAt : Running → ℕ → ℕ → Type 0
CarriesAt (R.Enqueue item start left phase) index word = Carries phase index word
CarriesAt (R.Dequeue start left phase) index word = ⊥

abbrev pub NextCarries : Next → ℕ → ℕ → Type 0
NextCarries (Goes running) index word = CarriesAt running index word
NextCarries (Answers answer) index word = answer ≡ Done

-- a won undo of it
pub record Undoes (shape : Shape) (running : Running) (seen index word : ℕ) : Type 0 where
  pub exchange : access shape running ≡ Exchange index word (emptied word)
  pub won : seen ≡ word

-- a step keeps it carried, or takes it out
carry_on : (shape : Shape) (running : Running) (seen index word : ℕ) → CarriesAt running index word
    → NextCarries (advance shape running seen) index word ⊎ Undoes shape running seen index word
carry_on shape (R.Enqueue item start left (E.ReloadSlot ends i filled)) seen index word c =
    inl (goes_so shape item start left ends i filled seen index word c)
  where
    goes_so : (shape : Shape) (item start left ends i filled seen index word : ℕ) → (i ≡ index) × (filled ≡ word)
        → NextCarries (advance shape (R.Enqueue item start left (E.ReloadSlot ends i filled)) seen) index word
    goes_so shape item start left ends i filled seen index word c = grind (arith, nat_tests)
carry_on shape (R.Enqueue item start left (E.ReloadEnds ends i filled)) seen index word c =
    inl (goes_so shape item start left ends i filled seen index word c)
  where
    goes_so : (shape : Shape) (item start left ends i filled seen index word : ℕ) → (i ≡ index) × (filled ≡ word)
        → NextCarries (advance shape (R.Enqueue item start left (E.ReloadEnds ends i filled)) seen) index word
    goes_so shape item start left ends i filled seen index word c = grind (arith, nat_tests)
carry_on shape (R.Enqueue item start left (E.HoldHead ends i filled held)) seen index word c =
    inl (goes_so shape item start left ends held i filled seen index word c)
  where
    goes_so : (shape : Shape) (item start left ends held i filled seen index word : ℕ) → (i ≡ index) × (filled ≡ word)
        → NextCarries (advance shape (R.Enqueue item start left (E.HoldHead ends i filled held)) seen) index word
    goes_so shape item start left ends held i filled seen index word c = grind (arith, nat_tests)
carry_on shape (R.Enqueue item start left (E.Undo i filled worn)) seen index word c = by_test (eqb seen filled) refl
  where
    lost : (shape : Shape) (item start left i filled seen index word : ℕ) (worn : Bool) → eqb seen filled ≡ false
        → NextCarries (advance shape (R.Enqueue item start left (E.Undo i filled worn)) seen) index word
    lost shape item start left i filled seen index word worn is = rw is refl

    by_test : (b : Bool) → eqb seen filled ≡ b
        → NextCarries (advance shape (R.Enqueue item start left (E.Undo i filled worn)) seen) index word
        ⊎ Undoes shape (R.Enqueue item start left (E.Undo i filled worn)) seen index word
    by_test true is = inr (record {
      exchange = ap (λ (j : ℕ). Exchange j filled (emptied filled)) c.0
          ∙ ap (λ (f : ℕ). Exchange index f (emptied f)) c.1;
      won = eqb-true seen filled is ∙ c.1;
    })
    by_test false is = inl (lost shape item start left i filled seen index word worn is)
carry_on shape (R.Enqueue item start left other) seen index word c = elim c [ ]
carry_on shape (R.Dequeue start left phase) seen index word c = elim c [ ]

-- A word that a thread put in its call: it is out for good, or the thread still carries it, or the call has ended
pub data Status (world : World) (thread index word : ℕ) : Type 0 where
  Out : word < word_at world index → Status world thread index word
  In : (running : Running) → place_of world thread ≡ Some running → CarriesAt running index word
      → Status world thread index word
  Over : place_of world thread ≡ None → Status world thread index word

-- a won undo takes the word out
undone : (shape : Shape) (here : World) (thread : ℕ) (running : Running) (index word : ℕ) → IsSound shape here
    → IsPlace shape running
    → accessed (access shape running) ≡ index
    → Undoes shape running (found shape here running) index word
    → word < word_at (moved shape here thread running) index
unfolding found
undone shape here thread running index word sound place at u =
    let is : access shape running ≡ Exchange index (word_at here index) (emptied word) =
    u.exchange ∙ ap (λ (w : ℕ). Exchange index w (emptied word)) (sym (sym (ap (word_at here) at) ∙ u.won)) in
    let new : word_at (moved shape here thread running) index ≡ emptied word =
    won_word shape here thread running index (emptied word) sound place is in
    let up : word < emptied word = rises shape running index word (emptied word) place u.exchange in
    omega arith

undo_accessed : (shape : Shape) (running : Running) (seen index word : ℕ) → Undoes shape running seen index word
    → accessed (access shape running) ≡ index
undo_accessed shape running seen index word u = ap accessed u.exchange

-- the status after the thread's own step, which it is not over with, and whether the word is out where the call ends so
own_status : (shape : Shape) (here : World) (thread : ℕ) (running : Running) (index word : ℕ) → IsSound shape here
    → IsPlace shape running
    → thread < length here.places
    → CarriesAt running index word
    → (word < word_at (moved shape here thread running) index)
    ⊎ NextCarries (advance shape running (found shape here running)) index word
own_status shape here thread running index word sound place within c =
    elim (carry_on shape running (found shape here running) index word c) [
      | inl kept ↦ inr kept
      | inr u ↦ inl (undone shape here thread running index word sound place
          (undo_accessed shape running (found shape here running) index word u) u)
    ]

next_status : (world : World) (thread index word : ℕ) (next : Next) → place_of world thread ≡ place_after next
    → NextCarries next index word
    → Status world thread index word
next_status world thread index word (Goes running) at c = In running at c
next_status world thread index word (Answers answer) at c = Over at

-- an event of the thread that begins nothing is a step from its place
pub own_step : (shape : Shape) (here : World) (e : Event) (there : World) (outcome : Outcome) (running : Running)
    → step shape here e ≡ Ok (there, outcome) → place_of here e.thread ≡ Some running
    → (there ≡ moved shape here e.thread running)
    × (outcome ≡ outcome_of (advance shape running (found shape here running)))
own_step shape here e there outcome running is at =
    elim (stepped shape here e there outcome is) [
      | inl s ↦ let same : s.running ≡ running = from_place (place_of here e.thread) e.begin s.running at s.goes in (
        s.there_is ∙ ap (moved shape here e.thread) same,
        s.outcome_is
            ∙ ap (λ (r : Running). outcome_of (advance shape r (found shape here r))) same,
      )
      | inr t ↦ absurd (let h : None ≡ Some running = sym t.idle ∙ at in cc)
    ]
  where
    from_some : (begin : Option Begin) (r : Running) → going shape (Some running) begin ≡ Some r → r ≡ running
    from_some None r goes = sym (Some-injective running r goes)
    from_some (Some b) r goes = absurd (cc)

    from_place : (place : Option Running) (begin : Option Begin) (r : Running) → place ≡ Some running
        → going shape place begin ≡ Some r
        → r ≡ running
    from_place place begin r at goes =
        from_some begin r (ap (λ (p : Option Running). going shape p begin) (sym at) ∙ goes)

mine_status : (shape : Shape) (here : World) (e : Event) (there : World) (outcome : Outcome) (index word : ℕ)
    → IsSound shape here
    → step shape here e ≡ Ok (there, outcome)
    → e.begin ≡ None → Status here e.thread index word → Status there e.thread index word
mine_status shape here e there outcome index word sound is none (Out up) =
    Out (let more : word_at here index ≤ word_at there index = word_rises shape here e there outcome index sound is in
    omega arith)
mine_status shape here e there outcome index word sound is none (In running at c) =
    let both = own_step shape here e there outcome running is at in
    let within : e.thread < length here.places = made_within shape here e there outcome is in
    elim (own_status shape here e.thread running index word sound (place_is shape here e.thread running sound at)
    within c) [
      | inl up ↦ Out (subst (λ (w : World). word < word_at w index) (sym both.0) up)
      | inr kept ↦ next_status there e.thread index word (advance shape running (found shape here running))
          (ap (λ (w : World). place_of w e.thread) both.0 ∙ own_place shape here e.thread running within) kept
    ]
mine_status shape here e there outcome index word sound is none (Over at) =
    let k = goes_on_from shape here e there outcome is none in
    absurd (let h : None ≡ Some k.0 = sym at ∙ k.1 in cc)

-- the events of others change nothing of it
others_status : (shape : Shape) (here : World) (e : Event) (there : World) (outcome : Outcome) (thread index word : ℕ)
    → IsSound shape here
    → step shape here e ≡ Ok (there, outcome)
    → thread ≢ e.thread → Status here thread index word → Status there thread index word
others_status shape here e there outcome thread index word sound is apart (Out up) =
    Out (let more : word_at here index ≤ word_at there index = word_rises shape here e there outcome index sound is in
    omega arith)
others_status shape here e there outcome thread index word sound is apart (In running at c) =
    In running (other_place shape here e there outcome thread apart is ∙ at) c
others_status shape here e there outcome thread index word sound is apart (Over at) =
    Over (other_place shape here e there outcome thread apart is ∙ at)

run_status : (shape : Shape) (here there : World) (thread index word : ℕ) (events : List Event) → IsSound shape here
    → AllGoOn (own thread events) → run shape (Some here) events ≡ Some there
    → Status here thread index word → Status there thread index word
run_status shape here there thread index word [] sound on is status =
    subst (λ (w : World). Status w thread index word) (Some-injective here there is) status
run_status shape here there thread index word (e ∷ es) sound on is status =
    let m = first_made shape here e there es is in
    let later : IsSound shape m.0 = step_sound shape here e m.0 m.1.0 sound m.1.1.0 in
    elim (own_first thread e es) [
      | inl mine ↦
          let both : (e.begin ≡ None) × AllGoOn (own thread es) = subst AllGoOn mine.1 on in
          let next : Status m.0 thread index word = subst (λ (t : ℕ). Status m.0 t index word) mine.0
          (mine_status shape here e m.0 m.1.0 index word sound m.1.1.0 both.0
          (subst (λ (t : ℕ). Status here t index word) (sym mine.0) status)) in
          run_status shape m.0 there thread index word es later both.1 m.1.1.1 next
      | inr other ↦
          run_status shape m.0 there thread index word es later (subst AllGoOn other.1 on) m.1.1.1
          (others_status shape here e m.0 m.1.0 thread index word sound m.1.1.0 other.0 status)
    ]

-- where the call ends with a refusal, the word is out
not_done : (next : Next) (answer : Answer) (index word : ℕ) → outcome_of next ≡ Ended answer → IsRefusal answer
    → NextCarries next index word → ⊥
not_done (Goes running) answer index word ends refuses kept = cc
not_done (Answers a) answer index word ends refuses kept = let same : answer ≡ Done = let e : a ≡ answer = cc in
    sym e ∙ kept in
    let h : IsRefusal Done = subst IsRefusal same refuses in h

last_out : (shape : Shape) (here : World) (e : Event) (there : World) (answer : Answer) (index word : ℕ)
    → IsSound shape here
    → step shape here e ≡ Ok (there, Ended answer) → IsRefusal answer
    → e.begin ≡ None → Status here e.thread index word → word < word_at there index
last_out shape here e there answer index word sound is refuses none (Out up) =
    let more : word_at here index ≤ word_at there index =
    word_rises shape here e there (Ended answer) index sound is in omega arith
last_out shape here e there answer index word sound is refuses none (In running at c) =
    let both = own_step shape here e there (Ended answer) running is at in
    elim (own_status shape here e.thread running index word sound (place_is shape here e.thread running sound at)
    (made_within shape here e there (Ended answer) is) c) [
      | inl up ↦ subst (λ (w : World). word < word_at w index) (sym both.0) up
      | inr kept ↦
          absurd (not_done (advance shape running (found shape here running)) answer index word (sym both.1) refuses
          kept)
    ]
last_out shape here e there answer index word sound is refuses none (Over at) =
    let k = goes_on_from shape here e there (Ended answer) is none in
    absurd (let h : None ≡ Some k.0 = sym at ∙ k.1 in cc)

-- an event before the last one of a list, or the last one
split_last : (xs ys zs : List Event) (last e : Event) → xs ++ last ∷ [] ≡ ys ++ e ∷ zs
    → ((zs ≡ []) × (last ≡ e) × (xs ≡ ys)) ⊎ ((init : List Event) × ((zs ≡ init ++ last ∷ []) × (xs ≡ ys ++ e ∷ init)))
split_last [] [] zs last e is = inl ((let h : [] ≡ zs = cc in sym h), cc, refl)
split_last (x ∷ xs) [] zs last e is = inr (
  xs,
  ((let h : xs ++ last ∷ [] ≡ zs = cc in sym h), (let h : x ≡ e = cc in ap (λ (y : Event). y ∷ xs) h)),
)
split_last [] (y ∷ []) zs last e is = absurd (cc)
split_last [] (y ∷ (w ∷ ys)) zs last e is = absurd (cc)
split_last (x ∷ xs) (y ∷ ys) zs last e is =
    let head : x ≡ y = cc in
    let tails : xs ++ last ∷ [] ≡ ys ++ e ∷ zs = cc in
    elim (split_last xs ys zs last e tails) [
      | inl k ↦ inl (k.0, k.1, (let t : xs ≡ ys = k.2 in cc))
      | inr k ↦ inr (k.0, (k.1.0, (let t : xs ≡ ys ++ e ∷ k.0 = k.1.1 in cc)))
    ]

-- those after an event of a call go on
rest_goes_on : (xs ys others : List Event) (first e : Event) → xs ++ e ∷ ys ≡ first ∷ others → AllGoOn others
    → AllGoOn ys
rest_goes_on [] ys others first e is on = subst AllGoOn (let h : ys ≡ others = cc in sym h) on
rest_goes_on (x ∷ xs) ys others first e is on =
    after_prefix xs (subst AllGoOn (let h : xs ++ e ∷ ys ≡ others = cc in sym h) on)
  where
    after_prefix : (xs : List Event) → AllGoOn (xs ++ e ∷ ys) → AllGoOn ys
    after_prefix [] on = on.1
    after_prefix (x ∷ xs) on = after_prefix xs on.1

first_part_goes_on : (xs : List Event) (e : Event) → AllGoOn (xs ++ e ∷ []) → AllGoOn xs × (e.begin ≡ None)
first_part_goes_on [] e on = (tt, on.0)
first_part_goes_on (x ∷ xs) e on = let k = first_part_goes_on xs e on.1 in ((on.0, k.0), k.1)

put_goes : (shape : Shape) (here : World) (item start left ends index : ℕ)
    → advance shape (R.Enqueue item start left (E.Put ends index (word_at here index)))
    (found shape here (R.Enqueue item start left (E.Put ends index (word_at here index))))
    ≡ Goes (R.Enqueue item start left (E.ReloadSlot ends index (filled_with item (word_at here index))))
unfolding found
put_goes shape here item start left ends index =
    ap (λ (b : Bool). cond b
    (Goes (R.Enqueue item start left (E.ReloadSlot ends index (filled_with item (word_at here index)))))
    (cond (eqb left 1) (Answers Busy) (Goes (R.Enqueue item start (left - 1) E.LoadEnds))))
    (eq-eqb (word_at here index) (word_at here index) refl)

-- after a won put the thread carries the word, and its call goes on
put_carries : (shape : Shape) (here : World) (e : Event) (there : World) (outcome : Outcome)
    (item start left ends index word : ℕ)
    → step shape here e ≡ Ok (there, outcome)
    → place_of here e.thread ≡ Some (R.Enqueue item start left (E.Put ends index (word_at here index)))
    → word ≡ filled_with item (word_at here index)
    → Status there e.thread index word × (outcome ≡ Went)
put_carries shape here e there outcome item start left ends index word is at puts =
    let running : Running = R.Enqueue item start left (E.Put ends index (word_at here index)) in
    let both = own_step shape here e there outcome running is at in
    let goes = put_goes shape here item start left ends index in
    let next : place_of there e.thread ≡ Some
    (R.Enqueue item start left (E.ReloadSlot ends index (filled_with item (word_at here index)))) =
    ap (λ (w : World). place_of w e.thread) both.0
    ∙ own_place shape here e.thread running (made_within shape here e there outcome is)
    ∙ ap place_after goes in (
      In (R.Enqueue item start left (E.ReloadSlot ends index (filled_with item (word_at here index)))) next
          (refl, sym puts),
      both.1
          ∙ ap outcome_of goes,
    )

-- after the last event of the run the word is out
out_at_end : (shape : Shape) (threads thread : ℕ) (call : Begin) (answer : Answer) (old new : List Event)
    → CompleteExecution shape threads thread call answer old new → IsRefusal answer
    → (some rest : List Event) (e : Event) (index word : ℕ) → new ≡ (old ++ some) ++ e ∷ rest → e.thread ≡ thread
    → PutsNext shape threads (old ++ some) thread index word
    → (end : World) × ((after shape threads new ≡ Some end) × (word < word_at end index))
out_at_end shape threads thread call answer old new w refuses some rest e index word split mine put =
    let parts : old ++ (w.between ++ w.last ∷ []) ≡ old ++ (some ++ e ∷ rest) =
    sym (append_assoc old w.between (w.last ∷ [])) ∙ sym w.new_is ∙ split ∙ append_assoc old some (e ∷ rest) in
    let here_at : place_of put.here e.thread ≡ Some
    (R.Enqueue put.item put.start put.left (E.Put put.ends index (word_at put.here index))) =
    ap (place_of put.here) mine ∙ put.place in
    let whole : after shape threads new ≡ Some w.world =
    ap (after shape threads) w.new_is ∙ after-snoc shape threads (old ++ w.between) w.before w.last w.reached
    ∙ ap world_of w.ends in
    elim (split_last w.between some rest w.last e (append_cancel_left old (w.between ++ w.last ∷ []) (some ++ e ∷ rest)
    parts)) [
      | inl k ↦
          let same : put.here ≡ w.before = Some-injective put.here w.before
          (sym put.reached ∙ ap (λ (xs : List Event). after shape threads (old ++ xs)) (sym k.2) ∙ w.reached) in
          let made : step shape put.here e ≡ Ok (w.world, Ended answer) =
          ap (λ (x : World). step shape x e) same ∙ ap (step shape w.before) (sym k.1) ∙ w.ends in
          let c = put_carries shape put.here e w.world (Ended answer) put.item put.start put.left put.ends index word
          made here_at
          put.puts in
          absurd (let h : Ended answer ≡ Went = c.1 in cc)
      | inr k ↦
          let reached : run shape (Some put.here) (e ∷ k.0) ≡ Some w.before =
          sym (run_on shape (Some (opening shape threads)) put.here (old ++ some) (e ∷ k.0) put.reached)
          ∙ ap (after shape threads) (append_assoc old some (e ∷ k.0) ∙ ap (λ (xs : List Event). old ++ xs) (sym k.1.1))
          ∙ w.reached in
          let m = first_made shape put.here e w.before k.0 reached in
          let safe : IsSound shape put.here = sound shape threads (old ++ some) put.here put.reached in
          let c = put_carries shape put.here e m.0 m.1.0 put.item put.start put.left put.ends index word m.1.1.0 here_at
          put.puts in
          let onwards : AllGoOn (own thread (k.0 ++ w.last ∷ [])) =
          own_rest thread call w.between some k.0 w.last e k.1.1 mine w.one_call in
          let parted : AllGoOn (own thread k.0 ++ w.last ∷ []) =
          subst AllGoOn (own-append thread k.0 (w.last ∷ [])
          ∙ ap (λ (xs : List Event). own thread k.0 ++ xs) (own_last thread w.last w.last_own)) onwards in
          let ends_so = first_part_goes_on (own thread k.0) w.last parted in
          let status : Status w.before thread index word =
          run_status shape m.0 w.before thread index word k.0 (step_sound shape put.here e m.0 m.1.0 safe m.1.1.0)
          ends_so.0 m.1.1.1
          (subst (λ (t : ℕ). Status m.0 t index word) mine c.0) in
          let last_safe : IsSound shape w.before = sound shape threads (old ++ w.between) w.before w.reached in (
            w.world,
            (
              whole,
              last_out shape w.before w.last w.world answer index word last_safe w.ends refuses ends_so.1
                  (subst (λ (t : ℕ). Status w.before t index word) (sym w.last_own) status),
            ),
          )
    ]
  where
    own_last : (thread : ℕ) (e : Event) → e.thread ≡ thread → own thread (e ∷ []) ≡ e ∷ []
    own_last thread e mine = ap (λ (b : Bool). cond b (e ∷ []) []) (eq-eqb e.thread thread mine)

    own_cons : (thread : ℕ) (e : Event) (es : List Event) → e.thread ≡ thread → own thread (e ∷ es) ≡ e ∷ own thread es
    own_cons thread e es mine = ap (λ (b : Bool). cond b (e ∷ own thread es) (own thread es))
        (eq-eqb e.thread thread mine)

    own_rest : (thread : ℕ) (call : Begin) (between some init : List Event) (last e : Event)
        → between ≡ some ++ e ∷ init
        → e.thread ≡ thread → BeginsOnce thread call (own thread (between ++ last ∷ []))
        → AllGoOn (own thread (init ++ last ∷ []))
    own_rest thread call between some init last e is mine once =
        rest_goes_on (own thread some) (own thread (init ++ last ∷ [])) once.others (event thread (Some call)) e
        (ap (λ (xs : List Event). own thread some ++ xs) (sym (own_cons thread e (init ++ last ∷ []) mine))
        ∙ sym (own-append thread some (e ∷ (init ++ last ∷ [])))
        ∙ ap (own thread) (sym (append_assoc some (e ∷ init) (last ∷ [])) ∙ ap (λ (xs : List Event). xs ++ last ∷ [])
        (sym is))
        ∙ once.first)
        once.go_on

-- a refused call leaves no item of its own
pub leaves_none : (shape : Shape) (threads : ℕ) → LeavesNone shape threads
leaves_none shape threads = λ thread call answer old new w refuses some rest e index word split mine put later here is
    same.
    let k = out_at_end shape threads thread call answer old new w refuses some rest e index word split mine put in
    let on : run shape (Some k.0) later ≡ Some here =
    sym (run_on shape (Some (opening shape threads)) k.0 new later k.1.0) ∙ is in
    let up : word_at k.0 index ≤ word_at here index =
    run_rises shape k.0 here later index (sound shape threads new k.0 k.1.0) on in
    let out : word < word_at k.0 index = k.1.1 in
    absurd (omega arith)
