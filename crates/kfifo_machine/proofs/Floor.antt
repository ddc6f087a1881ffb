-- The floor of a queue whose calls do not overlap.
use Rattle.std.proofs.Common.{◌≡◌, ◌≢◌, ℕ, zero, suc, ◌+◌, ◌*◌, ◌-◌, ◌<◌, List, [], ◌∷◌, ◌++◌, get_or, replicate}
use Rattle.std.proofs.Common.{Option, Some, None, Ok, Bool, true, false, refl, sym, ap, ◌∙◌, subst, inl, inr, arith}
use Rattle.std.proofs.Common.{cond, eqb}
use Rattle.std.specs.Prelude.{nat_lt}
use Rattle.std.proofs.Math.Path.{fun_ext}
use Rattle.std.proofs.lemmas.Bool.{cases_eq, cases_Bool}
use Rattle.std.proofs.lemmas.Bool.Decides.{nat_tests}
use Rattle.kfifo_machine.proofs.Types.{Access, Begin, Event, Next, Outcome, Running, Shape}
use Rattle.kfifo_words.specs.Words.{head_of, tail_of, value_of}
use Rattle.kfifo_words.specs.Ring.{clock_at, distance}
use Rattle.kfifo_model.specs.declared.calls.Answer.TheVariants as A
use Rattle.kfifo_machine.specs.declared.event.Begin.TheVariants as B
use Rattle.kfifo_machine.specs.declared.event.Outcome.TheVariants.{Went, Ended}
use Rattle.kfifo_machine.specs.declared.place.Running.TheVariants as R
use Rattle.kfifo_machine.specs.declared.place.EnqueuePhase.TheVariants as E
use Rattle.kfifo_machine.specs.declared.place.DequeuePhase.TheVariants as D
use Rattle.kfifo_machine.specs.declared.place.Access.TheVariants.{Load, Exchange}
use Rattle.kfifo_machine.specs.declared.place.Next.TheVariants.{Goes, Answers}
use Rattle.kfifo_machine.specs.Program.{access, accessed, advance, sealed_word}
use Rattle.kfifo_machine.specs.Machine.{World, opening, word_at, place_of, place_after, outcome_of, moved, ticked}
use Rattle.kfifo_machine.specs.Machine.{sealed, found, begun, may_begin, step, world_of, run}
use Rattle.kfifo_machine.specs.Runs.{going}
use Rattle.kfifo_machine.specs.Places.{IsEnds, IsPlace}
use Rattle.kfifo_machine.specs.Floor.{NoOverlap, done_with, got_with, answers, Floor}
use Rattle.kfifo_machine.proofs.Places.{in_table}
use Rattle.kfifo_machine.proofs.Schedules.{Some-injective, first_made, made_within, stepped, other_place}
use Rattle.kfifo_machine.proofs.Sound.{IsSound, going_place, place_is, step_sound, opening_sound}
use Rattle.kfifo_machine.proofs.Versions.{ticked-other, sealed-ends, sealed-other, sealed-same, no_going_tick}
use Rattle.kfifo_machine.proofs.Budget.{own_place}
use Rattle.kfifo_machine.proofs.Calls.{may_begun}
use Rattle.kfifo_machine.proofs.RoundsUndisturbed.{words_by}
use Rattle.kfifo_machine.proofs.LostRounds.{word-moved}
use Rattle.kfifo_machine.proofs.BusyIsDisturbed.{sound-ends, found-is}
use Rattle.kfifo_machine.proofs.Counting.{Rests, Keeps, After, distance-same}
use Rattle.kfifo_machine.proofs.Between.{items-same, all-same, between-same}
use Rattle.kfifo_machine.proofs.Filled.{holds, holds-empty, filled_from}
use Rattle.kfifo_machine.proofs.Paths.{answered}
use Rattle.kfifo_machine.proofs.StepsWithoutOverlap.{lone_step}

-- the words of the ends and the slots
abbrev view : Shape → World → ℕ → ℕ
view shape here i = cond (nat_lt i (clock_at shape.k shape.n)) (word_at here i) 0

view-below : (shape : Shape) (here : World) (i : ℕ) → i < clock_at shape.k shape.n → view shape here i ≡ word_at here i
view-below shape here i below = grind (arith, nat_tests)

view-ticked : (shape : Shape) (here : World) → view shape (ticked shape here) ≡ view shape here
view-ticked shape here = fun_ext (λ i. elim (cases_Bool (nat_lt i (clock_at shape.k shape.n))) [
  | inl e ↦ rw e (ticked-other shape here i (λ same. absurd (apart i e same)))
  | inr e ↦ rw e refl
])
  where
    apart : (i : ℕ) → nat_lt i (clock_at shape.k shape.n) ≡ true → i ≡ clock_at shape.k shape.n → ⊥
    apart i e same = grind (arith, nat_tests)

by_view : (a : Access) (w v : ℕ → ℕ) (clock i : ℕ) (b : Bool) → nat_lt i clock ≡ b → accessed a < clock
    → ((j : ℕ) → v j ≡ cond (nat_lt j clock) (w j) 0) → cond b (words_by a w i) 0 ≡ words_by a v i
by_view (Load index) w v clock i b e below same = sym (same i ∙ ap (λ x. cond x (w i) 0) e)
by_view (Exchange index from to) w v clock i b e below same =
    let at : v index ≡ w index = same index ∙ low index below in
    let here : v i ≡ cond b (w i) 0 = same i ∙ ap (λ x. cond x (w i) 0) e in
    go b e at here
  where
    low : (j : ℕ) → j < clock → ◌≡◌ {A = ℕ} (cond (nat_lt j clock) (w j) 0) (w j)
    low j less = grind (arith, nat_tests)

    past : i ≡ index → nat_lt i clock ≡ false → ⊥
    past same_i e = grind (arith, nat_tests)

    go : (b : Bool) → nat_lt i clock ≡ b → v index ≡ w index → v i ≡ cond b (w i) 0
        → cond b (cond (eqb (w index) from) (cond (eqb i index) to (w i)) (w i)) 0
        ≡ cond (eqb (v index) from) (cond (eqb i index) to (v i)) (v i)
    go true e at here = rw (at, here) refl
    go false e at here = let ne : i ≢ index = λ same_i. absurd (past same_i e) in grind (arith, nat_tests)

view-moved : (shape : Shape) (here : World) (thread : ℕ) (running : Running) → IsSound shape here
    → IsPlace shape running
    → view shape (moved shape here thread running) ≡ words_by (access shape running) (view shape here)
view-moved shape here thread running sound place =
    let below : accessed (access shape running) < clock_at shape.k shape.n = in_table shape running place in
    fun_ext (λ i. ap (λ x. cond (nat_lt i (clock_at shape.k shape.n)) x 0)
    (word-moved shape here thread running i sound place)
    ∙ by_view (access shape running) (word_at here) (view shape here) (clock_at shape.k shape.n) i
    (nat_lt i (clock_at shape.k shape.n))
    refl below (λ j. refl))

-- one thread at most is in a call
pub data Lone (shape : Shape) (here : World) (done got : ℕ) : Type 0 where
  Idles : ((t : ℕ) → place_of here t ≡ None) → Rests shape (view shape here) done got → Lone shape here done got
  Calls_one : (thread : ℕ) (running : Running) → place_of here thread ≡ Some running
      → ((t : ℕ) → t ≢ thread → place_of here t ≡ None)
      → Keeps shape (view shape here) running done got → Lone shape here done got

begins_keeping : (shape : Shape) (w : ℕ → ℕ) (done got : ℕ) (begin : Begin) (running : Running)
    → begun begin ≡ Some running
    → Rests shape w done got → Keeps shape w running done got
begins_keeping shape w done got (B.Enqueue item start turns) running is r =
    subst (λ x. Keeps shape w x done got) (Some-injective (R.Enqueue item start turns E.LoadEnds) running is)
    (record { sees = tt; between = r.between; items = (let c = r.items in omega arith) })
begins_keeping shape w done got (B.Dequeue start turns) running is r =
    subst (λ x. Keeps shape w x done got) (Some-injective (R.Dequeue start turns D.LoadEnds) running is)
    (record { sees = tt; between = r.between; items = (let c = r.items in omega arith) })
begins_keeping shape w done got B.Tick running is r = absurd (cc)
begins_keeping shape w done got B.Seal running is r = absurd (cc)

from_idle : (shape : Shape) (w : ℕ → ℕ) (done got : ℕ) (place : Option Running) (begin : Option Begin)
    (running : Running) → place ≡ None
    → going shape place begin ≡ Some running → Rests shape w done got → Keeps shape w running done got
from_idle shape w done got None None running idle goes r = absurd (cc)
from_idle shape w done got None (Some begin) running idle goes r =
    begins_keeping shape w done got begin running (may_begun shape begin running (may_begin shape begin) refl goes).1 r
from_idle shape w done got (Some x) begin running idle goes r = absurd (cc)

from_call : (shape : Shape) (place : Option Running) (begin : Option Begin) (old running : Running) → place ≡ Some old
    → going shape place begin ≡ Some running → old ≡ running
from_call shape None begin old running at goes = absurd (cc)
from_call shape (Some x) None old running at goes = sym (Some-injective x old at) ∙ Some-injective x running goes
from_call shape (Some x) (Some b) old running at goes = absurd (cc)

keeping : (shape : Shape) (here : World) (thread : ℕ) (begin : Option Begin) (running : Running) (done got : ℕ)
    → ((t : ℕ) → t ≢ thread → place_of here t ≡ None) → going shape (place_of here thread) begin ≡ Some running
    → Lone shape here done got → Keeps shape (view shape here) running done got
keeping shape here thread begin running done got others goes (Idles idle r) =
    from_idle shape (view shape here) done got (place_of here thread) begin running (idle thread) goes r
keeping shape here thread begin running done got others goes (Calls_one t old at rest k) =
    elim (cases_eq t thread) [
      | inl mine ↦ subst (λ x. Keeps shape (view shape here) x done got)
          (from_call shape (place_of here thread) begin old running (ap (place_of here) (sym mine) ∙ at) goes) k
      | inr ne ↦ absurd (let h : None ≡ Some old = sym (others t ne) ∙ at in cc)
    ]

all_idle : (here : World) (thread : ℕ) → place_of here thread ≡ None → ((t : ℕ) → t ≢ thread → place_of here t ≡ None)
    → (t : ℕ)
    → place_of here t ≡ None
all_idle here thread at others t = elim (cases_eq t thread) [
  | inl mine ↦ ap (place_of here) mine ∙ at
  | inr ne ↦ others t ne
]

after_lone : (shape : Shape) (next : World) (thread done got : ℕ) (n : Next) → place_of next thread ≡ place_after n
    → ((t : ℕ) → t ≢ thread → place_of next t ≡ None) → After shape (view shape next) done got n
    → Lone shape next (done + done_with (outcome_of n)) (got + got_with (outcome_of n))
after_lone shape next thread done got (Goes running) at others k =
    Calls_one thread running at others (record {
      sees = k.sees;
      between = k.between;
      items = (let c = k.items in omega arith);
    })
after_lone shape next thread done got (Answers A.Done) at others r =
    Idles (all_idle next thread at others) (record { between = r.between; items = (let c = r.items in omega arith) })
after_lone shape next thread done got (Answers (A.Got item)) at others r =
    Idles (all_idle next thread at others) (record { between = r.between; items = (let c = r.items in omega arith) })
after_lone shape next thread done got (Answers A.Full) at others r =
    Idles (all_idle next thread at others) (record {
      between = r.0.between;
      items = (let c = r.0.items in omega arith);
    })
after_lone shape next thread done got (Answers A.Empty) at others r =
    Idles (all_idle next thread at others) (record { between = r.between; items = (let c = r.items in omega arith) })
after_lone shape next thread done got (Answers A.Busy) at others r =
    Idles (all_idle next thread at others) (record { between = r.between; items = (let c = r.items in omega arith) })
after_lone shape next thread done got (Answers A.Worn) at others r =
    Idles (all_idle next thread at others) (record { between = r.between; items = (let c = r.items in omega arith) })

-- a thread's step
moved_lone : (shape : Shape) (here next : World) (e : Event) (outcome : Outcome) (running : Running) (done got : ℕ)
    → IsSound shape here
    → step shape here e ≡ Ok (next, outcome)
    → next ≡ moved shape here e.thread running → going shape (place_of here e.thread) e.begin ≡ Some running
    → ((t : ℕ) → t ≢ e.thread → place_of here t ≡ None) → Lone shape here done got
    → After shape (view shape next) done got (advance shape running (found shape here running))
moved_lone shape here next e outcome running done got sound made is goes others lone =
    let place : IsPlace shape running = going_place shape (place_of here e.thread) e.begin running
    (λ r at. place_is shape here e.thread r sound at) goes in
    let k : Keeps shape (view shape here) running done got = keeping shape here e.thread e.begin running done got others
    goes lone in
    let same : view shape next ≡ words_by (access shape running) (view shape here) =
    ap (view shape) is ∙ view-moved shape here e.thread running sound place in
    let ends : IsEnds shape (view shape here 0) =
    subst (IsEnds shape) (sym (view-below shape here 0 (omega arith))) (sound-ends shape here sound) in
    let word : found shape here running ≡ view shape here (accessed (access shape running)) =
    found-is shape here running
    ∙ sym (view-below shape here (accessed (access shape running)) (in_table shape running place)) in
    subst (λ (v : ℕ → ℕ). After shape v done got (advance shape running (found shape here running))) (sym same)
    (lone_step shape (view shape here) done got running (found shape here running) place ends k word)

-- a seal of the ends leaves head, tail and slots
sealed_rests : (shape : Shape) (here : World) (done got : ℕ) → IsSound shape here
    → Rests shape (view shape here) done got
    → Rests shape (view shape (sealed shape here)) (done + 0) (got + 0)
sealed_rests shape here done got sound r =
    let w = view shape here in
    let v = view shape (sealed shape here) in
    let below : 0 < clock_at shape.k shape.n = omega arith in
    let ends : v 0 ≡ sealed_word shape (w 0) =
    view-below shape (sealed shape here) 0 below ∙ sealed-ends shape here sound
    ∙ ap (sealed_word shape) (sym (view-below shape here 0 below)) in
    let same = sealed-same shape (w 0) in
    let head : head_of (v 0) ≡ head_of (w 0) = ap head_of ends ∙ same.0 in
    let tail : tail_of (v 0) ≡ tail_of (w 0) = ap tail_of ends ∙ same.1 in
    let slots : (i : ℕ) → 0 < i → v i ≡ w i =
    λ i above. ap (λ x. cond (nat_lt i (clock_at shape.k shape.n)) x 0)
    (sealed-other shape here i (λ e. absurd (omega arith))) in
    record {
      between = rw (head, tail) (between-same shape w v (head_of (w 0)) (tail_of (w 0))
          (λ s less far. let e = items-same shape w v s slots in omega arith) r.between);
      items = let e = all-same shape w v slots in let i = r.items in omega arith;
    }

-- an event
step_lone : (shape : Shape) (here next : World) (e : Event) (outcome : Outcome) (done got : ℕ) → IsSound shape here
    → step shape here e ≡ Ok (next, outcome)
    → (e.begin ≢ Some B.Tick → (t : ℕ) → t ≢ e.thread → place_of here t ≡ None) → Lone shape here done got
    → Lone shape next (done + done_with outcome) (got + got_with outcome)
step_lone shape here next e outcome done got sound made alone lone =
    elim (stepped shape here e next outcome made) [
      | inl s ↦
          let others : (t : ℕ) → t ≢ e.thread → place_of here t ≡ None =
          alone (λ tick. no_going_tick shape (place_of here e.thread) e.begin s.running tick s.goes) in
          let n : Next = advance shape s.running (found shape here s.running) in
          let at : place_of next e.thread ≡ place_after (advance shape s.running (found shape here s.running)) =
          ap (λ (w : World). place_of w e.thread) s.there_is
          ∙ own_place shape here e.thread s.running (made_within shape here e next outcome made) in
          subst (λ (o : Outcome). Lone shape next (done + done_with o) (got + got_with o)) (sym s.outcome_is)
          (after_lone shape next e.thread done got (advance shape s.running (found shape here s.running)) at
          (λ t ne. other_place shape here e next outcome t ne made ∙ others t ne)
          (moved_lone shape here next e outcome s.running done got sound made s.there_is s.goes others lone))
      | inr o ↦
          subst (λ (x : Outcome). Lone shape next (done + done_with x) (got + got_with x)) (sym o.outcome_is)
          (elim o.by [
            | inl t ↦ same_lone o.leaves (ap (view shape) t.there_is ∙ view-ticked shape here) lone
            | inr z ↦
                let others = alone (λ tick. absurd (let h : Some B.Tick ≡ Some B.Seal = sym tick ∙ z.begins in cc)) in
                Idles (all_idle next e.thread (o.leaves e.thread ∙ o.idle) (λ t ne. o.leaves t ∙ others t ne))
                (subst (λ (w : World). Rests shape (view shape w) (done + 0) (got + 0)) (sym z.there_is)
                (sealed_rests shape here done got sound (rests_of others o.idle lone)))
          ])
    ]
  where
    kept_rests : (shape : Shape) (w : ℕ → ℕ) (done got : ℕ) → Rests shape w done got
        → Rests shape w (done + 0) (got + 0)
    kept_rests shape w done got r = record { between = r.between; items = (let c = r.items in omega arith) }

    kept : (shape : Shape) (w : ℕ → ℕ) (running : Running) (done got : ℕ) → Keeps shape w running done got
        → Keeps shape w running (done + 0) (got + 0)
    kept shape w running done got k = record {
      sees = k.sees;
      between = k.between;
      items = (let c = k.items in omega arith);
    }

    same_lone : ((t : ℕ) → place_of next t ≡ place_of here t) → view shape next ≡ view shape here
        → Lone shape here done got
        → Lone shape next (done + 0) (got + 0)
    same_lone leaves same (Idles idle r) =
        Idles (λ t. leaves t ∙ idle t)
        (subst (λ (w : ℕ → ℕ). Rests shape w (done + 0) (got + 0)) (sym same)
        (kept_rests shape (view shape here) done got r))
    same_lone leaves same (Calls_one t running at rest k) =
        Calls_one t running (leaves t ∙ at) (λ u ne. leaves u ∙ rest u ne)
        (subst (λ (w : ℕ → ℕ). Keeps shape w running (done + 0) (got + 0)) (sym same)
        (kept shape (view shape here) running done got k))

    rests_of : ((t : ℕ) → t ≢ e.thread → place_of here t ≡ None) → place_of here e.thread ≡ None
        → Lone shape here done got
        → Rests shape (view shape here) done got
    rests_of others idle (Idles all r) = r
    rests_of others idle (Calls_one t running at rest k) =
        absurd (let h : None ≡ Some running = sym (all_idle here e.thread idle others t) ∙ at in cc)

lone_counts : (shape : Shape) (v w : World) (a b c d : ℕ) → Lone shape v a b → v ≡ w → a ≡ c → b ≡ d → Lone shape w c d
lone_counts shape v w a b c d lone world ea eb = rw (← world, ← ea, ← eb) lone

-- a schedule, up to its last event
run_lone : (shape : Shape) (here there : World) (events : List Event) (last : Event) (done got : ℕ) → IsSound shape here
    → run shape (Some here) events ≡ Some there → NoOverlap shape (Some here) (events ++ last ∷ [])
    → Lone shape here done got
    → Lone shape there (done + answers shape done_with (Some here) events)
    (got + answers shape got_with (Some here) events)
    × (last.begin ≢ Some B.Tick → (t : ℕ) → t ≢ last.thread → place_of there t ≡ None) × IsSound shape there
run_lone shape here there [] last done got sound is alone lone =
    let same : here ≡ there = Some-injective here there is in (
      lone_counts shape here there done got (done + 0) (got + 0) lone same (omega arith) (omega arith),
      subst (λ (w : World). last.begin ≢ Some B.Tick → (t : ℕ) → t ≢ last.thread → place_of w t ≡ None) same alone.0,
      subst (IsSound shape) same sound,
    )
run_lone shape here there (e ∷ es) last done got sound is alone lone =
    let m = first_made shape here e there es is in
    let next : Lone shape m.0 (done + done_with m.1.0) (got + got_with m.1.0) =
    step_lone shape here m.0 e m.1.0 done got sound m.1.1.0 alone.0 lone in
    let rest : NoOverlap shape (Some m.0) (es ++ last ∷ []) =
    subst (λ (w : Option World). NoOverlap shape w (es ++ last ∷ [])) (ap world_of m.1.1.0) alone.1 in
    let all = run_lone shape m.0 there es last (done + done_with m.1.0) (got + got_with m.1.0)
    (step_sound shape here e m.0 m.1.0 sound m.1.1.0) m.1.1.1 rest next in (
      lone_counts shape there there _ _ _ _ all.0 refl (regroup done_with done m.0 m.1.0 m.1.1.0)
          (regroup got_with got m.0 m.1.0 m.1.1.0),
      all.1,
      all.2,
    )
  where
    regroup : (one : Outcome → ℕ) (c : ℕ) (next : World) (outcome : Outcome) → step shape here e ≡ Ok (next, outcome)
        → (c + one outcome) + answers shape one (Some next) es ≡ c + answers shape one (Some here) (e ∷ es)
    regroup one c next outcome made = rw made (omega arith)

get_or-none : {X : Type 0} (n i : ℕ) (d : X) → get_or (replicate n d) i d ≡ d
get_or-none zero i d = refl
get_or-none (suc n) zero d = refl
get_or-none (suc n) (suc i) d = get_or-none n i d

opening-word : (shape : Shape) (threads i : ℕ) → word_at (opening shape threads) i ≡ 0
unfolding opening word_at
opening-word shape threads i = get_or-none (2 + shape.n * shape.k) i 0

opening-place : (shape : Shape) (threads t : ℕ) → place_of (opening shape threads) t ≡ None
unfolding opening place_of
opening-place shape threads t = get_or-none threads t None

opening_view : (shape : Shape) (threads i : ℕ) → view shape (opening shape threads) i ≡ 0
opening_view shape threads i = by_test (nat_lt i (clock_at shape.k shape.n))
  where
    by_test : (b : Bool) → ◌≡◌ {A = ℕ} (cond b (word_at (opening shape threads) i) 0) 0
    by_test true = opening-word shape threads i
    by_test false = refl

zero-empty : value_of 0 ≡ 0
unfolding value_of
zero-empty = refl

none_filled : (w : ℕ → ℕ) (i m : ℕ) → ((j : ℕ) → w j ≡ 0) → filled_from w i m ≡ 0
none_filled w i zero zeros = refl
none_filled w i (suc m) zeros =
    let a : holds (w i) ≡ 0 = holds-empty (w i) (ap value_of (zeros i) ∙ zero-empty) in
    let b : filled_from w (i + 1) m ≡ 0 = none_filled w (i + 1) m zeros in
    omega arith

tail_zero : tail_of 0 ≡ 0
unfolding tail_of
tail_zero = refl

head_zero : head_of 0 ≡ 0
unfolding head_of
head_zero = refl

zero_distance : (shape : Shape) → distance shape.n (head_of 0) (tail_of 0) ≡ 0
zero_distance shape = ap (λ x. distance shape.n x (tail_of 0)) head_zero ∙ ap (distance shape.n 0) tail_zero
    ∙ distance-same shape 0 (omega arith)

at_full : (shape : Shape) (here : World) (e : Event) (next : World) (done got : ℕ) → IsSound shape here
    → step shape here e ≡ Ok (next, Ended A.Full)
    → (e.begin ≢ Some B.Tick → (t : ℕ) → t ≢ e.thread → place_of here t ≡ None) → Lone shape here done got
    → got + (shape.n - 1) * shape.probes < done
at_full shape here e next done got sound made alone lone =
    elim (stepped shape here e next (Ended A.Full) made) [
      | inl s ↦
          let others : (t : ℕ) → t ≢ e.thread → place_of here t ≡ None =
          alone (λ tick. no_going_tick shape (place_of here e.thread) e.begin s.running tick s.goes) in
          let full : advance shape s.running (found shape here s.running) ≡ Answers A.Full =
          answered (advance shape s.running (found shape here s.running)) A.Full s.outcome_is in
          (subst (After shape (view shape next) done got) full
          (moved_lone shape here next e (Ended A.Full) s.running done got sound made s.there_is s.goes others lone)).1
      | inr t ↦ absurd (let h : Ended A.Full ≡ Went = t.outcome_is in cc)
    ]

opening_lone : (shape : Shape) (threads : ℕ) → Lone shape (opening shape threads) 0 0
opening_lone shape threads =
    let zero_ends : view shape (opening shape threads) 0 ≡ 0 = opening_view shape threads 0 in
    let sound_at : IsEnds shape (view shape (opening shape threads) 0) =
    subst (IsEnds shape) (sym (view-below shape (opening shape threads) 0 (omega arith)))
    (sound-ends shape (opening shape threads) (opening_sound shape threads)) in
    Idles (opening-place shape threads) (record {
      between = λ s s_in above below. absurd (let d : distance shape.n (head_of (view shape (opening shape threads) 0))
          (tail_of (view shape (opening shape threads) 0)) ≡ 0 =
          ap (λ x. distance shape.n (head_of x) (tail_of x)) zero_ends ∙ zero_distance shape in omega arith);
      items = (let z = none_filled (view shape (opening shape threads)) 1 (shape.n * shape.k)
          (opening_view shape threads) in omega arith);
    })

-- the floor
pub floor_holds : (shape : Shape) (threads : ℕ) → Floor shape threads
floor_holds shape threads = λ events last here world is alone full.
    let k = run_lone shape (opening shape threads) here events last 0 0 (opening_sound shape threads) is alone
    (opening_lone shape threads) in
    let more : (0 + answers shape got_with (Some (opening shape threads)) events) + (shape.n - 1) * shape.probes
    < 0 + answers shape done_with (Some (opening shape threads)) events =
    at_full shape here last world (0 + answers shape done_with (Some (opening shape threads)) events)
    (0 + answers shape got_with (Some (opening shape threads)) events) k.2 full k.1 k.0 in
    omega arith
