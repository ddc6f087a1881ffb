-- What a round of a call that is lost has seen.
use Rattle.std.proofs.Common.{◌≡◌, ◌≢◌, ◌⊎◌, ℕ, zero, suc, ◌+◌, ◌-◌, ◌<◌, List, [], ◌∷◌, ◌++◌, length, get_or, set}
use Rattle.std.proofs.Common.{Option, Some, None, Ok, Bool, true, false, refl, sym, ap, ◌∙◌, subst, inl, inr, arith}
use Rattle.std.proofs.Common.{cond, eqb, eqb-true, eq-eqb}
use Rattle.std.specs.Prelude.{◌==◌}
use Rattle.std.proofs.lemmas.Bool.{cases_eq, cases_Bool}
use Rattle.std.proofs.lemmas.Bool.Decides.{nat_tests}
use Rattle.std.proofs.lemmas.Grind.{get_or-set_at}
use Rattle.std.proofs.lemmas.List.{get_or-set_other, append_assoc}
use Rattle.kfifo_machine.proofs.Types.{Access, Event, Next, Outcome, Running, Shape}
use Rattle.kfifo_words.specs.Ring.{clock_at}
use Rattle.kfifo_model.specs.declared.calls.Answer.TheVariants as A
use Rattle.kfifo_machine.specs.declared.place.Running.TheVariants as R
use Rattle.kfifo_machine.specs.declared.place.Access.TheVariants.{Load, Exchange}
use Rattle.kfifo_machine.specs.declared.place.Next.TheVariants.{Goes, Answers}
use Rattle.kfifo_machine.specs.Program.{access, accessed, advance}
use Rattle.kfifo_machine.specs.Machine.{World, word_at, place_of, words_after, moved, found, step, world_of}
use Rattle.kfifo_machine.specs.Machine.{run}
use Rattle.kfifo_machine.specs.Runs.{event, own, going}
use Rattle.kfifo_machine.specs.Places.{IsPlace}
use Rattle.kfifo_machine.specs.Laws.{moves_head, moves_tail}
use Rattle.kfifo_machine.specs.Causes.{Look, AllOfRound, looks, looks_from, round_of}
use Rattle.kfifo_machine.specs.Rounds.{WinsSome, Disturbed, LooksAgain, LostRound, LosesAll}
use Rattle.kfifo_machine.proofs.Places.{in_table}
use Rattle.kfifo_machine.proofs.Schedules.{Some-injective, first_made}
use Rattle.kfifo_machine.proofs.Sound.{IsSound, sound, place_is}
use Rattle.kfifo_machine.proofs.Versions.{one_word}
use Rattle.kfifo_machine.proofs.Refusals.{own_step}
use Rattle.kfifo_machine.proofs.Causes.{all_of_round-append}
use Rattle.kfifo_machine.proofs.RoundsUndisturbed.{opens_round, Opens, words_by, Quiet, watched, watched-below}
use Rattle.kfifo_machine.proofs.RoundsUndisturbed.{still_quiet, NextQuiet, enqueue_quiet, dequeue_quiet}

-- the words after a step
exchanged_by : (words : List ℕ) (index from to i : ℕ) → index < length words
    → get_or (cond (eqb (get_or words index 0) from) (set words index to) words) i 0
    ≡ cond (eqb (get_or words index 0) from) (cond (eqb i index) to (get_or words i 0)) (get_or words i 0)
exchanged_by words index from to i h =
    elim (cases_Bool (eqb (get_or words index 0) from)) [
      | inl e ↦ elim (cases_eq i index) [
        | inl same ↦ rw e (get_or-set_at words index i to 0 same h
            ∙ sym (ap (λ (b : Bool). cond b to (get_or words i 0)) (eq-eqb i index same)))
        | inr ne ↦ rw e (get_or-set_other words index i to 0 ne ∙ apart (eqb i index) refl ne)
      ]
      | inr e ↦ rw e refl
    ]
  where
    apart : (b : Bool) → eqb i index ≡ b → (i ≡ index → ⊥)
        → ◌≡◌ {A = ℕ} (get_or words i 0) (cond b to (get_or words i 0))
    apart true is ne = absurd (ne (eqb-true i index is))
    apart false is ne = refl

after_by : (a : Access) (words : List ℕ) (i : ℕ) → accessed a < length words
    → get_or (words_after a words) i 0 ≡ words_by a (λ j. get_or words j 0) i
after_by (Load index) words i h = refl
after_by (Exchange index from to) words i h = exchanged_by words index from to i h

pub word-moved : (shape : Shape) (here : World) (thread : ℕ) (running : Running) (i : ℕ) → IsSound shape here
    → IsPlace shape running
    → word_at (moved shape here thread running) i ≡ words_by (access shape running) (word_at here) i
unfolding moved word_at
word-moved shape here thread running i sound place =
    let within : accessed (access shape running) < length here.words =
    omega (arith, in_table shape running place, sound.size) in
    after_by (access shape running) here.words i within

pub quiet_step : (shape : Shape) (here : World) (running : Running) → IsPlace shape running
    → Quiet (word_at here) running
    → moves_head running (found shape here running) ≡ false → moves_tail running (found shape here running) ≡ false
    → NextQuiet running (words_by (access shape running) (word_at here))
    (advance shape running (found shape here running))
unfolding found
quiet_step shape here (R.Enqueue item start left phase) place quiet no_head no_tail =
    enqueue_quiet shape (word_at here) item start left phase
    (word_at here (accessed (access shape (R.Enqueue item start left phase))))
    place quiet refl no_head no_tail
quiet_step shape here (R.Dequeue start left phase) place quiet no_head no_tail =
    dequeue_quiet shape (word_at here) start left phase
    (word_at here (accessed (access shape (R.Dequeue start left phase)))) place quiet
    refl no_head no_tail

pub quiet_after : (before : Running) (w v : ℕ → ℕ) (next : Next) → ((i : ℕ) → v i ≡ w i) → NextQuiet before w next
    → NextQuiet before v next
quiet_after before w v (Goes running) same quiet =
    (quiet.0, still_quiet w v running (same 0) (same (watched running)) quiet.1)
quiet_after before w v (Answers A.Busy) same quiet = quiet
quiet_after before w v (Answers A.Done) same quiet = tt
quiet_after before w v (Answers A.Full) same quiet = tt
quiet_after before w v (Answers (A.Got item)) same quiet = tt
quiet_after before w v (Answers A.Empty) same quiet = tt
quiet_after before w v (Answers A.Worn) same quiet = tt

-- Disturbances stay
disturbed_more : (shape : Shape) (thread : ℕ) (start : World) (xs ys : List Event) → Disturbed shape thread start xs
    → Disturbed shape thread start (xs ++ ys)
disturbed_more shape thread start xs ys d = record {
  before = d.before;
  event = d.event;
  after = d.after ++ ys;
  world = d.world;
  split = ap (λ (zs : List Event). zs ++ ys) d.split ∙ append_assoc d.before (d.event ∷ d.after) ys;
  reached = d.reached;
  by = d.by;
}

-- the round began with a look at the slot again
pub record BeganAgain (shape : Shape) (start : World) (past : List Event) : Type 0 where
  pub first : Event
  pub later : List Event
  pub begins : past ≡ first ∷ later
  pub looks : LooksAgain shape start first

-- why a round may be lost
abbrev pub Excused : Shape → ℕ → World → List Event → Type 0
Excused shape thread start past = Disturbed shape thread start past ⊎ BeganAgain shape start past

excused_more : (shape : Shape) (thread : ℕ) (start : World) (xs ys : List Event) → Excused shape thread start xs
    → Excused shape thread start (xs ++ ys)
excused_more shape thread start xs ys (inl disturbed) = inl (disturbed_more shape thread start xs ys disturbed)
excused_more shape thread start xs ys (inr again) = inr (record {
  first = again.first;
  later = again.later ++ ys;
  begins = ap (λ (zs : List Event). zs ++ ys) again.begins;
  looks = again.looks;
})

-- how the round stands: it may be lost, or it is quiet
abbrev pub Standing : Shape → ℕ → World → List Event → World → Running → Type 0
Standing shape thread start past here running = Excused shape thread start past ⊎ Quiet (word_at here) running

-- the thread's own step
pub own_standing : (shape : Shape) (start here next : World) (past : List Event) (e : Event) (outcome : Outcome)
    (running : Running)
    → IsSound shape here → step shape here e ≡ Ok (next, outcome) → e.begin ≡ None
    → place_of here e.thread ≡ Some running → run shape (Some start) past ≡ Some here
    → Standing shape e.thread start past here running
    → Excused shape e.thread start (past ++ e ∷ [])
    ⊎ NextQuiet running (word_at next) (advance shape running (found shape here running))
own_standing shape start here next past e outcome running sound made none at reached standing =
    let place : IsPlace shape running = place_is shape here e.thread running sound at in
    let goes : going shape (place_of here e.thread) e.begin ≡ Some running =
    ap (going shape (place_of here e.thread)) none ∙ ap (λ (p : Option Running). going shape p None) at in
    elim (cases_Bool (moves_head running (found shape here running))) [
      | inl head ↦ inl (inl (record {
        before = past;
        event = e;
        after = [];
        world = here;
        split = refl;
        reached = reached;
        by = inl (refl, record { running = running; stands = goes; moves = inl head });
      }))
      | inr no_head ↦ elim (cases_Bool (moves_tail running (found shape here running))) [
        | inl tail ↦ inl (inl (record {
          before = past;
          event = e;
          after = [];
          world = here;
          split = refl;
          reached = reached;
          by = inl (refl, record { running = running; stands = goes; moves = inr tail });
        }))
        | inr no_tail ↦ elim standing [
          | inl excused ↦ inl (excused_more shape e.thread start past (e ∷ []) excused)
          | inr quiet ↦
              let is_moved : next ≡ moved shape here e.thread running =
              (own_step shape here e next outcome running made at).0 in
              inr (quiet_after running (words_by (access shape running) (word_at here)) (word_at next)
              (advance shape running (found shape here running))
              (λ i. ap (λ (w : World). word_at w i) is_moved ∙ word-moved shape here e.thread running i sound place)
              (quiet_step shape here running place quiet no_head no_tail))
        ]
      ]
    ]

-- a word below the clock that an event changes was won
won_or_same : (shape : Shape) (here next : World) (e : Event) (outcome : Outcome) (i : ℕ) → IsSound shape here
    → step shape here e ≡ Ok (next, outcome) → i < clock_at shape.k shape.n
    → (word_at next i ≡ word_at here i) ⊎ WinsSome shape here e
won_or_same shape here next e outcome i sound made below =
    let one = one_word shape here e next outcome sound made in
    elim (cases_eq (word_at next i) (word_at here i)) [
      | inl same ↦ inl same
      | inr ne ↦ elim (one.only_so i ne) [
        | inl w ↦ inr (record { index = i; wins = inl (word_at next i, w) })
        | inr (inl t) ↦ absurd (let c = t.clock in omega arith)
        | inr (inr z) ↦ inr (record { index = i; wins = inr z })
      ]
    ]

-- an event of another thread
pub other_standing : (shape : Shape) (thread : ℕ) (start here next : World) (past : List Event) (e : Event)
    (outcome : Outcome) (running : Running) → IsSound shape here → step shape here e ≡ Ok (next, outcome)
    → thread ≢ e.thread → place_of here thread ≡ Some running → run shape (Some start) past ≡ Some here
    → Standing shape thread start past here running
    → Standing shape thread start (past ++ e ∷ []) next running
other_standing shape thread start here next past e outcome running sound made apart at reached (inl excused) =
    inl (excused_more shape thread start past (e ∷ []) excused)
other_standing shape thread start here next past e outcome running sound made apart at reached (inr quiet) =
    let wins : WinsSome shape here e → Standing shape thread start (past ++ e ∷ []) next running =
    λ w. inl (inl (record {
      before = past;
      event = e;
      after = [];
      world = here;
      split = refl;
      reached = reached;
      by = inr ((λ same. apart (sym same)), w);
    })) in
    let place : IsPlace shape running = place_is shape here thread running sound at in
    elim (won_or_same shape here next e outcome 0 sound made (omega arith)) [
      | inr w ↦ wins w
      | inl ends ↦
          elim (won_or_same shape here next e outcome (watched running) sound made
          (watched-below shape running place)) [
            | inr w ↦ wins w
            | inl slot ↦ inr (still_quiet (word_at here) (word_at next) running ends slot quiet)
          ]
    ]

-- the looks of two parts of a schedule
looks-append : (shape : Shape) (thread : ℕ) (start here : World) (xs ys : List Event)
    → run shape (Some start) xs ≡ Some here
    → looks shape thread (Some start) (xs ++ ys) ≡ looks shape thread (Some start) xs
    ++ looks shape thread (Some here) ys
looks-append shape thread start here [] ys is =
    ap (λ (w : World). looks shape thread (Some w) ys) (Some-injective start here is)
looks-append shape thread start here (e ∷ xs) ys is =
    let m = first_made shape start e here xs is in
    let next : world_of (step shape start e) ≡ Some m.0 = ap world_of m.1.1.0 in
    let head : List Look =
    cond (e.thread == thread) (looks_from shape start (going shape (place_of start e.thread) e.begin)) [] in
    ap (λ (w : Option World). head ++ looks shape thread w (xs ++ ys)) next
    ∙ ap (λ (ls : List Look). head ++ ls) (looks-append shape thread m.0 here xs ys m.1.1.1)
    ∙ ap (λ (w : Option World). head ++ (looks shape thread w xs ++ looks shape thread (Some here) ys)) (sym next)
    ∙ sym (append_assoc head (looks shape thread (world_of (step shape start e)) xs)
    (looks shape thread (Some here) ys))

-- a round so far: its first event is own, and its own steps are of this round
pub record RoundSoFar (shape : Shape) (thread round : ℕ) (start : World) (past : List Event) : Type 0 where
  pub first : Event
  pub later : List Event
  pub begins : past ≡ first ∷ later
  pub first_own : first.thread ≡ thread
  pub one_round : AllOfRound round (looks shape thread (Some start) past)

pub so_far_more : (shape : Shape) (thread round : ℕ) (start here : World) (past : List Event) (e : Event)
    → run shape (Some start) past ≡ Some here → RoundSoFar shape thread round start past
    → AllOfRound round (looks shape thread (Some here) (e ∷ [])) → RoundSoFar shape thread round start (past ++ e ∷ [])
so_far_more shape thread round start here past e reached r all = record {
  first = r.first;
  later = r.later ++ e ∷ [];
  begins = ap (λ (xs : List Event). xs ++ e ∷ []) r.begins;
  first_own = r.first_own;
  one_round = subst (AllOfRound round) (sym (looks-append shape thread start here past (e ∷ []) reached))
      (all_of_round-append round _ _ r.one_round all);
}

-- what remains of a call in the middle of a round that is lost: the rest of this round, and then the other rounds
pub record Remains (shape : Shape) (thread round : ℕ) (start : World) (past events : List Event) : Type 0 where
  pub more : List Event
  pub rest : List Event
  pub end : World
  pub split : events ≡ more ++ rest
  pub reached : run shape (Some start) (past ++ more) ≡ Some end
  pub round_lost : LostRound shape thread round start (past ++ more)
  pub others : LosesAll shape thread (round - 1) end rest

pub remains_more : (shape : Shape) (thread round : ℕ) (start : World) (past events : List Event) (e : Event)
    → Remains shape thread round start (past ++ e ∷ []) events → Remains shape thread round start past (e ∷ events)
remains_more shape thread round start past events e r =
    let shift : (past ++ e ∷ []) ++ r.more ≡ past ++ (e ∷ r.more) = append_assoc past (e ∷ []) r.more in
    record {
      more = e ∷ r.more;
      rest = r.rest;
      end = r.end;
      split = ap (λ (xs : List Event). e ∷ xs) r.split;
      reached = ap (run shape (Some start)) (sym shift) ∙ r.reached;
      round_lost = subst (LostRound shape thread round start) shift r.round_lost;
      others = r.others;
    }

pub lost_round : (shape : Shape) (thread round : ℕ) (start : World) (past : List Event) (e : Event)
    → RoundSoFar shape thread round start (past ++ e ∷ []) → e.thread ≡ thread
    → Excused shape thread start (past ++ e ∷ [])
    → LostRound shape thread round start (past ++ e ∷ [])
lost_round shape thread round start past e r mine excused = record {
  first = r.first;
  later = r.later;
  earlier = past;
  last = e;
  begins = r.begins;
  ends = refl;
  first_own = r.first_own;
  last_own = mine;
  one_round = r.one_round;
  disturbed = elim excused [
    | inl disturbed ↦ inl disturbed
    | inr again ↦ inr (let same : again.first ≡ r.first = (let h : again.first ∷ again.later ≡ r.first ∷ r.later =
        sym again.begins ∙ r.begins in cc) in subst (LooksAgain shape start) same again.looks)
  ];
}

-- others' events before a round
pub loses_later : (shape : Shape) (thread round : ℕ) (here next : World) (outcome : Outcome) (e : Event)
    (events : List Event) → 0 < round
    → thread ≢ e.thread → step shape here e ≡ Ok (next, outcome)
    → LosesAll shape thread round next events → LosesAll shape thread round here (e ∷ events)
loses_later shape thread zero here next outcome e events some apart made loses = absurd (omega arith)
loses_later shape thread (suc round) here next outcome e events some apart made l = record {
  others = e ∷ l.others;
  lost = l.lost;
  rest = l.rest;
  start = l.start;
  end = l.end;
  split = ap (λ (xs : List Event). e ∷ xs) l.split;
  not_own = none_own (e.thread == thread) refl ∙ l.not_own;
  starts = ap (λ (w : Option World). run shape w l.others) (ap world_of made) ∙ l.starts;
  round_lost = l.round_lost;
  reached = l.reached;
  then = l.then;
}
  where
    none_own : (b : Bool) → (e.thread == thread) ≡ b → cond b (e ∷ own thread l.others) (own thread l.others)
        ≡ own thread l.others
    none_own true is = absurd (apart (sym (eqb-true e.thread thread is)))
    none_own false is = refl

-- a round that begins here
pub loses_now : (shape : Shape) (thread round : ℕ) (here : World) (events : List Event) → 0 < round
    → Remains shape thread round here [] events
    → LosesAll shape thread round here events
loses_now shape thread zero here events some r = absurd (omega arith)
loses_now shape thread (suc round) here events some r =
    let less : (suc round) - 1 ≡ round = omega arith in
    record {
      others = [];
      lost = r.more;
      rest = r.rest;
      start = here;
      end = r.end;
      split = r.split;
      not_own = refl;
      starts = refl;
      round_lost = r.round_lost;
      reached = r.reached;
      then = subst (λ (m : ℕ). LosesAll shape thread m r.end r.rest) less r.others;
    }

pub open_quiet : (w : ℕ → ℕ) (running : Running) → opens_round running ≡ true → Quiet w running
open_quiet w running opens = grind arith

-- no call returns Busy with the step that opens a round
pub opens_not_busy : (shape : Shape) (running : Running) (word : ℕ) → Opens shape running
    → advance shape running word ≡ Answers A.Busy → ⊥
opens_not_busy shape running word opens is = grind (arith, nat_tests)

pub round-some : (shape : Shape) (running : Running) → IsPlace shape running → 0 < round_of running
round-some shape running place = grind arith
