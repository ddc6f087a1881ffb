-- A call of n + 2 rounds is answered Busy only where another thread won an exchange.
use Rattle.std.proofs.Common.{◌≡◌, ◌≢◌, ◌⊎◌, ℕ, ◌+◌, ◌≤◌, List, [], ◌∷◌, ◌++◌, get_or, Option, Some, None, Ok, Bool}
use Rattle.std.proofs.Common.{refl, sym, ap, ◌∙◌, subst, inl, inr, arith, cond, eqb, eqb-true, eq-eqb}
use Rattle.std.proofs.lemmas.Bool.{cases_Bool}
use Rattle.kfifo_machine.proofs.Types.{Access, Begin, Event, Next, Outcome, Running, Shape}
use Rattle.kfifo_model.specs.declared.calls.Answer.TheVariants as A
use Rattle.kfifo_machine.specs.declared.event.Outcome.TheVariants.{Ended}
use Rattle.kfifo_machine.specs.declared.place.Access.TheVariants.{Load, Exchange}
use Rattle.kfifo_machine.specs.declared.place.Next.TheVariants.{Goes, Answers}
use Rattle.kfifo_machine.specs.Program.{access, accessed, advance}
use Rattle.kfifo_machine.specs.Machine.{World, opening, word_at, place_of, place_after, words_after, moved, found}
use Rattle.kfifo_machine.specs.Machine.{begun, step, world_of, run}
use Rattle.kfifo_machine.specs.Runs.{event, own, going, AllGoOn}
use Rattle.kfifo_machine.specs.Places.{IsEnds, IsPlace}
use Rattle.kfifo_machine.specs.Causes.{round_of}
use Rattle.kfifo_machine.specs.Rounds.{WinsSome, OtherWins, turns_of, BusyIsDisturbed}
use Rattle.kfifo_machine.proofs.Schedules.{Some-injective, run-append, run_on, first_made, made_within, stepped}
use Rattle.kfifo_machine.proofs.Schedules.{other_place, own-append}
use Rattle.kfifo_machine.proofs.Sound.{IsSound, sound, going_place, place_is, step_sound}
use Rattle.kfifo_machine.proofs.Versions.{ticked-other}
use Rattle.kfifo_machine.proofs.Budget.{own_place, own_first}
use Rattle.kfifo_machine.proofs.Refusals.{own_step}
use Rattle.kfifo_machine.proofs.Paths.{none_after, answered, begins_from, begun_goes, never_at_once}
use Rattle.kfifo_machine.proofs.RoundsUndisturbed.{words_by}
use Rattle.kfifo_machine.proofs.Losses.{begun_open}
use Rattle.kfifo_machine.proofs.LostRounds.{word-moved}
use Rattle.kfifo_machine.proofs.EndsUndisturbed.{Alone, NextAlone, SameBelow, alone_on, alone_same, begun_alone}

-- an access leaves the words, or is an exchange that is won
access_wins : (a : Access) (words : List ℕ) → (words_after a words ≡ words)
    ⊎ ((index : ℕ) × ((to : ℕ) × (a ≡ Exchange index (get_or words index 0) to)))
access_wins (Load index) words = inl refl
access_wins (Exchange index from to) words =
    elim (cases_Bool (eqb (get_or words index 0) from)) [
      | inl e ↦ inr (index, (to, ap (λ (f : ℕ). Exchange index f to) (sym (eqb-true (get_or words index 0) from e))))
      | inr e ↦ inl (rw e refl)
    ]

moved_wins : (shape : Shape) (here : World) (thread : ℕ) (running : Running)
    → ((i : ℕ) → word_at (moved shape here thread running) i ≡ word_at here i)
    ⊎ ((index : ℕ) × ((to : ℕ) × (access shape running ≡ Exchange index (word_at here index) to)))
unfolding moved word_at
moved_wins shape here thread running =
    elim (access_wins (access shape running) here.words) [
      | inl same ↦
          inl (λ i. ap (λ (ws : List ℕ). get_or ws i 0) same)
      | inr k ↦ inr k
    ]

-- an event wins an exchange, or leaves the ends and the slots
won_or_same : (shape : Shape) (here next : World) (e : Event) (outcome : Outcome)
    → step shape here e ≡ Ok (next, outcome)
    → SameBelow shape (word_at here) (word_at next) ⊎ WinsSome shape here e
won_or_same shape here next e outcome made =
    elim (stepped shape here e next outcome made) [
      | inl s ↦ elim (moved_wins shape here e.thread s.running) [
        | inl same ↦ inl (λ i below. ap (λ (w : World). word_at w i) s.there_is ∙ same i)
        | inr k ↦ inr (record {
          index = k.0;
          wins = inl (
            k.1.0,
            record {
              running = s.running;
              stands = s.goes;
              exchange = k.1.1;
            },
          );
        })
      ]
      | inr o ↦ elim o.by [
        | inl t ↦ inl (λ i below. ap (λ (w : World). word_at w i) t.there_is ∙ ticked-other shape here i
            (λ same. absurd (omega arith)))
        | inr z ↦ inr (record { index = 0; wins = inr (record { begins = z.begins; ends = refl }) })
      ]
    ]

-- among these events another thread wins an exchange, before the last own one
pub record WinsLater (shape : Shape) (thread : ℕ) (here : World) (events : List Event) : Type 0 where
  pub before : List Event
  pub event : Event
  pub after : List Event
  pub world : World
  pub split : events ≡ before ++ event ∷ after
  pub reached : run shape (Some here) before ≡ Some world
  pub ends_after : own thread after ≢ []
  pub other : event.thread ≢ thread
  pub wins : WinsSome shape world event

later_more : (shape : Shape) (thread : ℕ) (here next : World) (outcome : Outcome) (e : Event) (events : List Event)
    → step shape here e ≡ Ok (next, outcome) → WinsLater shape thread next events
    → WinsLater shape thread here (e ∷ events)
later_more shape thread here next outcome e events made w = record {
  before = e ∷ w.before;
  event = w.event;
  after = w.after;
  world = w.world;
  split = ap (λ (xs : List Event). e ∷ xs) w.split;
  reached = ap (λ (o : Option World). run shape o w.before) (ap world_of made) ∙ w.reached;
  ends_after = w.ends_after;
  other = w.other;
  wins = w.wins;
}

pub own_single : (thread : ℕ) (last : Event) → last.thread ≡ thread → own thread (last ∷ []) ≡ last ∷ []
own_single thread last mine = ap (λ (b : Bool). cond b (last ∷ []) []) (eq-eqb last.thread thread mine)

own_ends : (thread : ℕ) (es : List Event) (last : Event) → last.thread ≡ thread → own thread (es ++ last ∷ []) ≢ []
own_ends thread es last mine none =
    never (own thread es) (sym (own-append thread es (last ∷ [])
    ∙ ap (λ (xs : List Event). own thread es ++ xs) (own_single thread last mine)) ∙ none)
  where
    never : (xs : List Event) → xs ++ last ∷ [] ≡ [] → ⊥
    never [] is = cc
    never (x ∷ xs) is = cc

pub sound-ends : (shape : Shape) (here : World) → IsSound shape here → IsEnds shape (word_at here 0)
unfolding word_at
sound-ends shape here sound = sound.ends

pub found-is : (shape : Shape) (here : World) (running : Running)
    → found shape here running ≡ word_at here (accessed (access shape running))
unfolding found
found-is shape here running = refl

next_same : (shape : Shape) (w v : ℕ → ℕ) (next : Next) → SameBelow shape w v → IsEnds shape (w 0)
    → ((running : Running) → next ≡ Goes running → IsPlace shape running) → NextAlone shape w next
    → NextAlone shape v next
next_same shape w v (Goes running) same e place alone = alone_same shape w v running same e (place running refl) alone
next_same shape w v (Answers A.Busy) same e place alone = alone
next_same shape w v (Answers A.Done) same e place alone = tt
next_same shape w v (Answers A.Full) same e place alone = tt
next_same shape w v (Answers (A.Got item)) same e place alone = tt
next_same shape w v (Answers A.Empty) same e place alone = tt
next_same shape w v (Answers A.Worn) same e place alone = tt

-- after an own step
own_alone : (shape : Shape) (here next : World) (thread : ℕ) (running : Running) → IsSound shape here
    → IsSound shape next
    → IsPlace shape running → next ≡ moved shape here thread running
    → place_of next thread ≡ place_after (advance shape running (found shape here running))
    → Alone shape (word_at here) running
    → NextAlone shape (word_at next) (advance shape running (found shape here running))
own_alone shape here next thread running safe later place is at alone =
    let same : (i : ℕ) → word_at next i ≡ words_by (access shape running) (word_at here) i =
    λ i. ap (λ (w : World). word_at w i) is ∙ word-moved shape here thread running i safe place in
    let ends : IsEnds shape (words_by (access shape running) (word_at here) 0) =
    subst (IsEnds shape) (same 0) (sound-ends shape next later) in
    next_same shape (words_by (access shape running) (word_at here)) (word_at next)
    (advance shape running (found shape here running))
    (λ i below. same i) ends
    (λ r goes. place_is shape next thread r later (at ∙ ap place_after goes))
    (alone_on shape (word_at here) running (found shape here running) place alone (found-is shape here running))

-- inside a call that nobody has disturbed so far
alone_run : (shape : Shape) (thread : ℕ) (last : Event) (before there : World) → last.thread ≡ thread
    → step shape before last ≡ Ok (there, Ended A.Busy)
    → (es : List Event) (here : World) (running : Running) → IsSound shape here → place_of here thread ≡ Some running
    → Alone shape (word_at here) running → AllGoOn (own thread (es ++ last ∷ []))
    → run shape (Some here) es ≡ Some before → WinsLater shape thread here (es ++ last ∷ [])
alone_run shape thread last before there mine ends [] here running sound at alone on is =
    let same : here ≡ before = Some-injective here before is in
    let made : step shape here last ≡ Ok (there, Ended A.Busy) = ap (λ (w : World). step shape w last) same ∙ ends in
    let place_at : place_of here last.thread ≡ Some running = ap (place_of here) mine ∙ at in
    let both = own_step shape here last there (Ended A.Busy) running made place_at in
    let at_next : place_of there last.thread ≡ place_after (advance shape running (found shape here running)) =
    ap (λ (w : World). place_of w last.thread) both.0
    ∙ own_place shape here last.thread running (made_within shape here last there (Ended A.Busy) made) in
    let next : NextAlone shape (word_at there) (advance shape running (found shape here running)) =
    own_alone shape here there last.thread running sound (step_sound shape here last there (Ended A.Busy) sound made)
    (place_is shape here thread running sound at) both.0 at_next alone in
    absurd (subst (NextAlone shape (word_at there)) (answered (advance shape running (found shape here running)) A.Busy
    both.1) next)
alone_run shape thread last before there mine ends (e ∷ es) here running sound at alone on is =
    let m = first_made shape here e before es is in
    let later : IsSound shape m.0 = step_sound shape here e m.0 m.1.0 sound m.1.1.0 in
    let place : IsPlace shape running = place_is shape here thread running sound at in
    elim (own_first thread e (es ++ last ∷ [])) [
      | inl own_is ↦
          let both : (e.begin ≡ None) × AllGoOn (own thread (es ++ last ∷ [])) = subst AllGoOn own_is.1 on in
          let place_at : place_of here e.thread ≡ Some running = ap (place_of here) own_is.0 ∙ at in
          let is_moved : m.0 ≡ moved shape here e.thread running =
          (own_step shape here e m.0 m.1.0 running m.1.1.0 place_at).0 in
          let at_next : place_of m.0 e.thread ≡ place_after (advance shape running (found shape here running)) =
          ap (λ (w : World). place_of w e.thread) is_moved
          ∙ own_place shape here e.thread running (made_within shape here e m.0 m.1.0 m.1.1.0) in
          let next : NextAlone shape (word_at m.0) (advance shape running (found shape here running)) =
          own_alone shape here m.0 e.thread running sound later place is_moved at_next alone in
          later_more shape thread here m.0 m.1.0 e (es ++ last ∷ []) m.1.1.0
          (by_next m.0 later both.1 m.1.1.1 (λ r at_r alone_r.
          alone_run shape thread last before there mine ends es m.0 r later at_r alone_r both.1 m.1.1.1)
          (advance shape running (found shape here running)) (ap (place_of m.0) (sym own_is.0) ∙ at_next) next)
      | inr other ↦ elim (won_or_same shape here m.0 e m.1.0 m.1.1.0) [
        | inl same ↦ later_more shape thread here m.0 m.1.0 e (es ++ last ∷ []) m.1.1.0
            (alone_run shape thread last before there mine ends es m.0 running later
            (other_place shape here e m.0 m.1.0 thread other.0 m.1.1.0 ∙ at)
            (alone_same shape (word_at here) (word_at m.0) running same (sound-ends shape here sound) place alone)
            (subst AllGoOn other.1 on) m.1.1.1)
        | inr wins ↦ record {
          before = [];
          event = e;
          after = es ++ last ∷ [];
          world = here;
          split = refl;
          reached = refl;
          ends_after = own_ends thread es last mine;
          other = λ same. other.0 (sym same);
          wins = wins;
        }
      ]
    ]
  where
    by_next : (next_world : World) → IsSound shape next_world → AllGoOn (own thread (es ++ last ∷ []))
        → run shape (Some next_world) es ≡ Some before
        → ((r : Running) → place_of next_world thread ≡ Some r → Alone shape (word_at next_world) r
        → WinsLater shape thread next_world (es ++ last ∷ []))
        → (next : Next) → place_of next_world thread ≡ place_after next → NextAlone shape (word_at next_world) next
        → WinsLater shape thread next_world (es ++ last ∷ [])
    by_next next_world safe goes_on runs others (Goes r) at_next so = others r at_next so
    by_next next_world safe goes_on runs others (Answers answer) at_next so =
        absurd (none_after shape next_world there thread es last safe at_next mine goes_on
        (run-append shape (Some next_world) es (last ∷ []) ∙ ap (λ (w : Option World). run shape w (last ∷ [])) runs
        ∙ ap world_of ends))

own_cons : (thread : ℕ) (e : Event) (es : List Event) → e.thread ≡ thread → own thread (e ∷ es) ≡ e ∷ own thread es
own_cons thread e es mine = ap (λ (b : Bool). cond b (e ∷ own thread es) (own thread es)) (eq-eqb e.thread thread mine)

not_empty : (e : Event) (es xs : List Event) → xs ≡ e ∷ es → xs ≢ []
not_empty e es xs is none = let h : e ∷ es ≡ [] = sym is ∙ none in cc

-- from the first event of the call
first_alone : (shape : Shape) (thread : ℕ) (call : Begin) (last : Event) (before there : World) → last.thread ≡ thread
    → step shape before last ≡ Ok (there, Ended A.Busy)
    → (e : Event) (es : List Event) (here next : World) (outcome : Outcome) → IsSound shape here → IsSound shape next
    → e.thread ≡ thread
    → e.begin ≡ Some call → step shape here e ≡ Ok (next, outcome)
    → AllGoOn (own thread (es ++ last ∷ [])) → run shape (Some next) es ≡ Some before → shape.n + 2 ≤ turns_of call
    → WinsLater shape thread next (es ++ last ∷ [])
first_alone shape thread call last before there mine ends e es here next outcome sound safe own_is begins made on runs
    many =
    elim (stepped shape here e next outcome made) [
      | inl s ↦
          let is_begun : begun call ≡ Some s.running =
          begins_from shape (place_of here e.thread) call s.running
          (ap (going shape (place_of here e.thread)) (sym begins) ∙ s.goes) in
          let opens = begun_open call s.running is_begun in
          let enough : shape.n + 2 ≤ round_of s.running = (let rounds = opens.1 in omega arith) in
          let place : IsPlace shape s.running = going_place shape (place_of here e.thread) e.begin s.running
          (λ r at. place_is shape here e.thread r sound at) s.goes in
          let alone : Alone shape (word_at here) s.running =
          begun_alone shape (word_at here) s.running (sound-ends shape here sound) opens.0 enough in
          let goes = begun_goes shape call s.running (found shape here s.running) is_begun
          (advance shape s.running (found shape here s.running)) refl in
          let at_next : place_of next e.thread ≡ place_after (advance shape s.running (found shape here s.running)) =
          ap (λ (w : World). place_of w e.thread) s.there_is
          ∙ own_place shape here e.thread s.running (made_within shape here e next outcome made) in
          let so : NextAlone shape (word_at next) (Goes goes.0) =
          subst (NextAlone shape (word_at next)) goes.1
          (own_alone shape here next e.thread s.running sound safe place s.there_is at_next alone) in
          alone_run shape thread last before there mine ends es next goes.0 safe
          (ap (place_of next) (sym own_is) ∙ at_next ∙ ap place_after goes.1) so on runs
      | inr t ↦
          let idle : place_of next thread ≡ None =
          ap (place_of next) (sym own_is) ∙ t.leaves e.thread ∙ t.idle in
          absurd (none_after shape next there thread es last safe idle mine on
          (run-append shape (Some next) es (last ∷ []) ∙ ap (λ (w : Option World). run shape w (last ∷ [])) runs
          ∙ ap world_of ends))
    ]

disturbed_from : (shape : Shape) (here before there : World) (thread : ℕ) (call : Begin) (between others : List Event)
    (last : Event)
    → IsSound shape here → last.thread ≡ thread
    → step shape before last ≡ Ok (there, Ended A.Busy) → own thread (between ++ last ∷ []) ≡ event thread (Some call)
    ∷ others
    → AllGoOn others → run shape (Some here) between ≡ Some before
    → shape.n + 2 ≤ turns_of call → OtherWins shape thread here (between ++ last ∷ [])
disturbed_from shape here before there thread call [] others last sound mine ends first on is many =
    let same : here ≡ before = Some-injective here before is in
    let made : step shape here last ≡ Ok (there, Ended A.Busy) = ap (λ (w : World). step shape w last) same ∙ ends in
    let both : last ∷ [] ≡ event thread (Some call) ∷ others = sym (own_single thread last mine) ∙ first in
    let begins : last.begin ≡ Some call =
    (let h : last ≡ event thread (Some call) = cc in ap (λ (x : Event). x.begin) h) in
    absurd (never_at_once shape here last there A.Busy call made begins)
disturbed_from shape here before there thread call (e ∷ es) others last sound mine ends first on is many =
    let m = first_made shape here e before es is in
    let later : IsSound shape m.0 = step_sound shape here e m.0 m.1.0 sound m.1.1.0 in
    elim (own_first thread e (es ++ last ∷ [])) [
      | inl own_is ↦
          let both : e ∷ own thread (es ++ last ∷ []) ≡ event thread (Some call) ∷ others = sym own_is.1 ∙ first in
          let begins : e.begin ≡ Some call =
          (let h : e ≡ event thread (Some call) = cc in ap (λ (x : Event). x.begin) h) in
          let rest : own thread (es ++ last ∷ []) ≡ others = cc in
          let w : WinsLater shape thread m.0 (es ++ last ∷ []) =
          first_alone shape thread call last before there mine ends e es here m.0 m.1.0 sound later own_is.0 begins
          m.1.1.0
          (subst AllGoOn (sym rest) on) m.1.1.1 many in
          let all : WinsLater shape thread here (e ∷ (es ++ last ∷ [])) =
          later_more shape thread here m.0 m.1.0 e (es ++ last ∷ []) m.1.1.0 w in
          record {
            before = e ∷ w.before;
            event = w.event;
            after = w.after;
            world = w.world;
            split = ap (λ (xs : List Event). e ∷ xs) w.split;
            reached = ap (λ (o : Option World). run shape o w.before) (ap world_of m.1.1.0) ∙ w.reached;
            begun_before = not_empty e (own thread w.before) (own thread (e ∷ w.before))
                (own_cons thread e w.before own_is.0);
            ends_after = w.ends_after;
            other = w.other;
            wins = w.wins;
          }
      | inr other ↦
          let w : OtherWins shape thread m.0 (es ++ last ∷ []) =
          disturbed_from shape m.0 before there thread call es others last later mine ends (sym other.1 ∙ first) on
          m.1.1.1 many in
          record {
            before = e ∷ w.before;
            event = w.event;
            after = w.after;
            world = w.world;
            split = ap (λ (xs : List Event). e ∷ xs) w.split;
            reached = ap (λ (o : Option World). run shape o w.before) (ap world_of m.1.1.0) ∙ w.reached;
            begun_before = λ none. w.begun_before (skipped w.before (own_first thread e w.before) other.0 none);
            ends_after = w.ends_after;
            other = w.other;
            wins = w.wins;
          }
    ]
  where
    skipped : (xs : List Event) → ((e.thread ≡ thread) × (own thread (e ∷ xs) ≡ e ∷ own thread xs))
        ⊎ ((thread ≢ e.thread) × (own thread (e ∷ xs) ≡ own thread xs)) → thread ≢ e.thread → own thread (e ∷ xs) ≡ []
        → own thread xs ≡ []
    skipped xs (inl k) apart none = absurd (apart (sym k.0))
    skipped xs (inr k) apart none = sym k.1 ∙ none

-- Busy after n + 2 rounds is another's doing
pub busy_is_disturbed : (shape : Shape) (threads : ℕ) → BusyIsDisturbed shape threads
busy_is_disturbed shape threads = λ thread call old new whole here is many.
    let runs : run shape (Some here) whole.between ≡ Some whole.before =
    sym (run_on shape (Some (opening shape threads)) here old whole.between is) ∙ whole.reached in
    disturbed_from shape here whole.before whole.world thread call whole.between whole.one_call.others whole.last
    (sound shape threads old here is) whole.last_own whole.ends whole.one_call.first whole.one_call.go_on runs many
