-- A call that is answered Busy has lost each of its rounds.
use Rattle.std.proofs.Common.{◌≡◌, ◌≢◌, ◌⊎◌, ℕ, zero, ◌+◌, ◌-◌, ◌<◌, List, [], ◌∷◌, ◌++◌, Option, Some, None, Ok}
use Rattle.std.proofs.Common.{Bool, true, false, refl, sym, ap, ◌∙◌, subst, inl, inr, arith, cond, eqb, eq-eqb}
use Rattle.kfifo_machine.proofs.Types.{Begin, Event, Next, Outcome, Running, Shape}
use Rattle.kfifo_model.specs.declared.calls.Answer.TheVariants as A
use Rattle.kfifo_machine.specs.declared.event.Begin.TheVariants as B
use Rattle.kfifo_machine.specs.declared.event.Outcome.TheVariants.{Ended}
use Rattle.kfifo_machine.specs.declared.place.Running.TheVariants as R
use Rattle.kfifo_machine.specs.declared.place.EnqueuePhase.TheVariants as E
use Rattle.kfifo_machine.specs.declared.place.DequeuePhase.TheVariants as D
use Rattle.kfifo_machine.specs.declared.place.Next.TheVariants.{Goes, Answers}
use Rattle.kfifo_machine.specs.Program.{access, advance}
use Rattle.kfifo_machine.specs.Machine.{World, opening, word_at, place_of, place_after, moved, found, begun, step}
use Rattle.kfifo_machine.specs.Machine.{world_of, run}
use Rattle.kfifo_machine.specs.Runs.{event, own, going, AllGoOn}
use Rattle.kfifo_machine.specs.Places.{IsPlace}
use Rattle.kfifo_machine.specs.Laws.{moves_head, moves_tail}
use Rattle.kfifo_machine.specs.Causes.{AllOfRound, looks, round_of}
use Rattle.kfifo_machine.specs.Rounds.{LosesAll, turns_of, BusyHasCause}
use Rattle.kfifo_machine.proofs.Schedules.{Some-injective, run-append, run_on, first_made, made_within, stepped}
use Rattle.kfifo_machine.proofs.Schedules.{other_place}
use Rattle.kfifo_machine.proofs.Sound.{IsSound, sound, going_place, place_is, step_sound}
use Rattle.kfifo_machine.proofs.Budget.{own_place, own_first}
use Rattle.kfifo_machine.proofs.Refusals.{own_step}
use Rattle.kfifo_machine.proofs.Paths.{looks-own, looks-other, none_after, answered, begins_from, never_at_once}
use Rattle.kfifo_machine.proofs.RoundsUndisturbed.{opens_round, ends_round, Opens, opens_next, RoundNext, round_next}
use Rattle.kfifo_machine.proofs.RoundsUndisturbed.{words_by, NextQuiet}
use Rattle.kfifo_machine.proofs.LostRounds.{Excused, Remains, RoundSoFar, Standing, loses_later, loses_now, lost_round}
use Rattle.kfifo_machine.proofs.LostRounds.{open_quiet, opens_not_busy, other_standing, own_standing, quiet_after}
use Rattle.kfifo_machine.proofs.LostRounds.{quiet_step, remains_more, round-some, so_far_more, word-moved}

-- The call goes on to its last event, which answers Busy
module _ (shape : Shape) (thread : ℕ) (last : Event) (before there : World) (mine : last.thread ≡ thread)
    (ends : step shape before last ≡ Ok (there, Ended A.Busy)) where
  abbrev Between : List Event → Type 0
  Between events = (here : World) (running : Running) → IsSound shape here → place_of here thread ≡ Some running
      → Opens shape running → AllGoOn (own thread (events ++ last ∷ []))
      → run shape (Some here) events ≡ Some before → LosesAll shape thread (round_of running) here (events ++ last ∷ [])

  abbrev Within : List Event → Type 0
  Within events = (start here : World) (past : List Event) (running : Running) → IsSound shape here
      → run shape (Some start) past ≡ Some here → place_of here thread ≡ Some running
      → RoundSoFar shape thread (round_of running) start past → Standing shape thread start past here running
      → AllGoOn (own thread (events ++ last ∷ [])) → run shape (Some here) events ≡ Some before
      → Remains shape thread (round_of running) start past (events ++ last ∷ [])

  runs_to : (here : World) (events : List Event) → run shape (Some here) events ≡ Some before
      → run shape (Some here) (events ++ last ∷ []) ≡ Some there
  runs_to here events is = run-append shape (Some here) events (last ∷ [])
      ∙ ap (λ (w : Option World). run shape w (last ∷ [])) is
      ∙ ap world_of ends

  own_single : (here next : World) (outcome : Outcome) (e : Event) (running : Running) → e.thread ≡ thread
      → step shape here e ≡ Ok (next, outcome) → going shape (place_of here e.thread) e.begin ≡ Some running
      → AllOfRound (round_of running) (looks shape thread (Some here) (e ∷ []))
  own_single here next outcome e running own_is made goes =
      subst (AllOfRound (round_of running))
      (sym (looks-own shape thread here next outcome e [] running own_is made goes)) (refl, tt)

  other_single : (here next : World) (outcome : Outcome) (e : Event) (round : ℕ) → thread ≢ e.thread
      → step shape here e ≡ Ok (next, outcome) → AllOfRound round (looks shape thread (Some here) (e ∷ []))
  other_single here next outcome e round apart made =
      subst (AllOfRound round) (sym (looks-other shape thread here next outcome e [] apart made)) tt

  -- an own step in a round that has begun, with the round so far after it, and what remains
  after_own : (es : List Event) → Between es → Within es
      → (start here next_world : World) (past : List Event) (e : Event) (running : Running) → IsSound shape next_world
      → IsPlace shape running
      → run shape (Some start) (past ++ e ∷ []) ≡ Some next_world → e.thread ≡ thread
      → RoundSoFar shape thread (round_of running) start (past ++ e ∷ [])
      → (next : Next) → advance shape running (found shape here running) ≡ next
      → place_of next_world thread ≡ place_after next
      → Excused shape thread start (past ++ e ∷ []) ⊎ NextQuiet running (word_at next_world) next
      → AllGoOn (own thread (es ++ last ∷ [])) → run shape (Some next_world) es ≡ Some before
      → Remains shape thread (round_of running) start past (e ∷ (es ++ last ∷ []))
  after_own es between within start here next_world past e running safe place reached own_is so_far (Answers answer)
      goes at standing on runs =
      absurd (none_after shape next_world there thread es last safe at mine on (runs_to next_world es runs))
  after_own es between within start here next_world past e running safe place reached own_is so_far (Goes running_next)
      goes at standing on runs =
      by_open (ends_round running running_next) refl
    where
      rounds : RoundNext running (Goes running_next)
      rounds = subst (RoundNext running) goes (round_next shape running (found shape here running) place)

      by_open : (b : Bool) → ends_round running running_next ≡ b
          → Remains shape thread (round_of running) start past (e ∷ (es ++ last ∷ []))
      by_open true opens =
          let less : round_of running_next + 1 ≡ round_of running =
          subst (λ (b : Bool). cond b (round_of running_next + 1) (round_of running_next) ≡ round_of running) opens
          rounds in
          let less_one : round_of running_next ≡ round_of running - 1 = omega arith in
          let excused : Excused shape thread start (past ++ e ∷ []) =
          elim standing [ inl d ↦ d | inr q ↦ absurd (let h : true ≡ false = sym opens ∙ q.0 in cc) ] in
          record {
            more = e ∷ [];
            rest = es ++ last ∷ [];
            end = next_world;
            split = refl;
            reached = reached;
            round_lost = lost_round shape thread (round_of running) start past e so_far own_is excused;
            others = subst (λ (m : ℕ). LosesAll shape thread m next_world (es ++ last ∷ [])) less_one
                (between next_world running_next safe at
                (opens_next shape running running_next (found shape here running) goes opens) on runs);
          }
      by_open false opens =
          let same : round_of running_next ≡ round_of running =
          subst (λ (b : Bool). cond b (round_of running_next + 1) (round_of running_next) ≡ round_of running) opens
          rounds in
          let stands : Standing shape thread start (past ++ e ∷ []) next_world running_next =
          elim standing [ inl d ↦ inl d | inr q ↦ inr q.1 ] in
          remains_more shape thread (round_of running) start past (es ++ last ∷ []) e
          (subst (λ (m : ℕ). Remains shape thread m start (past ++ e ∷ []) (es ++ last ∷ [])) same
          (within start next_world (past ++ e ∷ []) running_next safe reached at
          (subst (λ (m : ℕ). RoundSoFar shape thread m start (past ++ e ∷ [])) (sym same) so_far) stands on runs))

  -- the last event, in a round that has begun
  at_last : Within []
  at_last start here past running sound reached at so_far standing on is =
      let same : here ≡ before = Some-injective here before is in
      let made : step shape here last ≡ Ok (there, Ended A.Busy) = ap (λ (w : World). step shape w last) same ∙ ends in
      let one : own thread (last ∷ []) ≡ last ∷ [] =
      ap (λ (b : Bool). cond b (last ∷ []) []) (eq-eqb last.thread thread mine) in
      let none : last.begin ≡ None = (let h : AllGoOn (last ∷ []) = subst AllGoOn one on in h.0) in
      let place_at : place_of here last.thread ≡ Some running = ap (place_of here) mine ∙ at in
      let goes : going shape (place_of here last.thread) last.begin ≡ Some running =
      ap (going shape (place_of here last.thread)) none ∙ ap (λ (p : Option Running). going shape p None) place_at in
      let place : IsPlace shape running = place_is shape here thread running sound at in
      let answers : advance shape running (found shape here running) ≡ Answers A.Busy =
      answered (advance shape running (found shape here running)) A.Busy
      (own_step shape here last there (Ended A.Busy) running made place_at).1 in
      let one_left : round_of running ≡ 1 = subst (RoundNext running) answers
      (round_next shape running (found shape here running) place) in
      let none_left : zero ≡ round_of running - 1 = omega arith in
      let stands : Excused shape last.thread start (past ++ last ∷ [])
      ⊎ NextQuiet running (word_at there) (advance shape running (found shape here running)) =
      own_standing shape start here there past last (Ended A.Busy) running sound made none place_at reached
      (subst (λ (t : ℕ). Standing shape t start past here running) (sym mine) standing) in
      let excused : Excused shape thread start (past ++ last ∷ []) =
      subst (λ (t : ℕ). Excused shape t start (past ++ last ∷ [])) mine
      (elim stands [ inl d ↦ d | inr q ↦ absurd (subst (NextQuiet running (word_at there)) answers q) ]) in
      let r : RoundSoFar shape thread (round_of running) start (past ++ last ∷ []) =
      so_far_more shape thread (round_of running) start here past last reached so_far
      (own_single here there (Ended A.Busy) last running mine made goes) in
      record {
        more = last ∷ [];
        rest = [];
        end = there;
        split = refl;
        reached = run_on shape (Some start) here past (last ∷ []) reached ∙ ap world_of made;
        round_lost = lost_round shape thread (round_of running) start past last r mine excused;
        others = subst (λ (m : ℕ). LosesAll shape thread m there []) none_left refl;
      }

  -- an event more
  within_more : (e : Event) (es : List Event) → Between es → Within es → Within (e ∷ es)
  within_more e es between within start here past running sound reached at so_far standing on is =
      let m = first_made shape here e before es is in
      let later : IsSound shape m.0 = step_sound shape here e m.0 m.1.0 sound m.1.1.0 in
      let reached_next : run shape (Some start) (past ++ e ∷ []) ≡ Some m.0 =
      run_on shape (Some start) here past (e ∷ []) reached ∙ ap world_of m.1.1.0 in
      elim (own_first thread e (es ++ last ∷ [])) [
        | inl own_is ↦
            let both : (e.begin ≡ None) × AllGoOn (own thread (es ++ last ∷ [])) = subst AllGoOn own_is.1 on in
            let place_at : place_of here e.thread ≡ Some running = ap (place_of here) own_is.0 ∙ at in
            let goes : going shape (place_of here e.thread) e.begin ≡ Some running =
            ap (going shape (place_of here e.thread)) both.0
            ∙ ap (λ (p : Option Running). going shape p None) place_at in
            let stands = own_standing shape start here m.0 past e m.1.0 running sound m.1.1.0 both.0 place_at reached
            (subst (λ (t : ℕ). Standing shape t start past here running) (sym own_is.0) standing) in
            let stands_so : Excused shape thread start (past ++ e ∷ [])
            ⊎ NextQuiet running (word_at m.0) (advance shape running (found shape here running)) =
            subst (λ (t : ℕ). Excused shape t start (past ++ e ∷ [])
            ⊎ NextQuiet running (word_at m.0) (advance shape running (found shape here running))) own_is.0 stands in
            let at_next : place_of m.0 thread ≡ place_after (advance shape running (found shape here running)) =
            ap (place_of m.0) (sym own_is.0) ∙ ap (λ (w : World). place_of w e.thread)
            (own_step shape here e m.0 m.1.0 running m.1.1.0 place_at).0
            ∙ own_place shape here e.thread running (made_within shape here e m.0 m.1.0 m.1.1.0) in
            after_own es between within start here m.0 past e running later
            (place_is shape here thread running sound at) reached_next
            own_is.0
            (so_far_more shape thread (round_of running) start here past e reached so_far
            (own_single here m.0 m.1.0 e running own_is.0 m.1.1.0 goes))
            (advance shape running (found shape here running)) refl at_next stands_so both.1 m.1.1.1
        | inr other ↦
            remains_more shape thread (round_of running) start past (es ++ last ∷ []) e
            (within start m.0 (past ++ e ∷ []) running later reached_next
            (other_place shape here e m.0 m.1.0 thread other.0 m.1.1.0 ∙ at)
            (so_far_more shape thread (round_of running) start here past e reached so_far
            (other_single here m.0 m.1.0 e (round_of running) other.0 m.1.1.0))
            (other_standing shape thread start here m.0 past e m.1.0 running sound m.1.1.0 other.0 at reached standing)
            (subst AllGoOn other.1 on) m.1.1.1)
      ]

  -- a round that begins with an own step from here
  opens_now : (e : Event) (es : List Event) → Between es → Within es
      → (here next_world : World) (outcome : Outcome) (running : Running)
      → IsSound shape next_world → IsPlace shape running → step shape here e ≡ Ok (next_world, outcome)
      → e.thread ≡ thread → going shape (place_of here e.thread) e.begin ≡ Some running
      → next_world ≡ moved shape here e.thread running
      → Opens shape running → AllGoOn (own thread (es ++ last ∷ []))
      → run shape (Some next_world) es ≡ Some before → IsSound shape here
      → LosesAll shape thread (round_of running) here (e ∷ (es ++ last ∷ []))
  opens_now e es between within here next_world outcome running safe place made own_is goes is_moved opens on runs
      sound =
      let stands : Excused shape thread here (e ∷ [])
      ⊎ NextQuiet running (word_at next_world) (advance shape running (found shape here running)) = begins opens in
      let at_next : place_of next_world thread ≡ place_after (advance shape running (found shape here running)) =
      ap (place_of next_world) (sym own_is) ∙ ap (λ (w : World). place_of w e.thread) is_moved
      ∙ own_place shape here e.thread running (made_within shape here e next_world outcome made) in
      let r : RoundSoFar shape thread (round_of running) here (e ∷ []) =
      record {
        first = e;
        later = [];
        begins = refl;
        first_own = own_is;
        one_round = own_single here next_world outcome e running own_is made goes;
      } in
      loses_now shape thread (round_of running) here (e ∷ (es ++ last ∷ [])) (round-some shape running place)
      (after_own es between within here here next_world [] e running safe place (ap world_of made) own_is r
      (advance shape running (found shape here running)) refl at_next stands on runs)
    where
      open_moves : (running : Running) (word : ℕ) → opens_round running ≡ true → (moves_head running word ≡ false)
          × (moves_tail running word ≡ false)
      open_moves running word opens = grind arith

      begins : Opens shape running → Excused shape thread here (e ∷ [])
          ⊎ NextQuiet running (word_at next_world) (advance shape running (found shape here running))
      begins (inl loads) =
          let no_moves = open_moves running (found shape here running) loads in
          inr (quiet_after running (words_by (access shape running) (word_at here)) (word_at next_world)
          (advance shape running (found shape here running))
          (λ i. ap (λ (w : World). word_at w i) is_moved ∙ word-moved shape here e.thread running i sound place)
          (quiet_step shape here running place (open_quiet (word_at here) running loads) no_moves.0 no_moves.1))
      begins (inr again) = inl (inr (record {
        first = e;
        later = [];
        begins = refl;
        looks = record { running = running; stands = goes; looks = again.0; again = again.1 };
      }))

  between_more : (e : Event) (es : List Event) → Between es → Within es → Between (e ∷ es)
  between_more e es between within here running sound at opens on is =
      let m = first_made shape here e before es is in
      let later : IsSound shape m.0 = step_sound shape here e m.0 m.1.0 sound m.1.1.0 in
      let place : IsPlace shape running = place_is shape here thread running sound at in
      elim (own_first thread e (es ++ last ∷ [])) [
        | inl own_is ↦
            let both : (e.begin ≡ None) × AllGoOn (own thread (es ++ last ∷ [])) = subst AllGoOn own_is.1 on in
            let place_at : place_of here e.thread ≡ Some running = ap (place_of here) own_is.0 ∙ at in
            let goes : going shape (place_of here e.thread) e.begin ≡ Some running =
            ap (going shape (place_of here e.thread)) both.0
            ∙ ap (λ (p : Option Running). going shape p None) place_at in
            opens_now e es between within here m.0 m.1.0 running later place m.1.1.0 own_is.0 goes
            (own_step shape here e m.0 m.1.0 running m.1.1.0 place_at).0 opens both.1 m.1.1.1 sound
        | inr other ↦
            loses_later shape thread (round_of running) here m.0 m.1.0 e (es ++ last ∷ [])
            (round-some shape running place) other.0 m.1.1.0
            (between m.0 running later (other_place shape here e m.0 m.1.0 thread other.0 m.1.1.0 ∙ at) opens
            (subst AllGoOn other.1 on)
            m.1.1.1)
      ]

  -- the last event does not open a round
  between_last : Between []
  between_last here running sound at opens on is =
      let same : here ≡ before = Some-injective here before is in
      let made : step shape here last ≡ Ok (there, Ended A.Busy) = ap (λ (w : World). step shape w last) same ∙ ends in
      let place_at : place_of here last.thread ≡ Some running = ap (place_of here) mine ∙ at in
      let answers : advance shape running (found shape here running) ≡ Answers A.Busy =
      answered (advance shape running (found shape here running)) A.Busy
      (own_step shape here last there (Ended A.Busy) running made place_at).1 in
      absurd (opens_not_busy shape running (found shape here running) opens answers)

  claims : (es : List Event) → Between es × Within es
  claims [] = (between_last, at_last)
  claims (e ∷ es) = let ih = claims es in (between_more e es ih.0 ih.1, within_more e es ih.0 ih.1)

-- a call that begins opens its first round
pub begun_open : (call : Begin) (running : Running) → begun call ≡ Some running → (opens_round running ≡ true)
    × (round_of running ≡ turns_of call)
begun_open (B.Enqueue item start turns) running is =
    let same : R.Enqueue item start turns E.LoadEnds ≡ running = Some-injective _ running is in
    (ap opens_round (sym same), ap round_of (sym same))
begun_open (B.Dequeue start turns) running is =
    let same : R.Dequeue start turns D.LoadEnds ≡ running = Some-injective _ running is in
    (ap opens_round (sym same), ap round_of (sym same))
begun_open B.Tick running is = absurd (cc)
begun_open B.Seal running is = absurd (cc)

-- the first event of the call
first_own_step : (shape : Shape) (thread : ℕ) (call : Begin) (last : Event) (before there : World)
    → last.thread ≡ thread
    → step shape before last ≡ Ok (there, Ended A.Busy)
    → (e : Event) (es : List Event) (here next : World) (outcome : Outcome) → IsSound shape here → IsSound shape next
    → e.thread ≡ thread
    → e.begin ≡ Some call → step shape here e ≡ Ok (next, outcome)
    → AllGoOn (own thread (es ++ last ∷ [])) → run shape (Some next) es ≡ Some before → (0 < turns_of call)
    × LosesAll shape thread (turns_of call) here (e ∷ (es ++ last ∷ []))
first_own_step shape thread call last before there mine ends e es here next outcome sound safe own_is begins made on
    runs =
    elim (stepped shape here e next outcome made) [
      | inl s ↦
          let is_begun : begun call ≡ Some s.running =
          begins_from shape (place_of here e.thread) call s.running
          (ap (going shape (place_of here e.thread)) (sym begins) ∙ s.goes) in
          let opens = begun_open call s.running is_begun in
          let place : IsPlace shape s.running = going_place shape (place_of here e.thread) e.begin s.running
          (λ r at. place_is shape here e.thread r sound at) s.goes in
          let some : 0 < round_of s.running = round-some shape s.running place in
          let both = claims shape thread last before there mine ends es in (
            let same = opens.1 in omega arith,
            subst (λ (m : ℕ). LosesAll shape thread m here (e ∷ (es ++ last ∷ []))) opens.1
                (opens_now shape thread last before there mine ends e es both.0 both.1 here next outcome s.running safe
                place made own_is
                s.goes s.there_is (inl opens.0) on runs sound),
          )
      | inr t ↦
          let idle : place_of next thread ≡ None =
          ap (place_of next) (sym own_is) ∙ t.leaves e.thread ∙ t.idle in
          absurd (none_after shape next there thread es last safe idle mine on
          (run-append shape (Some next) es (last ∷ []) ∙ ap (λ (w : Option World). run shape w (last ∷ [])) runs
          ∙ ap world_of ends))
    ]

loses_from : (shape : Shape) (here before there : World) (thread : ℕ) (call : Begin) (between others : List Event)
    (last : Event)
    → IsSound shape here → last.thread ≡ thread
    → step shape before last ≡ Ok (there, Ended A.Busy) → own thread (between ++ last ∷ []) ≡ event thread (Some call)
    ∷ others
    → AllGoOn others → run shape (Some here) between ≡ Some before
    → (0 < turns_of call) × LosesAll shape thread (turns_of call) here (between ++ last ∷ [])
loses_from shape here before there thread call [] others last sound mine ends first on is =
    let same : here ≡ before = Some-injective here before is in
    let made : step shape here last ≡ Ok (there, Ended A.Busy) = ap (λ (w : World). step shape w last) same ∙ ends in
    let one : own thread (last ∷ []) ≡ last ∷ [] =
    ap (λ (b : Bool). cond b (last ∷ []) []) (eq-eqb last.thread thread mine) in
    let both : last ∷ [] ≡ event thread (Some call) ∷ others = sym one ∙ first in
    let begins : last.begin ≡ Some call =
    (let h : last ≡ event thread (Some call) = cc in ap (λ (x : Event). x.begin) h) in
    absurd (never_at_once shape here last there A.Busy call made begins)
loses_from shape here before there thread call (e ∷ es) others last sound mine ends first on is =
    let m = first_made shape here e before es is in
    let later : IsSound shape m.0 = step_sound shape here e m.0 m.1.0 sound m.1.1.0 in
    elim (own_first thread e (es ++ last ∷ [])) [
      | inl own_is ↦
          let both : e ∷ own thread (es ++ last ∷ []) ≡ event thread (Some call) ∷ others = sym own_is.1 ∙ first in
          let begins : e.begin ≡ Some call =
          (let h : e ≡ event thread (Some call) = cc in ap (λ (x : Event). x.begin) h) in
          let rest : own thread (es ++ last ∷ []) ≡ others = cc in
          first_own_step shape thread call last before there mine ends e es here m.0 m.1.0 sound later own_is.0 begins
          m.1.1.0
          (subst AllGoOn (sym rest) on) m.1.1.1
      | inr other ↦
          let next = loses_from shape m.0 before there thread call es others last later mine ends (sym other.1 ∙ first)
          on m.1.1.1 in (
            next.0,
            loses_later shape thread (turns_of call) here m.0 m.1.0 e (es ++ last ∷ []) next.0 other.0 m.1.1.0
                next.1,
          )
    ]

-- Busy has its cause
pub busy_has_cause : (shape : Shape) (threads : ℕ) → BusyHasCause shape threads
busy_has_cause shape threads = λ thread call old new whole here is.
    let runs : run shape (Some here) whole.between ≡ Some whole.before =
    sym (run_on shape (Some (opening shape threads)) here old whole.between is) ∙ whole.reached in
    (loses_from shape here whole.before whole.world thread call whole.between whole.one_call.others whole.last
    (sound shape threads old here is) whole.last_own whole.ends whole.one_call.first whole.one_call.go_on runs).1
