-- The own steps of a complete execution are a path through the program of its call.
use Rattle.std.proofs.Common.{◌≡◌, ◌≢◌, ℕ, ◌+◌, ◌≤◌, List, [], ◌∷◌, ◌++◌, length, Option, Some, None, Ok, Bool, true}
use Rattle.std.proofs.Common.{false, refl, sym, ap, ◌∙◌, subst, inl, inr, arith, cond, eq-eqb, eqb-true, length-append}
use Rattle.std.specs.Prelude.{◌==◌}
use Rattle.std.proofs.lemmas.List.{append_assoc}
use Rattle.kfifo_machine.proofs.Types.{Answer, Begin, Event, Next, Outcome, Running, Shape}
use Rattle.kfifo_machine.specs.declared.event.Outcome.TheVariants.{Went, Ended}
use Rattle.kfifo_machine.specs.declared.place.Next.TheVariants.{Goes, Answers}
use Rattle.kfifo_machine.specs.Program.{advance}
use Rattle.kfifo_machine.specs.Machine.{World, opening, place_of, place_after, outcome_of, found, begun, may_begin}
use Rattle.kfifo_machine.specs.Machine.{step, world_of, run}
use Rattle.kfifo_machine.specs.Runs.{event, own, going, AllGoOn, CompleteExecution}
use Rattle.kfifo_machine.specs.Causes.{Look, looks_from, looks, looks_of}
use Rattle.kfifo_machine.proofs.Schedules.{Some-injective, run_before, run-append, first_made, made_within, stepped}
use Rattle.kfifo_machine.proofs.Schedules.{other_place, own-append}
use Rattle.kfifo_machine.proofs.Sound.{IsSound, sound, step_sound}
use Rattle.kfifo_machine.proofs.Budget.{left_of, own_place, own_first, few_left}
use Rattle.kfifo_machine.proofs.Refusals.{own_step}
use Rattle.kfifo_machine.proofs.Calls.{first_goes, may_begun}

-- looks, each from the place to which the one before led, the last of which answers
abbrev pub IsPath : Shape → Running → List Look → Answer → Type 0
IsPath shape running [] answer = ⊥
IsPath shape running (look ∷ []) answer = (look.running ≡ running) × (advance shape running look.word ≡ Answers answer)
IsPath shape running (look ∷ (next ∷ looks)) answer = (look.running ≡ running)
    × (advance shape running look.word ≡ Goes next.running)
    × IsPath shape next.running (next ∷ looks) answer

abbrev pub look_of : Shape → World → Running → Look
look_of shape here running = record { running = running; word = found shape here running }

goes_to : (shape : Shape) (look next : Look) (running place : Running) (looks : List Look) (answer : Answer)
    → look.running ≡ running
    → advance shape running look.word ≡ Goes place
    → place ≡ next.running → IsPath shape place (next ∷ looks) answer
    → IsPath shape running (look ∷ (next ∷ looks)) answer
goes_to shape look next running place looks answer from goes same path =
    (from, goes ∙ ap Goes same, subst (λ (r : Running). IsPath shape r (next ∷ looks) answer) same path)

starts_at : (shape : Shape) (place : Running) (next : Look) (looks : List Look) (answer : Answer)
    → IsPath shape place (next ∷ looks) answer
    → place ≡ next.running
starts_at shape place next [] answer path = sym path.0
starts_at shape place next (x ∷ xs) answer path = sym path.0

pub path-cons : (shape : Shape) (look : Look) (running place : Running) (looks : List Look) (answer : Answer)
    → look.running ≡ running
    → advance shape running look.word ≡ Goes place
    → IsPath shape place looks answer → IsPath shape running (look ∷ looks) answer
path-cons shape look running place [] answer from goes path = absurd path
path-cons shape look running place (next ∷ looks) answer from goes path =
    goes_to shape look next running place looks answer from goes (starts_at shape place next looks answer path) path

-- the looks of a schedule that begins with an own event, and with another's
pub looks-own : (shape : Shape) (thread : ℕ) (here next : World) (outcome : Outcome) (e : Event) (es : List Event)
    (running : Running)
    → e.thread ≡ thread → step shape here e ≡ Ok (next, outcome)
    → going shape (place_of here e.thread) e.begin ≡ Some running
    → looks shape thread (Some here) (e ∷ es) ≡ look_of shape here running ∷ looks shape thread (Some next) es
looks-own shape thread here next outcome e es running mine made goes =
    ap (λ (b : Bool). cond b (looks_from shape here (going shape (place_of here e.thread) e.begin)) []
    ++ looks shape thread (world_of (step shape here e)) es) (eq-eqb e.thread thread mine)
    ∙ ap (λ (p : Option Running). looks_from shape here p ++ looks shape thread (world_of (step shape here e)) es) goes
    ∙ ap (λ (w : Option World). look_of shape here running ∷ looks shape thread w es) (ap world_of made)

pub looks-other : (shape : Shape) (thread : ℕ) (here next : World) (outcome : Outcome) (e : Event) (es : List Event)
    → thread ≢ e.thread
    → step shape here e ≡ Ok (next, outcome)
    → looks shape thread (Some here) (e ∷ es) ≡ looks shape thread (Some next) es
looks-other shape thread here next outcome e es apart made =
    by_test (e.thread == thread) refl ∙ ap (λ (w : Option World). looks shape thread w es) (ap world_of made)
  where
    by_test : (b : Bool) → (e.thread == thread) ≡ b
        → cond b (looks_from shape here (going shape (place_of here e.thread) e.begin)) []
        ++ looks shape thread (world_of (step shape here e)) es ≡ looks shape thread (world_of (step shape here e)) es
    by_test true is = absurd (apart (sym (eqb-true e.thread thread is)))
    by_test false is = refl

pub answered : (next : Next) (answer : Answer) → Ended answer ≡ outcome_of next → next ≡ Answers answer
answered (Goes running) answer is = cc
answered (Answers a) answer is = let h : answer ≡ a = cc in ap Answers (sym h)

-- a thread that is in no call makes no event that goes on
pub none_after : (shape : Shape) (here there : World) (thread : ℕ) (es : List Event) (last : Event) → IsSound shape here
    → place_of here thread ≡ None → last.thread ≡ thread
    → AllGoOn (own thread (es ++ last ∷ [])) → run shape (Some here) (es ++ last ∷ []) ≡ Some there → ⊥
none_after shape here there thread es last sound idle mine on is =
    let few : length (own thread (es ++ last ∷ [])) ≤ left_of shape.k (place_of here thread) =
    few_left shape here there thread (es ++ last ∷ []) sound on is in
    let none : left_of shape.k (place_of here thread) ≡ 0 = ap (left_of shape.k) idle in
    let parts : own thread (es ++ last ∷ []) ≡ own thread es ++ own thread (last ∷ []) =
    own-append thread es (last ∷ []) in
    let one : own thread (last ∷ []) ≡ last ∷ [] =
    ap (λ (b : Bool). cond b (last ∷ []) []) (eq-eqb last.thread thread mine) in
    let size : length (own thread (es ++ last ∷ [])) ≡ length (own thread es) + length (last ∷ []) =
    ap length parts ∙ length-append (own thread es) (own thread (last ∷ []))
    ∙ ap (λ (xs : List Event). length (own thread es) + length xs) one in
    absurd (omega arith)

-- from inside a call
path_on : (shape : Shape) (here there : World) (thread : ℕ) (between : List Event) (last : Event) (before : World)
    (answer : Answer) (running : Running) → IsSound shape here → place_of here thread ≡ Some running
    → last.thread ≡ thread → AllGoOn (own thread (between ++ last ∷ [])) → run shape (Some here) between ≡ Some before
    → step shape before last ≡ Ok (there, Ended answer)
    → IsPath shape running (looks shape thread (Some here) (between ++ last ∷ [])) answer
path_on shape here there thread [] last before answer running sound at mine on is ends =
    let same : here ≡ before = Some-injective here before is in
    let made : step shape here last ≡ Ok (there, Ended answer) = ap (λ (w : World). step shape w last) same ∙ ends in
    let one : own thread (last ∷ []) ≡ last ∷ [] =
    ap (λ (b : Bool). cond b (last ∷ []) []) (eq-eqb last.thread thread mine) in
    let none : last.begin ≡ None = (let h : AllGoOn (last ∷ []) = subst AllGoOn one on in h.0) in
    let place : place_of here last.thread ≡ Some running = ap (place_of here) mine ∙ at in
    let goes : going shape (place_of here last.thread) last.begin ≡ Some running =
    ap (going shape (place_of here last.thread)) none ∙ ap (λ (p : Option Running). going shape p None) place in
    let both = own_step shape here last there (Ended answer) running made place in
    subst (λ (xs : List Look). IsPath shape running xs answer)
    (sym (looks-own shape thread here there (Ended answer) last [] running mine made goes))
    (refl, answered (advance shape running (found shape here running)) answer both.1)
path_on shape here there thread (e ∷ es) last before answer running sound at mine on is ends =
    let m = first_made shape here e before es is in
    let later : IsSound shape m.0 = step_sound shape here e m.0 m.1.0 sound m.1.1.0 in
    elim (own_first thread e (es ++ last ∷ [])) [
      | inl own_is ↦
          let both : (e.begin ≡ None) × AllGoOn (own thread (es ++ last ∷ [])) = subst AllGoOn own_is.1 on in
          let place : place_of here e.thread ≡ Some running = ap (place_of here) own_is.0 ∙ at in
          let goes : going shape (place_of here e.thread) e.begin ≡ Some running =
          ap (going shape (place_of here e.thread)) both.0 ∙ ap (λ (p : Option Running). going shape p None) place in
          let is_moved = own_step shape here e m.0 m.1.0 running m.1.1.0 place in
          let next : place_of m.0 thread ≡ place_after (advance shape running (found shape here running)) =
          ap (place_of m.0) (sym own_is.0) ∙ ap (λ (w : World). place_of w e.thread) is_moved.0
          ∙ own_place shape here e.thread running (made_within shape here e m.0 m.1.0 m.1.1.0) in
          subst (λ (xs : List Look). IsPath shape running xs answer)
          (sym (looks-own shape thread here m.0 m.1.0 e (es ++ last ∷ []) running own_is.0 m.1.1.0 goes))
          (by_next m.0 later both.1 m.1.1.1 (λ place at_next.
          path_on shape m.0 there thread es last before answer place later at_next mine both.1 m.1.1.1 ends)
          (advance shape running (found shape here running)) refl next)
      | inr other ↦
          subst (λ (xs : List Look). IsPath shape running xs answer)
          (sym (looks-other shape thread here m.0 m.1.0 e (es ++ last ∷ []) other.0 m.1.1.0))
          (path_on shape m.0 there thread es last before answer running later
          (other_place shape here e m.0 m.1.0 thread other.0 m.1.1.0 ∙ at) mine (subst AllGoOn other.1 on) m.1.1.1 ends)
    ]
  where
    by_next : (world : World) → IsSound shape world → AllGoOn (own thread (es ++ last ∷ []))
        → run shape (Some world) es ≡ Some before
        → ((place : Running) → place_of world thread ≡ Some place
        → IsPath shape place (looks shape thread (Some world) (es ++ last ∷ [])) answer) → (next : Next)
        → advance shape running (found shape here running) ≡ next → place_of world thread ≡ place_after next
        → IsPath shape running (look_of shape here running ∷ looks shape thread (Some world) (es ++ last ∷ [])) answer
    by_next world safe goes_on runs others (Goes place) goes at_next =
        path-cons shape (look_of shape here running) running place (looks shape thread (Some world) (es ++ last ∷ []))
        answer refl goes
        (others place at_next)
    by_next world safe goes_on runs others (Answers a) goes at_next =
        absurd (none_after shape world there thread es last safe at_next mine goes_on
        (run-append shape (Some world) es (last ∷ []) ∙ ap (λ (w : Option World). run shape w (last ∷ [])) runs
        ∙ ap world_of ends))

pub begun_goes : (shape : Shape) (begin : Begin) (running : Running) (word : ℕ) → begun begin ≡ Some running
    → (next : Next)
    → advance shape running word ≡ next → (place : Running) × (next ≡ Goes place)
begun_goes shape begin running word is (Goes place) goes = (place, refl)
begun_goes shape begin running word is (Answers answer) goes =
    absurd (first_goes shape begin running word answer is goes)

pub begins_from : (shape : Shape) (place : Option Running) (call : Begin) (running : Running)
    → going shape place (Some call) ≡ Some running
    → begun call ≡ Some running
begins_from shape None call running goes = (may_begun shape call running (may_begin shape call) refl goes).1
begins_from shape (Some r) call running goes = absurd (cc)

-- the path of a call begins where the call does
pub record PathOf (shape : Shape) (call : Begin) (all : List Look) (answer : Answer) : Type 0 where
  pub running : Running
  pub begins : begun call ≡ Some running
  pub path : IsPath shape running all answer

-- a call does not end with its first step
pub never_at_once : (shape : Shape) (here : World) (e : Event) (there : World) (answer : Answer) (call : Begin)
    → step shape here e ≡ Ok (there, Ended answer) → e.begin ≡ Some call → ⊥
never_at_once shape here e there answer call made begins =
    elim (stepped shape here e there (Ended answer) made) [
      | inl s ↦
          let is_begun : begun call ≡ Some s.running =
          begins_from shape (place_of here e.thread) call s.running
          (ap (going shape (place_of here e.thread)) (sym begins) ∙ s.goes) in
          first_goes shape call s.running (found shape here s.running) answer is_begun
          (answered (advance shape s.running (found shape here s.running)) answer s.outcome_is)
      | inr t ↦ let h : Ended answer ≡ Went = t.outcome_is in cc
    ]

first_step : (shape : Shape) (here there : World) (thread : ℕ) (call : Begin) (es : List Event) (last : Event)
    (before : World) (answer : Answer) (e : Event) (next : World) (outcome : Outcome) → IsSound shape next
    → last.thread ≡ thread → e.thread ≡ thread → e.begin ≡ Some call → step shape here e ≡ Ok (next, outcome)
    → AllGoOn (own thread (es ++ last ∷ [])) → run shape (Some next) es ≡ Some before
    → step shape before last ≡ Ok (there, Ended answer)
    → PathOf shape call (looks shape thread (Some here) (e ∷ (es ++ last ∷ []))) answer
first_step shape here there thread call es last before answer e next outcome safe mine own_is begins made on runs ends =
    elim (stepped shape here e next outcome made) [
      | inl s ↦
          let is_begun : begun call ≡ Some s.running =
          begins_from shape (place_of here e.thread) call s.running
          (ap (going shape (place_of here e.thread)) (sym begins) ∙ s.goes) in
          let goes = begun_goes shape call s.running (found shape here s.running) is_begun
          (advance shape s.running (found shape here s.running)) refl in
          let at_next : place_of next thread ≡ Some goes.0 =
          ap (place_of next) (sym own_is) ∙ ap (λ (w : World). place_of w e.thread) s.there_is
          ∙ own_place shape here e.thread s.running (made_within shape here e next outcome made)
          ∙ ap place_after goes.1 in
          record {
            running = s.running;
            begins = is_begun;
            path = subst (λ (xs : List Look). IsPath shape s.running xs answer)
                (sym (looks-own shape thread here next outcome e (es ++ last ∷ []) s.running own_is made s.goes))
                (path-cons shape (look_of shape here s.running) s.running goes.0
                (looks shape thread (Some next) (es ++ last ∷ [])) answer
                refl goes.1
                (path_on shape next there thread es last before answer goes.0 safe at_next mine on runs ends));
          }
      | inr t ↦
          let idle : place_of next thread ≡ None =
          ap (place_of next) (sym own_is) ∙ t.leaves e.thread ∙ t.idle in
          absurd (none_after shape next there thread es last safe idle mine on
          (run-append shape (Some next) es (last ∷ []) ∙ ap (λ (w : Option World). run shape w (last ∷ [])) runs
          ∙ ap world_of ends))
    ]

-- from the first event of a call
path_from : (shape : Shape) (here there : World) (thread : ℕ) (call : Begin) (between others : List Event)
    (last : Event) (before : World) (answer : Answer) → IsSound shape here
    → last.thread ≡ thread → own thread (between ++ last ∷ []) ≡ event thread (Some call) ∷ others → AllGoOn others
    → run shape (Some here) between ≡ Some before → step shape before last ≡ Ok (there, Ended answer)
    → PathOf shape call (looks shape thread (Some here) (between ++ last ∷ [])) answer
path_from shape here there thread call [] others last before answer sound mine first on is ends =
    let same : here ≡ before = Some-injective here before is in
    let made : step shape here last ≡ Ok (there, Ended answer) = ap (λ (w : World). step shape w last) same ∙ ends in
    let one : own thread (last ∷ []) ≡ last ∷ [] =
    ap (λ (b : Bool). cond b (last ∷ []) []) (eq-eqb last.thread thread mine) in
    let both : last ∷ [] ≡ event thread (Some call) ∷ others = sym one ∙ first in
    let begins : last.begin ≡ Some call =
    (let h : last ≡ event thread (Some call) = cc in ap (λ (x : Event). x.begin) h) in
    absurd (never_at_once shape here last there answer call made begins)
path_from shape here there thread call (e ∷ es) others last before answer sound mine first on is ends =
    let m = first_made shape here e before es is in
    let later : IsSound shape m.0 = step_sound shape here e m.0 m.1.0 sound m.1.1.0 in
    elim (own_first thread e (es ++ last ∷ [])) [
      | inl own_is ↦
          let both : e ∷ own thread (es ++ last ∷ []) ≡ event thread (Some call) ∷ others = sym own_is.1 ∙ first in
          let begins : e.begin ≡ Some call =
          (let h : e ≡ event thread (Some call) = cc in ap (λ (x : Event). x.begin) h) in
          let rest : own thread (es ++ last ∷ []) ≡ others = cc in
          first_step shape here there thread call es last before answer e m.0 m.1.0 later mine own_is.0 begins m.1.1.0
          (subst AllGoOn (sym rest) on) m.1.1.1 ends
      | inr other ↦
          subst (λ (xs : List Look). PathOf shape call xs answer)
          (sym (looks-other shape thread here m.0 m.1.0 e (es ++ last ∷ []) other.0 m.1.1.0))
          (path_from shape m.0 there thread call es others last before answer later mine (sym other.1 ∙ first) on
          m.1.1.1 ends)
    ]

-- the own steps of a complete execution are a path of its call
pub whole_path : (shape : Shape) (threads thread : ℕ) (call : Begin) (answer : Answer) (old new : List Event)
    (whole : CompleteExecution shape threads thread call answer old new)
    → PathOf shape call (looks_of shape threads thread call answer old new whole) answer
whole_path shape threads thread call answer old new whole =
    let k = run_before shape (Some (opening shape threads)) whole.before old whole.between whole.reached in
    subst (λ (w : Option World). PathOf shape call (looks shape thread w (whole.between ++ whole.last ∷ [])) answer)
    (sym k.1)
    (path_from shape k.0 whole.world thread call whole.between whole.one_call.others whole.last whole.before answer
    (sound shape threads old k.0 k.1) whole.last_own whole.one_call.first whole.one_call.go_on k.2 whole.ends)

-- What each step adds to what was seen so far holds of the whole path, at its answer
module _ (shape : Shape) (So : Running → List Look → Type 0) (NextSo : Next → List Look → Type 0)
    (goes : (running : Running) (past : List Look) → NextSo (Goes running) past → So running past)
    (on : (running : Running) (word : ℕ) (past : List Look) → So running past
    → NextSo (advance shape running word) (past ++ (record { running = running; word = word }) ∷ [])) where
  look_is : (l : Look) (running : Running) → l.running ≡ running → ◌≡◌ {A = Look} (record {
    running = running;
    word = l.word;
  }) l
  look_is l running from = ap (λ (r : Running). record { running = r; word = l.word }) (sym from)

  one_more : (l : Look) (running : Running) (past : List Look) → l.running ≡ running → So running past
      → NextSo (advance shape running l.word) (past ++ l ∷ [])
  one_more l running past from so = subst (λ (x : Look). NextSo (advance shape running l.word) (past ++ x ∷ []))
      (look_is l running from) (on running l.word past so)

  pub along : (running : Running) (past looks : List Look) (answer : Answer) → IsPath shape running looks answer
      → So running past
      → NextSo (Answers answer) (past ++ looks)
  along running past [] answer path so = absurd path
  along running past (l ∷ []) answer path so = subst (λ (n : Next). NextSo n (past ++ l ∷ [])) path.1
      (one_more l running past path.0 so)
  along running past (l ∷ (n ∷ ls)) answer path so =
      let next : So n.running (past ++ l ∷ []) =
      goes n.running (past ++ l ∷ []) (subst (λ (x : Next). NextSo x (past ++ l ∷ [])) path.1
      (one_more l running past path.0 so)) in
      subst (NextSo (Answers answer)) (append_assoc past (l ∷ []) (n ∷ ls))
      (along n.running (past ++ l ∷ []) (n ∷ ls) answer path.2 next)
