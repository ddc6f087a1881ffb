-- The won undos of a schedule, told by what its events came to.
use Rattle.std.proofs.Common.{◌≡◌, ℕ, ◌+◌, ◌≤◌, List, [], ◌∷◌, ◌++◌, length, Option, Some, None, Bool, true, false}
use Rattle.std.proofs.Common.{cond, refl, sym, ◌∙◌, ap, subst, arith}
use Rattle.std.proofs.lemmas.Bool.Decides.{nat_tests}
use Rattle.kfifo_replay.proofs.Types.{Begin, Event, Outcome, Running, Shape}
use Rattle.kfifo_model.specs.declared.calls.Answer.TheVariants as A
use Rattle.kfifo_machine.specs.declared.event.Begin.TheVariants as B
use Rattle.kfifo_machine.specs.declared.event.Outcome.TheVariants.{Ended, Went}
use Rattle.kfifo_machine.specs.declared.place.EnqueuePhase.TheVariants as E
use Rattle.kfifo_machine.specs.declared.place.DequeuePhase.TheVariants as D
use Rattle.kfifo_machine.specs.declared.place.Running.TheVariants as R
use Rattle.kfifo_machine.specs.Program.{advance}
use Rattle.kfifo_machine.specs.Machine.{World, opening, place_of, found, outcome_of, may_begin, step, world_of, run}
use Rattle.kfifo_machine.specs.Machine.{after}
use Rattle.kfifo_machine.specs.Runs.{going}
use Rattle.kfifo_machine.specs.Laws.{counted, count}
use Rattle.kfifo_machine.proofs.Schedules.{Some-injective, first_made}
use Rattle.kfifo_replay.specs.Player.{undoes, is_undoing, takes_back, undos}

-- a step that is no undo takes nothing back
pub takes_back-false : (outcome : Outcome) → takes_back false outcome ≡ false
takes_back-false Went = refl
takes_back-false (Ended A.Done) = refl
takes_back-false (Ended A.Full) = refl
takes_back-false (Ended (A.Got item)) = refl
takes_back-false (Ended A.Empty) = refl
takes_back-false (Ended A.Busy) = refl
takes_back-false (Ended A.Worn) = refl

-- an undo is won where it does not answer Done
pub undo_told : (shape : Shape) (running : Running) (word : ℕ)
    → undoes running word ≡ takes_back (is_undoing (Some running)) (outcome_of (advance shape running word))
undo_told shape (R.Dequeue start left phase) word =
    sym (takes_back-false (outcome_of (advance shape (R.Dequeue start left phase) word)))
undo_told shape (R.Enqueue item start left E.LoadEnds) word =
    sym (takes_back-false (outcome_of (advance shape (R.Enqueue item start left E.LoadEnds) word)))
undo_told shape (R.Enqueue item start left (E.ScanTail ends offset)) word =
    sym (takes_back-false (outcome_of (advance shape (R.Enqueue item start left (E.ScanTail ends offset)) word)))
undo_told shape (R.Enqueue item start left (E.Recheck ends found)) word =
    sym (takes_back-false (outcome_of (advance shape (R.Enqueue item start left (E.Recheck ends found)) word)))
undo_told shape (R.Enqueue item start left (E.Put ends index empty)) word =
    sym (takes_back-false (outcome_of (advance shape (R.Enqueue item start left (E.Put ends index empty)) word)))
undo_told shape (R.Enqueue item start left (E.ReloadSlot ends index filled)) word =
    sym (takes_back-false
    (outcome_of (advance shape (R.Enqueue item start left (E.ReloadSlot ends index filled)) word)))
undo_told shape (R.Enqueue item start left (E.ReloadEnds ends index filled)) word =
    sym (takes_back-false
    (outcome_of (advance shape (R.Enqueue item start left (E.ReloadEnds ends index filled)) word)))
undo_told shape (R.Enqueue item start left (E.HoldHead ends index filled held)) word =
    sym (takes_back-false
    (outcome_of (advance shape (R.Enqueue item start left (E.HoldHead ends index filled held)) word)))
undo_told shape (R.Enqueue item start left (E.Undo index filled worn)) word = grind (arith, nat_tests)
undo_told shape (R.Enqueue item start left (E.ScanHead ends offset)) word =
    sym (takes_back-false (outcome_of (advance shape (R.Enqueue item start left (E.ScanHead ends offset)) word)))
undo_told shape (R.Enqueue item start left (E.ConfirmFull ends)) word =
    sym (takes_back-false (outcome_of (advance shape (R.Enqueue item start left (E.ConfirmFull ends)) word)))
undo_told shape (R.Enqueue item start left (E.MoveHead ends)) word =
    sym (takes_back-false (outcome_of (advance shape (R.Enqueue item start left (E.MoveHead ends)) word)))
undo_told shape (R.Enqueue item start left (E.MoveTail ends)) word =
    sym (takes_back-false (outcome_of (advance shape (R.Enqueue item start left (E.MoveTail ends)) word)))

-- one event more
count-snoc : (shape : Shape) (moves : Running → ℕ → Bool) (start world : World) (events : List Event) (e : Event)
    → run shape (Some start) events ≡ Some world
    → count shape moves (Some start) (events ++ e ∷ [])
    ≡ count shape moves (Some start) events + counted shape moves world (going shape (place_of world e.thread) e.begin)
count-snoc shape moves start world [] e is =
    let z : counted shape moves start (going shape (place_of start e.thread) e.begin) + 0
    ≡ 0 + counted shape moves start (going shape (place_of start e.thread) e.begin) = omega arith in
    z ∙ ap (λ (w : World). 0 + counted shape moves w (going shape (place_of w e.thread) e.begin))
    (Some-injective start world is)
count-snoc shape moves start world (f ∷ fs) e is =
    let m = first_made shape start f world fs is in
    let next : world_of (step shape start f) ≡ Some m.0 = ap world_of m.1.1.0 in
    let first : ℕ = counted shape moves start (going shape (place_of start f.thread) f.begin) in
    let last : ℕ = counted shape moves world (going shape (place_of world e.thread) e.begin) in
    let rest : count shape moves (world_of (step shape start f)) (fs ++ e ∷ [])
    ≡ count shape moves (world_of (step shape start f)) fs + counted shape moves world
    (going shape (place_of world e.thread) e.begin) =
    subst (λ (w : Option World). count shape moves w (fs ++ e ∷ [])
    ≡ count shape moves w fs + counted shape moves world (going shape (place_of world e.thread) e.begin)) (sym next)
    (count-snoc shape moves m.0 world fs e m.1.1.1) in
    omega (arith, rest)

pub undos-snoc : (shape : Shape) (threads : ℕ) (world : World) (events : List Event) (e : Event)
    → after shape threads events ≡ Some world
    → undos shape threads (events ++ e ∷ []) ≡ undos shape threads events
    + counted shape undoes world (going shape (place_of world e.thread) e.begin)
undos-snoc shape threads world events e is = count-snoc shape undoes (opening shape threads) world events e is

-- an event is one undo at most
few_counted : (shape : Shape) (moves : Running → ℕ → Bool) (world : World) (place : Option Running)
    → counted shape moves world place ≤ 1
few_counted shape moves world None = omega arith
few_counted shape moves world (Some running) = few (moves running (found shape world running))
  where
    few : (b : Bool) → cond {A = ℕ} b 1 0 ≤ 1
    few true = omega arith
    few false = omega arith

few_counts : (shape : Shape) (moves : Running → ℕ → Bool) (world : Option World) (events : List Event)
    → count shape moves world events ≤ length events
few_counts shape moves world [] = omega arith
few_counts shape moves None (e ∷ es) = omega arith
few_counts shape moves (Some world) (e ∷ es) =
    let first : counted shape moves world (going shape (place_of world e.thread) e.begin) ≤ 1 =
    few_counted shape moves world (going shape (place_of world e.thread) e.begin) in
    let rest : count shape moves (world_of (step shape world e)) es ≤ length es =
    few_counts shape moves (world_of (step shape world e)) es in
    omega (arith, first, rest)

pub few_undos : (shape : Shape) (threads : ℕ) (events : List Event) → undos shape threads events ≤ length events
few_undos shape threads events = few_counts shape undoes (Some (opening shape threads)) events

-- the first step of a call takes nothing back
pub first_no_undo : (shape : Shape) (world : World) (call : Begin)
    → counted shape undoes world (going shape None (Some call)) ≡ 0
first_no_undo shape world (B.Enqueue item start turns) = none (may_begin shape (B.Enqueue item start turns))
  where
    none : (may : Bool) → counted shape undoes world (cond may (Some (R.Enqueue item start turns E.LoadEnds)) None) ≡ 0
    none true = refl
    none false = refl
first_no_undo shape world (B.Dequeue start turns) = none (may_begin shape (B.Dequeue start turns))
  where
    none : (may : Bool) → counted shape undoes world (cond may (Some (R.Dequeue start turns D.LoadEnds)) None) ≡ 0
    none true = refl
    none false = refl
first_no_undo shape world B.Tick = none (may_begin shape B.Tick)
  where
    none : (may : Bool) → counted shape undoes world (cond may None None) ≡ 0
    none true = refl
    none false = refl
first_no_undo shape world B.Seal = none (may_begin shape B.Seal)
  where
    none : (may : Bool) → counted shape undoes world (cond may None None) ≡ 0
    none true = refl
    none false = refl
