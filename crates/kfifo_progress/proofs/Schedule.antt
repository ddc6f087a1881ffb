-- In every schedule a stretch in which no call ends has few steps.
use Rattle.std.proofs.Common.{◌≡◌, ℕ, zero, suc, ◌+◌, ◌*◌, ◌<◌, ◌≤◌, Bool, true, false, refl, sym, ◌∙◌, ap, subst}
use Rattle.std.proofs.Common.{arith, List, [], ◌∷◌, ◌++◌, Option, Some, None, Ok, Result}
use Rattle.std.proofs.lemmas.Bool.{false≢true}
use Rattle.std.proofs.lemmas.Option.{same_Some}
use Rattle.kfifo_linear.proofs.Types.{Begin, Event, Outcome, Shape}
use Rattle.kfifo_machine.specs.declared.event.Begin.TheVariants as B
use Rattle.kfifo_linear.specs.Ledger.{ledger_of}
use Rattle.kfifo_linear.specs.Order.{ledger_after_all}
use Rattle.kfifo_machine.proofs.Schedules.{after-snoc, first_made, run_before, run_on}
use Rattle.kfifo_machine.specs.declared.event.NotEnabled.{NotEnabled}
use Rattle.kfifo_machine.proofs.Sound.{sound, sound_threads}
use Rattle.kfifo_machine.specs.Machine.{World, after, begun, opening, run}
use Rattle.kfifo_machine.specs.Machine.{world_of}
use Rattle.kfifo_progress.specs.Progress.{AllHaveTurns, SomeCallEnds, call_steps, calls_ended, ends_of, most_steps}
use Rattle.kfifo_progress.specs.Progress.{counted, seals_in, seals_of, steps_of}
use Rattle.kfifo_progress.proofs.LiveStretches.{at_begin, begins, enough_prices, fair_begin, live_begins, live_spent}
use Rattle.kfifo_progress.proofs.LiveStretches.{no_turns, prices, stretch_live, undos_after}

-- a schedule up to its first seal, and from there on
pub record SplitAt (stretch : List Event) (more : ℕ) : Type 0 where
  pub before : List Event
  pub seal : Event
  pub later : List Event
  pub split : stretch ≡ before ++ seal ∷ later
  pub no_seal : seals_in before ≡ 0
  pub is_seal : seals_of seal.begin ≡ 1
  pub left : seals_in later ≡ more

first_seal : (stretch : List Event) (more : ℕ) → seals_in stretch ≡ suc more → SplitAt stretch more
first_seal [] more is = absurd (omega (arith, is))
first_seal (e ∷ es) more is = by_begin (λ none. first_seal es more (omega (arith, is, none))) e.begin refl
  where
    after_first : seals_of e.begin ≡ 0 → SplitAt es more → SplitAt (e ∷ es) more
    after_first none s =
        record {
          before = e ∷ s.before;
          seal = s.seal;
          later = s.later;
          split = ap (λ xs. e ∷ xs) s.split;
          no_seal = omega (arith, none, s.no_seal);
          is_seal = s.is_seal;
          left = s.left;
        }

    by_begin : (seals_of e.begin ≡ 0 → SplitAt es more) → (begin : Option Begin) → e.begin ≡ begin
        → SplitAt (e ∷ es) more
    by_begin rest None at = after_first (ap seals_of at) (rest (ap seals_of at))
    by_begin rest (Some B.Tick) at = after_first (ap seals_of at) (rest (ap seals_of at))
    by_begin rest (Some (B.Enqueue item start turns)) at = after_first (ap seals_of at) (rest (ap seals_of at))
    by_begin rest (Some (B.Dequeue start turns)) at = after_first (ap seals_of at) (rest (ap seals_of at))
    by_begin rest (Some B.Seal) at =
        let one : seals_of e.begin ≡ 1 = ap seals_of at in
        record {
          before = [];
          seal = e;
          later = es;
          split = refl;
          no_seal = refl;
          is_seal = one;
          left = omega (arith, is, one);
        }

seal_steps : (begin : Option Begin) → seals_of begin ≡ 1 → steps_of begin ≡ 0
seal_steps begin is = grind arith

steps-append : (xs ys : List Event) → call_steps (xs ++ ys) ≡ call_steps xs + call_steps ys
steps-append [] ys = omega arith
steps-append (e ∷ xs) ys = omega (arith, steps-append xs ys)

turns-append : (least : ℕ) (xs ys : List Event) → AllHaveTurns least (xs ++ ys) → AllHaveTurns least xs
    × AllHaveTurns least ys
turns-append least [] ys h = (tt, h)
turns-append least (e ∷ xs) ys h = let k = turns-append least xs ys h.1 in ((h.0, k.0), k.1)

counted-append : (shape : Shape) (count : Result (World × Outcome) NotEnabled → ℕ) (here there : World)
    (xs ys : List Event)
    → run shape (Some here) xs ≡ Some there
    → counted count shape (Some here) (xs ++ ys) ≡ counted count shape (Some here) xs + counted count shape
    (Some there) ys
counted-append shape count here there [] ys is =
    ap (λ (w : World). counted count shape (Some w) ys) (same_Some here there is)
    ∙ sum_zero (counted count shape (Some there) ys)
  where
    sum_zero : (n : ℕ) → n ≡ 0 + n
    sum_zero n = omega arith
counted-append shape count here there (e ∷ xs) ys is =
    let m = first_made shape here e there xs is in
    let rest = counted-append shape count m.0 there xs ys m.1.1.1 in
    rw m.1.1.0 (omega (arith, rest))

-- What bounds the steps of each stretch without a seal bounds those of any stretch: each seal begins it anew
module _ (shape : Shape) (threads most least : ℕ) (count : Result (World × Outcome) NotEnabled → ℕ)
    (unsealed : (events stretch : List Event) (here there : World) → after shape threads events ≡ Some here
    → run shape (Some here) stretch ≡ Some there → AllHaveTurns least stretch → seals_in stretch ≡ 0
    → counted count shape (Some here) stretch ≡ 0 → call_steps stretch ≤ most) where
  pub with_seals : (seals : ℕ) (events stretch : List Event) (here there : World)
      → after shape threads events ≡ Some here
      → run shape (Some here) stretch ≡ Some there → AllHaveTurns least stretch → seals_in stretch ≡ seals
      → counted count shape (Some here) stretch ≡ 0 → call_steps stretch ≤ (seals + 1) * most
  with_seals zero events stretch here there is made turns none ends =
      omega (arith, unsealed events stretch here there is made turns none ends)
  with_seals (suc seals) events stretch here there is made turns some ends =
      let s = first_seal stretch seals some in
      let k = run_before shape (Some here) there s.before (s.seal ∷ s.later) (ap (run shape (Some here)) (sym s.split)
      ∙ made) in
      let m = first_made shape k.0 s.seal there s.later k.2 in
      let both = turns-append least s.before (s.seal ∷ s.later) (subst (AllHaveTurns least) s.split turns) in
      let parts : counted count shape (Some here) stretch
      ≡ counted count shape (Some here) s.before + counted count shape (Some k.0) (s.seal ∷ s.later) =
      ap (counted count shape (Some here)) s.split ∙ counted-append shape count here k.0 s.before (s.seal ∷ s.later)
      k.1 in
      let rest : counted count shape (Some k.0) (s.seal ∷ s.later)
      ≡ count (Ok (m.0, m.1.0)) + counted count shape (Some m.0) s.later =
      ap (λ r. count r + counted count shape (world_of r) s.later) m.1.1.0 in
      let before_at : after shape threads (events ++ s.before) ≡ Some k.0 =
      run_on shape (Some (opening shape threads)) here events s.before is ∙ k.1 in
      let sealed_at : after shape threads ((events ++ s.before) ++ s.seal ∷ []) ≡ Some m.0 =
      after-snoc shape threads (events ++ s.before) k.0 s.seal before_at ∙ ap world_of m.1.1.0 in
      let first : call_steps s.before ≤ most =
      unsealed events s.before here k.0 is k.1 both.0 s.no_seal (omega (arith, ends, parts)) in
      let others : call_steps s.later ≤ (seals + 1) * most =
      with_seals seals ((events ++ s.before) ++ s.seal ∷ []) s.later m.0 there sealed_at m.1.1.1 both.1.1 s.left
      (omega (arith, ends, parts, rest)) in
      let steps : call_steps stretch ≡ call_steps s.before + call_steps (s.seal ∷ s.later) =
      ap call_steps s.split ∙ steps-append s.before (s.seal ∷ s.later) in
      let none : steps_of s.seal.begin ≡ 0 = seal_steps s.seal.begin s.is_seal in
      omega (arith, first, others, steps, none)

unsealed_ends : (shape : Shape) (threads : ℕ) → shape.holds_again ≡ true → threads < shape.n
    → (events stretch : List Event)
    (here there : World) → after shape threads events ≡ Some here → run shape (Some here) stretch ≡ Some there
    → AllHaveTurns 0 stretch
    → seals_in stretch ≡ 0 → calls_ended shape (Some here) stretch ≡ 0
    → call_steps stretch ≤ most_steps shape threads threads
unsealed_ends shape threads again few events stretch here there is made turns unsealed none =
    let l = ledger_after_all shape threads events in
    let old : ℕ → Bool = λ _. true in
    let undos = undos_after shape again threads events here is in
    let b = at_begin l shape threads here false old 0 0 in
    let begun = live_begins shape again threads here l false old 0 0 undos (sound_threads shape threads events here is)
    (sound shape threads events here is) (λ t r at new. absurd (false≢true (sym new))) in
    let spent = live_spent shape threads b old few
    (fair_begin shape threads l here false old 0 0 undos.holds.inv.base.ends)
    (ledger_of shape (Some here) stretch l) there (0 + call_steps stretch)
    (stretch_live shape again threads (prices shape threads) (enough_prices shape threads) b old stretch here there l 0
    begun
    turns unsealed made none) in
    omega (arith, spent)

pub some_call_ends : (shape : Shape) (threads : ℕ) → shape.holds_again ≡ true → threads < shape.n
    → SomeCallEnds shape threads
some_call_ends shape threads again few events stretch here there is made none =
    with_seals shape threads (most_steps shape threads threads) 0 ends_of (unsealed_ends shape threads again few)
    (seals_in stretch) events
    stretch here there is made (no_turns stretch) refl none
