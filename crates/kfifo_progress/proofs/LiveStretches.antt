-- A stretch goes on with each event, and has spent little.
use Rattle.std.proofs.Common.{◌≡◌, ℕ, zero, suc, ◌+◌, ◌*◌, ◌<◌, ◌≤◌, Bool, true, false, cond, inl, inr, refl, sym, ◌∙◌}
use Rattle.std.proofs.Common.{ap, subst}
use Rattle.std.proofs.Math.Nat.{mul-le-mul_left}
use Rattle.std.proofs.Common.{arith, List, [], ◌∷◌, length, get_or, Option, Some, None, Ok}
use Rattle.std.specs.Prelude.{if◌then◌else◌}
use Rattle.std.proofs.lemmas.Bool.{cases_eq}
use Rattle.std.proofs.lemmas.Grind.{get_or-set_at}
use Rattle.std.proofs.lemmas.List.{get_or-set_other, length-set}
use Rattle.std.proofs.lemmas.Option.{none-some, same_Some}
use Rattle.std.proofs.Math.Path.{fun_ext}
use Rattle.kfifo_model.specs.declared.calls.Answer.TheVariants.{Busy}
use Rattle.kfifo_linear.proofs.Types.{Begin, Event, Next, Outcome, Running, Shape}
use Rattle.kfifo_machine.specs.declared.event.Begin.TheVariants as B
use Rattle.kfifo_machine.specs.declared.event.Outcome.TheVariants.{Ended, Went}
use Rattle.kfifo_machine.specs.declared.place.DequeuePhase.TheVariants as D
use Rattle.kfifo_machine.specs.declared.place.EnqueuePhase.TheVariants as E
use Rattle.kfifo_machine.specs.declared.place.Next.TheVariants.{Answers, Goes}
use Rattle.kfifo_machine.specs.declared.place.Running.TheVariants as R
use Rattle.kfifo_linear.proofs.Abstract.{At, after_all, length-moved, noted-noted, noted-other, noted-same}
use Rattle.kfifo_linear.proofs.Abstract.{place_of-moved, table_size, word_at-moved, words_by}
use Rattle.kfifo_linear.proofs.Base.{opening_size}
use Rattle.kfifo_linear.specs.Ledger.{Ledger, blank, called, found_in, ledger_after, ledger_from, ledger_of, noted}
use Rattle.kfifo_linear.specs.Ledger.{stepped}
use Rattle.kfifo_linear.specs.Order.{ledger_after_all}
use Rattle.kfifo_machine.proofs.NoWrap.{EndsOk}
use Rattle.kfifo_machine.proofs.Schedules.{first_made, made_within, same_threads, stepped as steps_by}
use Rattle.kfifo_machine.proofs.Sound.{IsSound, going_place, place_is, sound, step_sound}
use Rattle.kfifo_machine.specs.Machine.{World, after, begun, found, may_begin, moved, opening, outcome_of, place_after}
use Rattle.kfifo_machine.specs.Machine.{place_of, run, step, ticked, word_at}
use Rattle.kfifo_machine.specs.Places.{IsPlace}
use Rattle.kfifo_machine.specs.Program.{access, accessed, advance}
use Rattle.kfifo_machine.specs.Runs.{going}
use Rattle.kfifo_words.specs.Ring.{clock_at}
use Rattle.kfifo_progress.proofs.Charges.{HasKept}
use Rattle.kfifo_progress.proofs.Cost.{AreEnough, Prices, cost_at, cost_bound}
use Rattle.kfifo_progress.proofs.Counting.{few_old, old_threads, total, total_rises}
use Rattle.kfifo_progress.proofs.Kept.{goes}
use Rattle.kfifo_progress.proofs.Live.{Begun, Live, live_begin, live_ends, live_step, live_tick}
use Rattle.kfifo_progress.proofs.Rounds.{disturbed, rounds_left}
use Rattle.kfifo_progress.proofs.Spending.{move_price, purse, sum}
use Rattle.kfifo_progress.proofs.Changing.{changes_at, changes_bound, has_passed, to_change, top}
use Rattle.kfifo_progress.proofs.Stretches.{Stretch, head_bound}
use Rattle.kfifo_progress.proofs.Undos.{Undos, undos_begin, undos_opening, undos_step, undos_table, undos_outside}
use Rattle.kfifo_progress.specs.Progress.{AllHaveTurns, HasTurns, call_steps, calls_ended, ends_of, most_changes}
use Rattle.kfifo_progress.specs.Progress.{most_moves, most_steps, seals_in, seals_of, steps_of}

-- the stretch at a world
pub record LiveAt (shape : Shape) (threads : ℕ) (x : Prices) (b : Begun) (old : ℕ → Bool) (world : World) (l : Ledger)
    (spent : ℕ) : Type 0 where
  pub size : length world.words ≡ table_size shape
  pub count : length world.places ≡ threads
  pub sound : IsSound shape world
  pub live : Live shape threads x b old (word_at world) (place_of world) l spent

pub went_goes : (next : Next) → Went ≡ outcome_of next → goes next ≡ true
went_goes (Goes q) e = refl
went_goes (Answers answer) e = absurd (cc)

noted-there : (p : ℕ → Option Running) (t : ℕ) (r : Running) → p t ≡ Some r → noted p t (Some r) ≡ p
noted-there p t r e =
    fun_ext (λ j. elim (cases_eq j t) [
      | inl s ↦ noted-same p t j (Some r) s ∙ sym e ∙ ap p (sym s)
      | inr ne ↦ noted-other p t j (Some r) ne
    ])

in_list : {A : Type 0} (xs : List (Option A)) (i : ℕ) (x : A) → get_or xs i None ≡ Some x → i < length xs
in_list [] i x e = absurd (none-some x e)
in_list (y ∷ ys) zero x e = omega arith
in_list (y ∷ ys) (suc i) x e = omega (arith, in_list ys i x e)

place_in_range : (world : World) (t : ℕ) (r : Running) → place_of world t ≡ Some r → t < length world.places
unfolding place_of
place_in_range world t r e = in_list world.places t r e

pub begins : (m : Bool) (o : Option Running) (r : Running) → cond m o None ≡ Some r → (m ≡ true) × (o ≡ Some r)
begins true o r e = (refl, e)
begins false o r e = absurd (none-some r e)

module _ (shape : Shape) (again : shape.holds_again ≡ true) (threads : ℕ) (x : Prices)
    (enough : AreEnough shape threads x) (b : Begun)
    (old : ℕ → Bool) (world : World) (t : ℕ) (l : Ledger) (spent : ℕ) (size : length world.words ≡ table_size shape)
    (count : length world.places ≡ threads) (within : t < length world.places) where
  -- a thread's step from a place, be it the first of a call
  step_live : (r : Running) (m : Ledger)
      → Live shape threads x b old (word_at world) (noted (place_of world) t (Some r)) m spent
      → IsPlace shape r → goes (advance shape r (found_in shape (word_at world) r)) ≡ true
      → Live shape threads x b old (word_at (moved shape world t r)) (place_of (moved shape world t r))
      (stepped shape (word_at world) t r m) (spent + 1)
  step_live r m h place calm =
      let there : noted (place_of world) t (Some r) t ≡ Some r = noted-same (place_of world) t t (Some r) refl in
      let in_table : accessed (access shape r) < length world.words =
      omega (
        arith,
        undos_table shape again (word_at world) (noted (place_of world) t (Some r)) m t r h.undos there,
        size,
      ) in
      let k = live_step shape again threads x enough b old (word_at world) (noted (place_of world) t (Some r)) m spent h
      t r there
      (omega (arith, count, within)) place calm in
      let k2 = subst (λ p. Live shape threads x b old (words_by (access shape r) (word_at world)) p
      (stepped shape (word_at world) t r m)
      (spent + 1))
      (noted-noted (place_of world) t (Some r) (place_after (advance shape r (found_in shape (word_at world) r)))) k in
      let k3 = subst (λ w. Live shape threads x b old w
      (noted (place_of world) t (place_after (advance shape r (found_in shape (word_at world) r))))
      (stepped shape (word_at world) t r m)
      (spent + 1)) (sym (word_at-moved shape world t r in_table)) k2 in
      subst (λ p. Live shape threads x b old (word_at (moved shape world t r)) p (stepped shape (word_at world) t r m)
      (spent + 1))
      (sym (place_of-moved shape world t r within)) k3

  first_live : (begin : Begin) (r : Running) → Live shape threads x b old (word_at world) (place_of world) l spent
      → place_of world t ≡ None
      → may_begin shape begin ≡ true → begun begin ≡ Some r → HasTurns b.turns (Some begin) → IsPlace shape r
      → goes (advance shape r (found_in shape (word_at world) r)) ≡ true
      → Live shape threads x b old (word_at (moved shape world t r)) (place_of (moved shape world t r))
      (stepped shape (word_at world) t r (called t begin l)) (spent + 1)
  first_live begin r h idle may g turns place calm =
      step_live r (called t begin l)
      (live_begin shape again threads x enough b old (word_at world) (place_of world) l spent h t begin r idle may g
      turns) place calm

  by_place : (place : Option Running) (begin : Option Begin) (r : Running)
      → Live shape threads x b old (word_at world) (place_of world) l spent
      → place_of world t ≡ place → going shape place begin ≡ Some r → HasTurns b.turns begin → IsPlace shape r
      → goes (advance shape r (found_in shape (word_at world) r)) ≡ true
      → Live shape threads x b old (word_at (moved shape world t r)) (place_of (moved shape world t r))
      (ledger_from shape (word_at world) t place begin l) (spent + steps_of begin)
  by_place None None r h at g turns place calm = absurd (none-some r g)
  by_place None (Some (B.Enqueue item start turns)) r h at g many place calm =
      let k = begins (may_begin shape (B.Enqueue item start turns)) (begun (B.Enqueue item start turns)) r g in
      let same : R.Enqueue item start turns E.LoadEnds ≡ r = same_Some _ r k.1 in
      rw (← same) (first_live (B.Enqueue item start turns) (R.Enqueue item start turns E.LoadEnds) h at k.0 refl many
      (subst (IsPlace shape) (sym same) place)
      (subst (λ q. goes (advance shape q (found_in shape (word_at world) q)) ≡ true) (sym same) calm))
  by_place None (Some (B.Dequeue start turns)) r h at g many place calm =
      let k = begins (may_begin shape (B.Dequeue start turns)) (begun (B.Dequeue start turns)) r g in
      let same : R.Dequeue start turns D.LoadEnds ≡ r = same_Some _ r k.1 in
      rw (← same) (first_live (B.Dequeue start turns) (R.Dequeue start turns D.LoadEnds) h at k.0 refl many
      (subst (IsPlace shape) (sym same) place)
      (subst (λ q. goes (advance shape q (found_in shape (word_at world) q)) ≡ true) (sym same) calm))
  by_place None (Some B.Tick) r h at g turns place calm = absurd (none-some r g)
  by_place None (Some B.Seal) r h at g turns place calm = absurd (none-some r g)
  by_place (Some q) None r h at g turns place calm =
      let same : q ≡ r = same_Some q r g in
      rw same (step_live r l (subst (λ p. Live shape threads x b old (word_at world) p l spent)
      (sym (noted-there (place_of world) t r (at ∙ g))) h) place calm)
  by_place (Some q) (Some begin) r h at g turns place calm = absurd (none-some r g)

  -- a thread's first call in the stretch ends with Busy
  ends_live : (r : Running) → Live shape threads x b old (word_at world) (place_of world) l spent
      → place_of world t ≡ Some r
      → IsPlace shape r → advance shape r (found_in shape (word_at world) r) ≡ Answers Busy → old t ≡ true
      → b.names ≡ 2 * threads
      → b.spare ≡ 2
      → Live shape threads x b (noted old t false) (word_at (moved shape world t r)) (place_of (moved shape world t r))
      (stepped shape (word_at world) t r l) (spent + 1)
  ends_live r h at place busy was_old names spare =
      let in_table : accessed (access shape r) < length world.words =
      omega (arith, undos_table shape again (word_at world) (place_of world) l t r h.undos at, size) in
      let k = live_ends shape again threads x enough b old (word_at world) (place_of world) l spent h t r at
      (omega (arith, count, within))
      place busy was_old names spare (λ u q f. omega (arith, place_in_range world u q f, count)) in
      let k2 = subst (λ w. Live shape threads x b (noted old t false) w
      (noted (place_of world) t (place_after (advance shape r (found_in shape (word_at world) r))))
      (stepped shape (word_at world) t r l)
      (spent + 1)) (sym (word_at-moved shape world t r in_table)) k in
      subst (λ p. Live shape threads x b (noted old t false) (word_at (moved shape world t r)) p
      (stepped shape (word_at world) t r l)
      (spent + 1)) (sym (place_of-moved shape world t r within)) k2

word_at-ticked : (shape : Shape) (world : World) → length world.words ≡ table_size shape
    → word_at (ticked shape world)
    ≡ noted (word_at world) (clock_at shape.k shape.n) (word_at world (clock_at shape.k shape.n) + 1)
unfolding ticked word_at
word_at-ticked shape world size =
    let within : clock_at shape.k shape.n < length world.words = omega (arith, size) in
    fun_ext (λ i. elim (cases_eq i (clock_at shape.k shape.n)) [
      | inl same ↦ get_or-set_at world.words (clock_at shape.k shape.n) i
          (get_or world.words (clock_at shape.k shape.n) 0 + 1) 0 same within
          ∙ sym (noted-same (λ j. get_or world.words j 0) (clock_at shape.k shape.n) i
          (get_or world.words (clock_at shape.k shape.n) 0 + 1) same)
      | inr ne ↦ get_or-set_other world.words (clock_at shape.k shape.n) i
          (get_or world.words (clock_at shape.k shape.n) 0 + 1) 0 ne
          ∙ sym (noted-other (λ j. get_or world.words j 0) (clock_at shape.k shape.n) i
          (get_or world.words (clock_at shape.k shape.n) 0 + 1) ne)
    ])

ticked_size : (shape : Shape) (world : World) → length (ticked shape world).words ≡ length world.words
unfolding ticked
ticked_size shape world =
    length-set world.words (clock_at shape.k shape.n) (word_at world (clock_at shape.k shape.n) + 1)

ticked_places : (shape : Shape) (world : World) → place_of (ticked shape world) ≡ place_of world
unfolding ticked place_of
ticked_places shape world = refl

module _ (shape : Shape) (again : shape.holds_again ≡ true) (threads : ℕ) (x : Prices)
    (enough : AreEnough shape threads x) (b : Begun) (old : ℕ → Bool) where
  by_tick : (world : World) (l : Ledger) (spent t : ℕ) → LiveAt shape threads x b old world l spent
      → (o : Option Running) (c : Option Begin)
      → o ≡ None → c ≡ Some B.Tick
      → Live shape threads x b old (word_at (ticked shape world)) (place_of (ticked shape world))
      (ledger_from shape (word_at world) t o c l) (spent + steps_of c)
  by_tick world l spent t h o c idle ticks =
      let z : spent ≡ spent + 0 = omega arith in
      rw (idle, ticks, word_at-ticked shape world h.size, ticked_places shape world)
      (subst (Live shape threads x b old
      (noted (word_at world) (clock_at shape.k shape.n) (word_at world (clock_at shape.k shape.n) + 1))
      (place_of world) (record l { now = l.now + 1 })) z
      (live_tick shape again threads x enough b old (word_at world) (place_of world) l spent h.live))

  -- an event that ends no call
  pub event_live : (world next : World) (e : Event) (l : Ledger) (spent : ℕ)
      → LiveAt shape threads x b old world l spent
      → HasTurns b.turns e.begin → seals_of e.begin ≡ 0 → step shape world e ≡ Ok (next, Went)
      → LiveAt shape threads x b old next (ledger_after shape world e l) (spent + steps_of e.begin)
  unfolding ledger_after found
  event_live world next e l spent h turns unsealed made =
      let within : e.thread < length world.places = made_within shape world e next Went made in
      let sound : IsSound shape next = step_sound shape world e next Went h.sound made in
      let count : length next.places ≡ threads = same_threads shape world e next Went made ∙ h.count in
      elim (steps_by shape world e next Went made) [
        | inl s ↦
            let place : IsPlace shape s.running = going_place shape (place_of world e.thread) e.begin s.running
            (λ r at. place_is shape world e.thread r h.sound at) s.goes in
            let k = by_place shape again threads x enough b old world e.thread l spent h.size h.count within
            (place_of world e.thread) e.begin
            s.running h.live refl s.goes turns place
            (went_goes (advance shape s.running (found_in shape (word_at world) s.running)) s.outcome_is) in
            record {
              size = ap (λ (z : World). length z.words) s.there_is ∙ length-moved shape world e.thread s.running
                  ∙ h.size;
              count = count;
              sound = sound;
              live = subst (λ z. Live shape threads x b old (word_at z) (place_of z)
                  (ledger_from shape (word_at world) e.thread (place_of world e.thread) e.begin l)
                  (spent + steps_of e.begin))
                  (sym s.there_is) k;
            }
        | inr o ↦ elim o.by [
          | inl t ↦ record {
            size = ap (λ (z : World). length z.words) t.there_is ∙ ticked_size shape world ∙ h.size;
            count = count;
            sound = sound;
            live = subst (λ z. Live shape threads x b old (word_at z) (place_of z)
                (ledger_from shape (word_at world) e.thread (place_of world e.thread) e.begin l)
                (spent + steps_of e.begin))
                (sym t.there_is) (by_tick world l spent e.thread h (place_of world e.thread) e.begin o.idle t.begins);
          }
          | inr z ↦ absurd (let sealed : seals_of e.begin ≡ 1 = ap seals_of z.begins in omega arith)
        ]
      ]

  -- one with which a thread's first call in the stretch ends, with Busy
  pub busy_live : (world next : World) (e : Event) (l : Ledger) (spent : ℕ) → LiveAt shape threads x b old world l spent
      → step shape world e ≡ Ok (next, Ended Busy) → (r : Running) → place_of world e.thread ≡ Some r
      → next ≡ moved shape world e.thread r
      → advance shape r (found_in shape (word_at world) r) ≡ Answers Busy → old e.thread ≡ true → b.names ≡ 2 * threads
      → b.spare ≡ 2
      → LiveAt shape threads x b (noted old e.thread false) next (ledger_after shape world e l) (spent + 1)
  unfolding ledger_after
  busy_live world next e l spent h made r at there busy was_old names spare =
      let within : e.thread < length world.places = made_within shape world e next (Ended Busy) made in
      let k = ends_live shape again threads x enough b old world e.thread l spent h.size h.count within r h.live at
      (place_is shape world e.thread r h.sound at) busy was_old names spare in
      record {
        size = ap (λ (z : World). length z.words) there ∙ length-moved shape world e.thread r ∙ h.size;
        count = same_threads shape world e next (Ended Busy) made ∙ h.count;
        sound = step_sound shape world e next (Ended Busy) h.sound made;
        live = rw (there, at) k;
      }

  no_end : (outcome : Outcome) (next : World) → ends_of (Ok (next, outcome)) ≡ 0 → outcome ≡ Went
  no_end Went next e = refl
  no_end (Ended answer) next e = absurd (omega (arith, e))

  -- and a stretch of such events
  pub stretch_live : (stretch : List Event) (here there : World) (l : Ledger) (spent : ℕ)
      → LiveAt shape threads x b old here l spent
      → AllHaveTurns b.turns stretch → seals_in stretch ≡ 0 → run shape (Some here) stretch ≡ Some there
      → calls_ended shape (Some here) stretch ≡ 0
      → LiveAt shape threads x b old there (ledger_of shape (Some here) stretch l) (spent + call_steps stretch)
  stretch_live [] here there l spent h turns unsealed is none =
      let z : spent ≡ spent + 0 = omega arith in
      subst (λ n. LiveAt shape threads x b old there l n) z
      (subst (λ w. LiveAt shape threads x b old w l spent) (same_Some here there is) h)
  stretch_live (e ∷ es) here there l spent h turns unsealed is none =
      let m = first_made shape here e there es is in
      let ends : ends_of (Ok (m.0, m.1.0)) + calls_ended shape (Some m.0) es ≡ 0 = rw m.1.1.0 at none in
      let went : m.1.0 ≡ Went = no_end m.1.0 m.0 (omega (arith, ends)) in
      let k = event_live here m.0 e l spent h turns.0 (omega arith) (m.1.1.0 ∙ ap (λ o. Ok (m.0, o)) went) in
      let all = stretch_live es m.0 there (ledger_after shape here e l) (spent + steps_of e.begin) k turns.1
      (omega arith) m.1.1.1
      (omega (arith, ends)) in
      let z : spent + steps_of e.begin + call_steps es ≡ spent + call_steps (e ∷ es) = omega arith in
      rw m.1.1.0 (subst
      (λ n. LiveAt shape threads x b old there (ledger_of shape (Some m.0) es (ledger_after shape here e l)) n)
      z all)

pub prices : Shape → ℕ → Prices
prices shape threads = record {
  round = 2 * shape.k + 9;
  put = threads * (2 * shape.k + 9);
  ends = 2 * shape.k + 9 + threads * (2 * shape.k + 9) + threads * (2 * shape.k + 9);
}

pub enough_prices : (shape : Shape) (threads : ℕ) → AreEnough shape threads (prices shape threads)
unfolding prices
enough_prices shape threads = record { round = refl; put = refl; ends = refl }

-- where a stretch begins
stretch_begins : (shape : Shape) (threads names : ℕ) (old : ℕ → Bool) (w : ℕ → ℕ) (p : ℕ → Option Running) (l : Ledger)
    → l.head ≤ l.tail
    → Stretch shape threads names l.tail old w p l (λ _. None)
stretch_begins shape threads names old w p l ordered = record {
  kept = λ v f a c. absurd (omega arith);
  charged = λ v f a. absurd (omega arith);
  looks = λ t r e. nothing_left shape w l r ordered;
  to_tail = λ v t c. absurd (none-some t c);
  to_round = λ v t r c e loaded. absurd (none-some t c);
  apart = λ v u t c d lt. absurd (none-some t c);
  within = λ v t c. absurd (none-some t c);
  second = λ v t c. absurd (none-some (threads + t) c);
}
  where
    nothing_left : (shape : Shape) (w : ℕ → ℕ) (l : Ledger) (r : Running) → l.head ≤ l.tail
        → HasKept shape l.tail w l (λ _. None) r
    nothing_left shape w l r ordered = grind arith

-- with one name for each thread, or with two, for which its first Busy is spared
abbrev pub names_of : Bool → ℕ → ℕ
names_of wide threads = if wide then 2 * threads else threads

abbrev pub spare_of : Bool → ℕ
spare_of wide = if wide then 2 else 0

abbrev pub at_begin : Ledger → Shape → ℕ → World → Bool → (ℕ → Bool) → ℕ → ℕ → Begun
at_begin l shape threads here wide old turns lost = record {
  tail = l.tail;
  ends = l.head + l.tail;
  purse = purse shape (prices shape threads) (word_at here) (place_of here) threads;
  to_change = to_change l.tail l (place_of here) threads + spare_of wide * old_threads old threads;
  names = names_of wide threads;
  spare = spare_of wide;
  turns = turns;
  lost = lost;
}

enough_names : (wide : Bool) (threads : ℕ) → threads ≤ names_of wide threads
enough_names true threads = omega arith
enough_names false threads = omega arith

begin_changes : (from : ℕ) (l : Ledger) (p : ℕ → Option Running) (threads spare : ℕ) → l.head ≤ from
    → 0 + to_change from l p threads + spare + (l.head + from) + threads * 2 * from
    ≤ to_change from l p threads + spare + (l.head + from) + threads * 2 * top from l
begin_changes from l p threads spare ordered = let e : top from l ≡ from = omega (arith, ordered) in rw e (omega arith)

module _ (shape : Shape) (again : shape.holds_again ≡ true) (threads : ℕ) where
  abbrev pub UndosAt : World → Ledger → Type 0
  UndosAt world l = At shape (Undos shape) (undos_table shape again) (undos_begin shape again) (undos_step shape again)
      (undos_outside shape again) world l

  pub undos_after : (events : List Event) (here : World) → after shape threads events ≡ Some here
      → UndosAt here (ledger_after_all shape threads events)
  undos_after events here is =
      after_all shape (Undos shape) (undos_table shape again) (undos_begin shape again) (undos_step shape again)
      (undos_outside shape again)
      events (opening shape threads) here blank
      (record { size = opening_size shape threads; holds = undos_opening shape again threads }) is

  -- a stretch may begin at any world
  pub live_begins : (here : World) (l : Ledger) (wide : Bool) (old : ℕ → Bool) (turns lost : ℕ) → UndosAt here l
      → length here.places ≡ threads
      → IsSound shape here
      → ((t : ℕ) (r : Running) → place_of here t ≡ Some r → old t ≡ false
      → turns + disturbed (word_at here) r ≤ rounds_left r + lost + 1)
      → LiveAt shape threads (prices shape threads) (at_begin l shape threads here wide old turns lost) old here l 0
  live_begins here l wide old turns lost k count sound young =
      record {
        size = k.size;
        count = count;
        sound = sound;
        live = record {
          names = enough_names wide threads;
          undos = k.holds;
          charge = λ _. None;
          stretch = stretch_begins shape threads (names_of wide threads) old (word_at here) (place_of here) l
              k.holds.inv.base.ends.ordered;
          account = omega arith;
          changed = 0;
          reached = omega arith;
          changes = begin_changes l.tail l (place_of here) threads (spare_of wide * old_threads old threads)
              k.holds.inv.base.ends.ordered;
          young = λ t r at new. omega (arith, young t r at new);
        };
      }

total_none : (n : ℕ) → total (λ _. 0) n ≡ 0
total_none zero = refl
total_none (suc n) = omega (arith, total_none n)

sum_bound : (f : ℕ → Option Running → ℕ) (p : ℕ → Option Running) (threads c : ℕ)
    → ((u : ℕ) (o : Option Running) → f u o ≤ 0 + c)
    → sum f p threads ≤ threads * c
sum_bound f p threads c below =
    let k = total_rises (λ _. 0) (λ u. f u (p u)) threads c (λ u _. below u (p u)) in
    omega (arith, k, total_none threads)

purse_bound : (shape : Shape) (threads : ℕ) (x : Prices) (w : ℕ → ℕ) (p : ℕ → Option Running)
    → AreEnough shape threads x
    → purse shape x w p threads ≤ threads * (x.round + x.put + (x.ends + x.ends))
purse_bound shape threads x w p enough =
    sum_bound (λ _. cost_at shape x w) p threads (x.round + x.put + (x.ends + x.ends)) (λ _ o. below o)
  where
    below : (o : Option Running) → cost_at shape x w o ≤ 0 + (x.round + x.put + (x.ends + x.ends))
    below None = omega arith
    below (Some q) = omega (arith, cost_bound shape threads x w q enough)

to_change_bound : (threads : ℕ) (l : Ledger) (p : ℕ → Option Running) → to_change l.tail l p threads ≤ threads * 3
to_change_bound threads l p = sum_bound (λ u. changes_at (has_passed l.tail l u)) p threads 3
    (λ u o. changes_bound (has_passed l.tail l u) o)

-- the prices as the bound has them
price_of_all : (t r : ℕ) → r + t * r + (r + t * r + t * r + (r + t * r + t * r)) ≡ r * (5 * t + 3)
price_of_all t r = omega arith

price_of_ends : (t r : ℕ) → (r + t * r + t * r) + (r + t * r + t * r) + r ≡ r * (4 * t + 3)
price_of_ends t r = omega arith

few_moves : (head tail from at threads n : ℕ) → head ≤ from + threads + 1 → tail < head + n → from < at + n
    → head + tail ≤ at + from + 2 * (threads + n)
few_moves head tail from at threads n h t f = omega arith

spent_bound : (spent left all start ends moves price : ℕ) → spent + left + price * start ≤ all + price * ends
    → ends ≤ start + moves
    → spent ≤ all + moves * price
spent_bound spent left all start ends moves price account few =
    let m : price * ends ≤ price * (start + moves) = mul-le-mul_left price few in
    let d : price * (start + moves) ≡ price * start + moves * price = omega arith in
    omega (arith, account, m, d)

-- what the threads had at the begin of a stretch is bounded
pub record Fair (shape : Shape) (threads : ℕ) (b : Begun) : Type 0 where
  pub purse : b.purse ≤ threads * ((2 * shape.k + 9) * (5 * threads + 3))
  pub to_change : b.to_change ≤ threads * 3 + b.spare * threads
  pub ends : b.tail + b.tail < b.ends + shape.n

pub fair_begin : (shape : Shape) (threads : ℕ) (l : Ledger) (here : World) (wide : Bool) (old : ℕ → Bool)
    (turns lost : ℕ)
    → EndsOk shape (word_at here 0) l.head l.tail
    → Fair shape threads (at_begin l shape threads here wide old turns lost)
unfolding prices
fair_begin shape threads l here wide old turns lost ok =
    let all = purse_bound shape threads (prices shape threads) (word_at here) (place_of here)
    (enough_prices shape threads) in
    let spare : spare_of wide * old_threads old threads ≤ spare_of wide * threads =
    mul-le-mul_left (spare_of wide) (few_old old threads) in
    record {
      purse = subst (λ z. purse shape (prices shape threads) (word_at here) (place_of here) threads ≤ threads * z)
          (price_of_all threads (2 * shape.k + 9)) all;
      to_change = omega (arith, to_change_bound threads l (place_of here), spare);
      ends = omega (arith, ok.no_wrap);
    }

-- so a live stretch has spent little, and changed few words
module _ (shape : Shape) (threads : ℕ) (b : Begun) (old : ℕ → Bool) (few : b.names < shape.n)
    (fair : Fair shape threads b) (l : Ledger)
    (there : World) (spent : ℕ) (h : LiveAt shape threads (prices shape threads) b old there l spent) where
  live_head : l.head ≤ b.tail + b.names + 1
  live_head = head_bound shape threads b.names b.tail old (word_at there) (place_of there) l h.live.charge few
      h.live.stretch

  live_moves : l.head + l.tail ≤ b.ends + most_moves shape b.names
  live_moves = omega (arith, live_head, h.live.undos.inv.base.ends.no_wrap, fair.ends)

  pub live_spent : spent ≤ most_steps shape threads b.names
  unfolding prices
  live_spent =
      let bound = spent_bound spent (purse shape (prices shape threads) (word_at there) (place_of there) threads)
      b.purse b.ends
      (l.head + l.tail) (2 * (b.names + shape.n)) (move_price (prices shape threads) threads) h.live.account
      live_moves in
      let price : 2 * (b.names + shape.n) * move_price (prices shape threads) threads
      ≡ 2 * (b.names + shape.n) * (threads * ((2 * shape.k + 9) * (4 * threads + 3)) + 1) =
      ap (λ z. 2 * (b.names + shape.n) * (threads * z + 1)) (price_of_ends threads (2 * shape.k + 9)) in
      omega (arith, bound, fair.purse, price)

  pub live_changed : h.live.changed ≤ most_changes shape threads b.names + b.spare * threads
  live_changed =
      let past : top b.tail l ≤ b.tail + (b.names + 1) = omega (arith, live_head) in
      let m : threads * 2 * top b.tail l ≤ threads * 2 * (b.tail + (b.names + 1)) =
      mul-le-mul_left (threads * 2) past in
      let d : threads * 2 * (b.tail + (b.names + 1)) ≡ threads * 2 * b.tail + 2 * threads * (b.names + 1) =
      omega arith in
      omega (arith, h.live.changes, live_moves, m, d, fair.to_change)

pub no_turns : (events : List Event) → AllHaveTurns 0 events
no_turns [] = tt
no_turns (e ∷ es) = (by_begin e.begin, no_turns es)
  where
    by_begin : (begin : Option Begin) → HasTurns 0 begin
    by_begin begin = grind arith
