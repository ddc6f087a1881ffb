-- A queue that a pass saw sealed empty has no items at the end.
use Rattle.std.proofs.Common.{◌≡◌, ℕ, zero, suc, ◌+◌, ◌*◌, ◌<◌, ◌≤◌, List, [], ◌∷◌, ◌++◌, length, get_or, Some, None}
use Rattle.std.proofs.Common.{true, refl, sym, ap, ◌∙◌, inl, inr, arith, cond, eqb-true, eq-eqb, map}
use Rattle.std.specs.Prelude.{◌==◌}
use Rattle.std.proofs.Math.Nat.{mul-le-mul_right}
use Rattle.std.specs.List.{Contains, list_any}
use Rattle.std.proofs.lemmas.Bool.{cases_Bool, cases_eq, cases_lt, false≢true}
use Rattle.std.proofs.lemmas.Option.{none-some}
use Rattle.kfifo_live.proofs.Types.{Event, Opening, Shape}
use Rattle.kfifo_words.specs.Words.{value_of, head_of}
use Rattle.kfifo_words.specs.Ring.{next_segment, slot_at}
use Rattle.kfifo_machine.specs.Machine.{World, opening, place_of, run, word_at}
use Rattle.kfifo_machine.specs.Places.{IsSlotIndex}
use Rattle.kfifo_machine.specs.Runs.{Begins}
use Rattle.kfifo_machine.proofs.Schedules.{run_before, same_place}
use Rattle.kfifo_machine.proofs.Sound.{sound_ends, sound_threads}
use Rattle.kfifo_machine.proofs.Versions.{next_segment-below}
use Rattle.kfifo_linear.specs.Seals.{SealedEmpty}
use Rattle.kfifo_linear.proofs.Seals.{stays_empty}
use Rattle.kfifo_live.specs.Schedule.{world_after}
use Rattle.kfifo_live.specs.Left.{item_in, slots_left, segments_left, items_left}
use Rattle.kfifo_live.specs.Pass.{PassView, AllSeen, AllIdle, HaveAllThreads, HaveComeOut, OneSealedEmpty}
use Rattle.kfifo_live.specs.Pass.{WasSealedEmpty}
use Rattle.kfifo_live.proofs.Balance.{balance}

-- the thread of a pass is idle after the whole schedule
still_idle : (o : Opening) (p : PassView) (all : List Event) (world : World) → world_after o all ≡ Some world
    → Begins p.thread p.seen all → ((here : World) → world_after o p.seen ≡ Some here → place_of here p.thread ≡ None)
    → place_of world p.thread ≡ None
still_idle o p all world reached b idle =
    let k = run_before o.shape (Some (opening o.shape o.threads)) world p.seen b.rest
    (ap (world_after o) (sym b.goes_on) ∙ reached) in
    same_place o.shape k.0 world b.rest p.thread b.no_own k.2 ∙ idle k.0 k.1

-- and so is each whose pass is among these
pub idle_in : (o : Opening) (ps : List PassView) (all : List Event) (world : World) (thread : ℕ)
    → world_after o all ≡ Some world
    → AllSeen ps all → AllIdle o ps → Contains (map (λ p. p.thread) ps) thread → place_of world thread ≡ None
idle_in o [] all world thread reached seen idle (k, inside, is) = absurd (omega (arith, inside))
idle_in o (p ∷ ps) all world thread reached seen idle (zero, inside, is) =
    ap (place_of world) (sym is) ∙ still_idle o p all world reached seen.0 idle.0
idle_in o (p ∷ ps) all world thread reached seen idle (suc k, inside, is) =
    idle_in o ps all world thread reached seen.1 idle.1 (k, omega (arith, inside), is)

-- where the pass of a thread is among these, its thread is idle after the whole schedule
idle_of : (o : Opening) (ps : List PassView) (all : List Event) (world : World) (thread : ℕ)
    → world_after o all ≡ Some world
    → AllSeen ps all → AllIdle o ps → list_any (λ p. p.thread == thread) ps ≡ true → place_of world thread ≡ None
idle_of o [] all world thread reached seen idle any = absurd (false≢true any)
idle_of o (p ∷ ps) all world thread reached seen idle any =
    elim (cases_Bool (p.thread == thread)) [
      | inl mine ↦ ap (place_of world) (sym (eqb-true p.thread thread mine))
          ∙ still_idle o p all world reached seen.0 idle.0
      | inr other ↦ idle_of o ps all world thread reached seen.1 idle.1 (rw other at any)
    ]

beyond : {X : Type 0} (xs : List X) (i : ℕ) (d : X) → length xs ≤ i → get_or xs i d ≡ d
beyond [] i d le = refl
beyond (x ∷ xs) zero d le = absurd (omega (arith, le))
beyond (x ∷ xs) (suc i) d le = beyond xs i d (omega (arith, le))

no_thread : (world : World) (thread : ℕ) → length world.places ≤ thread → place_of world thread ≡ None
unfolding place_of
no_thread world thread le = beyond world.places thread None le

all_idle : (o : Opening) (ps : List PassView) (all : List Event) (world : World) → world_after o all ≡ Some world
    → AllSeen ps all
    → AllIdle o ps → HaveAllThreads o.threads ps → (thread : ℕ) → place_of world thread ≡ None
all_idle o ps all world reached seen idle complete thread =
    elim (cases_lt thread o.threads) [
      | inl lt ↦ idle_of o ps all world thread reached seen idle (complete thread lt)
      | inr ge ↦ no_thread world thread (let e = sound_threads o.shape o.threads all world reached in omega arith)
    ]

-- one of them saw a beginning of the schedule that leaves the queue sealed empty
pub record Saw (o : Opening) (all : List Event) : Type 0 where
  pub events : List Event
  pub more : List Event
  pub split : all ≡ events ++ more
  pub sealed : SealedEmpty o.shape o.threads events

saw : (o : Opening) (ps : List PassView) (all : List Event) → AllSeen ps all → OneSealedEmpty o ps → Saw o all
saw o [] all seen one = absurd one
saw o (p ∷ ps) all seen (inl sealed) = record {
  events = p.seen;
  more = seen.0.rest;
  split = seen.0.goes_on;
  sealed = sealed;
}
saw o (p ∷ ps) all seen (inr one) = saw o ps all seen.1 one

-- empty slots have no items
item_none : (word : ℕ) → value_of word ≡ 0 → item_in word ≡ []
item_none word empty = ap (λ b. cond b [] (value_of word ∷ [])) (eq-eqb (value_of word) 0 empty)

abbrev NoneFilled : Shape → List ℕ → Type 0
NoneFilled shape words = (i : ℕ) → IsSlotIndex shape i → value_of (get_or words i 0) ≡ 0

slots_none : (shape : Shape) (words : List ℕ) (index count : ℕ) → NoneFilled shape words → 0 < index
    → index + count ≤ 1 + shape.n * shape.k → slots_left words index count ≡ []
slots_none shape words index zero none above below = refl
slots_none shape words index (suc count) none above below =
    (λ k. item_none (get_or words index 0) (none index (record { above = above; below = omega arith })) k
    ++ slots_none shape words (suc index) count none (omega arith) (omega arith) k)

segments_none : (shape : Shape) (words : List ℕ) (segment count : ℕ) → NoneFilled shape words → segment < shape.n
    → segments_left shape words segment count ≡ []
segments_none shape words segment zero none within = refl
segments_none shape words segment (suc count) none within =
    let room : (segment + 1) * shape.k ≤ shape.n * shape.k = mul-le-mul_right shape.k (omega arith) in
    (λ k. slots_none shape words (slot_at shape.k segment 0) shape.k none (omega arith) (omega arith) k
    ++ segments_none shape words (next_segment shape.n segment) count none
    (next_segment-below shape.n segment within) k)

none_left : (shape : Shape) (threads : ℕ) (all : List Event) (world : World)
    → run shape (Some (opening shape threads)) all ≡ Some world
    → ((i : ℕ) → IsSlotIndex shape i → value_of (word_at world i) ≡ 0) → items_left shape world.words ≡ []
unfolding word_at
none_left shape threads all world reached none =
    segments_none shape world.words (head_of (get_or world.words 0 0)) shape.n none
    (sound_ends shape threads all world reached).head

-- so a queue that was sealed empty has no items where all its threads are idle
pub sealed_left : (o : Opening) (all : List Event) (world : World) → o.threads ≤ 64 → world_after o all ≡ Some world
    → Saw o all → ((thread : ℕ) → place_of world thread ≡ None) → items_left o.shape world.words ≡ []
sealed_left o all world few reached s idle =
    none_left o.shape o.threads all world reached (λ i is_slot.
    elim (cases_eq (value_of (word_at world i)) 0) [
      | inl empty ↦ empty
      | inr filled ↦
          let by = stays_empty o.shape o.threads few s.events s.more world s.sealed
          (ap (world_after o) (sym s.split) ∙ reached) i is_slot filled in
          absurd (none-some by.1.0 (sym (idle by.0) ∙ by.1.1))
    ])

-- and so it is with one that one of its passes saw sealed empty, when it is closed
pub sealed_closes : (o : Opening) (ps : List PassView) (all : List Event) (world : World) → o.threads ≤ 64
    → world_after o all ≡ Some world
    → AllSeen ps all → AllIdle o ps → HaveAllThreads o.threads ps → OneSealedEmpty o ps
    → items_left o.shape world.words ≡ []
sealed_closes o ps all world few reached seen idle complete one =
    sealed_left o all world few reached (saw o ps all seen one) (all_idle o ps all world reached seen idle complete)

-- what passes that make no call put into a queue that was sealed empty has come out
pub come_out : (p : PassView) (ps : List PassView) (world : World) → p.opened.threads ≤ 64
    → world_after p.opened p.seen ≡ Some world → AllSeen ps p.seen → AllIdle p.opened ps → WasSealedEmpty p
    → HaveComeOut (map (λ q. q.thread) ps) p
come_out p ps world few reached seen idle sealed =
    let o = p.opened in
    record {
      world = world;
      reached = reached;
      others = λ index is_slot filled.
          let by = stays_empty o.shape o.threads few sealed.first sealed.begins.0 world sealed.empty
          (ap (world_after o) (sym sealed.begins.1) ∙ reached) index is_slot filled in (
            by.0,
            λ among. none-some by.1.0 (sym (idle_in o ps p.seen world by.0 reached seen idle among) ∙ by.1.1),
            by.1,
          );
      balance = λ item. balance o p.seen world item reached;
    }
