-- The ledger's numbers of head and tail are those of the won head-ons and tail-ons.
use Rattle.std.proofs.Common.{◌≡◌, ◌⊎◌, ℕ, ◌+◌, List, [], ◌∷◌, Bool, true, false, Option, Some, None, Ok, cond, refl}
use Rattle.std.proofs.Common.{ap, inl, inr, arith}
use Rattle.std.proofs.lemmas.Bool.Decides.{nat_tests}
use Rattle.kfifo_linear.proofs.Types.{Begin, Event, Outcome, Running, Shape}
use Rattle.kfifo_machine.specs.declared.event.Begin.TheVariants as B
use Rattle.kfifo_machine.specs.declared.place.EnqueuePhase.TheVariants as E
use Rattle.kfifo_machine.specs.declared.place.DequeuePhase.TheVariants as D
use Rattle.kfifo_machine.specs.declared.place.Running.TheVariants as R
use Rattle.kfifo_machine.specs.Machine.{World, opening, word_at, place_of, found, may_begin, step, run, world_of}
use Rattle.kfifo_machine.specs.Runs.{going}
use Rattle.kfifo_machine.specs.Laws.{moves_head, moves_tail, counted, count}
use Rattle.kfifo_machine.proofs.Schedules.{first_made, stepped}
use Rattle.kfifo_linear.specs.Ledger.{Ledger, called, found_in, ledger_from, ledger_after, ledger_of, blank}
use Rattle.kfifo_linear.specs.Ledger as ledger
use Rattle.kfifo_linear.specs.Headline.{NumbersAgree}

-- a step counts where it moves the head, or the tail
head_step : (shape : Shape) (w : ℕ → ℕ) (t : ℕ) (r : Running) (l : Ledger)
    → (ledger.stepped shape w t r l).head ≡ l.head + cond (moves_head r (found_in shape w r)) 1 0
unfolding ledger.stepped
head_step shape w t r l = grind (arith, nat_tests)

tail_step : (shape : Shape) (w : ℕ → ℕ) (t : ℕ) (r : Running) (l : Ledger)
    → (ledger.stepped shape w t r l).tail ≡ l.tail + cond (moves_tail r (found_in shape w r)) 1 0
unfolding ledger.stepped
tail_step shape w t r l = grind (arith, nat_tests)

called_same : (t : ℕ) (b : Begin) (l : Ledger) → ((called t b l).head ≡ l.head) × ((called t b l).tail ≡ l.tail)
unfolding called
called_same t b l = (refl, refl)

-- a call's first step moves neither
none_counted : (shape : Shape) (moves : Running → ℕ → Bool) (world : World) (r : Running) (may : Bool)
    → moves r (found shape world r) ≡ false → counted shape moves world (cond may (Some r) None) ≡ 0
none_counted shape moves world r true e = ap (λ b. cond b 1 0) e
none_counted shape moves world r false e = refl

module _ (shape : Shape) (world : World) (t : ℕ) (l : Ledger) where
  head_from : (place : Option Running) (begin : Option Begin) → (r : Running) → going shape place begin ≡ Some r
      → (ledger_from shape (word_at world) t place begin l).head
      ≡ l.head + counted shape moves_head world (going shape place begin)
  unfolding found
  head_from None None r e = absurd (cc)
  head_from None (Some (B.Enqueue item start turns)) r e =
      let b : Begin = B.Enqueue item start turns in
      let none = none_counted shape moves_head world (R.Enqueue item start turns E.LoadEnds) (may_begin shape b) refl in
      omega (
        arith,
        none,
        head_step shape (word_at world) t (R.Enqueue item start turns E.LoadEnds) (called t b l),
        (called_same t b l).0,
      )
  head_from None (Some (B.Dequeue start turns)) r e =
      let b : Begin = B.Dequeue start turns in
      let none = none_counted shape moves_head world (R.Dequeue start turns D.LoadEnds) (may_begin shape b) refl in
      omega (
        arith,
        none,
        head_step shape (word_at world) t (R.Dequeue start turns D.LoadEnds) (called t b l),
        (called_same t b l).0,
      )
  head_from None (Some B.Tick) r e = absurd (cc)
  head_from None (Some B.Seal) r e = absurd (cc)
  head_from (Some q) None r e = head_step shape (word_at world) t q l
  head_from (Some q) (Some b) r e = absurd (cc)

  tail_from : (place : Option Running) (begin : Option Begin) → (r : Running) → going shape place begin ≡ Some r
      → (ledger_from shape (word_at world) t place begin l).tail
      ≡ l.tail + counted shape moves_tail world (going shape place begin)
  unfolding found
  tail_from None None r e = absurd (cc)
  tail_from None (Some (B.Enqueue item start turns)) r e =
      let b : Begin = B.Enqueue item start turns in
      let none = none_counted shape moves_tail world (R.Enqueue item start turns E.LoadEnds) (may_begin shape b) refl in
      omega (
        arith,
        none,
        tail_step shape (word_at world) t (R.Enqueue item start turns E.LoadEnds) (called t b l),
        (called_same t b l).1,
      )
  tail_from None (Some (B.Dequeue start turns)) r e =
      let b : Begin = B.Dequeue start turns in
      let none = none_counted shape moves_tail world (R.Dequeue start turns D.LoadEnds) (may_begin shape b) refl in
      omega (
        arith,
        none,
        tail_step shape (word_at world) t (R.Dequeue start turns D.LoadEnds) (called t b l),
        (called_same t b l).1,
      )
  tail_from None (Some B.Tick) r e = absurd (cc)
  tail_from None (Some B.Seal) r e = absurd (cc)
  tail_from (Some q) None r e = tail_step shape (word_at world) t q l
  tail_from (Some q) (Some b) r e = absurd (cc)

  outside_same : (place : Option Running) (begin : Option Begin) → place ≡ None → (begin ≡ Some B.Tick)
      ⊎ (begin ≡ Some B.Seal)
      → ((ledger_from shape (word_at world) t place begin l).head ≡ l.head + counted shape moves_head world
      (going shape place begin))
      × ((ledger_from shape (word_at world) t place begin l).tail ≡ l.tail + counted shape moves_tail world
      (going shape place begin))
  outside_same None (Some B.Tick) idle begins = (omega arith, omega arith)
  outside_same None (Some B.Seal) idle begins = (omega arith, omega arith)
  outside_same None (Some (B.Enqueue item start turns)) idle begins = absurd (elim begins [ inl e ↦ cc | inr e ↦ cc ])
  outside_same None (Some (B.Dequeue start turns)) idle begins = absurd (elim begins [ inl e ↦ cc | inr e ↦ cc ])
  outside_same None None idle begins = absurd (elim begins [ inl e ↦ cc | inr e ↦ cc ])
  outside_same (Some q) begin idle begins = absurd (cc)

-- an event that was made
event_counts : (shape : Shape) (world next : World) (e : Event) (l : Ledger)
    → ((outcome : Outcome) × (step shape world e ≡ Ok (next, outcome)))
    → ((ledger_after shape world e l).head ≡ l.head + counted shape moves_head world
    (going shape (place_of world e.thread) e.begin))
    × ((ledger_after shape world e l).tail ≡ l.tail + counted shape moves_tail world
    (going shape (place_of world e.thread) e.begin))
unfolding ledger_after
event_counts shape world next e l made =
    elim (stepped shape world e next made.0 made.1) [
      | inl s ↦ (
        head_from shape world e.thread l (place_of world e.thread) e.begin s.running s.goes,
        tail_from shape world e.thread l (place_of world e.thread) e.begin s.running s.goes,
      )
      | inr o ↦ outside_same shape world e.thread l (place_of world e.thread) e.begin o.idle
          (elim o.by [ inl t ↦ inl t.begins | inr z ↦ inr z.begins ])
    ]

counts_all : (shape : Shape) (world final : World) (events : List Event) (l : Ledger) → run shape (Some world) events
    ≡ Some final
    → ((ledger_of shape (Some world) events l).head ≡ l.head + count shape moves_head (Some world) events)
    × ((ledger_of shape (Some world) events l).tail ≡ l.tail + count shape moves_tail (Some world) events)
counts_all shape world final [] l is = (omega arith, omega arith)
counts_all shape world final (e ∷ es) l is =
    let m = first_made shape world e final es is in
    let now = event_counts shape world m.0 e l (m.1.0, m.1.1.0) in
    let rest = counts_all shape m.0 final es (ledger_after shape world e l) m.1.1.1 in
    let ledgers : ledger_of shape (Some world) (e ∷ es) l
    ≡ ledger_of shape (Some m.0) es (ledger_after shape world e l) =
    ap (λ o. ledger_of shape (world_of o) es (ledger_after shape world e l)) m.1.1.0 in
    let heads : count shape moves_head (world_of (step shape world e)) es ≡ count shape moves_head (Some m.0) es =
    ap (λ o. count shape moves_head (world_of o) es) m.1.1.0 in
    let tails : count shape moves_tail (world_of (step shape world e)) es ≡ count shape moves_tail (Some m.0) es =
    ap (λ o. count shape moves_tail (world_of o) es) m.1.1.0 in (
      omega (arith, now.0, rest.0, ap (λ (x : Ledger). x.head) ledgers, heads),
      omega (arith, now.1, rest.1, ap (λ (x : Ledger). x.tail) ledgers, tails),
    )

pub numbers_agree : (shape : Shape) (threads : ℕ) → NumbersAgree shape threads
unfolding blank
numbers_agree shape threads events here is =
    let c = counts_all shape (opening shape threads) here events blank is in
    (omega (arith, c.0), omega (arith, c.1))
