-- Which enqueue put the word that stands in a slot: where the holder law is kept, the one that last began with its
-- item.
use Rattle.std.proofs.Common.{◌≡◌, ◌≢◌, ◌⊎◌, ℕ, zero, suc, ◌+◌, ◌*◌, ◌<◌, ◌≤◌, List, [], ◌∷◌, ◌++◌, get_or, replicate}
use Rattle.std.proofs.Common.{append_assoc, Option, Some, None, Ok, Bool, true, false, refl, sym, ap, ◌∙◌, subst, inl}
use Rattle.std.proofs.Common.{inr, arith, cond}
use Rattle.std.proofs.lemmas.Bool.{cases_eq}
use Rattle.std.proofs.lemmas.Bool.Decides.{nat_tests}
use Rattle.std.proofs.lemmas.List.{append-nil}
use Rattle.kfifo_live.proofs.Types.{Begin, EnqueuePhase, Event, Next, Opening, Running, Shape}
use Rattle.kfifo_words.specs.Words.{value_of}
use Rattle.kfifo_words.specs.Ring.{clock_at}
use Rattle.kfifo_machine.specs.declared.event.Begin.TheVariants as B
use Rattle.kfifo_machine.specs.declared.event.Outcome.{Outcome}
use Rattle.kfifo_machine.specs.declared.place.EnqueuePhase.TheVariants as E
use Rattle.kfifo_machine.specs.declared.place.DequeuePhase.{DequeuePhase}
use Rattle.kfifo_machine.specs.declared.place.DequeuePhase.TheVariants as D
use Rattle.kfifo_machine.specs.declared.place.Running.TheVariants as R
use Rattle.kfifo_machine.specs.declared.place.Next.TheVariants.{Goes, Answers}
use Rattle.kfifo_machine.specs.declared.place.Access.TheVariants.{Exchange}
use Rattle.kfifo_machine.specs.Program.{access, accessed, advance, filled_with}
use Rattle.kfifo_machine.specs.Machine.{World, opening, found, word_at, place_of, place_after, begun, may_begin}
use Rattle.kfifo_machine.specs.Machine.{world_of, step, run}
use Rattle.kfifo_machine.specs.Runs.{event, own, going, AllGoOn}
use Rattle.kfifo_machine.specs.Places.{IsPlace}
use Rattle.kfifo_machine.specs.Laws.{PutsNext}
use Rattle.kfifo_machine.specs.Tokens.{AllBeginFree, BeginsFree, IsHeld, IsInSlot}
use Rattle.kfifo_machine.proofs.Budget.{own_first, own_place}
use Rattle.kfifo_machine.proofs.Refusals.{CarriesAt}
use Rattle.kfifo_machine.proofs.Schedules.{Some-injective, StepsFrom, after-snoc, first_made, made_within, other_place}
use Rattle.kfifo_machine.proofs.Schedules.{own-append, stepped}
use Rattle.kfifo_machine.proofs.Sound.{IsSound, going_place, place_is, sound}
use Rattle.kfifo_machine.proofs.BusyIsDisturbed.{found-is}
use Rattle.kfifo_machine.proofs.Tokens.{value-filled_with}
use Rattle.kfifo_machine.proofs.Versions.{one_word, won_word, word_rises}
use Rattle.kfifo_live.specs.Schedule.{HolderLaw, world_after}
use Rattle.kfifo_live.specs.Hands.{item_begun, items_begun, own_item, out_at}
use Rattle.kfifo_live.proofs.Balance.{know_after, value-zero}
use Rattle.kfifo_live.proofs.GiftsInTurn.{items_begun-append}
use Rattle.kfifo_live.proofs.CompleteExecutions.{AllGoOn-append}
use Rattle.kfifo_live.proofs.CarriedWords.{out_held, IsUndo, enqueue_keeps, out_came, IsPut, carries_came}
use Rattle.kfifo_live.proofs.CarriedWords.{put_of_exchange, carried_word}

-- none of these is the item
abbrev pub Lacks : ℕ → List ℕ → Type 0
Lacks x [] = Unit {0}
Lacks x (y ∷ ys) = (y ≢ x) × Lacks x ys

Lacks-append : (x : ℕ) (ys zs : List ℕ) → Lacks x ys → Lacks x zs → Lacks x (ys ++ zs)
Lacks-append x [] zs a b = b
Lacks-append x (y ∷ ys) zs a b = (a.0, Lacks-append x ys zs a.1 b)

-- an enqueue of the thread is the last that began with this item, and the thread has begun nothing since
record BeganLast (all : List Event) (thread item : ℕ) : Type 0 where
  start : ℕ
  turns : ℕ
  before : List Event
  after : List Event
  all_are : all ≡ before ++ event thread (Some (B.Enqueue item start turns)) ∷ after
  one_call : AllGoOn (own thread after)
  not_again : Lacks item (items_begun after)

-- such an enqueue has put this word at this index
pub record PutLast (o : Opening) (all : List Event) (index word item : ℕ) : Type 0 where
  pub thread : ℕ
  pub start : ℕ
  pub turns : ℕ
  pub before : List Event
  pub between : List Event
  pub after : List Event
  pub all_are : all ≡ (before ++ event thread (Some (B.Enqueue item start turns)) ∷ between) ++ event thread None
      ∷ after
  pub one_call : AllGoOn (own thread between)
  pub puts : PutsNext o.shape o.threads (before ++ event thread (Some (B.Enqueue item start turns)) ∷ between) thread
      index word
  pub value_is : value_of word ≡ item
  pub not_again : Lacks item (items_begun (between ++ event thread None ∷ after))

lacks_on : (x : ℕ) (events : List Event) (e : Event) → Lacks x (items_begun events) → Lacks x (item_begun e.begin)
    → Lacks x (items_begun (events ++ e ∷ []))
lacks_on x events e old new = subst (Lacks x) (sym (items_begun-append events (e ∷ [])))
    (Lacks-append x (items_begun events) (item_begun e.begin ++ []) old (Lacks-append x (item_begun e.begin) [] new tt))

-- one event more
began_on : (all : List Event) (e : Event) (thread item : ℕ) → BeganLast all thread item
    → (e.thread ≡ thread → e.begin ≡ None)
    → Lacks item (item_begun e.begin) → BeganLast (all ++ e ∷ []) thread item
began_on all e thread item b none lacks = record {
  start = b.start;
  turns = b.turns;
  before = b.before;
  after = b.after ++ e ∷ [];
  all_are = ap (λ es. es ++ e ∷ []) b.all_are
      ∙ append_assoc b.before (event thread (Some (B.Enqueue item b.start b.turns)) ∷ b.after)
      (e ∷ []);
  one_call = subst AllGoOn (sym (own-append thread b.after (e ∷ [])))
      (AllGoOn-append (own thread b.after) (own thread (e ∷ [])) b.one_call one);
  not_again = lacks_on item b.after e b.not_again lacks;
}
  where
    one : AllGoOn (own thread (e ∷ []))
    one = elim (own_first thread e []) [
      | inl mine ↦ subst AllGoOn (sym mine.1) (none mine.0, tt)
      | inr other ↦ subst AllGoOn (sym other.1) tt
    ]

pub put_on : (o : Opening) (all : List Event) (e : Event) (index word item : ℕ) → PutLast o all index word item
    → Lacks item (item_begun e.begin) → PutLast o (all ++ e ∷ []) index word item
put_on o all e index word item p lacks =
    let begins = p.before ++ event p.thread (Some (B.Enqueue item p.start p.turns)) ∷ p.between in
    let put = event p.thread None in
    record {
      thread = p.thread;
      start = p.start;
      turns = p.turns;
      before = p.before;
      between = p.between;
      after = p.after ++ e ∷ [];
      all_are = ap (λ es. es ++ e ∷ []) p.all_are ∙ append_assoc begins (put ∷ p.after) (e ∷ []);
      one_call = p.one_call;
      puts = p.puts;
      value_is = p.value_is;
      not_again = subst (λ es. Lacks item (items_begun es)) (append_assoc p.between (put ∷ p.after) (e ∷ []))
          (lacks_on item (p.between ++ put ∷ p.after) e p.not_again lacks);
    }

-- how a step goes: on from its place, or from the first place of a call
pub data Going (place : Option Running) (begin : Option Begin) (r : Running) : Type 0 where
  On : begin ≡ None → place ≡ Some r → Going place begin r
  Enqueues : (item start turns : ℕ) → begin ≡ Some (B.Enqueue item start turns)
      → r ≡ R.Enqueue item start turns E.LoadEnds
      → Going place begin r
  Dequeues : (start turns : ℕ) → r ≡ R.Dequeue start turns D.LoadEnds → Going place begin r

pub going_is : (shape : Shape) (place : Option Running) (begin : Option Begin) (r : Running)
    → going shape place begin ≡ Some r
    → Going place begin r
going_is shape None None r goes = absurd (cc)
going_is shape (Some q) (Some begin) r goes = absurd (cc)
going_is shape (Some q) None r goes = On refl goes
going_is shape None (Some (B.Enqueue item start turns)) r goes = Enqueues item start turns refl
    (of_may (may_begin shape (B.Enqueue item start turns)) goes)
  where
    of_may : (may : Bool) → cond may (begun (B.Enqueue item start turns)) None ≡ Some r
        → r ≡ R.Enqueue item start turns E.LoadEnds
    of_may true e = sym (Some-injective _ _ e)
    of_may false e = absurd (cc)
going_is shape None (Some (B.Dequeue start turns)) r goes =
    Dequeues start turns (of_may (may_begin shape (B.Dequeue start turns)) goes)
  where
    of_may : (may : Bool) → cond may (begun (B.Dequeue start turns)) None ≡ Some r
        → r ≡ R.Dequeue start turns D.LoadEnds
    of_may true e = sym (Some-injective _ _ e)
    of_may false e = absurd (cc)
going_is shape None (Some B.Tick) r goes = absurd (cc)
going_is shape None (Some B.Seal) r goes = absurd (cc)

lacks_begun : (shape : Shape) (here : World) (x : ℕ) (begin : Option Begin) → BeginsFree shape here begin
    → IsHeld here x ⊎ IsInSlot shape here x → Lacks x (item_begun begin)
lacks_begun shape here x None free there = tt
lacks_begun shape here x (Some (B.Enqueue item start turns)) free there = (
  λ same. elim there [
    | inl held ↦ free.1 (subst (IsHeld here) (sym same) held)
    | inr in_slot ↦ free.0
        (subst (IsInSlot shape here) (sym same) in_slot)
  ],
  tt,
)
lacks_begun shape here x (Some (B.Dequeue start turns)) free there = tt
lacks_begun shape here x (Some B.Tick) free there = tt
lacks_begun shape here x (Some B.Seal) free there = tt

-- After a schedule: who has a token out, or put the word that stands, began last with it; and so did who put a slot's
-- word
record Traced (o : Opening) (all : List Event) (world : World) : Type 0 where
  held : (u : ℕ) (r : Running) (x : ℕ) → place_of world u ≡ Some r → out_at r ≡ x → 0 < x → BeganLast all u x
  carried : (u : ℕ) (r : Running) (i word : ℕ) → place_of world u ≡ Some r → CarriesAt r i word → word_at world i ≡ word
      → BeganLast all u (own_item r)
  below : (u : ℕ) (r : Running) (i word : ℕ) → place_of world u ≡ Some r → CarriesAt r i word → word ≤ word_at world i
  slots : (i : ℕ) → 0 < i → i < clock_at o.shape.k o.shape.n → value_of (word_at world i) ≢ 0
      → PutLast o all i (word_at world i) (value_of (word_at world i))

dequeue_keeps : (shape : Shape) (start left : ℕ) (phase : DequeuePhase) (word : ℕ) (q : Running)
    → advance shape (R.Dequeue start left phase) word ≡ Goes q → own_item q ≡ 0
dequeue_keeps shape start left phase word q is = grind (arith, nat_tests)

keeps_own : (shape : Shape) (r : Running) (word : ℕ) (q : Running) → advance shape r word ≡ Goes q
    → own_item q ≡ own_item r
keeps_own shape (R.Enqueue item start left phase) word q is = enqueue_keeps shape item start left phase word q is
keeps_own shape (R.Dequeue start left phase) word q is = dequeue_keeps shape start left phase word q is

next_goes : (next : Next) (q : Running) → place_after next ≡ Some q → next ≡ Goes q
next_goes (Goes r) q is = ap Goes (Some-injective r q is)
next_goes (Answers answer) q is = absurd (cc)

put_not_first : (item start left ends index empty other first turns : ℕ)
    → R.Enqueue item start left (E.Put ends index empty) ≡ R.Enqueue other first turns E.LoadEnds → ⊥
put_not_first item start left ends index empty other first turns e = cc

pub enqueue_not_dequeue : (item start left first turns : ℕ) (phase : EnqueuePhase) (other : DequeuePhase)
    → R.Enqueue item start left phase ≡ R.Dequeue first turns other → ⊥
enqueue_not_dequeue item start left first turns phase other e = cc

-- a put goes on from its place
put_goes_on : (shape : Shape) (place : Option Running) (begin : Option Begin) (item start left ends index empty : ℕ)
    → going shape place begin ≡ Some (R.Enqueue item start left (E.Put ends index empty))
    → (begin ≡ None) × (place ≡ Some (R.Enqueue item start left (E.Put ends index empty)))
put_goes_on shape place begin item start left ends index empty goes = of_going (going_is shape place begin _ goes)
  where
    of_going : Going place begin (R.Enqueue item start left (E.Put ends index empty))
        → (begin ≡ None) × (place ≡ Some (R.Enqueue item start left (E.Put ends index empty)))
    of_going (On none at) = (none, at)
    of_going (Enqueues other first turns begins is) =
        absurd (put_not_first item start left ends index empty other first turns is)
    of_going (Dequeues first turns is) =
        absurd (enqueue_not_dequeue item start left first turns (E.Put ends index empty) D.LoadEnds is)

lacks_none : (x : ℕ) (begin : Option Begin) → begin ≡ None → Lacks x (item_begun begin)
lacks_none x begin none = subst (λ (b : Option Begin). Lacks x (item_begun b)) (sym none) tt

-- one event keeps it
module _ (o : Opening) (done : List Event) (here there : World) (e : Event) (outcome : Outcome)
    (reached : world_after o done ≡ Some here)
    (made : step o.shape here e ≡ Ok (there, outcome)) (free : BeginsFree o.shape here e.begin)
    (known : Traced o done here) where
  is_sound : IsSound o.shape here
  is_sound = sound o.shape o.threads done here reached

  rises : (i : ℕ) → word_at here i ≤ word_at there i
  rises i = word_rises o.shape here e there outcome i is_sound made

  -- a word that a thread carries, and that stands after the event, stood before
  stood : (u : ℕ) (r : Running) (i word : ℕ) → place_of here u ≡ Some r → CarriesAt r i word → word_at there i ≡ word
      → word_at here i ≡ word
  stood u r i word at c stands = let a = known.below u r i word at c in let b = rises i in omega (arith, a, b, stands)

  -- no call begins with its item, nor with one that a thread has out
  lacks_carried : (u : ℕ) (r : Running) (i word : ℕ) → place_of here u ≡ Some r → CarriesAt r i word
      → word_at here i ≡ word
      → Lacks (own_item r) (item_begun e.begin)
  lacks_carried u r i word at c stands =
      let w = carried_word o.shape r i word (place_is o.shape here u r is_sound at)
      (know_after o done here reached u r at) c in
      lacks_begun o.shape here (own_item r) e.begin free (inr record {
        index = i;
        above = w.above;
        below = w.below;
        stands = ap value_of stands ∙ w.own;
      })

  lacks_held : (u : ℕ) (r : Running) (x : ℕ) → place_of here u ≡ Some r → out_at r ≡ x → 0 < x
      → Lacks x (item_begun e.begin)
  lacks_held u r x at out some = lacks_begun o.shape here x e.begin free (inl record {
    thread = u;
    place = r;
    there = at;
    holds = out_held r x out some;
  })

  still : (u : ℕ) (q : Running) → u ≢ e.thread → place_of there u ≡ Some q → place_of here u ≡ Some q
  still u q apart is = sym (other_place o.shape here e there outcome u apart made) ∙ is

  held_other : (u : ℕ) (q : Running) (x : ℕ) → u ≢ e.thread → place_of there u ≡ Some q → out_at q ≡ x → 0 < x
      → BeganLast (done ++ e ∷ []) u x
  held_other u q x apart is out some =
      let was = still u q apart is in
      began_on done e u x (known.held u q x was out some) (λ same. absurd (apart (sym same)))
      (lacks_held u q x was out some)

  carried_other : (u : ℕ) (q : Running) (i word : ℕ) → u ≢ e.thread → place_of there u ≡ Some q → CarriesAt q i word
      → word_at there i ≡ word → BeganLast (done ++ e ∷ []) u (own_item q)
  carried_other u q i word apart is c stands =
      let was = still u q apart is in
      let before = stood u q i word was c stands in
      began_on done e u (own_item q) (known.carried u q i word was c before) (λ same. absurd (apart (sym same)))
      (lacks_carried u q i word was c before)

  below_other : (u : ℕ) (q : Running) (i word : ℕ) → u ≢ e.thread → place_of there u ≡ Some q → CarriesAt q i word
      → word ≤ word_at there i
  below_other u q i word apart is c = let a = known.below u q i word (still u q apart is) c in let b = rises i in
      omega (arith, a, b)

  newly_put : (i to : ℕ) → 0 < i → value_of to ≢ 0 → (running : Running)
      → going o.shape (place_of here e.thread) e.begin ≡ Some running
      → access o.shape running ≡ Exchange i (word_at here i) to
      → PutLast o (done ++ e ∷ []) i to (value_of to)
  newly_put i to above filled running stands exchange =
      let p = put_of_exchange o.shape running i (word_at here i) to above filled exchange in
      let put : Running = R.Enqueue p.item p.start p.left (E.Put p.ends i (word_at here i)) in
      let on = put_goes_on o.shape (place_of here e.thread) e.begin p.item p.start p.left p.ends i (word_at here i)
      (stands ∙ ap Some p.place) in
      let place : IsPlace o.shape put = place_is o.shape here e.thread put is_sound on.1 in
      let b = known.held e.thread put p.item on.1 refl place.0 in
      let value : value_of to ≡ p.item = ap value_of p.puts ∙ value-filled_with p.item (word_at here i) place.1 in
      let last : PutLast o (done ++ e ∷ []) i to p.item = record {
        thread = e.thread;
        start = b.start;
        turns = b.turns;
        before = b.before;
        between = b.after;
        after = [];
        all_are = (λ k. b.all_are k ++ event e.thread (on.0 k) ∷ []);
        one_call = b.one_call;
        puts = record {
          here = here;
          item = p.item;
          start = p.start;
          left = p.left;
          ends = p.ends;
          reached = ap (world_after o) (sym b.all_are) ∙ reached;
          place = on.1;
          puts = p.puts;
        };
        value_is = value;
        not_again = lacks_on p.item b.after (event e.thread None) b.not_again tt;
      } in
      subst (PutLast o (done ++ e ∷ []) i to) (sym value) last

  slots_on : (i : ℕ) → 0 < i → i < clock_at o.shape.k o.shape.n → value_of (word_at there i) ≢ 0
      → PutLast o (done ++ e ∷ []) i (word_at there i) (value_of (word_at there i))
  slots_on i above below filled =
      elim (cases_eq (word_at there i) (word_at here i)) [
        | inl same ↦
            let was = word_at here i in
            let old = known.slots i above below (λ none. filled (ap value_of same ∙ none)) in
            let lacks = lacks_begun o.shape here (value_of was) e.begin free (inr record {
              index = i;
              above = above;
              below = below;
              stands = refl;
            }) in
            subst (λ (w : ℕ). PutLast o (done ++ e ∷ []) i w (value_of w)) (sym same)
            (put_on o done e i was (value_of was) old lacks)
        | inr ne ↦ elim ((one_word o.shape here e there outcome is_sound made).only_so i ne) [
          | inl win ↦ newly_put i (word_at there i) above filled win.running win.stands win.exchange
          | inr (inl tick) ↦ absurd (let c = tick.clock in omega (arith, c, below))
          | inr (inr seal) ↦ absurd (let c = seal.ends in omega (arith, c, above))
        ]
      ]

  -- the thread's own step
  module _ (s : StepsFrom o.shape here e.thread (place_of here e.thread) e.begin there outcome) where
    abbrev seen : ℕ
    seen = found o.shape here s.running

    seen_is : seen ≡ word_at here (accessed (access o.shape s.running))
    seen_is = found-is o.shape here s.running

    how : Going (place_of here e.thread) e.begin s.running
    how = going_is o.shape (place_of here e.thread) e.begin s.running s.goes

    goes_to : (q : Running) → place_of there e.thread ≡ Some q → advance o.shape s.running seen ≡ Goes q
    goes_to q is =
        next_goes (advance o.shape s.running seen) q
        (sym (ap (λ (w : World). place_of w e.thread) s.there_is ∙ own_place o.shape here e.thread s.running
        (made_within o.shape here e there outcome made)) ∙ is)

    held_own : (q : Running) (x : ℕ) → place_of there e.thread ≡ Some q → out_at q ≡ x → 0 < x
        → BeganLast (done ++ e ∷ []) e.thread x
    held_own q x is out some = subst (BeganLast (done ++ e ∷ []) e.thread) out
        (by_going how (out_came o.shape s.running seen q (goes_to q is) some_out))
      where
        some_out : 0 < out_at q
        some_out = omega (arith, out, some)

        by_going : Going (place_of here e.thread) e.begin s.running
            → (out_at s.running ≡ out_at q) ⊎ IsUndo o.shape s.running seen (out_at q)
            → BeganLast (done ++ e ∷ []) e.thread (out_at q)
        by_going (On none at) (inl same) =
            began_on done e e.thread (out_at q) (known.held e.thread s.running (out_at q) at same some_out)
            (λ mine. none) (lacks_none (out_at q) e.begin none)
        by_going (On none at) (inr u) =
            let old = known.carried e.thread s.running u.index seen at u.carries
            (ap (word_at here) (sym u.at) ∙ sym seen_is) in
            began_on done e e.thread (out_at q) (subst (BeganLast done e.thread) u.own old) (λ mine. none)
            (lacks_none (out_at q) e.begin none)
        by_going (Enqueues item start turns begin first) (inl same) =
            let new : BeganLast (done ++ e ∷ []) e.thread item = record {
              start = start;
              turns = turns;
              before = done;
              after = [];
              all_are = (λ k. done ++ event e.thread (begin k) ∷ []);
              one_call = tt;
              not_again = tt;
            } in
            subst (BeganLast (done ++ e ∷ []) e.thread) (sym (ap out_at first) ∙ same) new
        by_going (Enqueues item start turns begin first) (inr u) = absurd
            (subst (λ (r : Running). CarriesAt r u.index seen) first u.carries)
        by_going (Dequeues start turns first) (inl same) =
            absurd (let none = ap out_at first in omega (arith, none, same, some_out))
        by_going (Dequeues start turns first) (inr u) =
            absurd (subst (λ (r : Running). CarriesAt r u.index seen) first u.carries)

    carried_own : (q : Running) (i word : ℕ) → place_of there e.thread ≡ Some q → CarriesAt q i word
        → word_at there i ≡ word
        → BeganLast (done ++ e ∷ []) e.thread (own_item q)
    carried_own q i word is c stands =
        let next = goes_to q is in
        subst (BeganLast (done ++ e ∷ []) e.thread) (sym (keeps_own o.shape s.running seen q next))
        (by_going how (carries_came o.shape s.running seen q i word next c))
      where
        by_going : Going (place_of here e.thread) e.begin s.running → CarriesAt s.running i word
            ⊎ IsPut s.running i seen word
            → BeganLast (done ++ e ∷ []) e.thread (own_item s.running)
        by_going (On none at) (inl old) =
            began_on done e e.thread (own_item s.running)
            (known.carried e.thread s.running i word at old (stood e.thread s.running i word at old stands))
            (λ mine. none)
            (lacks_none (own_item s.running) e.begin none)
        by_going (On none at) (inr p) =
            let put : Running = R.Enqueue p.item p.start p.left (E.Put p.ends i seen) in
            let at_put : place_of here e.thread ≡ Some put = at ∙ ap Some p.place in
            let place : IsPlace o.shape put = place_is o.shape here e.thread put is_sound at_put in
            let new = began_on done e e.thread p.item (known.held e.thread put p.item at_put refl place.0)
            (λ mine. none)
            (lacks_none p.item e.begin none) in
            subst (BeganLast (done ++ e ∷ []) e.thread) (sym (ap own_item p.place)) new
        by_going (Enqueues item start turns begin first) (inl old) =
            absurd (subst (λ (r : Running). CarriesAt r i word) first old)
        by_going (Enqueues item start turns begin first) (inr p) = absurd
            (put_not_first p.item p.start p.left p.ends i seen item start turns (sym p.place ∙ first))
        by_going (Dequeues start turns first) (inl old) = absurd (subst (λ (r : Running). CarriesAt r i word) first old)
        by_going (Dequeues start turns first) (inr p) = absurd
            (enqueue_not_dequeue p.item p.start p.left start turns (E.Put p.ends i seen) D.LoadEnds
            (sym p.place ∙ first))

    below_own : (q : Running) (i word : ℕ) → place_of there e.thread ≡ Some q → CarriesAt q i word
        → word ≤ word_at there i
    below_own q i word is c = by_coming how (carries_came o.shape s.running seen q i word (goes_to q is) c)
      where
        newly : IsPut s.running i seen word → word ≤ word_at there i
        newly p =
            let touches : access o.shape s.running ≡ Exchange i seen (filled_with p.item seen) =
            ap (access o.shape) p.place in
            let seen_there : seen ≡ word_at here i = seen_is ∙ ap (λ a. word_at here (accessed a)) touches in
            let exchange : access o.shape s.running ≡ Exchange i (word_at here i) word = touches ∙
            (λ k. Exchange i (seen_there k) (sym p.puts k)) in
            let place = going_place o.shape (place_of here e.thread) e.begin s.running
            (λ r at. place_is o.shape here e.thread r is_sound at) s.goes in
            let stands : word_at there i ≡ word = ap (λ (w : World). word_at w i) s.there_is
            ∙ won_word o.shape here e.thread s.running i word is_sound place exchange in
            omega (arith, stands)

        by_coming : Going (place_of here e.thread) e.begin s.running → CarriesAt s.running i word
            ⊎ IsPut s.running i seen word
            → word ≤ word_at there i
        by_coming how (inr p) = newly p
        by_coming (On none at) (inl old) = let a = known.below e.thread s.running i word at old in let b = rises i in
            omega (arith, a, b)
        by_coming (Enqueues item start turns begin first) (inl old) =
            absurd (subst (λ (r : Running). CarriesAt r i word) first old)
        by_coming (Dequeues start turns first) (inl old) =
            absurd (subst (λ (r : Running). CarriesAt r i word) first old)

  traced_on : Traced o (done ++ e ∷ []) there
  traced_on =
      elim (stepped o.shape here e there outcome made) [
        | inl s ↦ record {
          held = λ u q x is out some. elim (cases_eq u e.thread) [
            | inl mine ↦ subst (λ (t : ℕ). BeganLast (done ++ e ∷ []) t x) (sym mine)
                (held_own s q x (ap (place_of there) (sym mine) ∙ is) out some)
            | inr other ↦ held_other u q x other is out some
          ];
          carried = λ u q i word is c stands. elim (cases_eq u e.thread) [
            | inl mine ↦ subst (λ (t : ℕ). BeganLast (done ++ e ∷ []) t (own_item q)) (sym mine)
                (carried_own s q i word (ap (place_of there) (sym mine) ∙ is) c stands)
            | inr other ↦ carried_other u q i word other is c stands
          ];
          below = λ u q i word is c. elim (cases_eq u e.thread) [
            | inl mine ↦ below_own s q i word (ap (place_of there) (sym mine) ∙ is) c
            | inr other ↦ below_other u q i word other is c
          ];
          slots = slots_on;
        }
        | inr t ↦
            let apart : (u : ℕ) (q : Running) → place_of there u ≡ Some q → u ≢ e.thread = λ u q is same.
            none_some q
            (sym (t.leaves u ∙ ap (place_of here) same ∙ t.idle) ∙ is) in
            record {
              held = λ u q x is out some. held_other u q x (apart u q is) is out some;
              carried = λ u q i word is c stands. carried_other u q i word (apart u q is) is c stands;
              below = λ u q i word is c. below_other u q i word (apart u q is) is c;
              slots = slots_on;
            }
      ]
    where
      none_some : (q : Running) → None ≡ Some q → ⊥
      none_some q e = cc

-- so does a schedule
traced_along : (o : Opening) (done rest : List Event) (here there : World) → world_after o done ≡ Some here
    → run o.shape (Some here) rest ≡ Some there → AllBeginFree o.shape (Some here) rest → Traced o done here
    → Traced o (done ++ rest) there
traced_along o done [] here there reached is free known =
    subst (λ (x : List Event × World). Traced o x.0 x.1)
    (λ i. (sym (append-nil done) i, Some-injective here there is i)) known
traced_along o done (e ∷ es) here there reached is free known =
    let m = first_made o.shape here e there es is in
    let next : world_of (step o.shape here e) ≡ Some m.0 = ap world_of m.1.1.0 in
    let now = traced_on o done here m.0 e m.1.0 reached m.1.1.0 free.0 known in
    let all = traced_along o (done ++ e ∷ []) es m.0 there (after-snoc o.shape o.threads done here e reached ∙ next)
    m.1.1.1
    (subst (λ (w : Option World). AllBeginFree o.shape w es) next free.1) now in
    subst (λ (xs : List Event). Traced o xs there) (append_assoc done (e ∷ []) es) all

opening_traced : (o : Opening) → Traced o [] (opening o.shape o.threads)
unfolding opening word_at place_of
opening_traced o = record {
  held = λ u r x at. absurd (idle o.threads u r at);
  carried = λ u r i word at. absurd (idle o.threads u r at);
  below = λ u r i word at. absurd (idle o.threads u r at);
  slots = λ i above below filled. absurd (filled (ap value_of (all_zero (2 + o.shape.n * o.shape.k) i) ∙ value-zero));
}
  where
    all_zero : (n i : ℕ) → get_or {A = ℕ} (replicate n 0) i 0 ≡ 0
    all_zero zero i = refl
    all_zero (suc n) zero = refl
    all_zero (suc n) (suc i) = all_zero n i

    idle : (n t : ℕ) (r : Running) → get_or (replicate {A = Option Running} n None) t None ≡ Some r → ⊥
    idle zero t r at = cc
    idle (suc n) zero r at = cc
    idle (suc n) (suc t) r at = idle n t r at

-- The word of a filled slot was put by the enqueue that last began with its item
pub who_put : (o : Opening) (all : List Event) (world : World) → world_after o all ≡ Some world → HolderLaw o all
    → (i : ℕ) → 0 < i
    → i < clock_at o.shape.k o.shape.n → value_of (word_at world i) ≢ 0
    → PutLast o all i (word_at world i) (value_of (word_at world i))
who_put o all world reached law i above below filled =
    (traced_along o [] all (opening o.shape o.threads) world refl reached law (opening_traced o)).slots i above below
    filled
