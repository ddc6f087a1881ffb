-- Each event keeps that the notes tell the ledger.
use Rattle.std.proofs.Common.{◌≡◌, ◌≢◌, ℕ, ◌+◌, ◌%◌, ◌<◌, ◌≤◌, inl, inr, true, false, cond, ltb, refl, sym, ◌∙◌, ap}
use Rattle.std.proofs.Common.{arith, List, length, get_or, set, Option, Some, None}
use Rattle.std.proofs.Math.Nat.{mod-lt}
use Rattle.std.proofs.lemmas.Bool.{cases_eq, cases_lt, cond-false, le-ltb}
use Rattle.std.proofs.lemmas.Grind.{get_or-set_at}
use Rattle.std.proofs.lemmas.List.{get_or-set_other, length-set}
use Rattle.kfifo_words.specs.Ring.{distance}
use Rattle.kfifo_words.specs.Words.{head_of}
use Rattle.kfifo_linear.proofs.Types.{Answer, Begin, Next, Running, Shape}
use Rattle.kfifo_machine.specs.declared.event.Outcome.TheVariants.{Ended}
use Rattle.kfifo_machine.specs.Machine.{outcome_of}
use Rattle.kfifo_machine.specs.declared.place.DequeuePhase.TheVariants as D
use Rattle.kfifo_machine.specs.declared.place.Next.TheVariants.{Answers, Goes}
use Rattle.kfifo_machine.specs.declared.place.Running.TheVariants as R
use Rattle.kfifo_linear.specs.declared.action.Action.{Action}
use Rattle.kfifo_linear.specs.declared.action.Action.TheVariants.{HoldHead, LoadEnds, MoveHead, MoveTail, Unnoted, Put}
use Rattle.kfifo_linear.specs.declared.action.Action.TheVariants.{Recheck, RecheckEmpty, ReloadEnds, Take, Undo}
use Rattle.kfifo_linear.specs.declared.notes.Whereabouts.{Whereabouts}
use Rattle.kfifo_linear.specs.declared.notes.Whereabouts.TheVariants.{At, InSlot, Nowhere}
use Rattle.kfifo_linear.specs.Ledger.{Gone, Inside, Ledger, Outside, Standing, Stood, Took, called, after_action}
use Rattle.kfifo_linear.specs.Ledger.{gone_point, is_inside, noted, took_point, settle_point, settle_visit}
use Rattle.kfifo_linear.specs.Ledger.{standing_after}
use Rattle.kfifo_linear.specs.Notes.{Notes, ended, later, left_at, leaves, marked, own_call, caller, slot, whereabouts}
use Rattle.kfifo_linear.specs.Notes as note
use Rattle.kfifo_linear.specs.Following.{Tells, TellVisits, brief}
use Rattle.kfifo_machine.proofs.Ring.{same_place}
use Rattle.kfifo_linear.proofs.Abstract.{noted-same, noted-other}

-- of a list in which one place was written, what is told of each place
pub set_new : {X Y : Type 0} (tell : X → Y) (notes : ℕ → Y) (xs : List X) (i j : ℕ) (x d : X) (y : Y) → i < length xs
    → tell x ≡ y
    → ((k : ℕ) → tell (get_or xs k d) ≡ notes k) → tell (get_or (set xs i x) j d) ≡ noted notes i y j
set_new tell notes xs i j x d y less new old =
    elim (cases_eq j i) [
      | inl e ↦ ap tell (get_or-set_at xs i j x d e less) ∙ new ∙ sym (noted-same notes i j y e)
      | inr ne ↦ ap tell (get_or-set_other xs i j x d ne) ∙ old j ∙ sym (noted-other notes i j y ne)
    ]

-- the same, where what is told of that place stays as it was
pub set_kept : {X Y : Type 0} (tell : X → Y) (notes : ℕ → Y) (xs : List X) (i j : ℕ) (x d : X) → i < length xs
    → tell x ≡ tell (get_or xs i d) → ((k : ℕ) → tell (get_or xs k d) ≡ notes k) → tell (get_or (set xs i x) j d)
    ≡ notes j
set_kept tell notes xs i j x d less same old =
    elim (cases_eq j i) [
      | inl e ↦ ap tell (get_or-set_at xs i j x d e less) ∙ same ∙ old i ∙ ap notes (sym e)
      | inr ne ↦ ap tell (get_or-set_other xs i j x d ne) ∙ old j
    ]

-- a number that is asked for below a bound alone
when_below : (a b x y z : ℕ) → (a < b → x ≡ z) → cond (ltb a b) x y ≡ cond (ltb a b) z y
when_below a b x y z same =
    elim (cases_lt a b) [
      | inl lt ↦ ap (λ v. cond (ltb a b) v y) (same lt)
      | inr ge ↦ cond-false (ltb a b) x y (le-ltb a b ge) ∙ sym (cond-false (ltb a b) z y (le-ltb a b ge))
    ]

-- two visits less than a round apart have two places
apart : (u v size : ℕ) → u < v → v < u + size → u % size ≢ v % size
apart u v size lt near e = let same : v ≡ u = same_place size u v (omega arith) near (sym e) in omega arith

-- the facts of a step on which its notes rest
abbrev pub CanTell : Shape → Ledger → Notes → ℕ → Action → Type 0
CanTell shape l n t (Put index) = index < length n.slots
CanTell shape l n t (Undo index) = index < length n.slots
CanTell shape l n t (ReloadEnds index segment) = (index < length n.slots) × (segment < shape.n)
CanTell shape l n t (HoldHead index) = index < length n.slots
CanTell shape l n t (Take index) = (index < length n.slots) × (l.owner index < length n.calls)
    × (l.head_seen t < l.tail)
    × (l.tail ≤ l.head_seen t + length n.tails) × (l.head ≤ l.head_seen t + length n.heads)
CanTell shape l n t other = Unit {0}

module _ (shape : Shape) (l : Ledger) (n : Notes) (t ends : ℕ) (r : Running) (h : Tells l n)
    (thread : t < length n.callers)
    (known : l.caller t < length n.calls) (unended : l.last (l.caller t) ≡ None)
    (near : l.tail ≤ l.head + length n.tails)
    (some_heads : 0 < length n.heads) (some_tails : 0 < length n.tails) where
  -- after an action of a call that goes on
  abbrev Told : Action → Type 0
  Told what = Tells (after_action shape t ends what (Goes r) l) (later (marked shape t ends what n))

  tells_nothing : Told Unnoted
  tells_nothing = record {
    step = ap (λ x. x + 1) h.step;
    head = h.head;
    tail = h.tail;
    heads = h.heads;
    tails = h.tails;
    owner = h.owner;
    settled = h.settled;
    point = h.point;
    own = h.own;
    head_seen = h.head_seen;
    begun = h.begun;
    calls = h.calls;
  }

  tells_load_ends : Told LoadEnds
  tells_load_ends = record {
    step = ap (λ x. x + 1) h.step;
    head = h.head;
    tail = h.tail;
    heads = h.heads;
    tails = h.tails;
    owner = h.owner;
    settled = h.settled;
    point = h.point;
    own = λ u. set_kept (λ c. c.call) l.caller n.callers t u _ _ thread refl h.own;
    head_seen = λ u. set_new (λ c. c.head_seen) l.head_seen n.callers t u _ _ l.head thread h.head h.head_seen;
    begun = h.begun;
    calls = h.calls;
  }

  -- a call goes to a standing of which this is told
  placed : (c : ℕ) (place : Whereabouts) (standing : Standing) → c < length n.calls → place ≡ brief standing (l.last c)
      → (d : ℕ)
      → get_or (set n.calls c place) d Nowhere ≡ brief (noted l.standing c standing d) (l.last d)
  placed c place standing less is d =
      elim (cases_eq d c) [
        | inl e ↦ get_or-set_at n.calls c d place Nowhere e less ∙ is
            ∙ ap (λ s. brief s (l.last c)) (sym (noted-same l.standing c d standing e))
            ∙ ap (λ x. brief (noted l.standing c standing d) (l.last x)) (sym e)
        | inr ne ↦ get_or-set_other n.calls c d place Nowhere ne ∙ h.calls d
            ∙ ap (λ s. brief s (l.last d)) (sym (noted-other l.standing c d standing ne))
      ]

  tells_put : (index : ℕ) → index < length n.slots → Told (Put index)
  tells_put index less = record {
    step = ap (λ x. x + 1) h.step;
    head = h.head;
    tail = h.tail;
    heads = h.heads;
    tails = h.tails;
    own = h.own;
    head_seen = h.head_seen;
    begun = h.begun;
    owner = λ i. set_new (λ s. s.owner) l.owner n.slots index i _ _ (l.caller t) less (h.own t) h.owner;
    settled = λ i. set_new (λ s. s.settled) l.settled n.slots index i _ _ false less refl h.settled;
    point = λ i. set_kept (λ s. s.point) l.point n.slots index i _ _ less refl h.point;
    calls = λ c. rw (h.own t) (placed (l.caller t) (InSlot index) (Inside index) known refl c);
  }

  tells_undo : (index : ℕ) → index < length n.slots → Told (Undo index)
  tells_undo index less = record {
    step = ap (λ x. x + 1) h.step;
    head = h.head;
    tail = h.tail;
    heads = h.heads;
    tails = h.tails;
    own = h.own;
    head_seen = h.head_seen;
    begun = h.begun;
    owner = λ i. set_kept (λ s. s.owner) l.owner n.slots index i _ _ less refl h.owner;
    settled = λ i. set_new (λ s. s.settled) l.settled n.slots index i _ _ false less refl h.settled;
    point = λ i. set_kept (λ s. s.point) l.point n.slots index i _ _ less refl h.point;
    calls = λ c. rw (h.own t) (placed (l.caller t) Nowhere Outside known (sym (ap (brief Outside) unended)) c);
  }

  tells_recheck_empty : Told RecheckEmpty
  tells_recheck_empty = record {
    step = ap (λ x. x + 1) h.step;
    head = h.head;
    tail = h.tail;
    heads = h.heads;
    tails = h.tails;
    own = h.own;
    head_seen = h.head_seen;
    begun = h.begun;
    owner = h.owner;
    settled = h.settled;
    point = h.point;
    calls = λ c. rw (h.own t) (placed (l.caller t) (At n.step) (Stood l.head l.now) known (ap At h.step) c);
  }

  -- the item of the call, where it is still in its slot, is settled in this visit
  point_is : (at visit : ℕ) → at ≡ visit → l.head ≤ visit → note.settle_point n at ≡ settle_point l visit
  unfolding settle_point
  point_is at visit same from = rw (same, h.step, h.tail)
      (when_below visit l.tail (left_at n.tails visit) l.now (l.tails visit) (λ lt. h.tails visit lt (omega arith)))

  settled_owner : (s : Standing) (last : Option ℕ) (index visit : ℕ) → index < length n.slots → (i : ℕ)
      → (slot (note.settles_if (brief s last) index visit n) i).owner ≡ l.owner i
  settled_owner (Inside at) last index visit less i = set_kept (λ x. x.owner) l.owner n.slots index i _ _ less refl
      h.owner
  settled_owner Outside None index visit less i = h.owner i
  settled_owner Outside (Some e) index visit less i = h.owner i
  settled_owner (Gone at v p) last index visit less i = h.owner i
  settled_owner (Took c v p) last index visit less i = h.owner i
  settled_owner (Stood v p) last index visit less i = h.owner i

  settled_settled : (s : Standing) (last : Option ℕ) (index visit : ℕ) → index < length n.slots → (i : ℕ)
      → (slot (note.settles_if (brief s last) index visit n) i).settled
      ≡ cond (is_inside s) (noted l.settled index true i) (l.settled i)
  settled_settled (Inside at) last index visit less i = set_new (λ x. x.settled) l.settled n.slots index i _ _ true less
      refl h.settled
  settled_settled Outside None index visit less i = h.settled i
  settled_settled Outside (Some e) index visit less i = h.settled i
  settled_settled (Gone at v p) last index visit less i = h.settled i
  settled_settled (Took c v p) last index visit less i = h.settled i
  settled_settled (Stood v p) last index visit less i = h.settled i

  settled_point : (s : Standing) (last : Option ℕ) (index at visit : ℕ) → index < length n.slots → at ≡ visit
      → l.head ≤ visit → (i : ℕ)
      → (slot (note.settles_if (brief s last) index at n) i).point
      ≡ cond (is_inside s) (noted l.point index (settle_point l visit) i) (l.point i)
  settled_point (Inside slot_at) last index at visit less same from i =
      set_new (λ x. x.point) l.point n.slots index i _ _ (settle_point l visit) less (point_is at visit same from)
      h.point
  settled_point Outside None index at visit less same from i = h.point i
  settled_point Outside (Some e) index at visit less same from i = h.point i
  settled_point (Gone slot_at v p) last index at visit less same from i = h.point i
  settled_point (Took c v p) last index at visit less same from i = h.point i
  settled_point (Stood v p) last index at visit less same from i = h.point i

  -- settling leaves all else as it was
  settled_rest : (P : Notes → Type 0) (place : Whereabouts) (index visit : ℕ) → P n
      → ((filling : _) → P (note.slot_is index filling n))
      → P (note.settles_if place index visit n)
  settled_rest P (InSlot at) index visit none one = one _
  settled_rest P Nowhere index visit none one = none
  settled_rest P (At point) index visit none one = none

  own_place : whereabouts n (own_call n t) ≡ brief (l.standing (l.caller t)) (l.last (l.caller t))
  own_place = ap (whereabouts n) (h.own t) ∙ h.calls (l.caller t)

  rest : (index visit : ℕ) (P : Notes → Type 0) → P n → ((filling : _) → P (note.slot_is index filling n))
      → P (note.settles t index visit n)
  rest index visit P none one = settled_rest P (whereabouts n (own_call n t)) index visit none one

  settle_visit_is : (segment : ℕ) → n.head + distance shape.n (head_of ends) segment
      ≡ settle_visit shape l (head_of ends) segment
  unfolding settle_visit
  settle_visit_is segment = ap (λ x. x + distance shape.n (head_of ends) segment) h.head

  settle_from : (segment : ℕ) → l.head ≤ settle_visit shape l (head_of ends) segment
  unfolding settle_visit
  settle_from segment = omega arith

  tells_reload_ends : (index segment : ℕ) → index < length n.slots → Told (ReloadEnds index segment)
  tells_reload_ends index segment less =
      let place : whereabouts n (own_call n t) ≡ brief (l.standing (l.caller t)) (l.last (l.caller t)) = own_place in
      let visit : n.head + distance shape.n (head_of ends) segment ≡ settle_visit shape l (head_of ends) segment =
      settle_visit_is segment in
      record {
        step = rest index (n.head + distance shape.n (head_of ends) segment) (λ m. m.step + 1 ≡ l.now + 1)
            (ap (λ x. x + 1) h.step) (λ f. ap (λ x. x + 1) h.step);
        head = rest index (n.head + distance shape.n (head_of ends) segment) (λ m. m.head ≡ l.head) h.head
            (λ f. h.head);
        tail = rest index (n.head + distance shape.n (head_of ends) segment) (λ m. m.tail ≡ l.tail) h.tail
            (λ f. h.tail);
        heads = rest index (n.head + distance shape.n (head_of ends) segment) (λ m. TellVisits l.heads l.head m.heads)
            h.heads (λ f. h.heads);
        tails = rest index (n.head + distance shape.n (head_of ends) segment) (λ m. TellVisits l.tails l.tail m.tails)
            h.tails (λ f. h.tails);
        own = λ u. rest index (n.head + distance shape.n (head_of ends) segment) (λ m. own_call m u ≡ l.caller u)
            (h.own u) (λ f. h.own u);
        head_seen = λ u. rest index (n.head + distance shape.n (head_of ends) segment)
            (λ m. (caller m u).head_seen ≡ l.head_seen u) (h.head_seen u) (λ f. h.head_seen u);
        begun = rest index (n.head + distance shape.n (head_of ends) segment) (λ m. m.begun ≡ l.calls) h.begun
            (λ f. h.begun);
        calls = λ c. rest index (n.head + distance shape.n (head_of ends) segment)
            (λ m. whereabouts m c ≡ brief (l.standing c) (l.last c)) (h.calls c) (λ f. h.calls c);
        owner = λ i. rw place (settled_owner (l.standing (l.caller t)) (l.last (l.caller t)) index
            (n.head + distance shape.n (head_of ends) segment) less i);
        settled = λ i. rw place (settled_settled (l.standing (l.caller t)) (l.last (l.caller t)) index
            (n.head + distance shape.n (head_of ends) segment) less i);
        point = λ i. rw place (settled_point (l.standing (l.caller t)) (l.last (l.caller t)) index
            (n.head + distance shape.n (head_of ends) segment) (settle_visit shape l (head_of ends) segment) less visit
            (settle_from segment) i);
      }

  tells_hold_head : (index : ℕ) → index < length n.slots → Told (HoldHead index)
  tells_hold_head index less =
      let place : whereabouts n (own_call n t) ≡ brief (l.standing (l.caller t)) (l.last (l.caller t)) = own_place in
      let visit : n.head ≡ l.head = h.head in
      record {
        step = rest index (n.head) (λ m. m.step + 1 ≡ l.now + 1) (ap (λ x. x + 1) h.step) (λ f. ap (λ x. x + 1) h.step);
        head = rest index (n.head) (λ m. m.head ≡ l.head) h.head (λ f. h.head);
        tail = rest index (n.head) (λ m. m.tail ≡ l.tail) h.tail (λ f. h.tail);
        heads = rest index (n.head) (λ m. TellVisits l.heads l.head m.heads) h.heads (λ f. h.heads);
        tails = rest index (n.head) (λ m. TellVisits l.tails l.tail m.tails) h.tails (λ f. h.tails);
        own = λ u. rest index (n.head) (λ m. own_call m u ≡ l.caller u) (h.own u) (λ f. h.own u);
        head_seen = λ u. rest index (n.head) (λ m. (caller m u).head_seen ≡ l.head_seen u) (h.head_seen u)
            (λ f. h.head_seen u);
        begun = rest index (n.head) (λ m. m.begun ≡ l.calls) h.begun (λ f. h.begun);
        calls = λ c. rest index (n.head) (λ m. whereabouts m c ≡ brief (l.standing c) (l.last c)) (h.calls c)
            (λ f. h.calls c);
        owner = λ i. rw place (settled_owner (l.standing (l.caller t)) (l.last (l.caller t)) index (n.head) less i);
        settled = λ i. rw place (settled_settled (l.standing (l.caller t)) (l.last (l.caller t)) index (n.head) less i);
        point = λ i. rw place (settled_point (l.standing (l.caller t)) (l.last (l.caller t)) index n.head l.head less
            visit (omega arith) i);
      }

  -- one visit more was left
  left_more : (left : ℕ → ℕ) (number : ℕ) (steps : List ℕ) (step now : ℕ) → 0 < length steps → step ≡ now
      → TellVisits left number steps
      → TellVisits (noted left number now) (number + 1) (leaves number step steps)
  left_more left number steps step now some is old visit below near =
      let same : length (leaves number step steps) ≡ length steps = length-set steps (number % length steps) step in
      let room : number + 1 ≤ visit + length steps = omega (arith, same) in
      rw same (elim (cases_eq visit number) [
        | inl e ↦ get_or-set_at steps (number % length steps) (visit % length steps) step 0
            (ap (λ x. x % length steps) e) (mod-lt number some) ∙ is ∙ sym (noted-same left number visit now e)
        | inr ne ↦
            let lt : visit < number = omega arith in
            get_or-set_other steps (number % length steps) (visit % length steps) step 0
            (apart visit number (length steps) lt (omega arith)) ∙ old visit lt (omega arith)
            ∙ sym (noted-other left number visit now ne)
      ])

  tells_move_head : Told MoveHead
  tells_move_head = record {
    step = ap (λ x. x + 1) h.step;
    tail = h.tail;
    tails = h.tails;
    own = h.own;
    head_seen = h.head_seen;
    begun = h.begun;
    owner = h.owner;
    settled = h.settled;
    point = h.point;
    calls = h.calls;
    head = ap (λ x. x + 1) h.head;
    heads = rw h.head (left_more l.heads l.head n.heads n.step l.now some_heads h.step h.heads);
  }

  tells_move_tail : Told MoveTail
  tells_move_tail = record {
    step = ap (λ x. x + 1) h.step;
    head = h.head;
    heads = h.heads;
    own = h.own;
    head_seen = h.head_seen;
    begun = h.begun;
    owner = h.owner;
    settled = h.settled;
    point = h.point;
    calls = h.calls;
    tail = ap (λ x. x + 1) h.tail;
    tails = rw h.tail (left_more l.tails l.tail n.tails n.step l.now some_tails h.step h.tails);
  }

  -- the points of an item's enqueue and of the dequeue that takes it
  gone_is : (index visit : ℕ) → visit < l.tail → l.tail ≤ visit + length n.tails → note.gone_point n index visit
      ≡ gone_point l index visit
  unfolding gone_point
  gone_is index visit below near = rw (h.settled index, h.point index, h.tails visit below near) refl

  took_is : (visit : ℕ) → l.head ≤ visit + length n.heads → note.took_point n visit ≡ took_point l visit
  unfolding took_point
  took_is visit near = rw (h.step, h.head) (when_below visit l.head (left_at n.heads visit) l.now (l.heads visit)
      (λ lt. h.heads visit lt near))

  -- two calls go to standings of which this is told
  two_placed : (c d : ℕ) (at to : Whereabouts) (standing other : Standing) → c < length n.calls → d < length n.calls
      → at ≡ brief standing (l.last c) → to ≡ brief other (l.last d)
      → (e : ℕ) → get_or (set (set n.calls c at) d to) e Nowhere ≡ brief (noted (noted l.standing c standing) d other e)
      (l.last e)
  two_placed c d at to standing other below below2 is is2 e =
      let same : length (set n.calls c at) ≡ length n.calls = length-set n.calls c at in
      elim (cases_eq e d) [
        | inl x ↦ get_or-set_at (set n.calls c at) d e to Nowhere x (omega arith) ∙ is2
            ∙ ap (λ s. brief s (l.last d)) (sym (noted-same (noted l.standing c standing) d e other x))
            ∙ ap (λ y. brief (noted (noted l.standing c standing) d other e) (l.last y)) (sym x)
        | inr ne ↦ get_or-set_other (set n.calls c at) d e to Nowhere ne ∙ placed c at standing below is e
            ∙ ap (λ s. brief s (l.last e)) (sym (noted-other (noted l.standing c standing) d e other ne))
      ]

  -- a thread takes the item of a slot, in this visit
  taken_calls : (index visit owner own : ℕ) → owner ≡ l.owner index → own ≡ l.caller t → visit ≡ l.head_seen t
      → l.owner index < length n.calls → visit < l.tail → l.tail ≤ visit + length n.tails
      → l.head ≤ visit + length n.heads
      → (c : ℕ) → get_or (set (set n.calls owner (At (note.gone_point n index visit))) own
      (At (note.took_point n visit))) c Nowhere
      ≡ brief (noted
      (noted l.standing (l.owner index) (Gone index (l.head_seen t) (gone_point l index (l.head_seen t))))
      (l.caller t)
      (Took (l.owner index) (l.head_seen t) (took_point l (l.head_seen t))) c) (l.last c)
  taken_calls index visit owner own owner_is own_is visit_is below under near_tail near_head c =
      rw (owner_is, own_is)
      (two_placed (l.owner index) (l.caller t) (At (note.gone_point n index visit)) (At (note.took_point n visit))
      (Gone index (l.head_seen t) (gone_point l index (l.head_seen t)))
      (Took (l.owner index) (l.head_seen t) (took_point l (l.head_seen t))) below known
      (ap At (gone_is index visit under near_tail ∙ ap (gone_point l index) visit_is))
      (ap At (took_is visit near_head ∙ ap (took_point l) visit_is)) c)

  tells_take : (index : ℕ) → index < length n.slots → l.owner index < length n.calls → l.head_seen t < l.tail
      → l.tail ≤ l.head_seen t + length n.tails → l.head ≤ l.head_seen t + length n.heads → Told (Take index)
  tells_take index less below under near_tail near_head =
      let seen : (caller n t).head_seen ≡ l.head_seen t = h.head_seen t in
      record {
        step = ap (λ x. x + 1) h.step;
        head = h.head;
        tail = h.tail;
        heads = h.heads;
        tails = h.tails;
        own = h.own;
        head_seen = h.head_seen;
        begun = h.begun;
        owner = λ i. set_kept (λ s. s.owner) l.owner n.slots index i _ _ less refl h.owner;
        settled = λ i. set_new (λ s. s.settled) l.settled n.slots index i _ _ false less refl h.settled;
        point = λ i. set_kept (λ s. s.point) l.point n.slots index i _ _ less refl h.point;
        calls = λ c. taken_calls index (caller n t).head_seen (slot n index).owner (own_call n t) (h.owner index)
            (h.own t) seen below (omega arith) (omega arith) (omega arith) c;
      }

  -- after any action
  tells_marked : (what : Action) → CanTell shape l n t what → Told what
  tells_marked Unnoted can = tells_nothing
  tells_marked LoadEnds can = tells_load_ends
  tells_marked Recheck can = record {
    step = ap (λ x. x + 1) h.step;
    head = h.head;
    tail = h.tail;
    heads = h.heads;
    tails = h.tails;
    owner = h.owner;
    settled = h.settled;
    point = h.point;
    own = h.own;
    head_seen = h.head_seen;
    begun = h.begun;
    calls = h.calls;
  }
  tells_marked (Put index) can = tells_put index can
  tells_marked (Undo index) can = tells_undo index can
  tells_marked (ReloadEnds index segment) can = tells_reload_ends index segment can.0
  tells_marked (HoldHead index) can = tells_hold_head index can
  tells_marked (Take index) can = tells_take index can.0 can.1 can.2 can.3 can.4
  tells_marked MoveHead can = tells_move_head
  tells_marked MoveTail can = tells_move_tail
  tells_marked RecheckEmpty can = tells_recheck_empty

-- a call that ends has its point there, where it had none before
ends_at : (place : Whereabouts) (standing : Standing) (last : Option ℕ) (now : ℕ) → last ≡ None
    → place ≡ brief standing last
    → note.at_end now place ≡ brief standing (Some now)
ends_at place standing last now none is = let new : place ≡ brief standing None = is ∙ ap (brief standing) none in
    rw new (by_standing standing)
  where
    by_standing : (standing : Standing) → note.at_end now (brief standing None) ≡ brief standing (Some now)
    by_standing Outside = refl
    by_standing (Inside index) = refl
    by_standing (Gone index visit point) = refl
    by_standing (Took call visit point) = refl
    by_standing (Stood visit point) = refl

pub length-marked_calls : (shape : Shape) (n : Notes) (t ends : ℕ) (what : Action)
    → length (marked shape t ends what n).calls ≡ length n.calls
length-marked_calls shape n t ends what = grind (arith, length-set)

module _ (shape : Shape) (l : Ledger) (n : Notes) (t ends : ℕ) (h : Tells l n) (thread : t < length n.callers)
    (known : l.caller t < length n.calls) (unended : l.last (l.caller t) ≡ None)
    (near : l.tail ≤ l.head + length n.tails)
    (some_heads : 0 < length n.heads) (some_tails : 0 < length n.tails) where
  -- after an action with which the call ends
  told_end : (what : Action) (x : Answer) (r : Running)
      → Tells (after_action shape t ends what (Goes r) l) (later (marked shape t ends what n))
      → Tells (after_action shape t ends what (Answers x) l) (later (ended t (Ended x) (marked shape t ends what n)))
  told_end what x r g =
      let own : own_call (marked shape t ends what n) t ≡ l.caller t = g.own t in
      let step : (marked shape t ends what n).step ≡ l.now = omega (arith, g.step) in
      let size : length (marked shape t ends what n).calls ≡ length n.calls = length-marked_calls shape n t ends what in
      let less : own_call (marked shape t ends what n) t < length (marked shape t ends what n).calls = omega arith in
      record {
        step = g.step;
        head = g.head;
        tail = g.tail;
        heads = g.heads;
        tails = g.tails;
        owner = g.owner;
        settled = g.settled;
        point = g.point;
        own = g.own;
        head_seen = g.head_seen;
        begun = g.begun;
        calls = λ c. elim (cases_eq c (l.caller t)) [
          | inl e ↦
              get_or-set_at (marked shape t ends what n).calls (own_call (marked shape t ends what n) t) c _ Nowhere
              (e ∙ sym own) less
              ∙ ends_at (whereabouts (marked shape t ends what n) (own_call (marked shape t ends what n) t))
              (standing_after what t l c)
              (l.last c) (marked shape t ends what n).step (ap l.last e ∙ unended)
              (ap (whereabouts (marked shape t ends what n)) (own ∙ sym e) ∙ g.calls c)
              ∙ ap (λ k. brief (standing_after what t l c) (Some k)) step
              ∙ ap (brief (standing_after what t l c)) (sym (noted-same l.last (l.caller t) c (Some l.now) e))
          | inr ne ↦
              get_or-set_other (marked shape t ends what n).calls (own_call (marked shape t ends what n) t) c _ Nowhere
              (λ e. ne (e ∙ own))
              ∙ g.calls c ∙ ap (brief (standing_after what t l c))
              (sym (noted-other l.last (l.caller t) c (Some l.now) ne))
        ];
      }

  -- after any step
  pub told : (what : Action) (next : Next) → CanTell shape l n t what
      → Tells (after_action shape t ends what next l) (later (ended t (outcome_of next) (marked shape t ends what n)))
  told what (Goes r) can = tells_marked shape l n t ends r h thread known unended near some_heads some_tails what can
  told what (Answers x) can = told_end what x any
      (tells_marked shape l n t ends any h thread known unended near some_heads some_tails what can)
    where
      any : Running
      any = R.Dequeue 0 1 D.LoadEnds

-- a call begins
pub told_call : (l : Ledger) (n : Notes) (t : ℕ) (b : Begin) → Tells l n → t < length n.callers
    → l.standing l.calls ≡ Outside
    → l.last l.calls ≡ None → Tells (called t b l) (note.called t n)
unfolding called
told_call l n t b h thread outside unended = record {
  step = h.step;
  head = h.head;
  tail = h.tail;
  heads = h.heads;
  tails = h.tails;
  owner = h.owner;
  settled = h.settled;
  point = h.point;
  own = λ u. set_new (λ c. c.call) l.caller n.callers t u _ _ l.calls thread h.begun h.own;
  head_seen = λ u. set_kept (λ c. c.head_seen) l.head_seen n.callers t u _ _ thread refl h.head_seen;
  begun = ap (λ x. x + 1) h.begun;
  calls = λ c. elim (cases_eq c l.calls) [
    | inl e ↦
        h.calls c ∙ ap (λ s. brief s (l.last c))
        (ap l.standing e ∙ outside ∙ sym (noted-same l.standing l.calls c Outside e))
        ∙ ap (brief (noted l.standing l.calls Outside c))
        (ap l.last e ∙ unended ∙ sym (noted-same l.last l.calls c None e))
    | inr ne ↦
        h.calls c ∙ ap (λ s. brief s (l.last c)) (sym (noted-other l.standing l.calls c Outside ne))
        ∙ ap (brief (noted l.standing l.calls Outside c)) (sym (noted-other l.last l.calls c None ne))
  ];
}

-- a tick or a seal
pub told_outside : (l : Ledger) (n : Notes) → Tells l n → Tells (record l { now = l.now + 1 }) (later n)
told_outside l n h = record {
  step = ap (λ x. x + 1) h.step;
  head = h.head;
  tail = h.tail;
  heads = h.heads;
  tails = h.tails;
  owner = h.owner;
  settled = h.settled;
  point = h.point;
  own = h.own;
  head_seen = h.head_seen;
  begun = h.begun;
  calls = h.calls;
}
