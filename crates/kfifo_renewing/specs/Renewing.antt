-- The generations of a renewing queue, as a handle has joined them, and what its calls do to each.
use Rattle.std.specs.Prelude.{◌≡◌, ◌≢◌, ◌⊎◌, ◌<◌, ◌≤◌, ◌==◌, ◌&&◌, ◌+◌, ◌-◌, ◌*◌, ℕ, not}
use Rattle.std.specs.Prelude.{false, true, List, [], ◌∷◌, ◌++◌}
use Rattle.std.specs.Prelude.{All, Bool, filter, length, map, MatchResult, Option, Result, Some, None, Vec}
use Rattle.std.specs.List.{Contains}
use mathlib.Core.List.{IsPrefix}
use Rattle.logbook.specs.Pages.{Book}
use Rattle.kfifo_words.specs.declared.shape.Shape.{Shape}
use Rattle.kfifo_words.specs.declared.word.TheConstants.{MAX_VERSION}
use Rattle.kfifo_live.specs.declared.payload.Given.{Given}
use Rattle.kfifo_live.specs.declared.payload.Given.TheVariants as G
use Rattle.kfifo_live.specs.declared.payload.Taken.{Taken}
use Rattle.kfifo_live.specs.declared.payload.Taken.TheVariants as K
use Rattle.kfifo_live.specs.declared.payload.sealing.TakenOrSealed.{TakenOrSealed}
use Rattle.kfifo_live.specs.declared.payload.sealing.TakenOrSealed.TheVariants as S
use Rattle.kfifo_model.specs.declared.calls.TheConstants.{MAX_THREADS}
use Rattle.kfifo_live.specs.Calls.{IsDisturbed}
use Rattle.kfifo_live.specs.Capacities.{HasRoom, segments_for, sizes_fault, tokens_for}
use Rattle.kfifo_live.specs.Handles.{further}
use Rattle.kfifo_live.specs.Pass.{HasNoEvent, IsPassOf, IsSamePass, IsSealedEmpty, OpenQueue, PassKeepsPromise}
use Rattle.kfifo_live.specs.Payloads.{PayCloses}
use Rattle.kfifo_live.specs.Refusals.{IsOutOf}
use Rattle.kfifo_live.specs.Schedule.{count_up}
use Rattle.kfifo_live.specs.Tokens.{token_opening}
use Rattle.kfifo_live.specs.declared.payload.opening.TheConstants.{MOST_TOKENS}
use Rattle.kfifo_live.specs.declared.tokens.sizes.Sizes.{Sizes}
use Rattle.kfifo_live.specs.declared.tokens.sizes.SizesFault.{SizesFault}
use Rattle.kfifo_live.specs.declared.tokens.sizes.TheConstants.{SPARE_TOKENS}
use Rattle.kfifo_live.specs.declared.view.Opening.{Opening}
use Rattle.kfifo_pool.specs.Pooled.{GivesOne, Pooled, ReceivesOne, ReceivesOneOrSeals, new_handle, no_cells}
use Rattle.kfifo_renewing.specs.History.{AreInOne, EachLeftTogether, IsGone, IsMade, NewestWas, WasNewest, left_of}
use Rattle.kfifo_renewing.specs.History.{newest_of, place_count}
use Rattle.kfifo_renewing.specs.History.{opens_more, queue_in, sight_of}
use Rattle.kfifo_renewing.specs.declared.change.Change.{Change}
use Rattle.kfifo_renewing.specs.declared.change.Sight.{Sight}
use Rattle.kfifo_renewing.specs.declared.fault.CapacityFault.{CapacityFault}
use Rattle.kfifo_renewing.specs.declared.fault.CapacityFault.TheVariants as F
use Rattle.kfifo_renewing.specs.declared.places.Lineage.{Lineage}
use Rattle.kfifo_renewing.specs.declared.queue.Renewals.{Renewals}
use Rattle.kfifo_renewing.specs.declared.queue.TheConstants.{NO_RENEWAL}

-- the shape of the same sizes whose enqueues hold again
abbrev pub holding_again : Shape → Shape
holding_again s = record {
  k = s.k;
  n = s.n;
  last = s.last;
  probes = s.probes;
  holds_again = true;
  some_slot = s.some_slot;
  few_slots = s.few_slots;
  some_segments = s.some_segments;
  few_segments = s.few_segments;
  some_versions = s.some_versions;
  few_versions = s.few_versions;
  some_probe = s.some_probe;
  few_probes = s.few_probes;
}

-- what each generation of a queue of these sizes is opened with, bare or with payloads
abbrev pub opening_with : Bool → Sizes → Opening
opening_with bare s = token_opening bare s.shape s.threads s.tokens

-- and in this queue
abbrev pub opening_in : Lineage → Opening
opening_in l = opening_with l.bare l.sizes

-- the sizes whose enqueues hold again
abbrev pub sizes_again : Sizes → Sizes
sizes_again s = record { shape = holding_again s.shape; threads = s.threads; tokens = s.tokens }

abbrev pub opening_again : Sizes → Opening
opening_again s = opening_with false (sizes_again s)

-- how many slots each generation of a queue with this opening has
abbrev pub slots_of : Opening → ℕ
slots_of o = o.shape.n * o.shape.k

-- for how many values such a queue has room, whatever its threads keep of their spare tokens
abbrev pub room_of : Opening → ℕ
room_of o = o.threads * (o.tokens - SPARE_TOKENS)

-- How many generations a queue for so many threads may have at the same time because it grows, at most: it has places
-- for so many, and for those that its threads may keep
abbrev pub generations_for : ℕ → ℕ
generations_for threads = place_count - (2 * threads + 1)

-- why there is no queue for a capacity: no sizes, or no memory
abbrev pub RefusesFor : CapacityFault → Option SizesFault → Type 0
RefusesFor (F.Sizes fault) found = found ≡ Some fault
RefusesFor F.Memory found = found ≡ None

-- there are threads and tokens, and not too many
pub record AreInRange (s : Sizes) : Type 0 where
  pub threads : (0 < s.threads) × (s.threads ≤ MAX_THREADS)
  pub tokens : (0 < s.tokens) × (s.threads * s.tokens ≤ MOST_TOKENS)

-- the sizes are in range, and so is to how many generations the queue may grow
abbrev pub IsPlan : Sizes → Renewals → Type 0
IsPlan s r = AreInRange s × (1 ≤ r.generations) × (r.generations ≤ generations_for s.threads)

-- what an opening is refused for, the first of these
abbrev pub HasBadReserve : Sizes → Renewals → Type 0
HasBadReserve s r = s.shape.last ≤ r.reserve

abbrev pub HasBadThreads : Sizes → Renewals → Type 0
HasBadThreads s r = (r.reserve < s.shape.last) × IsOutOf MAX_THREADS s.threads

abbrev pub HasBadTokens : Sizes → Renewals → Type 0
HasBadTokens s r = (r.reserve < s.shape.last) × (1 ≤ s.threads) × (s.threads ≤ MAX_THREADS)
    × ((s.tokens ≡ 0) ⊎ (MOST_TOKENS < s.threads * s.tokens))

abbrev pub HasBadGenerations : ℕ → Sizes → Renewals → Type 0
HasBadGenerations most s r = (r.reserve < s.shape.last) × AreInRange s × (most ≡ generations_for s.threads)
    × IsOutOf most r.generations

-- these threads but one
abbrev pub without : ℕ → List ℕ → List ℕ
without own = filter (λ thread. not (thread == own))

-- the threads of a queue but one, in their order
abbrev pub other_threads : ℕ → ℕ → List ℕ
other_threads own threads = without own (count_up 0 threads)

-- A generation: its queue, and the number that it has in the history of a renewing queue, of which this beginning was
-- seen
pub record Numbered : Type 0 where
  pub queue : OpenQueue
  pub number : ℕ
  pub book : Book
  pub seen : List Change

-- it is opened with the sizes of this queue, and has its number in the history of this queue
abbrev pub IsOfLineage : Lineage → Numbered → Type 0
IsOfLineage l g = (g.queue.opened ≡ opening_in l) × (g.book ≡ l.history.book)

-- the handle of a thread in a generation, and the number of that
pub record HeldIn (T : Type 0) : Type 0 where
  pub handle : Pooled T
  pub number : ℕ

-- whether a queue with these renewals may open further generations: for its versions, or because it grows
abbrev pub may_open_more : Renewals → Bool
may_open_more r = not ((r.reserve == NO_RENEWAL) && (r.generations == 1))

-- The generations that the handle of a thread has joined: its handle in each. It gives to the newest, which has this
-- number. The older ones, the oldest first, may still have payloads. Of the history of the queue, which is that of this
-- book, it has seen this beginning
pub record Generations (T : Type 0) : Type 0 where
  pub opened : Opening
  pub thread : ℕ
  pub book : Book
  pub seen : List Change
  pub older : List (HeldIn T)
  pub newest : Pooled T
  pub number : ℕ

module _ {T : Type 0} where
  -- a handle in a queue with this opening
  abbrev pub IsOpenedAs : Opening → Pooled T → Type 0
  IsOpenedAs o h = h.held.pass.pass.opened ≡ o

  -- all of them, the oldest first
  abbrev pub all_of : Generations T → List (HeldIn T)
  all_of g = g.older ++ record { handle = g.newest; number = g.number } ∷ []

  -- these handles are of one queue: they have one history, and one opening
  abbrev pub AreOfOneQueue : List (Generations T) → Type 0
  AreOfOneQueue handles = (opened : Opening) × (book : Book)
      × All (λ g. (g.opened ≡ opened) × (g.book ≡ book)) handles

  -- a handle is of the same queue as before
  pub record IsOfSameQueue (old new : Generations T) : Type 0 where
    pub opened : new.opened ≡ old.opened
    pub book : new.book ≡ old.book

  -- the handle, once it has seen this much of the history
  abbrev pub with_seen : Generations T → List Change → Generations T
  with_seen g log = record {
    opened = g.opened;
    thread = g.thread;
    book = g.book;
    seen = log;
    older = g.older;
    newest = g.newest;
    number = g.number;
  }

  -- the handle, with these older generations
  abbrev pub with_older : Generations T → List (HeldIn T) → Generations T
  with_older g hs = record {
    opened = g.opened;
    thread = g.thread;
    book = g.book;
    seen = g.seen;
    older = hs;
    newest = g.newest;
    number = g.number;
  }

  -- the handle, once it has made a call in its newest generation
  abbrev pub with_newest : Generations T → Pooled T → Generations T
  with_newest g h = record {
    opened = g.opened;
    thread = g.thread;
    book = g.book;
    seen = g.seen;
    older = g.older;
    newest = h;
    number = g.number;
  }

  -- It is the handle of the same thread in the same queue, and has seen no less of the history. The number of the
  -- newest generation of the queue has not fallen
  pub record IsLater (old new : Generations T) : Type 0 where
    pub opened : new.opened ≡ old.opened
    pub thread : new.thread ≡ old.thread
    pub book : new.book ≡ old.book
    pub seen : IsPrefix old.seen new.seen
    pub risen : newest_of old.seen ≤ newest_of new.seen

  -- the newest generation of the handle is the one with its number in the history
  abbrev pub IsNumbered : Generations T → Type 0
  IsNumbered g = IsMade g.seen g.number (queue_in g.newest.held.pass.pass)

  -- Each generation of the queue that was the newest, up to that of the handle, has gone, or the handle has joined it
  abbrev pub HasAll : Generations T → Type 0
  HasAll g = (n : ℕ) → WasNewest g.seen n → n ≤ g.number
      → IsGone g.seen n ⊎ ((h : HeldIn T) × Contains (all_of g) h × (h.number ≡ n)
      × IsMade g.seen n (queue_in h.handle.held.pass.pass))

  -- what a look of the handle tells, once its newest pass has seen what it has
  abbrev pub sight : Generations T → Sight
  sight g = sight_of g.newest.held.pass.pass

  -- At a look of the handle from old to new, its newest generation was the newest of the queue. Its pass there had then
  -- seen all that it has seen
  abbrev pub IsAtNewest : Generations T → Generations T → Type 0
  IsAtNewest old new = NewestWas (sight new) new.number old.seen new.seen × IsNumbered new

  -- At such a look another generation was the newest of the queue
  abbrev pub IsBehind : Generations T → Generations T → Type 0
  IsBehind old new = (number : ℕ) × NewestWas (sight new) number old.seen new.seen × (number ≢ new.number)
      × IsNumbered new

  -- A handle has left its generation, which has gone, as the history tells. One schedule of that generation has all
  -- that the passes that had left by then did there, this handle's among them, and what they put there has come out
  pub record HasLeft (log : List Change) (h : HeldIn T) : Type 0 where
    pub gone : IsGone log h.number
    pub before : List Change
    pub earlier : IsPrefix before log
    pub left : Contains (left_of h.number before) (sight_of h.handle.held.pass.pass)
    pub one : AreInOne (queue_in h.handle.held.pass.pass) (left_of h.number before)

  -- Of these handles in generations, some are kept as they were, in their order. The others have no cell, and have left
  -- their generations, which have gone
  abbrev pub LeavesGone : List Change → List (HeldIn T) → List (HeldIn T) → Type 0
  LeavesGone log [] kept = kept ≡ []
  LeavesGone log (h ∷ hs) kept = ((rest : List (HeldIn T)) × (kept ≡ h ∷ rest) × LeavesGone log hs rest)
      ⊎ ((h.handle.cells ≡ no_cells) × HasLeft log h × LeavesGone log hs kept)

  -- Of these handles in generations, some are kept as they were, in their order. The others have left their
  -- generations, which have gone, even those that had cells there
  abbrev pub EndsGone : List Change → List (HeldIn T) → List (HeldIn T) → Type 0
  EndsGone log [] kept = kept ≡ []
  EndsGone log (h ∷ hs) kept = ((rest : List (HeldIn T)) × (kept ≡ h ∷ rest) × EndsGone log hs rest)
      ⊎ (HasLeft log h × EndsGone log hs kept)

  -- a handle with the first starts, without free tokens or cells, whose thread has begun no call
  abbrev pub IsUntouched : Pooled T → Type 0
  IsUntouched h = (h ≡ new_handle h.held.pass) × HasNoEvent h.held.pass.pass

  -- such a handle of this thread
  abbrev pub IsFresh : ℕ → Pooled T → Type 0
  IsFresh thread h = IsUntouched h × (h.held.pass.pass.thread ≡ thread)

  -- such a handle of this thread, in a generation that comes after this number
  abbrev pub IsNew : ℕ → ℕ → List Change → HeldIn T → Type 0
  IsNew thread number log h = (number < h.number) × IsMade log h.number (queue_in h.handle.held.pass.pass)
      × IsFresh thread h.handle

  -- A handle follows others. It keeps what it has joined as it is, but for generations that have gone, and joins some
  -- later ones. Nothing is done in any of them
  pub record Follows (old new : Generations T) : Type 0 where
    pub later : IsLater old new
    pub up : old.number ≤ new.number
    pub kept : List (HeldIn T)
    pub joined : List (HeldIn T)
    pub keeps : LeavesGone new.seen (all_of old) kept
    pub all : all_of new ≡ kept ++ joined
    pub all_new : All (IsNew old.thread old.number new.seen) joined

  -- what `len` did: the handle followed others, and counted at most one value for each slot of its generations
  abbrev pub Counts : ℕ → Generations T → Generations T → Type 0
  Counts count old new = Follows old new × (count ≤ length (all_of new) * slots_of new.opened)

  -- a handle that has joined one generation alone, the first, of this queue, in this history, and is fresh there
  abbrev pub HasOne : OpenQueue → Book → Generations T → Type 0
  HasOne q book g = (g.opened ≡ q.opened) × (g.book ≡ book) × (g.older ≡ []) × (g.number ≡ 0)
      × IsPassOf q g.newest.held.pass.pass × IsFresh g.thread g.newest

  -- handles of all threads, in their order, that have joined one generation, the same each, which has this opening, in
  -- one history
  abbrev pub HaveOne : Opening → List (Generations T) → Type 0
  HaveOne o handles = (q : OpenQueue) × (book : Book) × (q.opened ≡ o) × All (HasOne q book) handles
      × (map (λ g. g.thread) handles ≡ count_up 0 o.threads)

  -- whether the queue of these handles may open further generations, as its history says
  abbrev pub OpensMore : Bool → List (Generations T) → Type 0
  OpensMore more handles = All (λ g. opens_more g.seen ≡ more) handles

  -- a queue was opened with room for so many values, bare or with payloads, with the sizes for that capacity and
  -- versions up to `last`: these are its handles
  pub record OpensFor (bare : Bool) (k capacity last threads : ℕ) (handles : List (Generations T)) : Type 0 where
    pub sizes : Sizes
    pub k_is : sizes.shape.k ≡ k
    pub segments_are : sizes.shape.n ≡ segments_for (threads * tokens_for capacity threads) k
    pub last_is : sizes.shape.last ≡ last
    pub probes_are : sizes.shape.probes ≡ k
    pub threads_are : sizes.threads ≡ threads
    pub tokens_are : sizes.tokens ≡ tokens_for capacity threads
    pub room : HasRoom capacity sizes
    pub have_one : HaveOne (opening_with bare (sizes_again sizes)) handles
    pub count : length handles ≡ threads

  -- a queue was opened for this capacity, or refused: there are no sizes, or there is no memory
  abbrev pub OpensOrRefuses : {A : Type 0} → Bool → ℕ → ℕ → ℕ → Result (Vec (Generations T) A) CapacityFault → Type 0
  OpensOrRefuses bare k capacity threads result = MatchResult result
      (λ handles. (sizes_fault k capacity threads MAX_VERSION ≡ None)
      × OpensFor bare k capacity MAX_VERSION threads handles.items)
      (λ fault. RefusesFor fault (sizes_fault k capacity threads MAX_VERSION))

  -- one give, to the newest generation. The others stay as they are
  pub record GivesThere (payload : T) (answer : Given T) (old new : Generations T) : Type 0 where
    pub others : new ≡ with_newest old new.newest
    pub same : IsSamePass old.newest.held.pass.pass new.newest.held.pass.pass
    pub gives : GivesOne payload answer old.newest new.newest

  -- A try: the handle follows others, and gives to its newest generation, which was the newest of the queue at a look
  -- just before. Busy: it has given to none, and at a look another one was the newest
  abbrev pub TriesToGive : T → Given T → Generations T → Generations T → Type 0
  TriesToGive payload answer old new = (here : Generations T) × Follows old here
      × ((IsAtNewest old here × GivesThere payload answer here new)
      ⊎ (IsBehind old here × (answer ≡ G.Busy payload) × (new ≡ here)))

  -- A try after one that was refused: Worn comes only where it came to the same generation, which was still the newest.
  -- Where it came to another one with no version left, Busy stands for Worn
  pub record TriesAgain (payload : T) (answer : Given T) (refused new : Generations T) : Type 0 where
    pub tried : Given T
    pub tries : TriesToGive payload tried refused new
    pub then : ((answer ≡ tried) × (answer ≡ G.Worn payload → new.number ≡ refused.number))
        ⊎ ((tried ≡ G.Worn payload) × (answer ≡ G.Busy payload) × (new.number ≢ refused.number))

  -- What is returned of a first try, and nothing else is done
  abbrev pub Stops : Given T → Given T → Generations T → Generations T → Type 0
  Stops first answer old new = (answer ≡ first) × (new ≡ old)

  -- How a give goes on after a first try, by what that came to. With no version left it tries again; with no room it
  -- tries again where the queue may grow
  abbrev pub GoesOn : Given T → Given T → Generations T → Generations T → Type 0
  GoesOn G.Done answer old new = Stops G.Done answer old new
  GoesOn (G.Busy back) answer old new = Stops (G.Busy back) answer old new
  GoesOn (G.Worn back) answer old new = TriesAgain back answer old new
  GoesOn (G.Full back) answer old new = TriesAgain back answer old new ⊎ Stops (G.Full back) answer old new
  GoesOn (G.NoToken back) answer old new = TriesAgain back answer old new ⊎ Stops (G.NoToken back) answer old new

  -- what `give` did: one try, or two
  abbrev pub GivesToNewest : T → Given T → Generations T → Generations T → Type 0
  GivesToNewest payload answer old new = (first : Given T) × (here : Generations T)
      × TriesToGive payload first old here × GoesOn first answer here new

module _ {G : Type 0} where
  -- what is to be returned of a take that may seal an older generation: nothing where it found that empty
  abbrev pub got_or_sealed_of : TakenOrSealed G → Option (Taken G)
  got_or_sealed_of (S.Got got) = Some (K.Got got)
  got_or_sealed_of S.Empty = None
  got_or_sealed_of S.Sealed = None
  got_or_sealed_of S.Busy = Some K.Busy
  got_or_sealed_of S.Worn = Some K.Worn

-- what a take did to the starts of a handle: the next one begins one slot further
abbrev pub MovesTakeStart : {T : Type 0} → Pooled T → Pooled T → Type 0
MovesTakeStart old new = (new.held.take_start ≡ further old.held.pass.pass old.held.take_start)
    × (new.held.put_start ≡ old.held.put_start)

-- In what follows `takes` is what a take did in one generation, by what it returned, and `seals` what one did that may
-- seal it
module _ {T G : Type 0} (seals : TakenOrSealed G → Pooled T → Pooled T → Type 0) where
  -- one take from a generation that may seal it. Sealed: it has seen that sealed empty
  pub record SealsThere (answer : TakenOrSealed G) (old new : Pooled T) : Type 0 where
    pub same : IsSamePass old.held.pass.pass new.held.pass.pass
    pub did : seals answer old new
    pub sealed : answer ≡ S.Sealed → IsSealedEmpty new.held.pass.pass
    pub busy : answer ≡ S.Busy → IsDisturbed old.held.pass.pass new.held.pass.pass
    pub starts : MovesTakeStart old new
    pub promise : PassKeepsPromise new.held.pass.pass

  -- nothing is done, or such a take comes to this
  abbrev pub MaySeal : Option (Taken G) → Pooled T → Pooled T → Type 0
  MaySeal got old new = ((got ≡ None) × (new ≡ old))
      ⊎ ((taken : TakenOrSealed G) × (got ≡ got_or_sealed_of taken) × SealsThere taken old new)

module _ {T G : Type 0} (takes : Taken G → Pooled T → Pooled T → Type 0) where
  -- one take from a generation, whose promise is then kept
  pub record TakesThere (answer : Taken G) (old new : Pooled T) : Type 0 where
    pub same : IsSamePass old.held.pass.pass new.held.pass.pass
    pub did : takes answer old new
    pub busy : answer ≡ K.Busy → IsDisturbed old.held.pass.pass new.held.pass.pass
    pub starts : MovesTakeStart old new
    pub promise : PassKeepsPromise new.held.pass.pass

module _ {T G : Type 0} (takes : Taken G → Pooled T → Pooled T → Type 0)
    (seals : TakenOrSealed G → Pooled T → Pooled T → Type 0) where
  -- what a take from an older generation came to: where it found that empty, a second one may seal it
  abbrev pub TakesOlder : Option (Taken G) → Pooled T → Pooled T → Type 0
  TakesOlder got old new = ((taken : Taken G) × (taken ≢ K.Empty) × (got ≡ Some taken) × TakesThere takes taken old new)
      ⊎ ((mid : Pooled T) × TakesThere takes K.Empty old mid × MaySeal seals got mid new)

  -- The takes from these generations, one after the other, up to the first that is not found empty, and what that one
  -- returned. The others stay as they are. None: each was found empty
  abbrev pub TakesFirst : Option (Taken G) → List (HeldIn T) → List (HeldIn T) → Type 0
  TakesFirst answer [] new = (answer ≡ None) × (new ≡ [])
  TakesFirst answer (h ∷ hs) new = (after : HeldIn T) × (afters : List (HeldIn T)) × (new ≡ after ∷ afters)
      × (after.number ≡ h.number)
      × ((TakesOlder None h.handle after.handle × TakesFirst answer hs afters)
      ⊎ ((answer ≢ None) × TakesOlder answer h.handle after.handle × (afters ≡ hs)))

module _ {T G : Type 0} where
  -- What is returned of a take, after which the handle is `new`. Empty: at a look after it, by a pass that had seen it,
  -- the generation was still the newest of the queue. Where another one was, Busy stands for Empty
  abbrev pub LooksAgain : Taken G → Taken G → Generations T → Generations T → Type 0
  LooksAgain taken answer old new = ((taken ≢ K.Empty) × (answer ≡ taken) × (new.seen ≡ old.seen))
      ⊎ ((taken ≡ K.Empty) × (((answer ≡ K.Empty) × IsAtNewest old new) ⊎ ((answer ≡ K.Busy) × IsBehind old new)))

module _ {T G : Type 0} (takes : Taken G → Pooled T → Pooled T → Type 0) where
  -- A take from the newest generation. Empty: it found that empty
  pub record TakesNewest (answer : Taken G) (old new : Generations T) : Type 0 where
    pub taken : Taken G
    pub did : TakesThere takes taken old.newest new.newest
    pub then : LooksAgain taken answer old new

module _ {T G : Type 0} (takes : Taken G → Pooled T → Pooled T → Type 0)
    (seals : TakenOrSealed G → Pooled T → Pooled T → Type 0) where
  -- A take from the oldest generation that has something: from the newest where each older one was found empty. The
  -- handle then leaves some that have gone
  pub record TakesOldest (answer : Taken G) (old new : Generations T) : Type 0 where
    pub later : IsLater old new
    pub number : new.number ≡ old.number
    pub found : Option (Taken G)
    pub looked : List (HeldIn T)
    pub older : TakesFirst takes seals found old.older looked
    pub left : LeavesGone new.seen looked new.older
    pub newest : ((found ≡ Some answer) × (new.newest ≡ old.newest))
        ⊎ ((found ≡ None)
        × ((mid : Generations T) × IsLater old mid × (mid.newest ≡ old.newest) × TakesNewest takes answer mid new))

  -- What a take did: the handle follows others to the generation that was the newest of the queue at a look, so it is
  -- in each that has not gone, and takes. Busy: it has taken from none, and at a look another one than its newest was
  -- the newest
  abbrev pub TakesBy : Taken G → Generations T → Generations T → Type 0
  TakesBy answer old new = (here : Generations T) × Follows old here
      × ((IsAtNewest old here × HasAll here × TakesOldest answer here new)
      ⊎ (IsBehind old here × (answer ≡ K.Busy) × (new ≡ here)))

module _ {T : Type 0} where
  -- what `take` did
  abbrev pub TakesFromOldest : Taken T → Generations T → Generations T → Type 0
  TakesFromOldest = TakesBy ReceivesOne ReceivesOneOrSeals

  -- Each of these handles that is in the generation with this number has left it, or its handle there is among these
  abbrev pub HaveOwnAmong : List Change → List (Generations T) → ℕ → List (Pooled T) → Type 0
  HaveOwnAmong log handles number all = (g : Generations T) (h : HeldIn T) → Contains handles g → Contains (all_of g) h
      → h.number ≡ number → HasLeft log h ⊎ Contains all h.handle

  -- Who closes a generation, whose queue this is, with this handle: the handles there of all other threads, in their
  -- order. Among them are those of these handles of the renewing queue that have not left it
  pub record IsClosedBy (log : List Change) (handles : List (Generations T)) (queue : OpenQueue) (h : HeldIn T)
      (others : List (Pooled T)) : Type 0 where
    pub of : IsPassOf queue h.handle.held.pass.pass
    pub each_other : map (λ o. o.held.pass.pass.thread) others
        ≡ other_threads h.handle.held.pass.pass.thread queue.opened.threads
    pub theirs : HaveOwnAmong log handles h.number others

  -- What a close of a generation returned: by this handle, and the handles of all other threads
  pub record WereLeft (log : List Change) (handles : List (Generations T)) (h : HeldIn T) (payloads : List T) : Type 0
    where
      pub queue : OpenQueue
      pub others : List (Pooled T)
      pub by : IsClosedBy log handles queue h others
      pub closes : PayCloses queue h.handle.held.pass (map (λ o. o.held.pass) others) payloads

  -- what such closes returned, one after the other
  abbrev pub ClosesEach : List Change → List (Generations T) → List (HeldIn T) → List T → Type 0
  ClosesEach log handles [] payloads = payloads ≡ []
  ClosesEach log handles (h ∷ hs) payloads = (first : List T) × (rest : List T) × (payloads ≡ first ++ rest)
      × WereLeft log handles h first × ClosesEach log handles hs rest

  -- each of these handles has left each of its generations, or that is one of these, which were closed
  abbrev pub HaveEnded : List Change → List (Generations T) → List (HeldIn T) → Type 0
  HaveEnded log handles all = (g : Generations T) (h : HeldIn T) → Contains handles g → Contains (all_of g) h
      → HasLeft log h ⊎ Contains (map (λ a. a.number) all) h.number

  -- this beginning of the history has all that each of these handles has seen
  abbrev pub HaveSeen : List (Generations T) → List Change → Type 0
  HaveSeen handles log = All (λ g. IsPrefix g.seen log) handles

  -- What a close has by its last handle: it learned what the others had seen, and then followed them to the generation
  -- that was the newest of the queue at a look, so after that look it was in each that has not gone. By this log, the
  -- beginning of the history that it has then seen, it has left some that have gone. It is still in these, the oldest
  -- first
  abbrev pub Gathers : List (Generations T) → Generations T → List (HeldIn T) → List Change → Type 0
  Gathers others last all log = (told : Generations T) × (told ≡ with_seen last told.seen) × IsLater last told
      × HaveSeen others told.seen × (here : Generations T) × Follows told here × IsAtNewest told here × HasAll here
      × IsPrefix here.seen log × EndsGone log (all_of here) all

  -- What a close by these handles returned, with this log, the beginning of the history that the last of them had seen:
  -- each of the generations that the last was then in was closed, the oldest first. Each other handle has left each of
  -- its generations, or all that it did there is in the one schedule by which that was closed. Of each generation that
  -- has gone, one schedule has all that those did there that have left it, and what they put there has come out
  abbrev pub ClosesAll : List (Generations T) → List T → List Change → Type 0
  ClosesAll handles payloads log = (last : Generations T) × (others : List (Generations T))
      × (handles ≡ others ++ last ∷ []) × (all : List (HeldIn T)) × Gathers others last all log
      × ClosesEach log others all payloads × HaveEnded log others all × EachLeftTogether log
