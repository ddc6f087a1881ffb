-- What a handle of a renewing queue has joined: parts in generations.
use Rattle.std.specs.Prelude.{◌≡◌, ◌⊎◌, ◌<◌, ◌++◌, ℕ, Bool, true, List, [], ◌∷◌}
use Rattle.std.specs.Prelude.{All, Option, Some, length, map, slice_get}
use Rattle.std.specs.List.{Contains}
use Rattle.logbook.specs.Pages.{Book}
use Rattle.kfifo_pool.specs.Pooled.{Pooled, no_cells}
use Rattle.kfifo_live.specs.Pass.{IsPassOf, IsSamePass, IsSealedEmpty, PassKeepsPromise, PassView}
use Rattle.kfifo_live.specs.declared.payload.Taken.{Taken}
use Rattle.kfifo_live.specs.declared.payload.sealing.TakenOrSealed.{TakenOrSealed}
use Rattle.kfifo_live.specs.declared.view.Opening.{Opening}
use Rattle.kfifo_renewing.specs.History.{HasRisen, IsGone, IsMade, IsPlaced, WasNewest, newest_of, place_count}
use Rattle.kfifo_renewing.specs.History.{queue_in}
use Rattle.kfifo_renewing.specs.Renewing.{Generations, HasLeft, HeldIn, IsFresh, IsOpenedAs}
use Rattle.kfifo_renewing.specs.Renewing.{Numbered, TakesOlder, all_of}
use Rattle.kfifo_renewing.specs.declared.change.Change.{Change}

-- a pass has seen its queue sealed empty, in a schedule that keeps the promise
abbrev pub HasSeenSealed : PassView → Type 0
HasSeenSealed p = IsSealedEmpty p × PassKeepsPromise p

-- a part in a generation: the handle there, the number and the place of the generation, and the book of its history
pub record PartView (T : Type 0) : Type 0 where
  pub handle : Pooled T
  pub number : ℕ
  pub place : ℕ
  pub book : Book

-- the older generations of a handle: its parts in them, and for how many there is room
pub record OlderView (T : Type 0) : Type 0 where
  pub items : List (PartView T)
  pub capacity : ℕ

module _ {T : Type 0} where
  -- the generation of a part has its number and its place in the history
  pub record IsPart (log : List Change) (p : PartView T) : Type 0 where
    pub made : IsMade log p.number (queue_in p.handle.held.pass.pass)
    pub inside : p.place < place_count
    pub placed : IsPlaced log p.number p.place

  -- a part in a queue with this opening, whose history is in this book
  abbrev pub IsPartOf : Opening → Book → PartView T → Type 0
  IsPartOf o book p = IsOpenedAs o p.handle × (p.book ≡ book)

  -- the handle of a part has no cell of its generation
  abbrev pub HasNoCell : PartView T → Type 0
  HasNoCell p = p.handle.cells ≡ no_cells

  -- the pass of a part has seen its generation sealed empty
  abbrev pub IsSealedPart : PartView T → Type 0
  IsSealedPart p = HasSeenSealed p.handle.held.pass.pass

  -- A part that may leave its generation, by this book and this beginning of the history: that is no longer the newest.
  -- Where `is_sealed` is true, the part has seen it sealed empty, as the first to leave has to
  pub record MayLeave (book : Book) (log : List Change) (is_sealed : Bool) (p : PartView T) : Type 0 where
    pub same_book : p.book ≡ book
    pub part : IsPart log p
    pub over : p.number < newest_of log
    pub sealed : is_sealed ≡ true → IsSealedPart p

  -- a part in this generation
  abbrev pub IsPartIn : Numbered → PartView T → Type 0
  IsPartIn g p = (p.number ≡ g.number) × (p.book ≡ g.book) × IsPassOf g.queue p.handle.held.pass.pass

  -- a part in the same generation, with the same pass
  abbrev pub IsSamePart : PartView T → PartView T → Type 0
  IsSamePart old new = (new.number ≡ old.number) × (new.place ≡ old.place)
      × IsSamePass old.handle.held.pass.pass new.handle.held.pass.pass × (new.book ≡ old.book)

  -- parts in the same generations, in the same order
  abbrev pub AreSameParts : List (PartView T) → List (PartView T) → Type 0
  AreSameParts [] new = new ≡ []
  AreSameParts (p ∷ ps) new = (q : PartView T) × (qs : List (PartView T)) × (new ≡ q ∷ qs) × IsSamePart p q
      × AreSameParts ps qs

  -- the handle of a part in its generation, and those of some
  abbrev pub held_in : PartView T → HeldIn T
  held_in p = record { handle = p.handle; number = p.number }

  abbrev pub held_by : List (PartView T) → List (HeldIn T)
  held_by = map held_in

  -- of these handles in generations the one at this index has seen its generation sealed empty
  abbrev pub HasSealedAt : List (HeldIn T) → ℕ → Type 0
  HasSealedAt hs index = (h : HeldIn T) × (slice_get hs index ≡ Some h) × HasSeenSealed h.handle.held.pass.pass

  -- a part of this thread, with a fresh handle, in a generation that comes after this number
  abbrev pub IsUnused : ℕ → ℕ → PartView T → Type 0
  IsUnused thread number p = (number < p.number) × IsFresh thread p.handle

  -- one of these parts is in the generation with this number
  abbrev pub HasNumber : List (PartView T) → ℕ → Type 0
  HasNumber parts n = (p : PartView T) × Contains parts p × (p.number ≡ n)

  -- Each generation that was the newest has gone, or one of these parts is in it: of those between these numbers, and
  -- as two beginnings of the history tell
  abbrev pub AreAmong : ℕ → ℕ → List (PartView T) → List Change → List Change → Type 0
  AreAmong first end parts old new = (n : ℕ) → first < n → n < end → WasNewest old n → IsGone new n ⊎ HasNumber parts n

  -- handles in one generation
  abbrev pub IsBeside : Pooled T → Pooled T → Type 0
  IsBeside h k = (k.held.pass.pass.table ≡ h.held.pass.pass.table) × (k.held.pass.pass.opened ≡ h.held.pass.pass.opened)

  -- each of these handles has left each of its generations, or its part there is among these
  abbrev pub HaveParts : List Change → List (Generations T) → List (PartView T) → Type 0
  HaveParts log handles parts = (g : Generations T) (h : HeldIn T) → Contains handles g → Contains (all_of g) h
      → HasLeft log h ⊎ Contains (held_by parts) h

  -- each generation that was the newest before this one has gone, or one of these parts is in it
  abbrev pub HasOlder : List Change → List (PartView T) → ℕ → Type 0
  HasOlder log older number = (n : ℕ) → WasNewest log n → n < number → IsGone log n ⊎ HasNumber older n

  -- What holds of a handle: of the opening of its queue, the book of that and its own, what it has seen, its newest
  -- generation, and its parts
  pub record HasJoined (o : Opening) (shared book : Book) (log : List Change) (g : Numbered) (newest : PartView T)
      (older : List (PartView T)) : Type 0 where
    pub newest_opened : IsPartOf o book newest
    pub older_opened : All (IsPartOf o book) older
    pub same_book : book ≡ shared
    pub books : g.book ≡ book
    pub of : IsPassOf g.queue newest.handle.held.pass.pass
    pub number : newest.number ≡ g.number
    pub was : WasNewest log g.number
    pub risen : HasRisen log
    pub newest_part : IsPart log newest
    pub older_parts : All (IsPart log) older
    pub below : All (λ p. p.number < g.number) older
    pub all : HasOlder log older g.number

  -- A handle has left its generation, that at this index of some, and had no cell there. These are the others
  pub record LeavesAt (log : List Change) (index : ℕ) (old new : List (HeldIn T)) : Type 0 where
    pub before : List (HeldIn T)
    pub after : List (HeldIn T)
    pub handle : HeldIn T
    pub was : old ≡ before ++ handle ∷ after
    pub now : new ≡ before ++ after
    pub at : length before ≡ index
    pub no_cell : handle.handle.cells ≡ no_cells
    pub left : HasLeft log handle

module _ {T G : Type 0} (takes : Taken G → Pooled T → Pooled T → Type 0)
    (seals : TakenOrSealed G → Pooled T → Pooled T → Type 0) where
  -- A take from the generation at this index of some came to this. Where `is_sealed` is true, the handle has then seen
  -- it sealed empty. The others are as before
  pub record TakesAt (index : ℕ) (answer : Option (Taken G)) (is_sealed : Bool) (old new : List (HeldIn T)) : Type
      0 where
    pub before : List (HeldIn T)
    pub after : List (HeldIn T)
    pub handle : HeldIn T
    pub next : HeldIn T
    pub was : old ≡ before ++ handle ∷ after
    pub now : new ≡ before ++ next ∷ after
    pub at : length before ≡ index
    pub number : next.number ≡ handle.number
    pub took : TakesOlder takes seals answer handle.handle next.handle
    pub sealed : is_sealed ≡ true → HasSeenSealed next.handle.held.pass.pass
