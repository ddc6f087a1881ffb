-- When handles are all that a queue has which does not wear out.
use Rattle.std.proofs.Common.{◌≡◌, ◌<◌, ◌≤◌, ◌*◌, ◌^◌, arith, sym, ap, subst, ◌∙◌, map, length, ℕ, List, [], ◌∷◌, ◌++◌}
use Rattle.std.proofs.Common.{All, Option, Some, None, inl, inr, refl}
use Rattle.std.specs.Prelude.{SomeIff}
use Rattle.std.proofs.lemmas.List.{map-append, length-map}
use Rattle.std.proofs.lemmas.List.Elements.{All-pop, All-push}
use Rattle.std.proofs.Math.ListN.{set}
use Rattle.kfifo_renewing.specs.Renewing.{Follows, Generations}
use Rattle.kfifo_c.specs.AllHandles.{AreAll, AreSeatsOfOneQueue, seats_in}
use Rattle.kfifo_c.specs.Behind.{Behind, Values, values_in}
use Rattle.kfifo_c.specs.Handles.{behind}
use Rattle.kfifo_c.specs.ValueSeats.{ValueSeated}
use Rattle.kfifo_c.specs.Values.{LastFollows, MayCloseValues, NeedsRoom, room_for}
use Rattle.kfifo_c.specs.declared.handle.Handle.{Handle}
use Rattle.kfifo_c.proofs.HandleLists.{Kind, Last, one_last, read_seats, seats_more, seats_of, values}

module _ {T : Type 0} where
  -- the seats of handles that are all
  pub all_seats : (os : List (Option (Generations T))) (all : AreAll os) → seats_in os ≡ all.others ++ all.last ∷ []
  all_seats os all = ap seats_in all.each_open ∙ seats_of (all.others ++ all.last ∷ [])

  pub same_last : (os : List (Option (Generations T))) (a b : AreAll os) → a.last ≡ b.last
  same_last os a b = one_last a.others b.others a.last b.last (sym (all_seats os a) ∙ all_seats os b)

  -- the last of handles of one queue is still of that queue where it has the same opening and history
  last_of_one : (os : List (Option (Generations T))) (was is : Generations T) → is.opened ≡ was.opened
      → is.book ≡ was.book
      → AreSeatsOfOneQueue (os ++ Some was ∷ []) → AreSeatsOfOneQueue (os ++ Some is ∷ [])
  last_of_one os was is opened book of =
      let P : Generations T → Type 0 = λ g. (g.opened ≡ of.0) × (g.book ≡ of.1) in
      let before = All-pop P (seats_in os ++ was ∷ []) (seats_in os) (Some was) refl
      (subst (All P) (seats_more os was) of.2) in
      let after = All-push P (seats_in os) is before.0 (opened ∙ before.1.0, book ∙ before.1.1) in
      (of.0, of.1, subst (All P) (sym (seats_more os is)) after)

  module _ (k : Kind (Generations T)) (hs : List Handle) (i : ℕ) (h : Handle) (was is : Generations T)
      (last : Last k hs i h was is) where
    pub read_after : map k.read (behind (set hs i h)) ≡ map Some (last.others ++ is ∷ [])
    read_after = ap (map k.read) last.after ∙ read_seats k (last.others ++ is ∷ [])

    pub read_count : length (map k.read (behind (set hs i h))) ≡ length hs
    read_count = length-map (behind (set hs i h)) k.read ∙ last.count

    abbrev pub are_all : length hs ≡ is.opened.threads → AreAll (map k.read (behind (set hs i h)))
    are_all many = record { others = last.others; last = is; each_open = read_after; count = read_count ∙ many }

    -- they are as many as the queue of the last has only if it is this one
    pub last_of_all : (all : AreAll (map k.read (behind (set hs i h)))) → all.last ≡ is
    last_of_all all = one_last all.others last.others all.last is
        (sym (all_seats (map k.read (behind (set hs i h))) all) ∙ ap seats_in read_after
        ∙ seats_of (last.others ++ is ∷ []))

    pub not_all : ¬ (length hs ≡ is.opened.threads) → ¬ AreAll (map k.read (behind (set hs i h)))
    not_all many all =
        many (sym read_count ∙ all.count ∙ ap (λ (s : Generations T). s.opened.threads) (last_of_all all))

pub last_follows : (hs : List Handle) (i : ℕ) (h : Handle) (was is : ValueSeated) → Last values hs i h was is
    → Follows was is
    → LastFollows (behind hs) (behind (set hs i h))
last_follows hs i h was is last follows = inr (
  map (λ s. Some (Values s)) last.others,
  was,
  is,
  last.before ∙ map-append (λ s. Some (Values s)) last.others (was ∷ []),
  last.after ∙ map-append (λ s. Some (Values s)) last.others (is ∷ []),
  follows,
)

-- handles of one queue are of one queue when the last has followed others
pub still_of_one : (old new : List (Option Behind)) → LastFollows old new → AreSeatsOfOneQueue (map values_in old)
    → AreSeatsOfOneQueue (map values_in new)
still_of_one old new (inl same) of =
    subst (λ (hs : List (Option Behind)). AreSeatsOfOneQueue (map values_in hs)) (sym same) of
still_of_one old new (inr last) of =
    let read = λ (seat : ValueSeated). map-append values_in last.0 (Some (Values seat) ∷ []) in
    let Of : List (Option ValueSeated) → Type 0 = λ os. AreSeatsOfOneQueue os in
    subst Of (sym (ap (map values_in) last.4 ∙ read last.2))
    (last_of_one (map values_in last.0) last.1 last.2 last.5.later.opened last.5.later.book
    (subst Of (ap (map values_in) last.3 ∙ read last.1) of))

great : (n m : ℕ) → ¬ (n < 2 ^ 64) → m ≡ n → 2 ^ 64 ≤ m
great n m above is = omega (arith, above, is)

-- the room for so many generations of so many slots
pub needs_room : (o : Option ℕ) (count slots : ℕ) (os : List (Option ValueSeated)) (all : AreAll os)
    → SomeIff o (count * slots < 2 ^ 64) (count * slots) → room_for all.last ≡ count * slots → NeedsRoom o os
needs_room None count slots os all above is = λ other. great (count * slots) (room_for other.last) above
    (ap room_for (same_last os other all) ∙ is)
needs_room (Some room) count slots os all below is = (all, below.1 ∙ sym is)

pub may_close : (o : Option ℕ) (os : List (Option ValueSeated)) (needed room : ℕ) → NeedsRoom o os → o ≡ Some needed
    → needed ≤ room
    → MayCloseValues os room
may_close o os needed room either is wide = let needs = subst (λ o'. NeedsRoom o' os) is either in
    record { all = needs.0; room_is = subst (λ n. n ≤ room) needs.1 wide }
