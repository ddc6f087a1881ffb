-- What the search for evidence knows of a history: what its calls do, tallies of their items, and when items are there.
use Rattle.std.specs.Prelude.{ℕ, ◌≡◌, ◌+◌, ◌<◌, ◌≤◌, ◌↔◌, ◌⊎◌, ◌&&◌, ◌-◌, cond, leb, ltb, min, Bool, true, List, Option}
use Rattle.std.specs.Prelude.{length, IsTrue, slice_index_or, unwrap_or}
use Rattle.std.specs.Ordering.{nat_cmp}
use Rattle.std.specs.BTreeMap.{get}
use Rattle.kfifo_model.specs.declared.calls.Call.{Call}
use Rattle.kfifo_model.specs.declared.calls.End.{End}
use Rattle.kfifo_model.specs.Overtaking.{adds, takes}
use Rattle.std.specs.List.{AllByRecursion}
use Rattle.kfifo_model.specs.declared.effects.Effect.TheVariants.{FindsNone}
use Rattle.kfifo_model.specs.Histories.{call, does, EndsBelow}
use Rattle.kfifo_model.specs.declared.effects.Side.{Side}
use Rattle.kfifo_model.specs.declared.effects.Side.TheVariants.{In, Out}
use Rattle.kfifo_verdict.specs.declared.tallies.ByItem.{ByItem}
use Rattle.kfifo_verdict.specs.declared.tallies.Tally.{Tally}
use Rattle.kfifo_verdict.specs.declared.presences.Presence.{Presence}
use Rattle.kfifo_verdict.specs.declared.presences.Items.{Items}
use Rattle.kfifo_verdict.specs.declared.finding.Stay.{Stay}
use Rattle.kfifo_verdict.specs.declared.finding.Covered.{Covered}
use Rattle.kfifo_verdict.specs.declared.finding.Covered.TheVariants.{Whole, Gap}
use Rattle.kfifo_verdict.specs.Evidence.{Puts, Gets, count_below, IsSingle, IsCertainlyThere, IsNotEmpty, IsOlder, Rise}
use Rattle.kfifo_verdict.specs.Judging.{FoundNotEmpty, IsPlain}

-- whether call c is one of the side that has item x
abbrev pub has_item : Side → List Call → ℕ → ℕ → Bool
has_item In h x c = adds x (does h c)
has_item Out h x c = takes x (does h c)

abbrev pub first_of : List Call → ℕ → ℕ
first_of h c = (call h c).first

-- a call with this end precedes those from this number on, and no others
pub record IsStart (h : List Call) (end : Option End) (start : ℕ) : Type 0 where
  pub bound : start ≤ length h
  pub starts : (d : ℕ) → d < length h → EndsBelow end (first_of h d) ↔ (start ≤ d)

abbrev pub no_tally : Tally
no_tally = record { count = 0; earliest = 0; last = 0 }

-- The tally of the calls below n that pass the test.
pub record IsTally (test : ℕ → Bool) (first : ℕ → ℕ) (n : ℕ) (t : Tally) : Type 0 where
  pub few : t.count ≤ n
  pub count : t.count ≡ count_below test n
  pub earliest : (c : ℕ) → c < n → test c ≡ true → t.earliest ≤ first c
  pub attained : 0 < t.count → (c : ℕ) × (test c ≡ true) × (first c ≡ t.earliest)
  pub last : (c : ℕ) → c < n → test c ≡ true → (c ≤ t.last) × (0 < t.count)
  pub passes : 0 < t.count → (t.last < n) × (test t.last ≡ true)
  pub only : t.count ≡ 1 → (c : ℕ) → c < n → test c ≡ true → c ≡ t.last
  pub more : 1 < t.count → (c : ℕ) × (c < t.last) × (test c ≡ true)

-- the tallies of all items on a side, of the calls below n
abbrev pub IsTallied : List Call → Side → ℕ → (ℕ → Tally) → Type 0
IsTallied h side n look = (x : ℕ) → IsTally (has_item side h x) (first_of h) n (look x)

-- whether an item has its tally in a list of this many, the first of which is of the least item
abbrev pub is_near : ℕ → ℕ → ℕ → Bool
is_near least count x = leb least x && ltb (x - least) count

-- the tally of an item
abbrev pub tally_in : ByItem → ℕ → Tally
tally_in m x = cond (is_near m.least (length m.near.items) x) (slice_index_or m.near.items (x - m.least) no_tally)
    (unwrap_or (get nat_cmp m.far x) no_tally)

-- the tallies of all puts, and of all gets
abbrev pub ArePuts : List Call → ByItem → Type 0
ArePuts h m = IsTallied h In (length h) (tally_in m)

abbrev pub AreGets : List Call → ByItem → Type 0
AreGets h m = IsTallied h Out (length h) (tally_in m)

-- Of a single item: its put, the first call that the put precedes, and the call that gets it, or the number of calls.
pub record IsKnown (h : List Call) (x p : ℕ) (s : Presence) : Type 0 where
  pub single : IsSingle h x p
  pub start : IsStart h (call h p).end s.start
  pub gone : ((s.gone ≡ length h) × ((g : ℕ) → Gets h x g → ⊥)) ⊎ Gets h x s.gone

-- When the item that call p puts is certainly there, or never.
pub record IsPresence (h : List Call) (p : ℕ) (s : Presence) : Type 0 where
  pub bound : (s.start ≤ length h) × (s.gone ≤ length h)
  pub there : (c moment : ℕ) → s.start ≤ c → c < s.gone → c < length h → first_of h c ≤ moment
      → (s.gone < length h → moment < first_of h s.gone) → IsCertainlyThere h p moment
  pub until : (moment : ℕ) → IsCertainlyThere h p moment → s.gone < length h → moment < first_of h s.gone
  pub from : (c : ℕ) → c < length h → IsCertainlyThere h p (first_of h c) → (s.start ≤ c) × (c < s.gone)
  pub older : (g put after : ℕ) → put < length h → IsStart h (call h g).end after
      → IsOlder h g put p ↔ ((s.start ≤ put) × (after ≤ s.gone))
  pub known : (x : ℕ) → IsSingle h x p → IsKnown h x p s
  pub real : 0 < s.gone → (x : ℕ) × Puts h x p

abbrev pub no_presence : Presence
no_presence = record { start = 0; gone = 0 }

-- the presences of the calls below n
abbrev pub ArePresences : List Call → ℕ → List Presence → Type 0
ArePresences h n ps = (length ps ≡ n) × ((p : ℕ) → p < n → IsPresence h p (slice_index_or ps p no_presence))

-- An item that is certainly there at the beginning of call c, and until when, if there is any such.
pub record IsStay (h : List Call) (c : ℕ) (s : Stay) : Type 0 where
  pub there : c < s.gone → (moment : ℕ) → first_of h c ≤ moment → (s.gone < length h → moment < first_of h s.gone)
      → IsCertainlyThere h s.put moment
  pub until : c < s.gone → (moment : ℕ) → IsCertainlyThere h s.put moment → s.gone < length h
      → moment < first_of h s.gone

abbrev pub no_stay : Stay
no_stay = record { put = 0; gone = 0 }

-- for each call an item that is there as it begins, where any is
pub record AreStays (h : List Call) (stays : List Stay) : Type 0 where
  pub sized : length stays ≡ length h
  pub real : (c : ℕ) → c < length h → IsStay h c (slice_index_or stays c no_stay)
  pub found : (c p : ℕ) → c < length h → IsCertainlyThere h p (first_of h c) → c < (slice_index_or stays c no_stay).gone

-- for each call the time until which the longest item stays that is there from it or an earlier one on
pub record AreLongest (ps : List Presence) (stays : List Stay) : Type 0 where
  pub sized : length stays ≡ length ps
  pub longest : (c p : ℕ) → c < length ps → p < length ps → (slice_index_or ps p no_presence).start ≤ c
      → (slice_index_or ps p no_presence).gone ≤ (slice_index_or stays c no_stay).gone
  pub held : (c : ℕ) → c < length ps → 0 < (slice_index_or stays c no_stay).gone
      → (q : ℕ) × (q < length ps) × ((slice_index_or ps q no_presence).start ≤ c)
      × ((slice_index_or ps q no_presence).gone ≡ (slice_index_or stays c no_stay).gone)

-- Whether items are certainly there at each moment of call e, or at the beginning of call n none is.
abbrev pub IsCovered : List Call → List Stay → ℕ → Covered → Type 0
IsCovered h stays e (Whole puts) = IsNotEmpty h e puts.items
IsCovered h stays e (Gap n) = (FoundNotEmpty h e → ⊥) × (e ≤ n) × (n < length h)
    × (EndsBelow (call h e).end (first_of h n) → ⊥) × ((slice_index_or stays n no_stay).gone ≤ n)

-- during call e a call begins as no item is certainly there
abbrev pub HasGap : List Call → ℕ → Type 0
HasGap h e = (n : ℕ) × (e ≤ n) × (n < length h) × (EndsBelow (call h e).end (first_of h n) → ⊥)
    × ((p : ℕ) → IsCertainlyThere h p (first_of h n) → ⊥)

-- each call that returned Empty has such a moment
abbrev pub HasGaps : List Call → Type 0
HasGaps h = (e : ℕ) → does h e ≡ FindsNone → HasGap h e

-- the calls by their items
pub record IsIndexed (h : List Call) (items : Items) : Type 0 where
  pub puts : ArePuts h items.puts
  pub gets : AreGets h items.gets
  pub presences : ArePresences h (length h) items.presences.items
  pub stays : AreStays h items.stays.items
  pub longest : AreLongest items.presences.items items.stays.items
  pub plain : IsTrue items.plain ↔ IsPlain h

-- Of the items of the puts below n that are certainly there from call c on, and from no earlier one, none is there
-- longer than the one at place c.
pub record IsBucketed (h : List Call) (ps : List Presence) (n : ℕ) (stays : List Stay) : Type 0 where
  pub sized : length stays ≡ length h
  pub real : (c : ℕ) → c < length h → IsStay h c (slice_index_or stays c no_stay)
  pub longest : (p c : ℕ) → p < n → c < length h → (slice_index_or ps p no_presence).start ≡ c
      → (slice_index_or ps p no_presence).gone ≤ (slice_index_or stays c no_stay).gone
  pub held : (c : ℕ) → c < length h → 0 < (slice_index_or stays c no_stay).gone
      → (q : ℕ) × (q < length h) × ((slice_index_or ps q no_presence).start ≤ c)
      × ((slice_index_or ps q no_presence).gone ≡ (slice_index_or stays c no_stay).gone)

-- the item is certainly there from call `put` on, and got by no call below `after`
abbrev pub outlast : ℕ → ℕ → Presence → Bool
outlast put after s = leb s.start put && leb after s.gone

-- whether the item of call p is
abbrev pub lasts_at : List Presence → ℕ → ℕ → ℕ → Bool
lasts_at ps put after p = outlast put after (slice_index_or ps p no_presence)

-- the number, or no more than it and no fewer than the limit
abbrev pub IsCountedTo : ℕ → ℕ → ℕ → Type 0
IsCountedTo limit count result = (result ≡ count) ⊎ ((limit ≤ result) × (result ≤ count))

-- For each call a later one: the items of those between them are gone at call n.
pub record AreSkips (ps : List Presence) (n : ℕ) (skips : List ℕ) : Type 0 where
  pub sized : length skips ≡ length ps + 1
  pub ahead : (i : ℕ) → i < length ps + 1 → (i ≤ slice_index_or skips i 0) × (slice_index_or skips i 0 ≤ length ps)
  pub gone : (i p : ℕ) → i < length ps + 1 → i ≤ p → p < slice_index_or skips i 0
      → (slice_index_or ps p no_presence).gone ≤ n

-- The first k numbers below n that pass the test, or all where they are fewer, in ascending order.
pub record AreFirst (test : ℕ → Bool) (k n : ℕ) (found : List ℕ) : Type 0 where
  pub count : length found ≡ min k (count_below test n)
  pub pass : AllByRecursion (λ p. (p < n) × (test p ≡ true)) found
  pub rising : Rise found
