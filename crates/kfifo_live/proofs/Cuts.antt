-- A look at the schedule, and views that are cut in two or put together, keep the rule.
use Rattle.std.proofs.Common.{map, mul-le-mul_right, suc-mul, None, nat_lt, ◌≡◌, ◌≢◌, ◌⊎◌, ℕ, zero, suc, ◌+◌, ◌-◌, ◌<◌}
use Rattle.std.proofs.Common.{◌≤◌, List, [], ◌∷◌, ◌++◌, length, set, get_or, replicate, ◌*◌, take, drop, true, false}
use Rattle.std.proofs.Common.{refl, sym, ap, ◌∙◌, subst, inl, inr, ⊎_elim, Bool, Option, arith, cond, eq-eqb, ne_eqb}
use Rattle.std.proofs.Common.{nat_eq, nat_le}
use Rattle.std.specs.Prelude.{slice_index, slice_set}
use Rattle.std.proofs.lemmas.List.{append-nil, set-get_or}
use Rattle.std.proofs.lemmas.Bool.{cases_eq}
use Rattle.std.proofs.lemmas.Bool.Decides.{nat_tests}
use mathlib.Core.Option.{some, some-ne-none, some-injective}
use lib.ListN.{get_elem?}
use Rattle.atomic_table.specs.Table.{State, keeps, Me, Allows, Splits, Joins}
use Rattle.atomic_table.proofs.Lists.{at_set}
use Rattle.kfifo_live.proofs.Types.{Event, Hand, Opening, Part, Running, View}
use Rattle.kfifo_words.specs.Words.{value_of}
use Rattle.kfifo_words.specs.Ring.{clock_at}
use Rattle.kfifo_machine.specs.Machine.{opening, word_at, place_of}
use Rattle.kfifo_live.specs.Schedule.{part, view_of, count_up, first_hand, fresh, first_view, thread_of, seen_of}
use Rattle.kfifo_live.specs.Schedule.{gifts_of, hand_of, with_seen, more_in, IsSeated, AllBegin, AllGiven, GiftsFit}
use Rattle.kfifo_live.specs.Schedule.{AllHands, Owns, AreResting, Fits, OneSchedule, no_hand, FewTicks, both_parts}
use Rattle.kfifo_live.specs.Hands.{Gifts, Homes, Where, Home, AllHome, CallFits, HandFits, SlotsFit}
use Rattle.kfifo_live.specs.Step.{Looks}
use Rattle.kfifo_live.proofs.Balance.{value-zero}
use Rattle.kfifo_live.proofs.Keeps.{Tokens, adds, fits_set}

-- a look, at a view with these parts
looks_at : {T : Type 0} (o : Opening) (s : State (Option T) (View T)) (id thread : ℕ) (seen : List Event)
    (gifts : Gifts T) (hand : Hand T) (more : List (Part T)) (i : ℕ)
    → OneSchedule o s.words s.homes s.views
    → get_elem? s.views id ≡ some (view_of o (part thread seen gifts hand ∷ more))
    → (w : View T) × OneSchedule o (slice_set s.words i (slice_index s.words i)) s.homes (set s.views id w)
    × Looks i (slice_index s.words i) (view_of o (part thread seen gifts hand ∷ more)) w
looks_at {T} o s id thread seen gifts hand more i kept at =
    let words : slice_set s.words i (slice_index s.words i) ≡ kept.world.words = set-get_or s.words i 0
    ∙ kept.words_are in
    let tokens : Tokens o s.homes s.homes s.views s.words kept kept.world (kept.gifts ++ []) thread hand = record {
      at_now = kept.at;
      slots = λ some_tokens. subst (λ (g : Gifts T). SlotsFit o.bare (clock_at o.shape.k o.shape.n) (word_at kept.world)
          kept.at g s.homes) (sym (append-nil kept.gifts)) (kept.slots some_tokens);
      own = λ some_tokens.
          subst (λ (g : Gifts T). HandFits o.bare (word_at kept.world) (place_of kept.world thread) kept.at g s.homes
          thread hand)
          (sym (append-nil kept.gifts))
          (kept.hands some_tokens id (view_of o (part thread seen gifts hand ∷ more)) at).0;
      others = λ some_tokens u other ne fits. subst
          (λ (g : Gifts T). HandFits o.bare (word_at kept.world) (place_of kept.world u) kept.at g s.homes u other)
          (sym (append-nil kept.gifts))
          fits;
    } in
    let k = adds o s.words (slice_set s.words i (slice_index s.words i)) s.homes s.homes s.views id thread seen gifts
    hand hand more kept at
    [] [] (λ u apart. refl) kept.world refl words (subst (FewTicks o) (sym (append-nil kept.all)) kept.few_ticks)
    (subst (λ (x : List Event × Gifts T). GiftsFit o x.0 x.1)
    (λ j. (sym (append-nil kept.all) j, sym (append-nil kept.gifts) j))
    kept.in_turn) tokens (kept.fit id (view_of o (part thread seen gifts hand ∷ more)) at).resting.0 in
    let mine = kept.fit id (view_of o (part thread seen gifts hand ∷ more)) at in (
      view_of o (part thread kept.all kept.gifts hand ∷ more),
      subst (λ (x : List Event × Gifts T). OneSchedule o (slice_set s.words i (slice_index s.words i)) s.homes
          (set s.views id (view_of o (part thread x.0 x.1 hand ∷ more))))
          (λ j. (append-nil kept.all j, append-nil kept.gifts j)) k,
      record {
        all = kept.all;
        gifts = kept.gifts;
        world = kept.world;
        reached = kept.runs;
        word_is = ap (λ ws. get_or ws i 0) kept.words_are;
        begin = mine.begin;
        given = mine.given;
        in_turn = kept.in_turn;
        afterwards =
            refl;
      },
    )

pub looks : {T : Type 0} (o : Opening) (slots id : ℕ) (me : Me (Option T) (View T)) (i : ℕ) → IsSeated me.0
    → Allows (λ (s : State (Option T) (View T)). OneSchedule o s.words s.homes s.views) slots id me i (λ n. n)
    (λ found w. Looks i found me.0 w.0 × (w.1 ≡ me.1))
looks {T} o slots id me i seated s kept homes at fits =
    let v = me.0 in
    let opened = (kept.fit id v at).opened in
    let P : View T → Type 0 = λ x. (w : View T)
    × OneSchedule o (slice_set s.words i (slice_index s.words i)) s.homes (set s.views id w)
    × Looks i (slice_index s.words i) x w in
    let Q : Opening → Type 0 = λ x. OneSchedule x s.words s.homes s.views → (w : View T)
    × OneSchedule x (slice_set s.words i (slice_index s.words i)) s.homes (set s.views id w)
    × Looks i (slice_index s.words i) (with_seen v (seen_of v) (gifts_of v) (hand_of v)) w in
    let got : P (with_seen v (seen_of v) (gifts_of v) (hand_of v)) =
    subst Q opened (λ k. looks_at v.opened s id (thread_of v) (seen_of v) (gifts_of v) (hand_of v) (more_in v.parts) i k
    (at ∙ ap some seated)) kept in
    let put = subst P (sym seated) got in
    (put.0, keeps, tt, put.1, (put.2, refl))

AllBegin-append : {T : Type 0} (xs ys : List (Part T)) (all : List Event) → AllBegin xs all → AllBegin ys all
    → AllBegin (xs ++ ys) all
AllBegin-append [] ys all a b = b
AllBegin-append (x ∷ xs) ys all a b = (a.0, AllBegin-append xs ys all a.1 b)

AllBegin-take : {T : Type 0} (n : ℕ) (xs : List (Part T)) (all : List Event) → AllBegin xs all
    → AllBegin (take n xs) all
AllBegin-take zero xs all a = tt
AllBegin-take (suc n) [] all a = tt
AllBegin-take (suc n) (x ∷ xs) all a = (a.0, AllBegin-take n xs all a.1)

AllBegin-drop : {T : Type 0} (n : ℕ) (xs : List (Part T)) (all : List Event) → AllBegin xs all
    → AllBegin (drop n xs) all
AllBegin-drop zero xs all a = a
AllBegin-drop (suc n) [] all a = tt
AllBegin-drop (suc n) (x ∷ xs) all a = AllBegin-drop n xs all a.1

AllGiven-append : {T : Type 0} (xs ys : List (Part T)) (gifts : Gifts T) → AllGiven xs gifts → AllGiven ys gifts
    → AllGiven (xs ++ ys) gifts
AllGiven-append [] ys gifts a b = b
AllGiven-append (x ∷ xs) ys gifts a b = (a.0, AllGiven-append xs ys gifts a.1 b)

AllGiven-take : {T : Type 0} (n : ℕ) (xs : List (Part T)) (gifts : Gifts T) → AllGiven xs gifts
    → AllGiven (take n xs) gifts
AllGiven-take zero xs gifts a = tt
AllGiven-take (suc n) [] gifts a = tt
AllGiven-take (suc n) (x ∷ xs) gifts a = (a.0, AllGiven-take n xs gifts a.1)

AllGiven-drop : {T : Type 0} (n : ℕ) (xs : List (Part T)) (gifts : Gifts T) → AllGiven xs gifts
    → AllGiven (drop n xs) gifts
AllGiven-drop zero xs gifts a = a
AllGiven-drop (suc n) [] gifts a = tt
AllGiven-drop (suc n) (x ∷ xs) gifts a = AllGiven-drop n xs gifts a.1

AreResting-append : {T : Type 0} (threads : ℕ) (xs ys : List (Part T)) → AreResting threads xs → AreResting threads ys
    → AreResting threads (xs ++ ys)
AreResting-append threads [] ys a b = b
AreResting-append threads (x ∷ xs) ys a b = (a.0, AreResting-append threads xs ys a.1 b)

AreResting-take : {T : Type 0} (threads n : ℕ) (xs : List (Part T)) → AreResting threads xs
    → AreResting threads (take n xs)
AreResting-take threads zero xs a = tt
AreResting-take threads (suc n) [] a = tt
AreResting-take threads (suc n) (x ∷ xs) a = (a.0, AreResting-take threads n xs a.1)

AreResting-drop : {T : Type 0} (threads n : ℕ) (xs : List (Part T)) → AreResting threads xs
    → AreResting threads (drop n xs)
AreResting-drop threads zero xs a = a
AreResting-drop threads (suc n) [] a = tt
AreResting-drop threads (suc n) (x ∷ xs) a = AreResting-drop threads n xs a.1

AllHands-append : {T : Type 0} (bare : Bool) (words : ℕ → ℕ) (place : ℕ → Option Running) (at : ℕ → Where)
    (gifts : Gifts T) (homes : Homes T) (xs ys : List (Part T))
    → AllHands bare words place at gifts homes xs → AllHands bare words place at gifts homes ys
    → AllHands bare words place at gifts homes (xs ++ ys)
AllHands-append bare words place at gifts homes [] ys a b = b
AllHands-append bare words place at gifts homes (x ∷ xs) ys a b =
    (a.0, AllHands-append bare words place at gifts homes xs ys a.1 b)

AllHands-take : {T : Type 0} (bare : Bool) (words : ℕ → ℕ) (place : ℕ → Option Running) (at : ℕ → Where)
    (gifts : Gifts T) (homes : Homes T) (n : ℕ) (xs : List (Part T))
    → AllHands bare words place at gifts homes xs → AllHands bare words place at gifts homes (take n xs)
AllHands-take bare words place at gifts homes zero xs a = tt
AllHands-take bare words place at gifts homes (suc n) [] a = tt
AllHands-take bare words place at gifts homes (suc n) (x ∷ xs) a =
    (a.0, AllHands-take bare words place at gifts homes n xs a.1)

AllHands-drop : {T : Type 0} (bare : Bool) (words : ℕ → ℕ) (place : ℕ → Option Running) (at : ℕ → Where)
    (gifts : Gifts T) (homes : Homes T) (n : ℕ) (xs : List (Part T))
    → AllHands bare words place at gifts homes xs → AllHands bare words place at gifts homes (drop n xs)
AllHands-drop bare words place at gifts homes zero xs a = a
AllHands-drop bare words place at gifts homes (suc n) [] a = tt
AllHands-drop bare words place at gifts homes (suc n) (x ∷ xs) a =
    AllHands-drop bare words place at gifts homes n xs a.1

-- the seat `from` gives its parts from the k-th on to the seat `to`, where they follow the first m
abbrev pub passed_on : ℕ → ℕ → ℕ → ℕ → ℕ × ℕ → ℕ × ℕ
passed_on from k to m x = cond (nat_eq x.0 from) (cond (nat_le k x.1) (to, m + (x.1 - k)) x) x

passed_other : (from k to m seat at : ℕ) → seat ≢ from → passed_on from k to m (seat, at) ≡ (seat, at)
passed_other from k to m seat at apart = ap (λ b. cond b (cond (nat_le k at) (to, m + (at - k)) (seat, at)) (seat, at))
    (ne_eqb seat from apart)

passed_here : (from k to m at : ℕ) → k ≤ at → passed_on from k to m (from, at) ≡ (to, m + (at - k))
passed_here from k to m at le =
    ap (λ b. cond b (cond (nat_le k at) (to, m + (at - k)) (from, at)) (from, at)) (eq-eqb from from refl)
    ∙ ap (λ b. cond b (to, m + (at - k)) (from, at)) (let t : nat_le k at ≡ true = grind (arith, nat_tests) in t)

passed_kept : (from k to m at : ℕ) → at < k → passed_on from k to m (from, at) ≡ (from, at)
passed_kept from k to m at lt =
    ap (λ b. cond b (cond (nat_le k at) (to, m + (at - k)) (from, at)) (from, at)) (eq-eqb from from refl)
    ∙ ap (λ b. cond b (to, m + (at - k)) (from, at)) (let t : nat_le k at ≡ false = grind (arith, nat_tests) in t)

module _ {T : Type 0} (owner : ℕ → ℕ × ℕ) (from k to m : ℕ) where
  owns_other : (seat at : ℕ) (ps : List (Part T)) → seat ≢ from → Owns owner seat at ps
      → Owns (λ t. passed_on from k to m (owner t)) seat at ps
  owns_other seat at [] apart o = tt
  owns_other seat at (p ∷ ps) apart o = (
    ap (passed_on from k to m) o.0 ∙ passed_other from k to m seat at apart,
    owns_other seat (suc at) ps apart o.1,
  )

  owns_first : (at n : ℕ) (ps : List (Part T)) → at + n ≤ k → Owns owner from at ps
      → Owns (λ t. passed_on from k to m (owner t)) from at (take n ps)
  owns_first at zero ps le o = tt
  owns_first at (suc n) [] le o = tt
  owns_first at (suc n) (p ∷ ps) le o = (
    ap (passed_on from k to m) o.0 ∙ passed_kept from k to m at (omega arith),
    owns_first (suc at) n ps (omega arith) o.1,
  )

  owns_given : (at : ℕ) (ps : List (Part T)) → k ≤ at → Owns owner from at ps
      → Owns (λ t. passed_on from k to m (owner t)) to (m + (at - k)) ps
  owns_given at [] le o = tt
  owns_given at (p ∷ ps) le o =
      let n : m + (suc at - k) ≡ suc (m + (at - k)) = omega arith in (
        ap (passed_on from k to m) o.0 ∙ passed_here from k to m at le,
        subst (λ (x : ℕ). Owns (λ t. passed_on from k to m (owner t)) to x ps) n
            (owns_given (suc at) ps (omega arith) o.1),
      )

owns_drop : {T : Type 0} (owner : ℕ → ℕ × ℕ) (seat at n : ℕ) (ps : List (Part T)) → n ≤ length ps
    → Owns owner seat at ps
    → Owns owner seat (at + n) (drop n ps)
owns_drop owner seat at zero ps le o = subst (λ (x : ℕ). Owns owner seat x ps) (let e : at ≡ at + 0 =
    omega arith in e) o
owns_drop owner seat at (suc n) [] le o = tt
owns_drop owner seat at (suc n) (p ∷ ps) le o =
    subst (λ (x : ℕ). Owns owner seat x (drop n ps)) (let e : suc at + n ≡ at + suc n = omega arith in e)
    (owns_drop owner seat (suc at) n ps (omega arith) o.1)

Owns-append : {T : Type 0} (owner : ℕ → ℕ × ℕ) (seat at : ℕ) (xs ys : List (Part T)) → Owns owner seat at xs
    → Owns owner seat (at + length xs) ys → Owns owner seat at (xs ++ ys)
Owns-append owner seat at [] ys a b = subst (λ (x : ℕ). Owns owner seat x ys) (let e : at + 0 ≡ at = omega arith in e) b
Owns-append owner seat at (x ∷ xs) ys a b = (
  a.0,
  Owns-append owner seat (suc at) xs ys a.1
      (subst (λ (n : ℕ). Owns owner seat n ys) (let e : at + length (x ∷ xs) ≡ suc at + length xs =
      omega arith in e) b),
)

pub at_end : {A : Type 0} (l : List A) (a b : A) (j : ℕ) → get_elem? (l ++ a ∷ []) j ≡ some b → (get_elem? l j ≡ some b)
    ⊎ ((j ≡ length l) × (a ≡ b))
at_end [] a b zero e = inr (refl, some-injective a b e)
at_end [] a b (suc j) e = absurd (some-ne-none b (sym e))
at_end (x ∷ xs) a b zero e = inl e
at_end (x ∷ xs) a b (suc j) e = ⊎_elim (λ t. inl t) (λ t. inr (ap suc t.0, t.1)) (at_end xs a b j e)

at_within : {A : Type 0} (l : List A) (j : ℕ) (b : A) → get_elem? l j ≡ some b → j < length l
at_within [] j b e = absurd (some-ne-none b (sym e))
at_within (x ∷ xs) zero b e = omega arith
at_within (x ∷ xs) (suc j) b e = let h = at_within xs j b e in omega arith

pub length_set : {A : Type 0} (l : List A) (i : ℕ) (a : A) → length (set l i a) ≡ length l
length_set [] i a = refl
length_set (x ∷ xs) zero a = refl
length_set (x ∷ xs) (suc i) a = ap suc (length_set xs i a)

-- a seat keeps its first n parts, and a new seat has the others
pub cuts : {T : Type 0} (o : Opening) (id : ℕ) (v : View T) (n : ℕ) → n ≤ length v.parts
    → Splits (λ (s : State (Option T) (View T)). OneSchedule o s.words s.homes s.views) id v
    (view_of v.opened (take n v.parts))
    (view_of v.opened (drop n v.parts))
cuts {T} o id v n le s kept at =
    let mine = kept.fit id v at in
    let left = view_of v.opened (take n v.parts) in
    let right = view_of v.opened (drop n v.parts) in
    let new = length s.views in
    let inside : id < new = at_within s.views id v at in
    let owner = λ (t : ℕ). passed_on id n new 0 (kept.owner t) in
    let at_left : Fits o kept.all kept.gifts owner id left =
    record {
      opened = mine.opened;
      begin = AllBegin-take n v.parts kept.all mine.begin;
      given = AllGiven-take n v.parts kept.gifts mine.given;
      owns = owns_first kept.owner id n new 0 0 n v.parts (omega arith) mine.owns;
      resting = AreResting-take o.threads n v.parts mine.resting;
    } in
    let given = owns_given kept.owner id n new 0 (0 + n) (drop n v.parts) (omega arith)
    (owns_drop kept.owner id 0 n v.parts le mine.owns) in
    let at_right : Fits o kept.all kept.gifts owner new right =
    record {
      opened = mine.opened;
      begin = AllBegin-drop n v.parts kept.all mine.begin;
      given = AllGiven-drop n v.parts kept.gifts mine.given;
      owns =
          subst (λ (x : ℕ). Owns owner new x (drop n v.parts)) (let e : 0 + (0 + n - n) ≡ 0 = omega arith in e) given;
      resting =
          AreResting-drop o.threads n v.parts mine.resting;
    } in
    record {
      all = kept.all;
      gifts = kept.gifts;
      world = kept.world;
      owner = owner;
      runs = kept.runs;
      words_are = kept.words_are;
      in_turn = kept.in_turn;
      few_ticks = kept.few_ticks;
      fit = λ j u e.
          ⊎_elim
          (λ (x : get_elem? (set s.views id left) j ≡ some u).
          fits_set o kept.all kept.gifts owner s.views id left
          (λ i y apart f. let theirs = kept.fit i y f in
          record {
            opened = theirs.opened;
            begin = theirs.begin;
            given = theirs.given;
            owns = owns_other kept.owner id n new 0 i 0 y.parts apart theirs.owns;
            resting = theirs.resting;
          })
          at_left j u x)
          (λ (x : (j ≡ length (set s.views id left)) × (right ≡ u)).
          subst (λ (y : ℕ × View T). Fits o kept.all kept.gifts owner y.0 y.1)
          (λ k. (sym (x.0 ∙ length_set s.views id left) k, x.1 k))
          at_right)
          (at_end (set s.views id left) right u j e);
      at = kept.at;
      slots = kept.slots;
      holders = kept.holders;
      hands = λ some_tokens j u e.
          let all = kept.hands some_tokens id v at in
          let P : View T → Type 0 = λ x. AllHands o.bare (word_at kept.world) (place_of kept.world) kept.at kept.gifts
          s.homes x.parts in
          ⊎_elim
          (λ (x : get_elem? (set s.views id left) j ≡ some u).
          ⊎_elim
          (λ (y : (j ≡ id) × (left ≡ u)). subst P y.1
          (AllHands-take o.bare (word_at kept.world) (place_of kept.world) kept.at kept.gifts s.homes n v.parts all))
          (λ (y : (j ≢ id) × (get_elem? s.views j ≡ some u)). kept.hands some_tokens j u y.1)
          (at_set s.views id j left u x))
          (λ (x : (j ≡ length (set s.views id left)) × (right ≡ u)).
          subst P x.1 (AllHands-drop o.bare (word_at kept.world) (place_of kept.world) kept.at kept.gifts s.homes n
          v.parts all))
          (at_end (set s.views id left) right u j e);
    }

-- a seat takes the parts of another
pub gathers : {T : Type 0} (o : Opening) (id : ℕ) (v : View T) (other : ℕ) (w : View T) (opened : Opening)
    → opened ≡ v.opened
    → Joins (λ (s : State (Option T) (View T)). OneSchedule o s.words s.homes s.views) id v other w (both_parts v w)
    (view_of opened [])
gathers {T} o id v other w opened same s kept at apart there =
    let mine = kept.fit id v at in
    let both = both_parts v w in
    let m = length v.parts in
    let theirs_at : get_elem? s.views other ≡ some w =
    ⊎_elim (λ (t : (other ≡ id) × (both ≡ w)). absurd (apart t.0))
    (λ (t : (other ≢ id) × (get_elem? s.views other ≡ some w)). t.1)
    (at_set s.views id other both w there) in
    let theirs = kept.fit other w theirs_at in
    let owner = λ (t : ℕ). passed_on other 0 id m (kept.owner t) in
    let given = owns_given kept.owner other 0 id m 0 w.parts (omega arith) theirs.owns in
    let at_both : Fits o kept.all kept.gifts owner id both = record {
      opened = mine.opened;
      begin = AllBegin-append v.parts w.parts kept.all mine.begin theirs.begin;
      given = AllGiven-append v.parts w.parts kept.gifts mine.given theirs.given;
      owns = Owns-append owner id 0 v.parts w.parts
          (owns_other kept.owner other 0 id m id 0 v.parts (λ e. apart (sym e)) mine.owns)
          (subst (λ (x : ℕ). Owns owner id x w.parts) (let e : m + (0 - 0) ≡ 0 + m = omega arith in e) given);
      resting = AreResting-append o.threads v.parts w.parts mine.resting theirs.resting;
    } in
    let at_other : Fits o kept.all kept.gifts owner other (view_of opened []) =
    record { opened = same ∙ mine.opened; begin = tt; given = tt; owns = tt; resting = tt } in
    record {
      all = kept.all;
      gifts = kept.gifts;
      world = kept.world;
      owner = owner;
      runs = kept.runs;
      words_are = kept.words_are;
      in_turn = kept.in_turn;
      few_ticks = kept.few_ticks;
      fit = λ j u e. fits_set o kept.all kept.gifts owner (set s.views id both) other (view_of opened [])
          (λ i y not_other f. fits_at o kept.all kept.gifts owner s.views id both other
          (λ i y not_id not_other f. let they = kept.fit i y f in
          record {
            opened = they.opened;
            begin = they.begin;
            given = they.given;
            owns = owns_other kept.owner other 0 id m i 0 y.parts not_other they.owns;
            resting = they.resting;
          })
          at_both i y not_other f)
          at_other j u e;
      at = kept.at;
      slots = kept.slots;
      holders = kept.holders;
      hands = λ some_tokens j u e.
          let P : View T → Type 0 = λ x. AllHands o.bare (word_at kept.world) (place_of kept.world) kept.at kept.gifts
          s.homes x.parts in
          ⊎_elim
          (λ (x : (j ≡ other) × (view_of opened [] ≡ u)). subst P x.1 tt)
          (λ (x : (j ≢ other) × (get_elem? (set s.views id both) j ≡ some u)).
          ⊎_elim
          (λ (y : (j ≡ id) × (both ≡ u)).
          subst P y.1 (AllHands-append o.bare (word_at kept.world) (place_of kept.world) kept.at kept.gifts s.homes
          v.parts w.parts
          (kept.hands some_tokens id v at) (kept.hands some_tokens other w theirs_at)))
          (λ (y : (j ≢ id) × (get_elem? s.views j ≡ some u)). kept.hands some_tokens j u y.1)
          (at_set s.views id j both u x.1))
          (at_set (set s.views id both) other j (view_of opened []) u e);
    }
  where
    fits_at : {T : Type 0} (o : Opening) (all : List Event) (gifts : Gifts T) (owner : ℕ → ℕ × ℕ)
        (views : List (View T)) (id : ℕ) (both : View T) (other : ℕ)
        → ((i : ℕ) (y : View T) → i ≢ id → i ≢ other → get_elem? views i ≡ some y → Fits o all gifts owner i y)
        → Fits o all gifts owner id both → (i : ℕ) (y : View T) → i ≢ other → get_elem? (set views id both) i ≡ some y
        → Fits o all gifts owner i y
    fits_at {T} o all gifts owner views id both other others mine i y apart e =
        ⊎_elim
        (λ (x : (i ≡ id) × (both ≡ y)). subst (λ (z : ℕ × View T). Fits o all gifts owner z.0 z.1)
        (λ k. (sym x.0 k, x.1 k)) mine)
        (λ (x : (i ≢ id) × (get_elem? views i ≡ some y)). others i y x.0 apart x.1)
        (at_set views id i both y e)

-- the opening
fresh_begin : (T : Type 0) (tokens first count : ℕ) → AllBegin {T = T} (fresh tokens first count) []
fresh_begin T tokens first zero = tt
fresh_begin T tokens first (suc count) = (
  record {
    rest = [];
    goes_on = refl;
    no_own = refl;
  },
  fresh_begin T tokens (suc first) count,
)

fresh_given : (T : Type 0) (tokens first count : ℕ) → AllGiven {T = T} (fresh tokens first count) []
fresh_given T tokens first zero = tt
fresh_given T tokens first (suc count) = (([], refl), fresh_given T tokens (suc first) count)

fresh_resting : (T : Type 0) (threads tokens first count : ℕ) → first + count ≤ threads
    → AreResting {T = T} threads (fresh tokens first count)
fresh_resting T threads tokens first zero le = tt
fresh_resting T threads tokens first (suc count) le =
    (λ beyond. absurd (omega arith), fresh_resting T threads tokens (suc first) count (omega arith))

fresh_owns : (T : Type 0) (tokens first count : ℕ) → Owns {T = T} (λ t. (0, t)) 0 first (fresh tokens first count)
fresh_owns T tokens first zero = tt
fresh_owns T tokens first (suc count) = (refl, fresh_owns T tokens (suc first) count)

-- where the tokens of an opening are: those of thread t are t * tokens + 1 to (t + 1) * tokens
at_open : ℕ → ℕ → ℕ → Where
at_open tokens zero x = Home 0 0
at_open tokens (suc thread) x = cond (nat_lt (thread * tokens) x) (Home thread (suc thread * tokens - x))
    (at_open tokens thread x)

at_thread : (tokens count thread x : ℕ) → thread < count → thread * tokens < x → x ≤ suc thread * tokens
    → at_open tokens count x ≡ Home thread (suc thread * tokens - x)
unfolding at_open
at_thread tokens zero thread x within above below = absurd (omega arith)
at_thread tokens (suc count) thread x within above below =
    elim (cases_eq thread count) [
      | inl same ↦
          let here : nat_lt (count * tokens) x ≡ true =
          (let more : count * tokens < x = subst (λ (t : ℕ). t * tokens < x) same above in grind (arith, nat_tests)) in
          ap (λ b. cond b (Home count (suc count * tokens - x)) (at_open tokens count x)) here
          ∙ ap (λ (t : ℕ). Home t (suc t * tokens - x)) (sym same)
      | inr other ↦
          let up = mul-le-mul_right tokens (let le : suc thread ≤ count = omega arith in le) in
          let not_here : nat_lt (count * tokens) x ≡ false =
          (let less : x ≤ count * tokens = omega (arith, up, below) in grind (arith, nat_tests)) in
          ap (λ b. cond b (Home count (suc count * tokens - x)) (at_open tokens count x)) not_here
          ∙ at_thread tokens count thread x (omega arith) above below
    ]

home_at : {T : Type 0} (n k : ℕ) → k < n → get_elem? (map some (replicate {A = Option T} n None)) k ≡ some (some None)
home_at zero k less = absurd (omega arith)
home_at (suc n) zero less = refl
home_at (suc n) (suc k) less = home_at n k (omega arith)

length-count_up : (first n : ℕ) → length (count_up first n) ≡ n
length-count_up first zero = refl
length-count_up first (suc n) = ap suc (length-count_up (suc first) n)

idle_open : (n t : ℕ) → get_or (replicate {A = Option Running} n None) t None ≡ None
idle_open zero t = refl
idle_open (suc n) zero = refl
idle_open (suc n) (suc t) = idle_open n t

module _ (T : Type 0) (o : Opening) where
  abbrev homes_open : Homes T
  homes_open = map some (replicate {A = Option T} (o.threads * o.tokens) None)

  tokens_open : (thread first n : ℕ) → thread < o.threads → first + n ≡ suc thread * o.tokens + 1
      → thread * o.tokens < first
      → AllHome (at_open o.tokens o.threads) homes_open thread (count_up first n)
  tokens_open thread first zero within is above = tt
  tokens_open thread first (suc n) within is above =
      let up = mul-le-mul_right o.tokens (let le : suc thread ≤ o.threads = omega arith in le) in
      let below : first ≤ suc thread * o.tokens = omega (arith, is) in
      let behind : suc thread * o.tokens - first ≡ length (count_up (suc first) n) =
      (let e = length-count_up (suc first) n in omega (arith, is, e)) in (
        (
          (omega (arith, above)),
          at_thread o.tokens o.threads thread first within above below ∙ ap (Home thread) behind,
          home_at {T = T} (o.threads * o.tokens) (first - 1) (omega (arith, up, below, above)),
        ),
        tokens_open thread (suc first) n within (omega (arith, is)) (omega (arith, above)),
      )

  hands_open : (words : ℕ → ℕ) (first count : ℕ) → first + count ≡ o.threads
      → AllHands o.bare words (place_of (opening o.shape o.threads)) (at_open o.tokens o.threads) [] homes_open
      (fresh o.tokens first count)
  unfolding opening place_of
  hands_open words first zero all = tt
  hands_open words first (suc count) all = (
    record {
      home = tokens_open first (first * o.tokens + 1) o.tokens (omega (arith, all))
          (let e : suc first * o.tokens ≡ first * o.tokens + o.tokens = suc-mul-of first o.tokens in omega (arith, e))
          (omega arith);
      out = λ some_out. absurd (some_out refl);
      stands = subst (CallFits o.bare words [] (first_hand o.tokens first)) (sym (idle_open o.threads first)) tt;
    },
    hands_open words (suc first) count (omega (arith, all)),
  )
    where
      suc-mul-of : (m n : ℕ) → suc m * n ≡ m * n + n
      suc-mul-of m n = omega (arith, suc-mul m n)

pub opens : {T : Type 0} (o : Opening) (words : List ℕ) → words ≡ replicate (2 + o.shape.n * o.shape.k) 0
    → OneSchedule {T = T} o words (homes_open T o) (first_view o ∷ [])
unfolding opening word_at place_of
opens {T} o words is = record {
  all = [];
  gifts = [];
  world = opening o.shape o.threads;
  owner = λ t. (0, t);
  runs = refl;
  words_are = is;
  in_turn = record { in_turn = refl; holder_law = λ some_tokens. tt };
  few_ticks = λ thread. omega arith;
  fit = one;
  at = at_open o.tokens o.threads;
  slots = λ some_tokens i above below filled.
      absurd (filled (ap value_of (zero_at (2 + o.shape.n * o.shape.k) i) ∙ value-zero));
  hands = λ some_tokens. all_hands;
  holders = λ some_tokens thread. (
    no_hand,
    record {
      home = tt;
      out = λ some_out. absurd (some_out refl);
      stands = subst (CallFits o.bare (word_at (opening o.shape o.threads)) [] no_hand)
          (sym (idle_open o.threads thread)) tt;
    },
  );
}
  where
    zero_at : (n i : ℕ) → get_or {A = ℕ} (replicate n 0) i 0 ≡ 0
    zero_at zero i = refl
    zero_at (suc n) zero = refl
    zero_at (suc n) (suc i) = zero_at n i

    all_hands : (seat : ℕ) (v : View T) → get_elem? (first_view o ∷ []) seat ≡ some v
        → AllHands o.bare (word_at (opening o.shape o.threads)) (place_of (opening o.shape o.threads))
        (at_open o.tokens o.threads) []
        (homes_open T o) v.parts
    all_hands zero v e =
        subst (λ (x : View T). AllHands o.bare (word_at (opening o.shape o.threads))
        (place_of (opening o.shape o.threads))
        (at_open o.tokens o.threads) [] (homes_open T o) x.parts) (some-injective _ _ e)
        (hands_open T o (word_at (opening o.shape o.threads)) 0 o.threads (omega arith))
    all_hands (suc seat) v e = absurd (some-ne-none v (sym e))

    one : (seat : ℕ) (v : View T) → get_elem? (first_view o ∷ []) seat ≡ some v → Fits o [] [] (λ t. (0, t)) seat v
    one zero v e = subst (Fits o [] [] (λ t. (0, t)) 0) (some-injective _ _ e)
        record {
          opened = refl;
          begin = fresh_begin T o.tokens 0 o.threads;
          given = fresh_given T o.tokens 0 o.threads;
          owns = fresh_owns T o.tokens 0 o.threads;
          resting = fresh_resting T o.threads o.tokens 0 o.threads (omega arith);
        }
    one (suc seat) v e = absurd (some-ne-none v (sym e))

-- with no tokens there are no slots
pub opens_plain : {T : Type 0} (o : Opening) (words : List ℕ) → words ≡ replicate (2 + o.shape.n * o.shape.k) 0
    → o.tokens ≡ 0
    → OneSchedule {T = T} o words [] (first_view o ∷ [])
opens_plain {T} o words is none_there =
    let no_slots : o.threads * o.tokens ≡ 0 = ap (λ (n : ℕ). o.threads * n) none_there ∙ times_zero o.threads in
    subst (λ (n : ℕ). OneSchedule {T = T} o words (map some (replicate {A = Option T} n None)) (first_view o ∷ []))
    no_slots
    (opens o words is)
  where
    times_zero : (n : ℕ) → n * 0 ≡ 0
    times_zero n = omega arith
