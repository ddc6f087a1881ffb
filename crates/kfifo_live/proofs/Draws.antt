-- A thread between two calls takes one of its tokens out, or lays it back, and the rule is kept.
use Rattle.std.proofs.Common.{◌≡◌, ◌≢◌, ℕ, zero, suc, ◌-◌, ◌<◌, ◌≤◌, List, [], ◌∷◌, length, set, Option, Some, None}
use Rattle.std.proofs.Common.{Bool, true, false, refl, sym, ap, ◌∙◌, subst, inl, inr, ⊎_elim, arith, cond, eq-eqb}
use Rattle.std.proofs.Common.{ne_eqb}
use Rattle.std.specs.Prelude.{◌==◌, ◌||◌, slice_index, slice_set}
use Rattle.std.specs.List.{AllByRecursion, IsDistinct, list_any}
use Rattle.std.proofs.lemmas.Bool.{cases_eq}
use Rattle.std.proofs.lemmas.Map.Steps.{length-le_from_distinct_below}
use Rattle.std.proofs.lemmas.List.{set-get_or, length-set}
use mathlib.Core.Option.{Option as Maybe, some, none}
use lib.ListN.{get_elem?}
use Rattle.atomic_table.specs.Table.{State, takes, gives, put_back, rest, Me, Allows}
use Rattle.atomic_table.proofs.Lists.{at_set, set_here, set_else}
use Rattle.kfifo_words.specs.Words.{value_of}
use Rattle.kfifo_words.specs.Ring.{clock_at}
use Rattle.kfifo_live.proofs.Types.{Event, Hand, Opening, Part, Running, View}
use Rattle.kfifo_machine.specs.Machine.{World, word_at, place_of}
use Rattle.kfifo_live.specs.Schedule.{part, view_of, world_after, thread_of, seen_of, gifts_of, hand_of, with_seen}
use Rattle.kfifo_live.specs.Schedule.{more_in, AllHands, IsResting, OneSchedule}
use Rattle.kfifo_live.specs.Hands.{Gifts, Homes, Where, Home, Out, In, AllHome, CallFits, HandFits, SlotsFit}
use Rattle.kfifo_live.specs.Step.{IsAt, DrawsToken, LaysBack}
use Rattle.kfifo_live.proofs.Hands.{within_list}
use Rattle.kfifo_live.proofs.Keeps.{Tokens, all_hands_on, held_on, fits_set}
use Rattle.kfifo_live.proofs.Passes.{idle_on, threads_are}

-- the first thread of a seat has another hand, and nothing else is new
rehands : {T : Type 0} (o : Opening) (words : List ℕ) (homes homes_now : Homes T) (views : List (View T))
    (id thread : ℕ) (seen : List Event) (gifts : Gifts T) (hand hand_now : Hand T) (more : List (Part T))
    → (kept : OneSchedule o words homes views)
    → get_elem? views id ≡ some (view_of o (part thread seen gifts hand ∷ more))
    → Tokens o homes homes_now views words kept kept.world kept.gifts thread hand_now
    → IsResting o.threads thread hand_now
    → OneSchedule o words homes_now (set views id (view_of o (part thread seen gifts hand_now ∷ more)))
rehands {T} o words homes homes_now views id thread seen gifts hand hand_now more kept at tokens rests =
    let mine = kept.fit id (view_of o (part thread seen gifts hand ∷ more)) at in
    let owned : kept.owner thread ≡ (id, 0) = mine.owns.0 in
    record {
      all = kept.all;
      gifts = kept.gifts;
      world = kept.world;
      owner = kept.owner;
      runs = kept.runs;
      words_are = kept.words_are;
      in_turn = kept.in_turn;
      few_ticks = kept.few_ticks;
      fit = fits_set o kept.all kept.gifts kept.owner views id (view_of o (part thread seen gifts hand_now ∷ more))
          (λ j u apart e. kept.fit j u e)
          record {
            opened = refl;
            begin = mine.begin;
            given = mine.given;
            owns = mine.owns;
            resting = (rests, mine.resting.1);
          };
      at = tokens.at_now;
      slots = tokens.slots;
      hands = λ some_tokens j u e.
          let on = λ (seat first : ℕ) (parts : List (Part T)).
          all_hands_on o.bare (word_at kept.world) (word_at kept.world) (place_of kept.world) (place_of kept.world)
          kept.at tokens.at_now
          kept.gifts kept.gifts homes homes_now thread (tokens.others some_tokens) kept.owner seat first parts in
          let all_mine = kept.hands some_tokens id (view_of o (part thread seen gifts hand ∷ more)) at in
          ⊎_elim
          (λ (x : (j ≡ id) × (view_of o (part thread seen gifts hand_now ∷ more) ≡ u)).
          subst (λ (y : View T). AllHands o.bare (word_at kept.world) (place_of kept.world) tokens.at_now kept.gifts
          homes_now y.parts) x.1 (
            tokens.own some_tokens,
            on id 1 more (λ k le same. let e : k
                ≡ 0 = ap (λ (x : ℕ × ℕ). x.1) (sym same ∙ owned) in absurd (omega arith)) mine.owns.1 all_mine.1,
          ))
          (λ (x : (j ≢ id) × (get_elem? views j ≡ some u)).
          on j 0 u.parts (λ k le same. x.0 (ap (λ (z : ℕ × ℕ). z.0) (sym same ∙ owned))) (kept.fit j u x.1).owns
          (kept.hands some_tokens j u x.1))
          (at_set views id j (view_of o (part thread seen gifts hand_now ∷ more)) u e);
      holders = λ some_tokens. held_on o.bare (word_at kept.world) (word_at kept.world) (place_of kept.world)
          (place_of kept.world) kept.at
          tokens.at_now kept.gifts kept.gifts homes homes_now thread (tokens.others some_tokens)
          hand_now (tokens.own some_tokens) (kept.holders some_tokens);
    }

pub Home-injective : (t u i j : ℕ) → Home t i ≡ Home u j → (t ≡ u) × (i ≡ j)
Home-injective t u i j e = (cc, cc)

pub Home-not-In : (t j i : ℕ) → Home t j ≡ In i → ⊥
Home-not-In t j i e = cc

pub Home-not-Out : (t j u : ℕ) → Home t j ≡ Out u → ⊥
Home-not-Out t j u e = cc

Out-not-In : (u i : ℕ) → Out u ≡ In i → ⊥
Out-not-In u i e = cc

Out-injective : (t u : ℕ) → Out t ≡ Out u → t ≡ u
Out-injective t u e = cc

-- one token x goes elsewhere, and what its home has is this
module _ {T : Type 0} (at : ℕ → Where) (homes : Homes T) (x : ℕ) (positive : 0 < x) (to : Where)
    (value : Maybe (Option T)) where
  abbrev pub elsewhere : ℕ → Where
  elsewhere y = cond (y == x) to (at y)

  abbrev pub homes_there : Homes T
  homes_there = slice_set homes (x - 1) value

  pub at_other : (y : ℕ) → y ≢ x → elsewhere y ≡ at y
  at_other y ne = ap (λ b. cond b to (at y)) (ne_eqb y x ne)

  pub at_this : elsewhere x ≡ to
  at_this = ap (λ b. cond b to (at x)) (eq-eqb x x refl)

  home_other : (y : ℕ) → 0 < y → y ≢ x → get_elem? homes_there (y - 1) ≡ get_elem? homes (y - 1)
  home_other y p ne = set_else homes (x - 1) (y - 1) value (λ e. ne (omega arith))

  pub home_keeps : (t : ℕ) (ys : List ℕ) → ((j : ℕ) → j < length ys → at x ≢ Home t j) → AllHome at homes t ys
      → AllHome elsewhere homes_there t ys
  home_keeps t [] apart a = tt
  home_keeps t (y ∷ ys) apart a =
      let ne : y ≢ x = λ e. apart (length ys) (omega arith) (ap at (sym e) ∙ a.0.1) in (
        (a.0.0, at_other y ne ∙ a.0.1, home_other y a.0.0 ne ∙ a.0.2),
        home_keeps t ys
            (λ j less. apart j (omega arith)) a.1,
      )

  pub slots_keep : (bare : Bool) (clock : ℕ) (words : ℕ → ℕ) (gifts : Gifts T) → ((i : ℕ) → at x ≢ In i)
      → SlotsFit bare clock words at gifts homes
      → SlotsFit bare clock words elsewhere gifts homes_there
  slots_keep bare clock words gifts apart fits i above below filled =
      let s = fits i above below filled in
      let ne : value_of (words i) ≢ x = λ e. apart i (ap at (sym e) ∙ s.0) in
      (at_other _ ne ∙ s.0, s.1, home_other _ (above_zero _ filled) ne ∙ s.2)
    where
      above_zero : (n : ℕ) → n ≢ 0 → 0 < n
      above_zero zero ne = absurd (ne refl)
      above_zero (suc n) ne = omega arith

  pub other_keeps : (bare : Bool) (words : ℕ → ℕ) (place : Option Running) (gifts : Gifts T) (u : ℕ) (hand : Hand T)
      → ((j : ℕ) → at x ≢ Home u j)
      → at x ≢ Out u → HandFits bare words place at gifts homes u hand
      → HandFits bare words place elsewhere gifts homes_there u hand
  other_keeps bare words place gifts u hand apart not_out fits = record {
    home = home_keeps u hand.at_home (λ j less. apart j) fits.home;
    out = λ some_out.
        let o = fits.out some_out in
        let size = length-set homes (x - 1) value in
        let ne : hand.out ≢ x = λ e. not_out (ap at (sym e) ∙ o.0) in
        (at_other hand.out ne ∙ o.0, (let le = o.1 in omega (arith, le, size)));
    stands = fits.stands;
  }

-- tokens at home are no more than the slots
found_home : {T : Type 0} (at : ℕ → Where) (homes : Homes T) (t : ℕ) (ys : List ℕ) → AllHome at homes t ys → (q : ℕ)
    → list_any (λ y. q == y) ys ≡ true
    → (0 < q) × (q ≤ length homes) × ((j : ℕ) × (j < length ys) × (at q ≡ Home t j))
found_home at homes t [] a q there = absurd (cc)
found_home at homes t (y ∷ ys) a q there =
    elim (cases_eq q y) [
      | inl same ↦
          let inside = within_list homes (y - 1) _ a.0.2 in
          let positive = a.0.0 in
          subst (λ (n : ℕ). (0 < n) × (n ≤ length homes) × ((j : ℕ) × (j < length (y ∷ ys)) × (at n ≡ Home t j)))
          (sym same)
          (positive, (omega (arith, inside, positive)), (length ys, (omega arith), a.0.1))
      | inr other ↦
          let later : list_any (λ y. q == y) ys ≡ true =
          later_of (q == y) (list_any (λ y. q == y) ys) (ne_eqb q y other) there in
          let f = found_home at homes t ys a.1 q later in
          (f.0, f.1, (f.2.0, (let less = f.2.1 in omega arith), f.2.2))
    ]
  where
    later_of : (b c : Bool) → b ≡ false → (b || c) ≡ true → c ≡ true
    later_of true c lost e = absurd (cc)
    later_of false c lost e = e

home_distinct : {T : Type 0} (at : ℕ → Where) (homes : Homes T) (t : ℕ) (ys : List ℕ) → AllHome at homes t ys
    → IsDistinct (λ x y. x == y) ys
unfolding IsDistinct
home_distinct at homes t [] a = tt
home_distinct at homes t (y ∷ ys) a = (apart_all ys a.1 (λ j less. not_there j less), home_distinct at homes t ys a.1)
  where
    not_there : (j : ℕ) → j < length ys → at y ≢ Home t j
    not_there j less e = let same = (Home-injective t t (length ys) j (sym a.0.1 ∙ e)).1 in absurd (omega arith)

    apart_all : (zs : List ℕ) → AllHome at homes t zs → ((j : ℕ) → j < length zs → at y ≢ Home t j)
        → AllByRecursion (λ z. (y == z) ≡ false) zs
    apart_all [] b free = tt
    apart_all (z ∷ zs) b free = (
      ne_eqb y z (λ e. free (length zs) (omega arith) (ap at e ∙ b.0.1)),
      apart_all zs b.1 (λ j less. free j (omega arith)),
    )

pub home_room : {T : Type 0} (at : ℕ → Where) (homes : Homes T) (t : ℕ) (ys : List ℕ) → AllHome at homes t ys
    → length ys ≤ length homes
unfolding IsDistinct
home_room at homes t ys a =
    let zero_apart : IsDistinct (λ x y. x == y) (0 ∷ ys) = (no_zero ys a, home_distinct at homes t ys a) in
    let all = length-le_from_distinct_below (0 ∷ ys) (suc (length homes)) zero_apart (λ q there. below q there) in
    omega (arith, all)
  where
    no_zero : (zs : List ℕ) → AllHome at homes t zs → AllByRecursion (λ z. (0 == z) ≡ false) zs
    no_zero [] b = tt
    no_zero (z ∷ zs) b = (ne_eqb 0 z (λ e. let p = b.0.0 in absurd (omega arith)), no_zero zs b.1)

    below : (q : ℕ) → list_any (λ y. q == y) (0 ∷ ys) ≡ true → q < suc (length homes)
    below q there =
        elim (cases_eq q 0) [
          | inl same ↦ omega arith
          | inr other ↦
              let later : list_any (λ y. q == y) ys ≡ true =
              later_of (q == 0) (list_any (λ y. q == y) ys) (ne_eqb q 0 other) there in
              let f = found_home at homes t ys a q later in
              let le = f.1 in
              omega arith
        ]
      where
        later_of : (b c : Bool) → b ≡ false → (b || c) ≡ true → c ≡ true
        later_of true c lost e = absurd (cc)
        later_of false c lost e = e

module _ {T : Type 0} (o : Opening) (s : State (Option T) (View T)) (id thread : ℕ) (seen : List Event)
    (gifts : Gifts T) (hand : Hand T) (more : List (Part T)) (here : World)
    (reached : world_after o seen ≡ Some here) (within : thread < length here.places)
    (idle : place_of here thread ≡ None)
    (some_tokens : 0 < o.tokens)
    (kept : OneSchedule o s.words s.homes s.views)
    (at : get_elem? s.views id ≡ some (view_of o (part thread seen gifts hand ∷ more))) where
  pub own_hand : HandFits o.bare (word_at kept.world) (place_of kept.world thread) kept.at kept.gifts s.homes
      thread hand
  own_hand = (kept.hands some_tokens id (view_of o (part thread seen gifts hand ∷ more)) at).0

  pub still_idle : place_of kept.world thread ≡ None
  still_idle = (idle_on o thread seen kept.all here kept.world reached within idle
      (kept.fit id (view_of o (part thread seen gifts hand ∷ more)) at).begin.0 kept.runs).1

  pub not_beyond : o.threads ≤ thread → ⊥
  not_beyond le = let n = threads_are o seen here reached in let less = within in omega (arith, n, less, le)

  draws_at : (x : ℕ) (xs : List ℕ) → hand.at_home ≡ x ∷ xs
      → (0 < x) × (x - 1 < length s.homes) × (get_elem? s.homes (x - 1) ≡ some (some None))
      × OneSchedule o s.words (slice_set s.homes (x - 1) none)
      (set s.views id (view_of o (part thread seen gifts (record { at_home = xs; out = x; payload = None }) ∷ more)))
  draws_at x xs was =
      let home = subst (AllHome kept.at s.homes thread) was own_hand.home in
      let positive = home.0.0 in
      let inside = within_list s.homes (x - 1) _ home.0.2 in
      let size = length-set s.homes (x - 1) none in
      let hand_now : Hand T = record { at_home = xs; out = x; payload = None } in
      let at_now = elsewhere {T = T} kept.at s.homes x positive (Out thread) none in
      let tokens : Tokens o s.homes (slice_set s.homes (x - 1) none) s.views s.words kept kept.world kept.gifts thread
      hand_now = record {
        at_now = at_now;
        slots = λ p. slots_keep kept.at s.homes x positive (Out thread) none o.bare (clock_at o.shape.k o.shape.n)
            (word_at kept.world) kept.gifts (λ i e. Home-not-In thread (length xs) i (sym home.0.1 ∙ e)) (kept.slots p);
        own = λ p. record {
          home = home_keeps kept.at s.homes x positive (Out thread) none thread xs
              (λ j less e. let same = (Home-injective thread thread (length xs) j (sym home.0.1 ∙ e)).1 in
              absurd (omega arith)) home.1;
          out = λ some_out. (
            at_this kept.at s.homes x positive (Out thread) none,
            (omega (arith, inside, size, positive)),
          );
          stands = subst (CallFits o.bare (word_at kept.world) kept.gifts hand_now) (sym still_idle) tt;
        };
        others = λ p u other ne fits.
            other_keeps kept.at s.homes x positive (Out thread) none o.bare (word_at kept.world) (place_of kept.world u)
            kept.gifts u other
            (λ j e. ne (sym (Home-injective thread u (length xs) j (sym home.0.1 ∙ e)).0))
            (λ e. Home-not-Out thread (length xs) u (sym home.0.1 ∙ e)) fits;
      } in (
        positive,
        inside,
        home.0.2,
        rehands o s.words s.homes (slice_set s.homes (x - 1) none) s.views id thread seen gifts hand hand_now
            more kept at tokens (λ beyond. absurd (not_beyond beyond)),
      )

  lays_at : hand.out ≢ 0
      → (length (hand.out ∷ hand.at_home) ≤ length s.homes)
      × OneSchedule o s.words (slice_set s.homes (hand.out - 1) (some None))
      (set s.views id (view_of o (part thread seen gifts (record {
        at_home = hand.out ∷ hand.at_home;
        out = 0;
        payload = None;
      })
      ∷ more)))
  lays_at some_out =
      let x = hand.out in
      let positive : 0 < x = above_zero x some_out in
      let there = own_hand.out some_out in
      let le = there.1 in
      let homes_now : Homes T = slice_set s.homes (x - 1) (some None) in
      let size : length homes_now ≡ length s.homes = length-set s.homes (x - 1) (some None) in
      let hand_now : Hand T = record { at_home = x ∷ hand.at_home; out = 0; payload = None } in
      let to = Home thread (length hand.at_home) in
      let at_now = elsewhere {T = T} kept.at s.homes x positive to (some None) in
      let all_home : AllHome at_now homes_now thread (x ∷ hand.at_home) = (
        (
          positive,
          at_this kept.at s.homes x positive to (some None),
          set_here s.homes (x - 1) (some None)
              (omega arith),
        ),
        home_keeps kept.at s.homes x positive to (some None) thread hand.at_home
            (λ j less e. Home-not-Out thread j thread (sym e ∙ there.0)) own_hand.home,
      ) in
      let tokens : Tokens o s.homes homes_now s.views s.words kept kept.world kept.gifts thread hand_now = record {
        at_now = at_now;
        slots = λ p. slots_keep kept.at s.homes x positive to (some None) o.bare (clock_at o.shape.k o.shape.n)
            (word_at kept.world) kept.gifts (λ i e. Out-not-In thread i (sym there.0 ∙ e)) (kept.slots p);
        own = λ p. record {
          home = all_home;
          out = λ none_out. absurd (none_out refl);
          stands = subst (CallFits o.bare (word_at kept.world) kept.gifts hand_now) (sym still_idle) tt;
        };
        others = λ p u other ne fits.
            other_keeps kept.at s.homes x positive to (some None) o.bare (word_at kept.world) (place_of kept.world u)
            kept.gifts u other
            (λ j e. Home-not-Out u j thread (sym e ∙ there.0))
            (λ e. ne (sym (Out-injective thread u (sym there.0 ∙ e)))) fits;
      } in
      let room = home_room at_now homes_now thread (x ∷ hand.at_home) all_home in (
        omega (arith, room, size),
        rehands o s.words s.homes homes_now s.views id thread seen gifts hand hand_now more kept at tokens
            (λ beyond. absurd (not_beyond beyond)),
      )
    where
      above_zero : (n : ℕ) → n ≢ 0 → 0 < n
      above_zero zero ne = absurd (ne refl)
      above_zero (suc n) ne = omega arith

-- Drawing keeps the rule
pub draws_token : {T : Type 0} (o : Opening) (slots id : ℕ) (me : Me (Option T) (View T)) (i : ℕ) → IsAt None me
    → 0 < me.0.opened.tokens
    → me.1 ≡ [] → (x : ℕ) (xs : List ℕ) → (hand_of me.0).at_home ≡ x ∷ xs
    → Allows (λ (s : State (Option T) (View T)). OneSchedule o s.words s.homes s.views) slots id me i (λ n. n)
    (λ found w. DrawsToken slots None me w)
draws_token {T} o slots id me i stood some_tokens none_held x xs was s kept homes at fits =
    let v = me.0 in
    let opened = (kept.fit id v at).opened in
    let words : slice_set s.words i (slice_index s.words i) ≡ s.words = set-get_or s.words i 0 in
    let hand_now : Hand T = record { at_home = xs; out = x; payload = None } in
    let w = with_seen v (seen_of v) (gifts_of v) hand_now in
    let Q : Opening → Type 0 = λ y. OneSchedule y s.words s.homes s.views → (0 < x) × (x - 1 < length s.homes)
    × (get_elem? s.homes (x - 1) ≡ some (some None))
    × OneSchedule y s.words (slice_set s.homes (x - 1) none) (set s.views id w) in
    let got = subst Q opened (λ k. draws_at v.opened s id (thread_of v) (seen_of v) (gifts_of v) (hand_of v)
    (more_in v.parts) stood.here
    stood.reached stood.within stood.place_is some_tokens k (at ∙ ap some stood.seated) x xs was) kept in
    let inside = got.1 in
    let positive = got.0 in (
      w,
      takes (x - 1) None,
      got.2,
      subst (λ (ws : List ℕ). OneSchedule o ws (slice_set s.homes (x - 1) none) (set s.views id w)) (sym words) got.3,
      record {
        token = x;
        others = xs;
        was = was;
        some = positive;
        within = omega (arith, inside, positive, homes);
        afterwards = refl;
        holds = ap (λ c. (x - 1, None) ∷ c) none_held;
      },
    )

-- Laying back keeps the rule
pub lays_back : {T : Type 0} (o : Opening) (slots id : ℕ) (me : Me (Option T) (View T)) (i : ℕ) → IsAt None me
    → 0 < me.0.opened.tokens
    → (hand_of me.0).out ≢ 0 → me.1 ≡ ((hand_of me.0).out - 1, None) ∷ []
    → Allows (λ (s : State (Option T) (View T)). OneSchedule o s.words s.homes s.views) slots id me i (λ n. n)
    (λ found w. LaysBack slots me w)
lays_back {T} o slots id me i stood some_tokens some_out held s kept homes at fits =
    let v = me.0 in
    let x = (hand_of v).out in
    let opened = (kept.fit id v at).opened in
    let words : slice_set s.words i (slice_index s.words i) ≡ s.words = set-get_or s.words i 0 in
    let hand_now : Hand T = record { at_home = x ∷ (hand_of v).at_home; out = 0; payload = None } in
    let w = with_seen v (seen_of v) (gifts_of v) hand_now in
    let Q : Opening → Type 0 = λ y. OneSchedule y s.words s.homes s.views
    → (length (x ∷ (hand_of v).at_home) ≤ length s.homes)
    × OneSchedule y s.words (slice_set s.homes (x - 1) (some None)) (set s.views id w) in
    let got = subst Q opened (λ k. lays_at v.opened s id (thread_of v) (seen_of v) (gifts_of v) (hand_of v)
    (more_in v.parts) stood.here
    stood.reached stood.within stood.place_is some_tokens k (at ∙ ap some stood.seated) some_out) kept in
    let room = got.0 in (
      w,
      gives,
      tt,
      subst (λ (x : List ℕ × Homes T). OneSchedule o x.0 x.1 (set s.views id w))
          (λ k. (sym words k, ap (put_back s.homes) (sym held) k)) got.1,
      record { room = omega (arith, room, homes); afterwards = refl; holds = ap rest held },
    )
