-- A token goes from a thread into the pool and back, and the rule is kept.
use Rattle.std.proofs.Common.{◌≡◌, ◌≢◌, ℕ, zero, suc, ◌+◌, ◌-◌, ◌<◌, ◌≤◌, List, [], ◌∷◌, ◌++◌, length, set, get_or}
use Rattle.std.proofs.Common.{drop, Option, Some, None, Bool, refl, sym, ap, ◌∙◌, subst, inl, inr, ⊎_elim, arith, cond}
use Rattle.std.proofs.Common.{eq-eqb, ne_eqb}
use Rattle.std.specs.Prelude.{◌==◌, slice_set}
use Rattle.std.specs.List.{AllByRecursion}
use Rattle.std.proofs.lemmas.Bool.{cases_eq}
use Rattle.std.proofs.lemmas.List.{set-get_or, length-set}
use mathlib.Core.Option.{some}
use lib.ListN.{get_elem?}
use Rattle.atomic_table.specs.Table.{State, keeps, Me, Allows, Splits, Joins}
use Rattle.atomic_table.proofs.Lists.{at_set, set_again, set_here}
use Rattle.kfifo_live.proofs.Types.{Event, Hand, Opening, Part, Running, Shape, View}
use Rattle.kfifo_words.specs.Ring.{clock_at}
use Rattle.kfifo_machine.specs.Machine.{World, opening, word_at, place_of, run}
use Rattle.kfifo_machine.specs.Runs.{own}
use Rattle.kfifo_machine.proofs.Schedules.{first_made, made_within, same_threads}
use Rattle.kfifo_live.specs.Schedule.{part, view_of, world_after, thread_of, seen_of, gifts_of, hand_of, with_seen}
use Rattle.kfifo_live.specs.Schedule.{more_in, IsSeated, AllHands, Owns, AreResting, Fits, OneSchedule, no_hand}
use Rattle.kfifo_live.specs.Schedule.{resting_hand, resting_view, next_of, less_next, resting_of, with_resting}
use Rattle.kfifo_live.specs.Schedule.{with_home}
use Rattle.kfifo_live.specs.Hands.{Gifts, Homes, Where, Home, Out, AllHome, CallFits, HandFits}
use Rattle.kfifo_live.specs.Step.{IsAt, CountsTokens}
use Rattle.kfifo_live.proofs.Hands.{within_list}
use Rattle.kfifo_live.proofs.Keeps.{all_hands_on, held_on, fits_set}
use Rattle.kfifo_live.proofs.Cuts.{at_end, length_set}
use Rattle.kfifo_live.proofs.Draws.{Home-injective, Home-not-In, Home-not-Out, elsewhere, at_other, at_this, home_keeps}
use Rattle.kfifo_live.proofs.Draws.{slots_keep, other_keeps, own_hand, still_idle, home_room}
use Rattle.kfifo_live.proofs.Passes.{threads_are}

-- a schedule has no event of a thread that is not there
none_beyond : (shape : Shape) (here there : World) (events : List Event) (u : ℕ) → length here.places ≤ u
    → run shape (Some here) events ≡ Some there → own u events ≡ []
none_beyond shape here there [] u le is = refl
none_beyond shape here there (e ∷ es) u le is =
    let m = first_made shape here e there es is in
    let within = made_within shape here e m.0 m.1.0 m.1.1.0 in
    let same = same_threads shape here e m.0 m.1.0 m.1.1.0 in
    ap (λ b. cond b (e ∷ own u es) (own u es))
    (ne_eqb e.thread u (λ here_too. absurd (omega (arith, within, le, here_too))))
    ∙ none_beyond shape m.0 there es u (omega (arith, le, same)) m.1.1.1

none_past : (places : List (Option Running)) (u : ℕ) → length places ≤ u → get_or places u None ≡ None
none_past [] u le = refl
none_past (x ∷ xs) zero le = absurd (omega arith)
none_past (x ∷ xs) (suc u) le = none_past xs u (omega arith)

-- and that thread is in no call
idle_beyond : (world : World) (u : ℕ) → length world.places ≤ u → place_of world u ≡ None
unfolding place_of
idle_beyond world u le = none_past world.places u le

-- no part has this number
abbrev NoPart : {T : Type 0} → ℕ → List (Part T) → Type 0
NoPart n [] = Unit {0}
NoPart n (p ∷ ps) = (p.thread ≢ n) × NoPart n ps

not_owned : {T : Type 0} (owner : ℕ → ℕ × ℕ) (seat first n : ℕ) (parts : List (Part T))
    → ((k : ℕ) → owner n ≢ (seat, k))
    → Owns owner seat first parts → NoPart n parts
not_owned owner seat first n [] apart owns = tt
not_owned owner seat first n (p ∷ ps) apart owns =
    (λ same. apart first (ap owner (sym same) ∙ owns.0), not_owned owner seat (suc first) n ps apart owns.1)

-- no part is the resting token of a token that is elsewhere
no_resting : {T : Type 0} (bare : Bool) (words : ℕ → ℕ) (place : ℕ → Option Running) (at : ℕ → Where) (gifts : Gifts T)
    (homes : Homes T) (threads x : ℕ) (parts : List (Part T)) → ((j : ℕ) → at x ≢ Home (threads + x) j)
    → AreResting threads parts → AllHands bare words place at gifts homes parts → NoPart (threads + x) parts
no_resting bare words place at gifts homes threads x [] apart resting hands = tt
no_resting bare words place at gifts homes threads x (p ∷ ps) apart resting hands = (
  λ same.
      let b = resting.0 (let le : threads ≤ p.thread = omega (arith, same) in le) in
      let first : p.hand.at_home ≡ x ∷ b.0 = b.1 ∙ ap (λ n. n ∷ b.0) (let e : p.thread - threads ≡ x =
      omega (arith, same) in e) in
      let home = subst (AllHome at homes p.thread) first hands.0.home in
      apart (length b.0) (home.0.1 ∙ ap (λ n. Home n (length b.0)) same),
  no_resting bare words place at gifts homes threads x ps apart resting.1 hands.1,
)

-- a new number is owned
owns_too : {T : Type 0} (owner : ℕ → ℕ × ℕ) (to : ℕ × ℕ) (n seat first : ℕ) (parts : List (Part T)) → NoPart n parts
    → Owns owner seat first parts → Owns (λ t. cond (t == n) to (owner t)) seat first parts
owns_too owner to n seat first [] free owns = tt
owns_too owner to n seat first (p ∷ ps) free owns = (
  ap (λ b. cond b to (owner p.thread)) (ne_eqb p.thread n free.0) ∙ owns.0,
  owns_too owner to n seat (suc first) ps
      free.1 owns.1,
)

-- the hands of parts that are neither of two
hands_to : {T : Type 0} (bare : Bool) (words : ℕ → ℕ) (place : ℕ → Option Running) (at at_now : ℕ → Where)
    (gifts : Gifts T) (homes homes_now : Homes T) (a b : ℕ)
    → ((u : ℕ) (hand : Hand T) → u ≢ a → u ≢ b → HandFits bare words (place u) at gifts homes u hand
    → HandFits bare words (place u) at_now gifts homes_now u hand)
    → (parts : List (Part T)) → NoPart a parts → NoPart b parts → AllHands bare words place at gifts homes parts
    → AllHands bare words place at_now gifts homes_now parts
hands_to bare words place at at_now gifts homes homes_now a b on [] not_a not_b hands = tt
hands_to bare words place at at_now gifts homes homes_now a b on (p ∷ ps) not_a not_b hands = (
  on p.thread p.hand not_a.0 not_b.0 hands.0,
  hands_to bare words place at at_now gifts homes homes_now a b on ps
      not_a.1 not_b.1 hands.1,
)

module _ {T : Type 0} (o : Opening) (s : State (Option T) (View T)) (id thread : ℕ) (seen : List Event)
    (gifts : Gifts T) (hand : Hand T) (more : List (Part T)) (here : World)
    (reached : world_after o seen ≡ Some here) (within : thread < length here.places)
    (idle : place_of here thread ≡ None)
    (some_tokens : 0 < o.tokens)
    (kept : OneSchedule o s.words s.homes s.views)
    (at : get_elem? s.views id ≡ some (view_of o (part thread seen gifts hand ∷ more))) where
  abbrev with_tokens : List ℕ → Hand T
  with_tokens xs = record { at_home = xs; out = hand.out; payload = hand.payload }

  below : thread < o.threads
  below = let n = threads_are o seen here reached in omega (arith, within, n)

  mine : HandFits o.bare (word_at kept.world) (place_of kept.world thread) kept.at kept.gifts s.homes thread hand
  mine = own_hand o s id thread seen gifts hand more here reached within idle some_tokens kept at

  now_idle : place_of kept.world thread ≡ None
  now_idle = still_idle o s id thread seen gifts hand more here reached within idle some_tokens kept at

  -- the thread's own hand, but for its tokens at home
  own_with : (x : ℕ) (positive : 0 < x) (to : Where) (xs : List ℕ) → kept.at x ≢ Out thread
      → AllHome (elsewhere {T = T} kept.at s.homes x positive to (some None)) (slice_set s.homes (x - 1) (some None))
      thread xs
      → HandFits o.bare (word_at kept.world) (place_of kept.world thread)
      (elsewhere {T = T} kept.at s.homes x positive to (some None)) kept.gifts
      (slice_set s.homes (x - 1) (some None)) thread (with_tokens xs)
  own_with x positive to xs apart home = record {
    home = home;
    out = λ some_out.
        let f = mine.out some_out in
        let size = length-set s.homes (x - 1) (some None) in
        let le = f.1 in (
          at_other {T = T} kept.at s.homes x positive to (some None) hand.out (λ e. apart (ap kept.at (sym e) ∙ f.0))
              ∙ f.0,
          (omega (arith, le, size)),
        );
    stands = subst (CallFits o.bare (word_at kept.world) kept.gifts (with_tokens xs)) (sym now_idle) tt;
  }

  -- the first token is cut off
  splits_at : (x : ℕ) (xs : List ℕ) → hand.at_home ≡ x ∷ xs
      → OneSchedule o s.words s.homes (set s.views id (view_of o (part thread seen gifts (with_tokens xs) ∷ more))
      ++ resting_view o x ∷ [])
  splits_at x xs was =
      let home = subst (AllHome kept.at s.homes thread) was mine.home in
      let positive = home.0.0 in
      let inside = within_list s.homes (x - 1) _ home.0.2 in
      let n = o.threads + x in
      let new = length s.views in
      let left = view_of o (part thread seen gifts (with_tokens xs) ∷ more) in
      let right : View T = resting_view o x in
      let homes_now : Homes T = slice_set s.homes (x - 1) (some None) in
      let at_now = elsewhere {T = T} kept.at s.homes x positive (Home n 0) (some None) in
      let owner = λ (t : ℕ). cond (t == n) (new, 0) (kept.owner t) in
      let fits_mine = kept.fit id (view_of o (part thread seen gifts hand ∷ more)) at in
      let owned : kept.owner thread ≡ (id, 0) = fits_mine.owns.0 in
      let free = λ (j : ℕ) (u : View T) (e : get_elem? s.views j ≡ some u).
      no_resting o.bare (word_at kept.world) (place_of kept.world) kept.at kept.gifts s.homes o.threads x u.parts
      (λ j e. let same = (Home-injective thread n (length xs) j (sym home.0.1 ∙ e)).0 in let less = below in
      absurd (omega (arith, same, less)))
      (kept.fit j u e).resting (kept.hands some_tokens j u e) in
      let others = λ (u : ℕ) (other : Hand T) (ne : u ≢ thread)
      (fits : HandFits o.bare (word_at kept.world) (place_of kept.world u) kept.at kept.gifts s.homes u other).
      other_keeps kept.at s.homes x positive (Home n 0) (some None) o.bare (word_at kept.world) (place_of kept.world u)
      kept.gifts u other
      (λ j e. ne (sym (Home-injective thread u (length xs) j (sym home.0.1 ∙ e)).0))
      (λ e. Home-not-Out thread (length xs) u (sym home.0.1 ∙ e)) fits in
      let on = λ (seat first : ℕ) (parts : List (Part T)).
      all_hands_on o.bare (word_at kept.world) (word_at kept.world) (place_of kept.world) (place_of kept.world) kept.at
      at_now kept.gifts
      kept.gifts s.homes homes_now thread others kept.owner seat first parts in
      let own_now = own_with x positive (Home n 0) xs (λ e. Home-not-Out thread (length xs) thread (sym home.0.1 ∙ e))
      (home_keeps kept.at s.homes x positive (Home n 0) (some None) thread xs
      (λ j less e. let same = (Home-injective thread thread (length xs) j (sym home.0.1 ∙ e)).1 in absurd (omega arith))
      home.1) in
      let resting_fits : HandFits o.bare (word_at kept.world) (place_of kept.world n) at_now kept.gifts homes_now n
      (resting_hand x) = record {
        home = (
          (
            positive,
            at_this {T = T} kept.at s.homes x positive (Home n 0) (some None),
            set_here s.homes (x - 1)
                (some None) inside,
          ),
          tt,
        );
        out = λ some_out. absurd (some_out refl);
        stands = subst (CallFits o.bare (word_at kept.world) kept.gifts (resting_hand x))
            (sym (idle_beyond kept.world n (let t = threads_are o kept.all kept.world kept.runs in omega (arith, t))))
            tt;
      } in
      let at_left : Fits o kept.all kept.gifts owner id left = record {
        opened = refl;
        begin = fits_mine.begin;
        given = fits_mine.given;
        owns = owns_too kept.owner (new, 0) n id 0 (part thread seen gifts (with_tokens xs) ∷ more)
            (free id (view_of o (part thread seen gifts hand ∷ more)) at) fits_mine.owns;
        resting = (λ beyond. absurd (let less = below in omega (arith, beyond, less)), fits_mine.resting.1);
      } in
      let at_right : Fits o kept.all kept.gifts owner new right = record {
        opened = refl;
        begin = (
          record {
            rest = kept.all;
            goes_on = refl;
            no_own = none_beyond o.shape (opening o.shape o.threads) kept.world kept.all n
                (let t = threads_are o [] (opening o.shape o.threads) refl in omega (arith, t)) kept.runs;
          },
          tt,
        );
        given = ((kept.gifts, refl), tt);
        owns = (ap (λ b. cond b (new, 0) (kept.owner n)) (eq-eqb n n refl), tt);
        resting = (λ beyond. ([], ap (λ m. m ∷ []) (let e : x ≡ o.threads + x - o.threads = omega arith in e)), tt);
      } in
      let made : OneSchedule o s.words homes_now (set s.views id left ++ right ∷ []) = record {
        all = kept.all;
        gifts = kept.gifts;
        world = kept.world;
        owner = owner;
        runs = kept.runs;
        words_are = kept.words_are;
        in_turn = kept.in_turn;
        few_ticks = kept.few_ticks;
        fit = λ j u e.
            ⊎_elim
            (λ (x : get_elem? (set s.views id left) j ≡ some u).
            fits_set o kept.all kept.gifts owner s.views id left
            (λ i y apart f. let theirs = kept.fit i y f in
            record {
              opened = theirs.opened;
              begin = theirs.begin;
              given = theirs.given;
              owns = owns_too kept.owner (new, 0) n i 0 y.parts (free i y f) theirs.owns;
              resting = theirs.resting;
            })
            at_left j u x)
            (λ (x : (j ≡ length (set s.views id left)) × (right ≡ u)).
            subst (λ (y : ℕ × View T). Fits o kept.all kept.gifts owner y.0 y.1)
            (λ k. (sym (x.0 ∙ length_set s.views id left) k, x.1 k))
            at_right)
            (at_end (set s.views id left) right u j e);
        at = at_now;
        holders = λ p. held_on o.bare (word_at kept.world) (word_at kept.world) (place_of kept.world)
            (place_of kept.world) kept.at at_now
            kept.gifts kept.gifts s.homes homes_now thread others (with_tokens xs) own_now (kept.holders p);
        slots = λ p. slots_keep kept.at s.homes x positive (Home n 0) (some None) o.bare (clock_at o.shape.k o.shape.n)
            (word_at kept.world) kept.gifts (λ i e. Home-not-In thread (length xs) i (sym home.0.1 ∙ e)) (kept.slots p);
        hands = λ p j u e.
            let all = kept.hands p id (view_of o (part thread seen gifts hand ∷ more)) at in
            let P : View T → Type 0 = λ x. AllHands o.bare (word_at kept.world) (place_of kept.world) at_now kept.gifts
            homes_now x.parts in
            ⊎_elim
            (λ (x : get_elem? (set s.views id left) j ≡ some u).
            ⊎_elim
            (λ (y : (j ≡ id) × (left ≡ u)). subst P y.1 (
              own_now,
              on id 1 more (λ k le same. let e : k ≡ 0 =
                  ap (λ (x : ℕ × ℕ). x.1) (sym same ∙ owned) in absurd (omega arith)) fits_mine.owns.1 all.1,
            ))
            (λ (y : (j ≢ id) × (get_elem? s.views j ≡ some u)).
            on j 0 u.parts (λ k le same. y.0 (ap (λ (z : ℕ × ℕ). z.0) (sym same ∙ owned))) (kept.fit j u y.1).owns
            (kept.hands p j u y.1))
            (at_set s.views id j left u x))
            (λ (x : (j ≡ length (set s.views id left)) × (right ≡ u)). subst P x.1 (resting_fits, tt))
            (at_end (set s.views id left) right u j e);
      } in
      subst (λ (hs : Homes T). OneSchedule o s.words hs (set s.views id left ++ right ∷ []))
      (set_again s.homes (x - 1) (some None) home.0.2) made

  -- a resting token comes to a thread that has a seat alone
  takes_at : more ≡ [] → (x other : ℕ) → other ≢ id → get_elem? s.views other ≡ some (resting_view o x)
      → OneSchedule o s.words s.homes
      (set (set s.views id (view_of o (part thread seen gifts (with_tokens (x ∷ hand.at_home)) ∷ []))) other
      (view_of o []))
  takes_at none_more x other apart there =
      let theirs = kept.hands some_tokens other (resting_view o x) there in
      let lies = theirs.0.home.0 in
      let positive = lies.0 in
      let inside = within_list s.homes (x - 1) _ lies.2 in
      let n = o.threads + x in
      let to = Home thread (length hand.at_home) in
      let both = view_of o (part thread seen gifts (with_tokens (x ∷ hand.at_home)) ∷ []) in
      let homes_now : Homes T = slice_set s.homes (x - 1) (some None) in
      let at_now = elsewhere {T = T} kept.at s.homes x positive to (some None) in
      let fits_mine = kept.fit id (view_of o (part thread seen gifts hand ∷ more)) at in
      let owned : kept.owner thread ≡ (id, 0) = fits_mine.owns.0 in
      let owned_resting : kept.owner n ≡ (other, 0) = (kept.fit other (resting_view o x) there).owns.0 in
      let own_now = own_with x positive to (x ∷ hand.at_home) (λ e. Home-not-Out n 0 thread (sym lies.1 ∙ e)) (
        (
          positive,
          at_this {T = T} kept.at s.homes x positive to (some None),
          set_here s.homes (x - 1) (some None)
              inside,
        ),
        home_keeps kept.at s.homes x positive to (some None) thread hand.at_home
            (λ j less e. let same = (Home-injective n thread 0 j (sym lies.1 ∙ e)).0 in let less = below in
            absurd (omega (arith, same, less))) mine.home,
      ) in
      let on = λ (u : ℕ) (hand : Hand T) (not_own : u ≢ thread) (not_resting : u ≢ n)
      (fits : HandFits o.bare (word_at kept.world) (place_of kept.world u) kept.at kept.gifts s.homes u hand).
      other_keeps kept.at s.homes x positive to (some None) o.bare (word_at kept.world) (place_of kept.world u)
      kept.gifts u hand
      (λ j e. not_resting (sym (Home-injective n u 0 j (sym lies.1 ∙ e)).0)) (λ e. Home-not-Out n 0 u (sym lies.1 ∙ e))
      fits in
      let made : OneSchedule o s.words homes_now (set (set s.views id both) other (view_of o [])) = record {
        all = kept.all;
        gifts = kept.gifts;
        world = kept.world;
        owner = kept.owner;
        runs = kept.runs;
        words_are = kept.words_are;
        in_turn = kept.in_turn;
        few_ticks = kept.few_ticks;
        fit = λ j u e. fits_set o kept.all kept.gifts kept.owner (set s.views id both) other (view_of o [])
            (λ i y not_other f. fits_set o kept.all kept.gifts kept.owner s.views id both
            (λ i y not_id f. kept.fit i y f)
            record {
              opened = refl;
              begin = (fits_mine.begin.0, tt);
              given = (fits_mine.given.0, tt);
              owns = (owned, tt);
              resting = (λ beyond. absurd (let less = below in omega (arith, beyond, less)), tt);
            }
            i y f)
            record { opened = refl; begin = tt; given = tt; owns = tt; resting = tt } j u e;
        at = at_now;
        holders = λ p u. elim (cases_eq u thread) [
          | inl same ↦ (
            with_tokens (x ∷ hand.at_home),
            subst (λ (t : ℕ). HandFits o.bare (word_at kept.world) (place_of kept.world t) at_now kept.gifts homes_now t
                (with_tokens (x ∷ hand.at_home))) (sym same) own_now,
          )
          | inr not_own ↦ elim (cases_eq u n) [
            | inl rests ↦ (
              no_hand,
              record {
                home = tt;
                out = λ some_out. absurd (some_out refl);
                stands =
                    subst (CallFits o.bare (word_at kept.world) kept.gifts no_hand)
                    (sym (ap (place_of kept.world) rests
                    ∙ idle_beyond kept.world n (let t =
                    threads_are o kept.all kept.world kept.runs in omega (arith, t)))) tt;
              },
            )
            | inr not_resting ↦ let h = kept.holders p u in (h.0, on u h.0 not_own not_resting h.1)
          ]
        ];
        slots = λ p. slots_keep kept.at s.homes x positive to (some None) o.bare (clock_at o.shape.k o.shape.n)
            (word_at kept.world) kept.gifts (λ i e. Home-not-In n 0 i (sym lies.1 ∙ e)) (kept.slots p);
        hands = λ p j u e.
            let P : View T → Type 0 = λ x. AllHands o.bare (word_at kept.world) (place_of kept.world) at_now kept.gifts
            homes_now x.parts in
            ⊎_elim
            (λ (x : (j ≡ other) × (view_of o [] ≡ u)). subst P x.1 tt)
            (λ (x : (j ≢ other) × (get_elem? (set s.views id both) j ≡ some u)).
            ⊎_elim
            (λ (y : (j ≡ id) × (both ≡ u)). subst P y.1 (own_now, tt))
            (λ (y : (j ≢ id) × (get_elem? s.views j ≡ some u)).
            hands_to o.bare (word_at kept.world) (place_of kept.world) kept.at at_now kept.gifts s.homes homes_now
            thread n on u.parts
            (not_owned kept.owner j 0 thread u.parts (λ k same. y.0 (ap (λ (z : ℕ × ℕ). z.0) (sym same ∙ owned)))
            (kept.fit j u y.1).owns)
            (not_owned kept.owner j 0 n u.parts (λ k same. x.0 (ap (λ (z : ℕ × ℕ). z.0) (sym same ∙ owned_resting)))
            (kept.fit j u y.1).owns)
            (kept.hands p j u y.1))
            (at_set s.views id j both u x.1))
            (at_set (set s.views id both) other j (view_of o []) u e);
      } in
      subst (λ (hs : Homes T). OneSchedule o s.words hs (set (set s.views id both) other (view_of o [])))
      (set_again s.homes (x - 1) (some None) lies.2) made

-- Cutting a token off keeps the rule
pub cuts_token : {T : Type 0} (o : Opening) (id : ℕ) (me : Me (Option T) (View T)) → IsAt None me
    → 0 < me.0.opened.tokens
    → (x : ℕ) (xs : List ℕ) → (hand_of me.0).at_home ≡ x ∷ xs
    → Splits (λ (s : State (Option T) (View T)). OneSchedule o s.words s.homes s.views) id me.0 (less_next me.0)
    (resting_of me.0)
cuts_token {T} o id me stood some_tokens x xs was s kept at =
    let v = me.0 in
    let opened = (kept.fit id v at).opened in
    let Q : Opening → Type 0 = λ y. OneSchedule y s.words s.homes s.views
    → OneSchedule y s.words s.homes (set s.views id (with_home v xs) ++ resting_view v.opened x ∷ []) in
    let got = subst Q opened (λ k. splits_at v.opened s id (thread_of v) (seen_of v) (gifts_of v) (hand_of v)
    (more_in v.parts) stood.here
    stood.reached stood.within stood.place_is some_tokens k (at ∙ ap some stood.seated) x xs was) kept in
    subst (λ (y : List ℕ × ℕ). OneSchedule o s.words s.homes (set s.views id (with_home v y.0) ++ resting_view v.opened
    y.1 ∷ []))
    (λ i. (drop 1 (sym was i), next_of (sym was i))) got

-- Taking a token in keeps the rule
pub adds_token : {T : Type 0} (o : Opening) (id : ℕ) (me : Me (Option T) (View T)) (other : ℕ) (w : View T)
    (opened : Opening)
    → IsAt None me → 0 < me.0.opened.tokens → more_in me.0.parts ≡ [] → (x : ℕ) → w ≡ resting_view me.0.opened x
    → opened ≡ me.0.opened
    → Joins (λ (s : State (Option T) (View T)). OneSchedule o s.words s.homes s.views) id me.0 other w
    (with_resting me.0 w)
    (view_of opened [])
adds_token {T} o id me other w opened stood some_tokens alone x is same s kept at apart there =
    let v = me.0 in
    let mine = (kept.fit id v at).opened in
    let both = with_resting v w in
    let theirs_at : get_elem? s.views other ≡ some w =
    ⊎_elim (λ (t : (other ≡ id) × (both ≡ w)). absurd (apart t.0))
    (λ (t : (other ≢ id) × (get_elem? s.views other ≡ some w)). t.1)
    (at_set s.views id other both w there) in
    let Q : Opening → Type 0 = λ y. OneSchedule y s.words s.homes s.views
    → OneSchedule y s.words s.homes (set (set s.views id
    (view_of v.opened (part (thread_of v) (seen_of v) (gifts_of v)
    (record { at_home = x ∷ (hand_of v).at_home; out = (hand_of v).out; payload = (hand_of v).payload }) ∷ []))) other
    (view_of v.opened [])) in
    let got = subst Q mine
    (λ k. takes_at v.opened s id (thread_of v) (seen_of v) (gifts_of v) (hand_of v) (more_in v.parts) stood.here
    stood.reached stood.within
    stood.place_is some_tokens k (at ∙ ap some stood.seated) alone x other apart (theirs_at ∙ ap some is)) kept in
    let both_is : view_of v.opened (part (thread_of v) (seen_of v) (gifts_of v)
    (record { at_home = x ∷ (hand_of v).at_home; out = (hand_of v).out; payload = (hand_of v).payload }) ∷ []) ≡ both =
    (λ i. view_of v.opened (part (thread_of v) (seen_of v) (gifts_of v)
    (record {
      at_home = (hand_of (sym is i)).at_home ++ (hand_of v).at_home;
      out = (hand_of v).out;
      payload = (hand_of v).payload;
    })
    ∷ sym alone i)) in
    subst (λ (y : View T × Opening). OneSchedule o s.words s.homes (set (set s.views id y.0) other (view_of y.1 [])))
    (λ i. (both_is i, sym same i)) got

-- each token at home names a slot
named_home : {T : Type 0} (at : ℕ → Where) (homes : Homes T) (slots thread : ℕ) (xs : List ℕ) → length homes ≡ slots
    → AllHome at homes thread xs → AllByRecursion (λ x. (0 < x) × (x ≤ slots)) xs
named_home at homes slots thread [] size home = tt
named_home at homes slots thread (x ∷ xs) size home =
    let inside = within_list homes (x - 1) (some None) home.0.2 in
    let positive = home.0.0 in
    ((positive, omega (arith, inside, size, positive)), named_home at homes slots thread xs size home.1)

-- A look keeps the rule, and finds no more tokens at home than there are slots
pub counts_tokens : {T : Type 0} (o : Opening) (slots id : ℕ) (me : Me (Option T) (View T)) (i : ℕ) → IsSeated me.0
    → 0 < me.0.opened.tokens
    → Allows (λ (s : State (Option T) (View T)). OneSchedule o s.words s.homes s.views) slots id me i (λ n. n)
    (λ found w. CountsTokens slots me w)
counts_tokens {T} o slots id me i seated some_tokens s kept homes at fits =
    let v = me.0 in
    let tokens : 0 < o.tokens = subst (λ (y : Opening). 0 < y.tokens) (kept.fit id v at).opened some_tokens in
    let home = (kept.hands tokens id (with_seen v (seen_of v) (gifts_of v) (hand_of v)) (at ∙ ap some seated)).0.home in
    let room = home_room kept.at s.homes (thread_of v) (hand_of v).at_home home in (
      v,
      keeps,
      tt,
      subst (λ (x : List ℕ × List (View T)). OneSchedule o x.0 s.homes x.1)
          (λ k. (sym (set-get_or s.words i 0) k, sym (set_again s.views id v at) k)) kept,
      record {
        few = omega (arith, room, homes);
        named = named_home kept.at s.homes slots (thread_of v) (hand_of v).at_home homes home;
        same = refl;
      },
    )
