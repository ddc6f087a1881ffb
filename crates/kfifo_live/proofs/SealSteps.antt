-- A seal that an idle thread tries keeps the rule: there is still one schedule.
use Rattle.std.proofs.Common.{◌≡◌, ◌⊎◌, ℕ, ◌-◌, ◌<◌, List, [], ◌∷◌, ◌++◌, length, set, Option, Some, None, Ok, Err}
use Rattle.std.proofs.Common.{Bool, true, false, refl, sym, ap, ◌∙◌, subst, inl, inr, arith, cond, eqb-true}
use Rattle.std.specs.Prelude.{slice_index, slice_set, ◌==◌}
use Rattle.std.proofs.lemmas.List.{append-nil, set-get_or}
use Rattle.std.proofs.lemmas.Bool.{cases_eq, lt-ltb}
use mathlib.Core.Option.{some}
use lib.ListN.{get_elem?}
use Rattle.atomic_table.specs.Table.{State, keeps, Me, Allows}
use Rattle.kfifo_live.proofs.Types.{Event, Hand, Opening, Part, Running, Shape, View}
use Rattle.kfifo_words.specs.Words.{value_of, version_of}
use Rattle.kfifo_words.specs.Ring.{clock_at}
use Rattle.kfifo_machine.specs.declared.event.Begin.TheVariants.{Seal}
use Rattle.kfifo_machine.specs.declared.event.Outcome.TheVariants.{Went}
use Rattle.kfifo_machine.specs.declared.event.NotEnabled.TheVariants.{NoSuchThread, NotSealable}
use Rattle.kfifo_machine.specs.Program.{sealed_word}
use Rattle.kfifo_machine.specs.Machine.{World, opening, may_seal, sealed, word_at, place_of, world_of, step, step_from}
use Rattle.kfifo_machine.specs.Machine.{run}
use Rattle.kfifo_machine.specs.Runs.{event}
use Rattle.kfifo_machine.proofs.Schedules.{run_on, same_place, still_threads}
use Rattle.kfifo_machine.proofs.Sound.{IsSound, place_is, sound}
use Rattle.kfifo_machine.proofs.Versions.{sealable, sealed-ends, sealed-other, sealed-same}
use Rattle.kfifo_live.specs.Schedule.{part, view_of, world_after, GiftsFit, FewTicks, OneSchedule, thread_of, seen_of}
use Rattle.kfifo_live.specs.Schedule.{gifts_of, hand_of, more_in, with_seen}
use Rattle.kfifo_live.specs.Step.{IsAt, TriesSeal}
use Rattle.kfifo_live.specs.Hands.{Gifts, Homes, In, IsGift, beside, CallFits, HandFits, SlotsFit}
use Rattle.kfifo_live.proofs.Balance.{know_after}
use Rattle.kfifo_live.proofs.OtherHands.{other_hand}
use Rattle.kfifo_live.proofs.Holders.{begin_free_on}
use Rattle.kfifo_live.proofs.Keeps.{Tokens, adds, own_other}
use Rattle.kfifo_live.proofs.Ticks.{few_more}
use Rattle.kfifo_live.proofs.GiftsInTurn.{in_turn_on}

-- the words after a seal
sealed_words : (shape : Shape) (world : World) (sought to : ℕ) → to ≡ sealed_word shape sought
    → word_at world 0 ≡ sought
    → slice_set world.words 0 to ≡ (sealed shape world).words
unfolding sealed
sealed_words shape world sought to is at = ap (λ (x : ℕ). set world.words 0 x) (is ∙ ap (sealed_word shape) (sym at))

ends-is : (world : World) → slice_index world.words 0 ≡ word_at world 0
unfolding word_at
ends-is world = refl

-- a seal of an idle thread is made
seals_on : (shape : Shape) (world : World) (thread : ℕ) → thread < length world.places → place_of world thread ≡ None
    → may_seal shape (word_at world 0) ≡ true
    → step shape world (event thread (Some Seal)) ≡ Ok (sealed shape world, Went)
unfolding step
seals_on shape world thread within idle may =
    ap (λ b. cond b (step_from shape world thread (place_of world thread) (Some Seal)) (Err NoSuchThread))
    (lt-ltb thread (length world.places) within)
    ∙ ap (λ p. step_from shape world thread p (Some Seal)) idle
    ∙ ap (λ b. cond b (Ok (sealed shape world, Went)) (Err NotSealable)) may

sealed_places : (shape : Shape) (world : World) (thread : ℕ) → place_of (sealed shape world) thread
    ≡ place_of world thread
unfolding sealed place_of
sealed_places shape world thread = refl

-- a seal raises the version of the ends word, and leaves all others
seal_rises : (shape : Shape) (world : World) → IsSound shape world → may_seal shape (word_at world 0) ≡ true → (i : ℕ)
    → (word_at (sealed shape world) i ≡ word_at world i)
    ⊎ (version_of (word_at world i) < version_of (word_at (sealed shape world) i))
seal_rises shape world safe may i =
    elim (cases_eq i 0) [
      | inl zero ↦ inr (rw zero (let up = (sealable shape (word_at world 0) may).1 in
          let e = ap version_of (sealed-ends shape world safe) ∙ (sealed-same shape (word_at world 0)).2 in
          omega arith))
      | inr ne ↦ inl (sealed-other shape world i ne)
    ]

-- where the tokens are after a seal
sealed_tokens : {T : Type 0} (o : Opening) (homes : Homes T) (views : List (View T)) (words : List ℕ)
    (kept : OneSchedule o words homes views)
    (id thread : ℕ) (seen : List Event) (gifts : Gifts T) (hand : Hand T) (more : List (Part T))
    → get_elem? views id ≡ some (view_of o (part thread seen gifts hand ∷ more)) → place_of kept.world thread ≡ None
    → may_seal o.shape (word_at kept.world 0) ≡ true
    → Tokens o homes homes views words kept (sealed o.shape kept.world) (kept.gifts ++ []) thread hand
sealed_tokens {T} o homes views words kept id thread seen gifts hand more at idle may =
    let w = word_at kept.world in
    let v = word_at (sealed o.shape kept.world) in
    let safe : IsSound o.shape kept.world = sound o.shape o.threads kept.all kept.world kept.runs in
    let same_gift : (x : ℕ) → beside x (kept.gifts ++ []) ≡ beside x kept.gifts =
    λ x. ap (beside x) (append-nil kept.gifts) in
    record {
      at_now = kept.at;
      slots = λ some_tokens i above below filled.
          let e : v i ≡ w i = sealed-other o.shape kept.world i (λ zero. absurd (omega arith)) in
          let old = kept.slots some_tokens i above below (λ none. filled (ap value_of e ∙ none)) in
          subst (λ (x : ℕ). (kept.at (value_of x) ≡ In i) × IsGift o.bare (beside (value_of x) (kept.gifts ++ []))
          × (get_elem? homes (value_of x - 1) ≡ some (some (beside (value_of x) (kept.gifts ++ []))))) (sym e) (
            old.0,
            subst (IsGift o.bare) (sym (same_gift (value_of (w i)))) old.1,
            old.2 ∙ ap (λ (x : Option T). some (some x)) (sym (same_gift (value_of (w i)))),
          );
      own = λ some_tokens.
          let mine = (kept.hands some_tokens id (view_of o (part thread seen gifts hand ∷ more)) at).0 in
          record {
            home = mine.home;
            out = mine.out;
            stands = subst (CallFits o.bare v (kept.gifts ++ []) hand)
                (sym (sealed_places o.shape kept.world thread ∙ idle)) tt;
          };
      others = λ some_tokens u other ne fits.
          subst (λ (p : Option Running). HandFits o.bare v p kept.at (kept.gifts ++ []) homes u other)
          (sym (sealed_places o.shape kept.world u))
          (other_hand o.bare o.shape w v kept.at kept.at kept.gifts (kept.gifts ++ []) homes homes thread
          (λ x apart. same_gift x)
          (seal_rises o.shape kept.world safe may) (kept.slots some_tokens) refl (λ x t j p e. (refl, refl))
          (λ x y apart e. refl) u
          (place_of kept.world u) other ne (λ r there. place_is o.shape kept.world u r safe there)
          (λ r there. know_after o kept.all kept.world kept.runs u r there) fits);
    }

-- a seal that an idle thread tries, at a view with these parts
seals_at : {T : Type 0} (o : Opening) (s : State (Option T) (View T)) (id : ℕ) (thread : ℕ) (seen : List Event)
    (gifts : Gifts T) (hand : Hand T) (more : List (Part T)) (here : World) (sought to : ℕ) (f : ℕ → ℕ)
    → world_after o seen ≡ Some here → thread < length here.places → place_of here thread ≡ None
    → to ≡ sealed_word o.shape sought → may_seal o.shape sought ≡ true → ((n : ℕ) → f n ≡ cond (n == sought) to n)
    → OneSchedule o s.words s.homes s.views
    → get_elem? s.views id ≡ some (view_of o (part thread seen gifts hand ∷ more))
    → (w : View T) × OneSchedule o (slice_set s.words 0 (f (slice_index s.words 0))) s.homes (set s.views id w)
    × TriesSeal sought (view_of o (part thread seen gifts hand ∷ more)) (slice_index s.words 0) w
seals_at {T} o s id thread seen gifts hand more here sought to f reached within idle to_is may writes kept at =
    by_test (slice_index s.words 0 == sought) refl
  where
    Result : Type 0
    Result = (w : View T) × OneSchedule o (slice_set s.words 0 (f (slice_index s.words 0))) s.homes (set s.views id w)
        × TriesSeal sought (view_of o (part thread seen gifts hand ∷ more)) (slice_index s.words 0) w

    by_test : (won : Bool) → (slice_index s.words 0 == sought) ≡ won → Result
    by_test true is =
        let mine = kept.fit id (view_of o (part thread seen gifts hand ∷ more)) at in
        let g = mine.given.0 in
        let b = mine.begin.0 in
        let e = event thread (Some Seal) in
        let arrived : world_after o (seen ++ b.rest) ≡ Some kept.world = ap (λ es. world_after o es) (sym b.goes_on)
        ∙ kept.runs in
        let onward : run o.shape (Some here) b.rest ≡ Some kept.world =
        sym (run_on o.shape (Some (opening o.shape o.threads)) here seen b.rest reached) ∙ arrived in
        let still_idle : place_of kept.world thread ≡ None = same_place o.shape here kept.world b.rest thread b.no_own
        onward ∙ idle in
        let still : length kept.world.places ≡ length here.places =
        still_threads o.shape here kept.world b.rest onward in
        let inside : thread < length kept.world.places = omega (arith, within, still) in
        let word_is : slice_index s.words 0 ≡ word_at kept.world 0 = ap (λ ws. slice_index ws 0) kept.words_are
        ∙ ends-is kept.world in
        let stands : word_at kept.world 0 ≡ sought = sym word_is ∙ eqb-true (slice_index s.words 0) sought is in
        let may_now : may_seal o.shape (word_at kept.world 0) ≡ true = ap (may_seal o.shape) stands ∙ may in
        let wrote : f (slice_index s.words 0) ≡ to = writes (slice_index s.words 0)
        ∙ ap (λ x. cond x to (slice_index s.words 0)) is in
        let new_words : slice_set s.words 0 (f (slice_index s.words 0)) ≡ (sealed o.shape kept.world).words =
        (λ k. slice_set (kept.words_are k) 0 (wrote k)) ∙ sealed_words o.shape kept.world sought to to_is stands in
        let w = view_of o (part thread ((seen ++ b.rest) ++ e ∷ []) (gifts ++ g.0) hand ∷ more) in
        let w' = view_of o (part thread (kept.all ++ e ∷ []) (kept.gifts ++ []) hand ∷ more) in
        let is_w : w' ≡ w = λ j. view_of o (part thread (b.goes_on j ++ e ∷ []) ((append-nil kept.gifts ∙ g.1) j) hand
        ∷ more) in
        let made : run o.shape (Some kept.world) (e ∷ []) ≡ Some (sealed o.shape kept.world) =
        ap world_of (seals_on o.shape kept.world thread inside still_idle may_now) in
        let fits_now : GiftsFit o (kept.all ++ e ∷ []) (kept.gifts ++ []) = record {
          in_turn = in_turn_on kept.all kept.gifts thread (Some Seal) [] kept.in_turn.in_turn;
          holder_law = λ some_tokens.
              begin_free_on o.shape (opening o.shape o.threads) kept.world kept.all e kept.runs
              (kept.in_turn.holder_law some_tokens) tt;
        } in
        let k = adds o s.words (slice_set s.words 0 (f (slice_index s.words 0))) s.homes s.homes s.views id thread seen
        gifts hand hand more
        kept at (e ∷ []) [] (λ u apart. own_other thread u (Some Seal) apart) (sealed o.shape kept.world) made new_words
        (few_more o kept.all e refl kept.few_ticks) fits_now
        (sealed_tokens o s.homes s.views s.words kept id thread seen gifts hand more at still_idle may_now)
        mine.resting.0 in (
          w,
          subst (λ (x : View T). OneSchedule o (slice_set s.words 0 (f (slice_index s.words 0))) s.homes
              (set s.views id x)) is_w k,
          record {
            between = b.rest;
            given = g.0;
            here = kept.world;
            end = sealed o.shape kept.world;
            seal = e ∷ [];
            others = b.no_own;
            reached = arrived;
            word_is = word_is;
            seal_is = ap (λ x. cond x (e ∷ []) []) (sym is);
            made = made;
            in_turn = subst (λ (x : List Event × Gifts T). GiftsFit o x.0 x.1)
                (λ j. (b.goes_on j ++ e ∷ [], (append-nil kept.gifts ∙ g.1) j)) fits_now;
            afterwards = refl;
          },
        )
    by_test false is =
        let mine = kept.fit id (view_of o (part thread seen gifts hand ∷ more)) at in
        let g = mine.given.0 in
        let b = mine.begin.0 in
        let e = event thread (Some Seal) in
        let arrived : world_after o (seen ++ b.rest) ≡ Some kept.world = ap (λ es. world_after o es) (sym b.goes_on)
        ∙ kept.runs in
        let word_is : slice_index s.words 0 ≡ word_at kept.world 0 = ap (λ ws. slice_index ws 0) kept.words_are
        ∙ ends-is kept.world in
        let wrote : f (slice_index s.words 0) ≡ slice_index s.words 0 =
        writes (slice_index s.words 0) ∙ ap (λ x. cond x to (slice_index s.words 0)) is in
        let words : slice_set s.words 0 (f (slice_index s.words 0)) ≡ kept.world.words =
        ap (slice_set s.words 0) wrote ∙ set-get_or s.words 0 0 ∙ kept.words_are in
        let w = view_of o (part thread ((seen ++ b.rest) ++ []) (gifts ++ g.0) hand ∷ more) in
        let w' = view_of o (part thread (kept.all ++ []) (kept.gifts ++ []) hand ∷ more) in
        let is_w : w' ≡ w =
        λ j. view_of o (part thread (b.goes_on j ++ []) ((append-nil kept.gifts ∙ g.1) j) hand ∷ more) in
        let tokens : Tokens o s.homes s.homes s.views s.words kept kept.world (kept.gifts ++ []) thread hand = record {
          at_now = kept.at;
          slots = λ some_tokens.
              subst (λ (g : Gifts T). SlotsFit o.bare (clock_at o.shape.k o.shape.n) (word_at kept.world) kept.at g
              s.homes)
              (sym (append-nil kept.gifts)) (kept.slots some_tokens);
          own = λ some_tokens.
              subst (λ (g : Gifts T). HandFits o.bare (word_at kept.world) (place_of kept.world thread) kept.at g
              s.homes thread hand)
              (sym (append-nil kept.gifts))
              (kept.hands some_tokens id (view_of o (part thread seen gifts hand ∷ more)) at).0;
          others = λ some_tokens u other ne fits.
              subst (λ (g : Gifts T). HandFits o.bare (word_at kept.world) (place_of kept.world u) kept.at g s.homes u
              other)
              (sym (append-nil kept.gifts)) fits;
        } in
        let fits_now : GiftsFit o (kept.all ++ []) (kept.gifts ++ []) =
        subst (λ (x : List Event × Gifts T). GiftsFit o x.0 x.1)
        (λ j. (sym (append-nil kept.all) j, sym (append-nil kept.gifts) j))
        kept.in_turn in
        let k = adds o s.words (slice_set s.words 0 (f (slice_index s.words 0))) s.homes s.homes s.views id thread seen
        gifts hand hand more
        kept at [] [] (λ u apart. refl) kept.world refl words
        (subst (FewTicks o) (sym (append-nil kept.all)) kept.few_ticks)
        fits_now tokens mine.resting.0 in (
          w,
          subst (λ (x : View T). OneSchedule o (slice_set s.words 0 (f (slice_index s.words 0))) s.homes
              (set s.views id x)) is_w k,
          record {
            between = b.rest;
            given = g.0;
            here = kept.world;
            end = kept.world;
            seal = [];
            others = b.no_own;
            reached = arrived;
            word_is = word_is;
            seal_is = ap (λ x. cond x (e ∷ []) []) (sym is);
            made = refl;
            in_turn = subst (λ (x : List Event × Gifts T). GiftsFit o x.0 x.1)
                (λ j. (b.goes_on j ++ [], (append-nil kept.gifts ∙ g.1) j)) fits_now;
            afterwards = refl;
          },
        )

-- A seal that is tried keeps the rule
pub seals : {T : Type 0} (o : Opening) (slots id : ℕ) (me : Me (Option T) (View T)) (sought to : ℕ) (f : ℕ → ℕ)
    → IsAt None me → to ≡ sealed_word me.0.opened.shape sought → may_seal me.0.opened.shape sought ≡ true
    → ((n : ℕ) → f n ≡ cond (n == sought) to n)
    → Allows (λ (s : State (Option T) (View T)). OneSchedule o s.words s.homes s.views) slots id me 0 f
    (λ found w. TriesSeal sought me.0 found w.0 × (w.1 ≡ me.1))
seals {T} o slots id me sought to f stood to_is may writes s kept homes at fits =
    let v = me.0 in
    let opened = (kept.fit id v at).opened in
    let v' = with_seen v (seen_of v) (gifts_of v) (hand_of v) in
    let P : View T → Type 0 = λ x. (w : View T)
    × OneSchedule o (slice_set s.words 0 (f (slice_index s.words 0))) s.homes (set s.views id w)
    × TriesSeal sought x (slice_index s.words 0) w in
    let Q : Opening → Type 0 = λ x. OneSchedule x s.words s.homes s.views → (w : View T)
    × OneSchedule x (slice_set s.words 0 (f (slice_index s.words 0))) s.homes (set s.views id w)
    × TriesSeal sought v' (slice_index s.words 0) w in
    let got : P v' = subst Q opened
    (λ k. seals_at v.opened s id (thread_of v) (seen_of v) (gifts_of v) (hand_of v) (more_in v.parts) stood.here sought
    to f stood.reached
    stood.within stood.place_is to_is may writes k (at ∙ ap some stood.seated)) kept in
    let put = subst P (sym stood.seated) got in
    (put.0, keeps, tt, put.1, (put.2, refl))
