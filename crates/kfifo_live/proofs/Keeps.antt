-- Each step keeps the rule: there is still one schedule.
use Rattle.std.proofs.Common.{◌≡◌, ◌≢◌, ℕ, suc, ◌+◌, ◌*◌, ◌%◌, ◌^◌, ◌<◌, ◌≤◌, List, [], ◌∷◌, ◌++◌, length, set, get_or}
use Rattle.std.proofs.Common.{Option, Some, None, Ok, Err, Bool, true, false, refl, sym, ap, ◌∙◌, subst, inl, inr}
use Rattle.std.proofs.Common.{⊎_elim, arith, append_assoc, cond, eq-eqb, ne_eqb}
use Rattle.std.specs.Prelude.{slice_index, slice_set, ◌==◌}
use Rattle.std.proofs.lemmas.List.{append-nil, set-get_or}
use Rattle.std.proofs.lemmas.Bool.{cases_eq, lt-ltb}
use mathlib.Core.Option.{some}
use lib.ListN.{get_elem?}
use prog.Atomic.{either}
use Rattle.atomic_table.specs.Table.{Act, State, Valid, homes_after, carried_after, keeps, Me, Allows}
use Rattle.atomic_table.proofs.Lists.{at_set}
use Rattle.kfifo_live.proofs.Types.{Begin, Event, Hand, Opening, Part, Running, Shape, View}
use Rattle.kfifo_words.specs.Ring.{clock_at}
use Rattle.kfifo_machine.specs.declared.event.Begin.TheVariants.{Tick}
use Rattle.kfifo_machine.specs.declared.event.Outcome.TheVariants.{Went}
use Rattle.kfifo_machine.specs.declared.event.NotEnabled.TheVariants.{NoSuchThread, ClockSpent}
use Rattle.kfifo_machine.specs.declared.place.Access.{Access}
use Rattle.kfifo_machine.specs.declared.place.Access.TheVariants.{Load, Exchange}
use Rattle.kfifo_machine.specs.Program.{access, accessed}
use Rattle.kfifo_machine.specs.Machine.{World, opening, moved, ticked, found, word_at, place_of, words_after, world_of}
use Rattle.kfifo_machine.specs.Machine.{step, step_from, run}
use Rattle.kfifo_machine.specs.Runs.{event, own, going, Begins}
use Rattle.kfifo_machine.proofs.Schedules.{run_on, own-append, same_place, still_threads, steps_on}
use Rattle.kfifo_live.specs.Schedule.{part, view_of, world_after, AllBegin, AllGiven, GiftsFit, AllHands, Owns}
use Rattle.kfifo_live.specs.Schedule.{IsResting, Fits, OneSchedule, FewTicks, IsSmall, ticks, thread_of, seen_of}
use Rattle.kfifo_live.specs.Schedule.{gifts_of, hand_of, more_in, with_seen}
use Rattle.kfifo_live.specs.Step.{IsAt, Steps, DrawsStamp}
use Rattle.kfifo_live.specs.Hands.{Gifts, Homes, IsGift, Where, beside, gift, move, hand_after, begun_hand, Carries}
use Rattle.kfifo_live.specs.Hands.{BeginsWith, HandFits, SlotsFit}
use Rattle.kfifo_live.proofs.LeftInHand.{home_step}
use Rattle.kfifo_live.proofs.Holders.{begin_free_on, begins_free}
use Rattle.kfifo_live.proofs.TokensAfterStep.{same_home, turned}
use Rattle.kfifo_live.proofs.Ticks.{clock_below, few_more, few_tick, no_tick}
use Rattle.kfifo_live.proofs.GiftsInTurn.{in_turn_on}

-- a longer schedule, with nothing more of the thread
begins_on : (thread : ℕ) (seen all more : List Event) → Begins thread seen all → own thread more ≡ []
    → Begins thread seen (all ++ more)
begins_on thread seen all more b empty = record {
  rest = b.rest ++ more;
  goes_on = ap (λ xs. xs ++ more) b.goes_on ∙ append_assoc seen b.rest more;
  no_own = own-append thread b.rest more ∙ (λ i. b.no_own i ++ empty i);
}

pub begins_whole : (thread : ℕ) (all : List Event) → Begins thread all all
begins_whole thread all = record { rest = []; goes_on = sym (append-nil all); no_own = refl }

-- the parts whose threads are not the one that made the new events
all_begin_on : {T : Type 0} (owner : ℕ → ℕ × ℕ) (seat at : ℕ) (parts : List (Part T)) (all more : List Event)
    (thread : ℕ)
    → ((u : ℕ) → u ≢ thread → own u more ≡ [])
    → ((k : ℕ) → at ≤ k → owner thread ≢ (seat, k))
    → Owns owner seat at parts → AllBegin parts all → AllBegin parts (all ++ more)
all_begin_on owner seat at [] all more thread others apart owns begin = tt
all_begin_on owner seat at (p ∷ ps) all more thread others apart owns begin = (
  begins_on p.thread p.seen all more begin.0
      (others p.thread (λ same. apart at (omega arith) (ap owner (sym same) ∙ owns.0))),
  all_begin_on owner seat (suc at) ps all more thread others (λ k le. apart k (omega arith)) owns.1 begin.1,
)

-- longer gifts
all_given_on : {T : Type 0} (parts : List (Part T)) (gifts more : Gifts T) → AllGiven parts gifts
    → AllGiven parts (gifts ++ more)
all_given_on [] gifts more g = tt
all_given_on (p ∷ ps) gifts more g = (
  (g.0.0 ++ more, ap (λ xs. xs ++ more) g.0.1 ∙ append_assoc p.gifts g.0.0 more),
  all_given_on ps gifts more g.1,
)

-- what a seat knows at another place of the list, or at its own
pub fits_set : {T : Type 0} (o : Opening) (all : List Event) (gifts : Gifts T) (owner : ℕ → ℕ × ℕ)
    (views : List (View T)) (id : ℕ) (w : View T)
    → ((j : ℕ) (u : View T) → j ≢ id → get_elem? views j ≡ some u → Fits o all gifts owner j u)
    → Fits o all gifts owner id w → (j : ℕ) (u : View T) → get_elem? (set views id w) j ≡ some u
    → Fits o all gifts owner j u
fits_set {T} o all gifts owner views id w others mine j u e =
    ⊎_elim
    (λ (x : (j ≡ id) × (w ≡ u)). subst (λ (y : ℕ × View T). Fits o all gifts owner y.0 y.1) (λ i. (sym x.0 i, x.1 i))
    mine)
    (λ (x : (j ≢ id) × (get_elem? views j ≡ some u)). others j u x.0 x.1)
    (at_set views id j w u e)

-- the hands of the parts whose threads are not the one that made the step
module _ {T : Type 0} (bare : Bool) (w v : ℕ → ℕ) (place later : ℕ → Option Running) (at at_now : ℕ → Where)
    (gifts gifts_now : Gifts T) (homes homes_now : Homes T) (thread : ℕ)
    (others : (u : ℕ) (hand : Hand T) → u ≢ thread → HandFits bare w (place u) at gifts homes u hand
    → HandFits bare v (later u) at_now gifts_now homes_now u hand) where
  pub all_hands_on : (owner : ℕ → ℕ × ℕ) (seat first : ℕ) (parts : List (Part T))
      → ((k : ℕ) → first ≤ k → owner thread ≢ (seat, k))
      → Owns owner seat first parts
      → AllHands bare w place at gifts homes parts → AllHands bare v later at_now gifts_now homes_now parts
  all_hands_on owner seat first [] apart owns hands = tt
  all_hands_on owner seat first (p ∷ ps) apart owns hands = (
    others p.thread p.hand (λ same. apart first (omega arith) (ap owner (sym same) ∙ owns.0)) hands.0,
    all_hands_on owner seat (suc first) ps (λ k le. apart k (omega arith)) owns.1 hands.1,
  )

  -- each thread still has a hand that fits
  pub held_on : (own : Hand T) → HandFits bare v (later thread) at_now gifts_now homes_now thread own
      → ((u : ℕ) → (hand : Hand T) × HandFits bare w (place u) at gifts homes u hand)
      → (u : ℕ) → (hand : Hand T) × HandFits bare v (later u) at_now gifts_now homes_now u hand
  held_on own mine all u =
      elim (cases_eq u thread) [
        | inl same ↦
            (own, subst (λ (t : ℕ). HandFits bare v (later t) at_now gifts_now homes_now t own) (sym same) mine)
        | inr other ↦ let h = all u in (h.0, others u h.0 other h.1)
      ]

-- what becomes of the tokens in a step of a thread: where they are, what the slots' words name, and all hands
pub record Tokens {T : Type 0} (o : Opening) (homes homes_now : Homes T) (views : List (View T)) (words : List ℕ)
    (kept : OneSchedule o words homes views) (end : World) (gifts : Gifts T) (thread : ℕ) (hand : Hand T) : Type 0 where
  pub at_now : ℕ → Where
  pub slots : 0 < o.tokens → SlotsFit o.bare (clock_at o.shape.k o.shape.n) (word_at end) at_now gifts homes_now
  pub own : 0 < o.tokens → HandFits o.bare (word_at end) (place_of end thread) at_now gifts homes_now thread hand
  pub others : 0 < o.tokens → (u : ℕ) (other : Hand T) → u ≢ thread
      → HandFits o.bare (word_at kept.world) (place_of kept.world u) kept.at kept.gifts homes u other
      → HandFits o.bare (word_at end) (place_of end u) at_now gifts homes_now u other

-- The one lemma of all steps: the seat's first thread has seen the schedule so far, and then adds what is its own
pub adds : {T : Type 0} (o : Opening) (words after_words : List ℕ) (homes homes_now : Homes T) (views : List (View T))
    (id : ℕ) (thread : ℕ) (seen : List Event) (gifts : Gifts T) (hand hand_now : Hand T) (more : List (Part T))
    → (kept : OneSchedule o words homes views)
    → get_elem? views id ≡ some (view_of o (part thread seen gifts hand ∷ more))
    → (tail : List Event) (given : Gifts T) → ((u : ℕ) → u ≢ thread → own u tail ≡ [])
    → (end : World) → run o.shape (Some kept.world) tail ≡ Some end → after_words ≡ end.words
    → FewTicks o (kept.all ++ tail)
    → GiftsFit o (kept.all ++ tail) (kept.gifts ++ given)
    → Tokens o homes homes_now views words kept end (kept.gifts ++ given) thread hand_now
    → IsResting o.threads thread hand_now
    → OneSchedule o after_words homes_now
    (set views id (view_of o (part thread (kept.all ++ tail) (kept.gifts ++ given) hand_now ∷ more)))
adds {T} o words after_words homes homes_now views id thread seen gifts hand hand_now more kept at tail given others end
    runs words_are few in_turn tokens rests =
    let mine = kept.fit id (view_of o (part thread seen gifts hand ∷ more)) at in
    let owned : kept.owner thread ≡ (id, 0) = mine.owns.0 in
    record {
      all = kept.all ++ tail;
      gifts = kept.gifts ++ given;
      world = end;
      owner = kept.owner;
      runs = run_on o.shape (Some (opening o.shape o.threads)) kept.world kept.all tail kept.runs ∙ runs;
      words_are = words_are;
      in_turn = in_turn;
      few_ticks = few;
      fit = fits_set o (kept.all ++ tail) (kept.gifts ++ given) kept.owner views id
          (view_of o (part thread (kept.all ++ tail) (kept.gifts ++ given) hand_now ∷ more))
          (λ j u apart e.
          let theirs = kept.fit j u e in
          record {
            opened = theirs.opened;
            begin = all_begin_on kept.owner j 0 u.parts kept.all tail thread others
                (λ k le same. apart (ap (λ (x : ℕ × ℕ). x.0) (sym same ∙ owned))) theirs.owns theirs.begin;
            given = all_given_on u.parts kept.gifts given theirs.given;
            owns = theirs.owns;
            resting = theirs.resting;
          })
          record {
            opened = refl;
            begin = (
              begins_whole thread (kept.all ++ tail),
              all_begin_on kept.owner id 1 more kept.all tail thread others
                  (λ k le same. let e : k ≡ 0 = ap (λ (x : ℕ × ℕ). x.1) (sym same ∙ owned) in absurd (omega arith))
                  mine.owns.1
                  mine.begin.1,
            );
            given = (([], sym (append-nil (kept.gifts ++ given))), all_given_on more kept.gifts given mine.given.1);
            owns = mine.owns;
            resting = (rests, mine.resting.1);
          };
      at = tokens.at_now;
      slots = tokens.slots;
      hands = λ some_tokens j u e.
          let on = λ (seat first : ℕ) (parts : List (Part T)).
          all_hands_on o.bare (word_at kept.world) (word_at end) (place_of kept.world) (place_of end) kept.at
          tokens.at_now kept.gifts
          (kept.gifts ++ given) homes homes_now thread (tokens.others some_tokens) kept.owner seat first parts in
          let all_mine = kept.hands some_tokens id (view_of o (part thread seen gifts hand ∷ more)) at in
          ⊎_elim
          (λ (x : (j ≡ id) × (view_of o (part thread (kept.all ++ tail) (kept.gifts ++ given) hand_now ∷ more) ≡ u)).
          subst (λ (y : View T). AllHands o.bare (word_at end) (place_of end) tokens.at_now (kept.gifts ++ given)
          homes_now y.parts) x.1 (
            tokens.own some_tokens,
            on id 1 more (λ k le same. let e : k
                ≡ 0 = ap (λ (x : ℕ × ℕ). x.1) (sym same ∙ owned) in absurd (omega arith)) mine.owns.1 all_mine.1,
          ))
          (λ (x : (j ≢ id) × (get_elem? views j ≡ some u)).
          on j 0 u.parts (λ k le same. x.0 (ap (λ (z : ℕ × ℕ). z.0) (sym same ∙ owned))) (kept.fit j u x.1).owns
          (kept.hands some_tokens j u x.1))
          (at_set views id j (view_of o (part thread (kept.all ++ tail) (kept.gifts ++ given) hand_now ∷ more)) u e);
      holders = λ some_tokens. held_on o.bare (word_at kept.world) (word_at end) (place_of kept.world) (place_of end)
          kept.at tokens.at_now kept.gifts (kept.gifts ++ given) homes homes_now thread (tokens.others some_tokens)
          hand_now (tokens.own some_tokens) (kept.holders some_tokens);
    }

pub own_other : (thread u : ℕ) (begin : Option Begin) → u ≢ thread → own u (event thread begin ∷ []) ≡ []
own_other thread u begin apart = ap (λ b. cond b (event thread begin ∷ []) []) (ne_eqb thread u (λ e. apart (sym e)))

pub own_same : (thread : ℕ) (begin : Option Begin) → own thread (event thread begin ∷ []) ≡ event thread begin ∷ []
own_same thread begin = ap (λ b. cond b (event thread begin ∷ []) []) (eq-eqb thread thread refl)

-- the word that a step leaves where it found this one
abbrev pub written : Access → ℕ → ℕ
written (Load index) word = word
written (Exchange index from to) word = cond (word == from) to word

exchanged : (words : List ℕ) (i to : ℕ) (won : Bool) → cond won (set words i to) words
    ≡ set words i (cond won to (get_or words i 0))
exchanged words i to true = refl
exchanged words i to false = sym (set-get_or words i 0)

words_after-is : (a : Access) (words : List ℕ)
    → words_after a words ≡ set words (accessed a) (written a (get_or words (accessed a) 0))
words_after-is (Load index) words = sym (set-get_or words index 0)
words_after-is (Exchange index from to) words = exchanged words index to (get_or words index 0 == from)

words-moved : (shape : Shape) (world : World) (thread : ℕ) (running : Running) (i : ℕ)
    → accessed (access shape running) ≡ i
    → (moved shape world thread running).words
    ≡ set world.words i (written (access shape running) (get_or world.words i 0))
unfolding moved
words-moved shape world thread running i is =
    words_after-is (access shape running) world.words
    ∙ (λ k. set world.words (is k) (written (access shape running) (get_or world.words (is k) 0)))

found-is : (shape : Shape) (world : World) (running : Running) (i : ℕ) → accessed (access shape running) ≡ i
    → get_or world.words i 0 ≡ found shape world running
unfolding found word_at
found-is shape world running i is = ap (λ j. get_or world.words j 0) (sym is)

-- the step of a thread which is at this place once it has seen this
goes_at : {T : Type 0} (o : Opening) (s : State (Option T) (View T)) (id : ℕ) (thread : ℕ) (seen : List Event)
    (gifts : Gifts T)
    (hand : Hand T) (more : List (Part T)) (held : List (ℕ × Option T)) (place : Option Running) (here : World)
    → world_after o seen ≡ Some here → thread < length here.places → place_of here thread ≡ place
    → (begin : Option Begin) (running : Running) → going o.shape place begin ≡ Some running
    → (i : ℕ) → accessed (access o.shape running) ≡ i → (f : ℕ → ℕ)
    → ((n : ℕ) → f n ≡ written (access o.shape running) n)
    → Carries place o.tokens hand held → (0 < o.tokens → BeginsWith o.bare begin hand held)
    → OneSchedule o s.words s.homes s.views
    → get_elem? s.views id ≡ some (view_of o (part thread seen gifts hand ∷ more))
    → (w : View T) × (a : Act (Option T)) × Valid s.homes held a
    × OneSchedule o (slice_set s.words i (f (slice_index s.words i))) (homes_after s.homes held a) (set s.views id w)
    × Steps begin (view_of o (part thread seen gifts hand ∷ more), held) (slice_index s.words i)
    (w, carried_after held a)
goes_at {T} o s id thread seen gifts hand more held place here reached within stood begin running from i word f same
    carries begins kept at =
    let mine = kept.fit id (view_of o (part thread seen gifts hand ∷ more)) at in
    let g = mine.given.0 in
    let new = gift begin held in
    let b = mine.begin.0 in
    let e = event thread begin in
    let arrived : world_after o (seen ++ b.rest) ≡ Some kept.world = ap (λ es. world_after o es) (sym b.goes_on)
    ∙ kept.runs in
    let onward : run o.shape (Some here) b.rest ≡ Some kept.world =
    sym (run_on o.shape (Some (opening o.shape o.threads)) here seen b.rest reached) ∙ arrived in
    let still_there : place_of kept.world thread ≡ place = same_place o.shape here kept.world b.rest thread b.no_own
    onward ∙ stood in
    let now : going o.shape (place_of kept.world thread) begin ≡ Some running =
    ap (λ p. going o.shape p begin) still_there ∙ from in
    let still : length kept.world.places ≡ length here.places = still_threads o.shape here kept.world b.rest onward in
    let inside : thread < length kept.world.places = omega (arith, within, still) in
    let end = moved o.shape kept.world thread running in
    let new_words : slice_set s.words i (f (slice_index s.words i)) ≡ end.words =
    (λ k. slice_set (kept.words_are k) i (same (slice_index (kept.words_are k) i) k))
    ∙ sym (words-moved o.shape kept.world thread running i word) in
    let found_is : slice_index s.words i ≡ found o.shape kept.world running =
    ap (λ ws. slice_index ws i) kept.words_are ∙ found-is o.shape kept.world running i word in
    let hand_at = λ (all_gifts : Gifts T) (n : ℕ). hand_after (move running n) (all_gifts ++ new)
    (begun_hand begin held hand) in
    let t = turned o kept.all kept.world kept.at kept.gifts s.homes thread place begin running hand held kept.runs
    inside still_there from
    kept.slots
    (λ some_tokens. subst (λ (p : Option Running). HandFits o.bare (word_at kept.world) p kept.at kept.gifts s.homes
    thread hand) still_there
    (kept.hands some_tokens id (view_of o (part thread seen gifts hand ∷ more)) at).0) carries begins o.tokens refl in
    let hand_now = hand_at kept.gifts (found o.shape kept.world running) in
    let same_hand : hand_now ≡ hand_at (gifts ++ g.0) (slice_index s.words i) = λ j. hand_at (g.1 j) (sym found_is j) in
    let w = view_of o (part thread ((seen ++ b.rest) ++ e ∷ []) ((gifts ++ g.0) ++ new) hand_now ∷ more) in
    let w' = view_of o (part thread (kept.all ++ e ∷ []) (kept.gifts ++ new) hand_now ∷ more) in
    let is_w : w' ≡ w = λ j. view_of o (part thread (b.goes_on j ++ e ∷ []) (g.1 j ++ new) hand_now ∷ more) in
    let homes = homes_after s.homes held t.act in
    let tokens : Tokens o s.homes homes s.views s.words kept end (kept.gifts ++ new) thread hand_now =
    record { at_now = t.at_now; slots = t.slots; own = t.own; others = t.others } in
    let home : hand_now.at_home ≡ hand.at_home =
    home_step (move running (found o.shape kept.world running)) (kept.gifts ++ new) (begun_hand begin held hand)
    ∙ (same_home begin held hand).0 in
    let rests : IsResting o.threads thread hand_now = λ beyond. let p = mine.resting.0 beyond in (p.0, home ∙ p.1) in
    let own_fits : 0 < o.tokens → HandFits o.bare (word_at kept.world) (place_of kept.world thread) kept.at kept.gifts
    s.homes thread hand =
    λ some_tokens. (kept.hands some_tokens id (view_of o (part thread seen gifts hand ∷ more)) at).0 in
    let turns : GiftsFit o (kept.all ++ e ∷ []) (kept.gifts ++ new) = record {
      in_turn = in_turn_on kept.all kept.gifts thread begin held kept.in_turn.in_turn;
      holder_law = λ some_tokens.
          begin_free_on o.shape (opening o.shape o.threads) kept.world kept.all e kept.runs
          (kept.in_turn.holder_law some_tokens)
          (begins_free o kept.all kept.world kept.at kept.gifts s.homes thread begin running hand held kept.runs now
          (kept.slots some_tokens) (own_fits some_tokens) (begins some_tokens) (kept.holders some_tokens));
    } in
    let made : run o.shape (Some kept.world) (e ∷ []) ≡ Some end =
    ap world_of (steps_on o.shape kept.world e running inside now) in
    let k = adds o s.words (slice_set s.words i (f (slice_index s.words i))) s.homes homes s.views id thread seen gifts
    hand hand_now more
    kept at (e ∷ []) new (λ u apart. own_other thread u begin apart) end made new_words
    (few_more o kept.all e (no_tick o.shape place begin running from) kept.few_ticks) turns tokens rests in (
      w,
      t.act,
      t.valid,
      subst (λ (x : View T). OneSchedule o (slice_set s.words i (f (slice_index s.words i))) homes (set s.views id x))
          is_w k,
      record {
        between = b.rest;
        given = g.0;
        here = kept.world;
        from = running;
        others = b.no_own;
        reached = arrived;
        within = inside;
        goes = now;
        word_is = found_is;
        taken = λ some_tokens x e. subst (λ (gs : Gifts T). (0 < x) × IsGift o.bare (beside x (gs ++ new))) g.1
            (t.taken some_tokens x (ap (move running) (sym found_is) ∙ e));
        out = t.out;
        in_turn = subst (λ (x : List Event × Gifts T). GiftsFit o (x.0 ++ e ∷ []) (x.1 ++ new))
            (λ j. (b.goes_on j, g.1 j)) turns;
        hand = hand_now;
        hand_is = same_hand;
        afterwards = refl;
        carries = t.carries;
      },
    )

-- One lemma for all kinds of step, whether they load or exchange: the word becomes what the machine writes
pub goes : {T : Type 0} (o : Opening) (slots id : ℕ) (me : Me (Option T) (View T)) (place : Option Running)
    → IsAt place me
    → (begin : Option Begin) (running : Running) (shape : Shape) → me.0.opened.shape ≡ shape
    → going shape place begin ≡ Some running
    → (a : Access) → access shape running ≡ a → (f : ℕ → ℕ) → ((n : ℕ) → f n ≡ written a n)
    → (0 < me.0.opened.tokens → BeginsWith me.0.opened.bare begin (hand_of me.0) me.1)
    → Allows (λ (s : State (Option T) (View T)). OneSchedule o s.words s.homes s.views) slots id me (accessed a) f
    (λ found w. Steps begin me found w)
goes {T} o slots id me place stood begin running shape sizes from a is f writes begins s kept homes at fits =
    let v = me.0 in
    let i = accessed a in
    let opened = (kept.fit id v at).opened in
    let from' : going v.opened.shape place begin ≡ Some running = ap (λ (x : Shape). going x place begin) sizes
    ∙ from in
    let touch : access v.opened.shape running ≡ a = ap (λ (x : Shape). access x running) sizes ∙ is in
    let writes' : (n : ℕ) → f n ≡ written (access v.opened.shape running) n =
    λ n. writes n ∙ ap (λ (x : Access). written x n) (sym touch) in
    let v' = with_seen v (seen_of v) (gifts_of v) (hand_of v) in
    let P : View T → Type 0 = λ x. (w : View T) × (a : Act (Option T)) × Valid s.homes me.1 a
    × OneSchedule o (slice_set s.words i (f (slice_index s.words i))) (homes_after s.homes me.1 a) (set s.views id w)
    × Steps begin (x, me.1) (slice_index s.words i) (w, carried_after me.1 a) in
    let Q : Opening → Type 0 = λ x. OneSchedule x s.words s.homes s.views → (w : View T) × (a : Act (Option T))
    × Valid s.homes me.1 a
    × OneSchedule x (slice_set s.words i (f (slice_index s.words i))) (homes_after s.homes me.1 a) (set s.views id w)
    × Steps begin (v', me.1) (slice_index s.words i) (w, carried_after me.1 a) in
    let got : P v' = subst Q opened
    (λ k. goes_at v.opened s id (thread_of v) (seen_of v) (gifts_of v) (hand_of v) (more_in v.parts) me.1 place
    stood.here stood.reached
    stood.within stood.place_is begin running from' i (ap accessed touch) f writes' stood.carries begins k
    (at ∙ ap some stood.seated))
    kept in
    let put = subst P (sym stood.seated) got in
    put

-- the words after a tick
ticked_words : (shape : Shape) (world : World) → word_at world (clock_at shape.k shape.n) ≤ 131072
    → slice_set world.words (clock_at shape.k shape.n) ((slice_index world.words (clock_at shape.k shape.n) + 1) % 2
    ^ 64)
    ≡ (ticked shape world).words
unfolding ticked word_at
ticked_words shape world few =
    let n = slice_index world.words (clock_at shape.k shape.n) in
    let same : (n + 1) % 2 ^ 64 ≡ n + 1 = omega arith in
    ap (λ (x : ℕ). slice_set world.words (clock_at shape.k shape.n) x) same

clock-is : (world : World) (i : ℕ) → slice_index world.words i ≡ word_at world i
unfolding word_at
clock-is world i = refl

-- a tick of an idle thread is made
ticks_on : (shape : Shape) (world : World) (thread : ℕ) → thread < length world.places → place_of world thread ≡ None
    → word_at world (clock_at shape.k shape.n) ≤ 131072
    → step shape world (event thread (Some Tick)) ≡ Ok (ticked shape world, Went)
unfolding step
ticks_on shape world thread within idle few =
    ap (λ b. cond b (step_from shape world thread (place_of world thread) (Some Tick)) (Err NoSuchThread))
    (lt-ltb thread (length world.places) within)
    ∙ ap (λ p. step_from shape world thread p (Some Tick)) idle
    ∙ ap (λ b. cond b (Err ClockSpent) (Ok (ticked shape world, Went)))
    (ne_eqb (word_at world (clock_at shape.k shape.n)) 18446744073709551615 (λ e. absurd (omega arith)))

-- a tick of an idle thread that may tick once more
draws_at : {T : Type 0} (o : Opening) (s : State (Option T) (View T)) (id : ℕ) (thread : ℕ) (seen : List Event)
    (gifts : Gifts T) (hand : Hand T) (more : List (Part T)) (here : World)
    → world_after o seen ≡ Some here → thread < length here.places → place_of here thread ≡ None → IsSmall o
    → ticks (own thread seen) < 2 * o.calls → o.tokens ≡ 0
    → OneSchedule o s.words s.homes s.views
    → get_elem? s.views id ≡ some (view_of o (part thread seen gifts hand ∷ more))
    → (w : View T) × OneSchedule o (slice_set s.words (clock_at o.shape.k o.shape.n)
    ((slice_index s.words (clock_at o.shape.k o.shape.n) + 1) % 2 ^ 64)) s.homes (set s.views id w)
    × DrawsStamp (view_of o (part thread seen gifts hand ∷ more)) (slice_index s.words (clock_at o.shape.k o.shape.n)) w
draws_at {T} o s id thread seen gifts hand more here reached within idle small room none_there kept at =
    let mine = kept.fit id (view_of o (part thread seen gifts hand ∷ more)) at in
    let g = mine.given.0 in
    let b = mine.begin.0 in
    let e = event thread (Some Tick) in
    let clock = clock_at o.shape.k o.shape.n in
    let arrived : world_after o (seen ++ b.rest) ≡ Some kept.world = ap (λ es. world_after o es) (sym b.goes_on)
    ∙ kept.runs in
    let onward : run o.shape (Some here) b.rest ≡ Some kept.world =
    sym (run_on o.shape (Some (opening o.shape o.threads)) here seen b.rest reached) ∙ arrived in
    let still_idle : place_of kept.world thread ≡ None = same_place o.shape here kept.world b.rest thread b.no_own
    onward ∙ idle in
    let still : length kept.world.places ≡ length here.places = still_threads o.shape here kept.world b.rest onward in
    let inside : thread < length kept.world.places = omega (arith, within, still) in
    let few = clock_below o kept.all kept.world small.0 small.1 kept.few_ticks kept.runs in
    let new_words : slice_set s.words clock ((slice_index s.words clock + 1) % 2 ^ 64)
    ≡ (ticked o.shape kept.world).words =
    (λ k. slice_set (kept.words_are k) clock ((slice_index (kept.words_are k) clock + 1) % 2 ^ 64))
    ∙ ticked_words o.shape kept.world few in
    let w = view_of o (part thread ((seen ++ b.rest) ++ e ∷ []) (gifts ++ g.0) hand ∷ more) in
    let w' = view_of o (part thread (kept.all ++ e ∷ []) (kept.gifts ++ []) hand ∷ more) in
    let is_w : w' ≡ w = λ j. view_of o (part thread (b.goes_on j ++ e ∷ []) ((append-nil kept.gifts ∙ g.1) j) hand
    ∷ more) in
    let tokens : Tokens o s.homes s.homes s.views s.words kept (ticked o.shape kept.world) (kept.gifts ++ []) thread
    hand =
    record {
      at_now = kept.at;
      slots = λ some_tokens. absurd (omega arith);
      own = λ some_tokens. absurd (omega arith);
      others = λ some_tokens u other ne fits. absurd (omega arith);
    } in
    let made : run o.shape (Some kept.world) (e ∷ []) ≡ Some (ticked o.shape kept.world) =
    ap world_of (ticks_on o.shape kept.world thread inside still_idle few) in
    let own_all : own thread kept.all ≡ own thread seen =
    ap (own thread) b.goes_on ∙ own-append thread seen b.rest ∙ ap (λ es. own thread seen ++ es) b.no_own
    ∙ append-nil (own thread seen) in
    let room_left : ticks (own thread kept.all) < 2 * o.calls =
    subst (λ (es : List Event). ticks es < 2 * o.calls) (sym own_all) room in
    let k = adds o s.words (slice_set s.words clock ((slice_index s.words clock + 1) % 2 ^ 64)) s.homes s.homes s.views
    id thread seen gifts
    hand hand more kept at (e ∷ []) [] (λ u apart. own_other thread u (Some Tick) apart) (ticked o.shape kept.world)
    made new_words
    (few_tick o kept.all e room_left kept.few_ticks)
    (record {
      in_turn = in_turn_on kept.all kept.gifts thread (Some Tick) [] kept.in_turn.in_turn;
      holder_law = λ some_tokens. absurd (omega arith);
    }) tokens mine.resting.0 in (
      w,
      subst (λ (x : View T). OneSchedule o (slice_set s.words clock ((slice_index s.words clock + 1) % 2 ^ 64)) s.homes
          (set s.views id x)) is_w k,
      record {
        between = b.rest;
        given = g.0;
        here = kept.world;
        others = b.no_own;
        reached = arrived;
        stamp_is = ap (λ ws. slice_index ws clock) kept.words_are ∙ clock-is kept.world clock;
        made = ticks_on o.shape kept.world thread inside still_idle few;
        afterwards = refl;
      },
    )

-- The tick keeps the rule
pub draws : {T : Type 0} (o : Opening) (slots id : ℕ) (me : Me (Option T) (View T)) (clock : ℕ)
    → clock ≡ clock_at me.0.opened.shape.k me.0.opened.shape.n → IsAt None me → me.0.opened.tokens ≡ 0
    → IsSmall me.0.opened
    → ticks (own (thread_of me.0) (seen_of me.0)) < 2 * me.0.opened.calls
    → Allows (λ (s : State (Option T) (View T)). OneSchedule o s.words s.homes s.views) slots id me clock
    (λ n. (n + 1) % 2 ^ 64)
    (λ found w. DrawsStamp me.0 found w.0 × (w.1 ≡ me.1))
draws {T} o slots id me clock clock_is stood none_there small room s kept homes at fits =
    let v = me.0 in
    let opened = (kept.fit id v at).opened in
    let v' = with_seen v (seen_of v) (gifts_of v) (hand_of v) in
    let i = clock_at v.opened.shape.k v.opened.shape.n in
    let P : View T → Type 0 = λ x. (w : View T)
    × OneSchedule o (slice_set s.words i ((slice_index s.words i + 1) % 2 ^ 64)) s.homes (set s.views id w)
    × DrawsStamp x (slice_index s.words i) w in
    let Q : Opening → Type 0 = λ x. OneSchedule x s.words s.homes s.views → (w : View T)
    × OneSchedule x (slice_set s.words i ((slice_index s.words i + 1) % 2 ^ 64)) s.homes (set s.views id w)
    × DrawsStamp v' (slice_index s.words i) w in
    let got : P v' = subst Q opened
    (λ k. draws_at v.opened s id (thread_of v) (seen_of v) (gifts_of v) (hand_of v) (more_in v.parts) stood.here
    stood.reached stood.within
    stood.place_is small room none_there k (at ∙ ap some stood.seated)) kept in
    let R : ℕ → Type 0 = λ j. (w : View T) × OneSchedule o (slice_set s.words j ((slice_index s.words j + 1) % 2 ^ 64))
    s.homes
    (set s.views id w) × DrawsStamp v (slice_index s.words j) w in
    let put = subst R (sym clock_is) (subst P (sym stood.seated) got) in
    (put.0, keeps, tt, put.1, (put.2, refl))

pub either-cond : (b : Bool) (x y : ℕ) → either b x y ≡ cond b x y
either-cond true x y = refl
either-cond false x y = refl
