-- What is left in a payload queue at its end: each token once, its payload in its slot.
use Rattle.std.proofs.Common.{◌≡◌, ◌≢◌, ◌⊎◌, ℕ, zero, suc, ◌+◌, ◌-◌, ◌*◌, ◌<◌, ◌≤◌, List, [], ◌∷◌, ◌++◌, append_assoc}
use Rattle.std.proofs.Common.{drop, length, map, get_or, set, Option, Some, None, refl, sym, ap, ◌∙◌, subst, inl, inr}
use Rattle.std.proofs.Common.{arith, cond, eq-eqb, ne_eqb, mul-le-mul_right, suc-mul}
use Rattle.std.specs.Prelude.{◌==◌, false}
use Rattle.std.proofs.lemmas.List.{append-nil, drop_more, length-replicate, map-append}
use Rattle.std.proofs.lemmas.Bool.{cases_eq}
use Rattle.std.proofs.lemmas.Bool.Decides.{nat_tests}
use mathlib.Core.Option.{some, some-ne-none, some-injective}
use lib.ListN.{get_elem?}
use Rattle.atomic_table.specs.Table.{Me, State, Final, Seen}
use Rattle.atomic_table.specs.Seated.{TableId}
use Rattle.kfifo_live.proofs.Types.{Event, Opening, Running, Shape, View}
use Rattle.kfifo_words.specs.Words.{value_of, head_of}
use Rattle.kfifo_words.specs.Ring.{clock_at, next_segment, slot_at}
use Rattle.std.specs.List.{AllByRecursion}
use Rattle.kfifo_machine.specs.Machine.{World, opening, run, word_at}
use Rattle.kfifo_machine.specs.Runs.{Begins, own}
use Rattle.kfifo_machine.proofs.Schedules.{first_made, made_within, own_none, run_on, still_threads}
use Rattle.kfifo_live.specs.Balance.{times, undos, takes}
use Rattle.kfifo_live.specs.Hands.{Gifts, In, IsGift, beside}
use Rattle.kfifo_live.specs.Left.{item_in, slots_left, segments_left, items_left}
use Rattle.kfifo_live.specs.Pass.{AllIdle, AllSeen, OpenQueue}
use Rattle.kfifo_live.specs.Payloads.{EndsIn, HavePayloads, IsEnded, PayCloses, PayJoins, PayPassView, in_slot}
use Rattle.kfifo_live.specs.Payloads.{passes_of, pay_pass_view}
use Rattle.kfifo_live.specs.Schedule.{OneSchedule, gifts_of, seen_of, world_after}
use Rattle.kfifo_live.proofs.Balance.{balance}
use Rattle.kfifo_live.proofs.ClosedEmpty.{sealed_closes}
use Rattle.kfifo_live.proofs.Gathered.{final_head, pass_ends, pass_idle}
use Rattle.kfifo_live.proofs.Givers.{who_put}
use Rattle.kfifo_live.proofs.TakenGifts.{was_put}
use Rattle.kfifo_live.proofs.Hands.{within_list}
use Rattle.kfifo_live.proofs.Leftovers.{filled_item}
use Rattle.kfifo_live.proofs.Passes.{keeps_promise, pass_thread}
use Rattle.kfifo_live.proofs.Rotation.{sum, times_at, times-left}
use Rattle.kfifo_model.proofs.Lists.{AllByRecursion-append}

-- a sum of which one term at most is 1, the others 0
sum_none : (f : ℕ → ℕ) (i m : ℕ) → ((j : ℕ) → i ≤ j → j < i + m → f j ≡ 0) → sum f i m ≡ 0
sum_none f i zero none = refl
sum_none f i (suc m) none =
    let here : f i ≡ 0 = none i (omega arith) (omega arith) in
    let later : sum f (suc i) m ≡ 0 = sum_none f (suc i) m (λ j low high. none j (omega arith) (omega arith)) in
    omega arith

sum_once : (f : ℕ → ℕ) (i m : ℕ) → ((j : ℕ) → f j ≤ 1) → ((j l : ℕ) → i ≤ j → j < l → l < i + m → f j ≡ 1 → f l ≡ 0)
    → sum f i m ≤ 1
sum_once f i zero one once = omega arith
sum_once f i (suc m) one once =
    elim (cases_eq (f i) 1) [
      | inl is ↦
          let later : sum f (suc i) m ≡ 0 =
          sum_none f (suc i) m (λ j low high. once i j (omega arith) (omega arith) (omega arith) is) in
          omega arith
      | inr not ↦
          let le = one i in
          let later : sum f (suc i) m ≤ 1 = sum_once f (suc i) m one
          (λ j l low less high is. once j l (omega arith) less (omega arith) is) in
          omega arith
    ]

no_item : (word : ℕ) → value_of word ≡ 0 → item_in word ≡ []
no_item word empty = ap (λ b. cond b [] (value_of word ∷ [])) (eq-eqb (value_of word) 0 empty)

-- a slot's word has an item once at most
item_once : (x word : ℕ) → (times x (item_in word) ≡ 0)
    ⊎ ((times x (item_in word) ≡ 1) × (value_of word ≡ x) × (value_of word ≢ 0))
item_once x word =
    elim (cases_eq (value_of word) 0) [
      | inl empty ↦ inl (ap (times x) (no_item word empty))
      | inr filled ↦
          let all = ap (times x) (filled_item word filled) in
          elim (cases_eq (value_of word) x) [
            | inl same ↦ let t : cond {A = ℕ} (value_of word == x) 1 0 ≡ 1 =
                ap (λ b. cond {A = ℕ} b 1 0) (eq-eqb (value_of word) x same) in
                inr ((omega (arith, all, t)), same, filled)
            | inr other ↦ let t : cond {A = ℕ} (value_of word == x) 1 0 ≡ 0 =
                ap (λ b. cond {A = ℕ} b 1 0) (ne_eqb (value_of word) x other) in inl (omega (arith, all, t))
          ]
    ]

-- words that name an item at one index alone leave it once at most
pub left_once : (x : ℕ) (shape : Shape) (words : List ℕ) → head_of (get_or words 0 0) < shape.n
    → ((i j : ℕ) → 0 < i → i < clock_at shape.k shape.n → 0 < j → j < clock_at shape.k shape.n
    → value_of (get_or words i 0) ≡ x
    → value_of (get_or words j 0) ≡ x → x ≢ 0 → i ≡ j) → times x (items_left shape words) ≤ 1
left_once x shape words head one =
    let all = times-left x shape words head in
    let few = sum_once (times_at x words) 1 (shape.n * shape.k)
    (λ j. elim (item_once x (get_or words j 0)) [
      | inl none ↦ omega arith
      | inr has ↦ let t = has.0 in omega arith
    ])
    (λ j l low less high is.
    elim (item_once x (get_or words j 0)) [
      | inl none ↦ absurd (omega arith)
      | inr at_j ↦
          elim (item_once x (get_or words l 0)) [
            | inl none ↦ none
            | inr at_l ↦ let same = one j l (omega arith) (omega arith) (omega arith) (omega arith) at_j.1 at_l.1
                (λ e. at_j.2 (at_j.1 ∙ e)) in absurd (omega arith)
          ]
    ]) in
    omega arith

next_below : (n s : ℕ) → s < n → next_segment n s < n
unfolding next_segment
next_below n s h = grind (arith, nat_tests)

-- what is so of the item of each filled slot is so of all that is left
module _ (shape : Shape) (words : List ℕ) (P : ℕ → Type 0)
    (each : (i : ℕ) → 0 < i → i < clock_at shape.k shape.n → value_of (get_or words i 0) ≢ 0
    → P (value_of (get_or words i 0))) where
  each_item : (i : ℕ) → 0 < i → i < clock_at shape.k shape.n → AllByRecursion P (item_in (get_or words i 0))
  each_item i above within =
      elim (cases_eq (value_of (get_or words i 0)) 0) [
        | inl empty ↦ subst (AllByRecursion P) (sym (no_item (get_or words i 0) empty)) tt
        | inr filled ↦ subst (AllByRecursion P) (sym (filled_item (get_or words i 0) filled))
            (each i above within filled, tt)
      ]

  each_slot : (index count : ℕ) → 0 < index → index + count ≤ clock_at shape.k shape.n
      → AllByRecursion P (slots_left words index count)
  each_slot index zero above within = tt
  each_slot index (suc count) above within =
      AllByRecursion-append P (item_in (get_or words index 0)) (slots_left words (suc index) count)
      (each_item index above (omega arith))
      (each_slot (suc index) count (omega arith) (omega arith))

  each_segment : (segment count : ℕ) → segment < shape.n → AllByRecursion P (segments_left shape words segment count)
  each_segment segment zero less = tt
  each_segment segment (suc count) less =
      let up = mul-le-mul_right shape.k (let le : suc segment ≤ shape.n = omega arith in le) in
      let more = suc-mul segment shape.k in
      AllByRecursion-append P (slots_left words (slot_at shape.k segment 0) shape.k)
      (segments_left shape words (next_segment shape.n segment) count)
      (each_slot (slot_at shape.k segment 0) shape.k (omega arith) (omega (arith, up, more)))
      (each_segment (next_segment shape.n segment) count (next_below shape.n segment less))

  pub each_left : head_of (get_or words 0 0) < shape.n → AllByRecursion P (items_left shape words)
  each_left head = each_segment (head_of (get_or words 0 0)) shape.n head

get_or_at : {A : Type 0} (d : A) (xs : List A) (i : ℕ) (x : A) → get_elem? xs i ≡ some x → get_or xs i d ≡ x
get_or_at d [] i x e = absurd (some-ne-none x (sym e))
get_or_at d (y ∷ ys) zero x e = some-injective y x e
get_or_at d (y ∷ ys) (suc i) x e = get_or_at d ys i x e

module _ {T : Type 0} where
  -- the slot of this token has the payload that was last given with it
  abbrev HasGift : List (Option T) → Gifts T → ℕ → Type 0
  HasGift slots gifts x = (0 < x) × (x ≤ length slots) × ((payload : T) × (in_slot slots x ≡ Some payload))
      × (in_slot slots x ≡ beside x gifts)

  have_payloads : (slots : List (Option T)) (gifts : Gifts T) (tokens : List ℕ)
      → AllByRecursion (HasGift slots gifts) tokens
      → ((x : ℕ) → times x tokens ≤ 1) → HavePayloads slots tokens
  have_payloads slots gifts [] all once = tt
  have_payloads slots gifts (x ∷ xs) all once =
      let one = once x in
      let t : cond {A = ℕ} (x == x) 1 0 ≡ 1 = ap (λ b. cond {A = ℕ} b 1 0) (eq-eqb x x refl) in (
        (all.0.0, all.0.1, all.0.2, (omega (arith, one, t))),
        have_payloads slots gifts xs all.1 (λ y. let le = once y in omega (arith, le)),
      )

  gifts_are : (slots : List (Option T)) (gifts : Gifts T) (tokens : List ℕ)
      → AllByRecursion (HasGift slots gifts) tokens
      → map (in_slot slots) tokens ≡ map (λ x. beside x gifts) tokens
  gifts_are slots gifts [] all = refl
  gifts_are slots gifts (x ∷ xs) all = λ i. all.0.3 i ∷ gifts_are slots gifts xs all.1 i

  -- one payload is taken out, which no later token names
  pub still_there : (slots : List (Option T)) (x : ℕ) (tokens : List ℕ) → 0 < x → times x tokens ≡ 0
      → HavePayloads slots tokens
      → HavePayloads (set slots (x - 1) None) tokens
      × (map (in_slot (set slots (x - 1) None)) tokens ≡ map (in_slot slots) tokens)
  still_there slots x [] above apart have = (tt, refl)
  still_there slots x (y ∷ ys) above apart have =
      let other : y ≢ x = λ e. absurd (let t : cond {A = ℕ} (y == x) 1 0
      ≡ 1 = ap (λ b. cond {A = ℕ} b 1 0) (eq-eqb y x e) in omega (arith, apart, t)) in
      let positive = have.0.0 in
      let same : in_slot (set slots (x - 1) None) y ≡ in_slot slots y =
      set_other slots (x - 1) (y - 1) (λ e. other (omega (arith, e, above, positive))) in
      let size = length_set slots (x - 1) None in
      let within = have.0.1 in
      let later = still_there slots x ys above (omega (arith, apart)) have.1 in (
        ((positive, (omega (arith, size, within)), (have.0.2.0, same ∙ have.0.2.1), have.0.3), later.0),
        (λ i. same i ∷ later.1 i),
      )
    where
      set_other : (xs : List (Option T)) (i j : ℕ) → j ≢ i → get_or (set xs i None) j None ≡ get_or xs j None
      set_other [] i j apart = refl
      set_other (x ∷ xs) zero zero apart = absurd (apart refl)
      set_other (x ∷ xs) zero (suc j) apart = refl
      set_other (x ∷ xs) (suc i) zero apart = refl
      set_other (x ∷ xs) (suc i) (suc j) apart = set_other xs i j (λ e. apart (ap suc e))

      length_set : (xs : List (Option T)) (i : ℕ) (a : Option T) → length (set xs i a) ≡ length xs
      length_set [] i a = refl
      length_set (x ∷ xs) zero a = refl
      length_set (x ∷ xs) (suc i) a = ap suc (length_set xs i a)

module _ {T : Type 0} where
  get_or_any : (xs : List (Option T)) (i : ℕ) (d e : Option T) → i < length xs → get_or xs i d ≡ get_or xs i e
  get_or_any [] i d e less = absurd (omega arith)
  get_or_any (x ∷ xs) zero d e less = refl
  get_or_any (x ∷ xs) (suc i) d e less = get_or_any xs i d e (omega (arith, less))

  -- the payload of the next token is picked
  pub picks : (slots first : List (Option T)) (tokens : List ℕ) (index : ℕ) (payloads : List T) (payload : T)
      (held : Option T)
      → index < length tokens → HavePayloads slots (drop index tokens)
      → held ≡ get_or slots (get_or tokens index 0 - 1) held → held ≡ Some payload
      → map Some payloads ++ map (in_slot slots) (drop index tokens) ≡ map (in_slot first) tokens
      → HavePayloads (set slots (get_or tokens index 0 - 1) None) (drop (index + 1) tokens)
      × (map Some (payloads ++ payload ∷ []) ++ map (in_slot (set slots (get_or tokens index 0 - 1) None))
      (drop (index + 1) tokens)
      ≡ map (in_slot first) tokens)
  picks slots first tokens index payloads payload held less have there is upto =
      let x = get_or tokens index 0 in
      let later = drop (index + 1) tokens in
      let more = drop_more tokens index 0 less in
      let all = subst (HavePayloads slots) more have in
      let positive = all.0.0 in
      let within = all.0.1 in
      let here : Some payload ≡ in_slot slots x = sym is ∙ there
      ∙ get_or_any slots (x - 1) held None (omega (arith, positive, within)) in
      let left = still_there slots x later all.0.0 all.0.3 all.1 in (
        left.0,
        ap (λ ys. ys ++ map (in_slot (set slots (x - 1) None)) later) (map-append Some payloads (payload ∷ []))
            ∙ append_assoc (map Some payloads) (Some payload ∷ []) (map (in_slot (set slots (x - 1) None)) later)
            ∙ (λ i. map Some payloads ++ here i ∷ left.1 i)
            ∙ ap (λ ys. map Some payloads ++ map (in_slot slots) ys) (sym more)
            ∙ upto,
      )

In-injective : (i j : ℕ) → In i ≡ In j → i ≡ j
In-injective i j e = cc

-- with one thread no event of another follows
none_other : (shape : Shape) (here there : World) (rest : List Event) → length here.places ≡ 1
    → run shape (Some here) rest ≡ Some there
    → own 0 rest ≡ [] → rest ≡ []
none_other shape here there [] one is none = refl
none_other shape here there (e ∷ es) one is none =
    let m = first_made shape here e there es is in
    let within = made_within shape here e m.0 m.1.0 m.1.1.0 in
    absurd ((own_none 0 e es none).0 (omega (arith, within, one)))

threads_are : (o : Opening) (seen : List Event) (here : World) → world_after o seen ≡ Some here
    → length here.places ≡ o.threads
unfolding opening
threads_are o seen here reached =
    let idle : Option Running = None in
    still_threads o.shape (opening o.shape o.threads) here seen reached ∙ length-replicate o.threads idle

all_seen : {T : Type 0} (all : List Event) (gifts : Gifts T) (ps : List (PayPassView T))
    → AllByRecursion (EndsIn all gifts) ps
    → AllSeen (passes_of ps) all
all_seen all gifts [] ends = tt
all_seen all gifts (p ∷ ps) ends = (ends.0.0, all_seen all gifts ps ends.1)

none_mapped : {T : Type 0} (xs : List T) → map Some xs ≡ [] → xs ≡ []
none_mapped [] e = refl
none_mapped (x ∷ xs) e = absurd (cc)

module _ {T : Type 0} (q : OpenQueue) (table : TableId) {thread id : ℕ} {me : Me (Option T) (View T)} {words : List ℕ}
    (slots : List (Option T)) (others : List (PayPassView T)) {w : View T} (p : IsEnded thread me)
    (same : me.0.opened ≡ q.opened) (joined : PayJoins me.0 others w) (f : Final
    (Seen (λ (s : State (Option T) (View T)). OneSchedule q.opened s.words s.homes s.views) id w) words slots) where
  kept : OneSchedule q.opened f.0.words f.0.homes f.0.views
  kept = f.1.0

  words_are : words ≡ kept.world.words
  unfolding kept
  words_are = sym f.2 ∙ kept.words_are

  some_tokens : 0 < q.opened.tokens
  some_tokens = subst (λ (o : Opening). 0 < o.tokens) same p.1

  with_payloads : q.opened.bare ≡ false
  with_payloads = ap (λ (o : Opening). o.bare) (sym same) ∙ p.2

  tokens : List ℕ
  tokens = items_left q.opened.shape words

  head : head_of (get_or words 0 0) < q.opened.shape.n
  head = final_head slots words q.opened id w f

  -- the filled slot with an index
  filled_slot : (i : ℕ) → 0 < i → i < clock_at q.opened.shape.k q.opened.shape.n → value_of (get_or words i 0) ≢ 0
      → HasGift slots kept.gifts (value_of (get_or words i 0))
  unfolding kept word_at
  filled_slot i above below filled =
      let at = ap (λ ws. get_or ws i 0) words_are in
      let x = value_of (get_or words i 0) in
      let P : ℕ → Type 0 = λ w. value_of w ≢ 0 → ((payload : T) × (beside (value_of w) kept.gifts ≡ Some payload))
      × (get_elem? f.0.homes (value_of w - 1) ≡ some (some (beside (value_of w) kept.gifts))) in
      let fits = subst P (sym at) (λ full. let all = kept.slots some_tokens i above below full in (
        subst (λ b. IsGift b (beside (value_of (word_at kept.world i)) kept.gifts)) with_payloads all.1,
        all.2,
      )) filled in
      let there = f.4 (x - 1) (beside x kept.gifts) fits.1 in
      let inside = within_list slots (x - 1) (beside x kept.gifts) there in
      let is = get_or_at None slots (x - 1) (beside x kept.gifts) there in (
        (not_zero x filled),
        (omega (arith, inside)),
        (fits.0.0, is ∙ fits.0.1),
        is,
      )
    where
      not_zero : (n : ℕ) → n ≢ 0 → 0 < n
      not_zero zero ne = absurd (ne refl)
      not_zero (suc n) ne = omega arith

  all_filled : AllByRecursion (HasGift slots kept.gifts) tokens
  unfolding tokens
  all_filled = each_left q.opened.shape words (HasGift slots kept.gifts) filled_slot head

  tokens_once : (x : ℕ) → times x tokens ≤ 1
  unfolding tokens kept word_at
  tokens_once x =
      left_once x q.opened.shape words head
      (λ i j above_i below_i above_j below_j at_i at_j filled.
      In-injective i j (sym (where_is i above_i below_i at_i filled) ∙ where_is j above_j below_j at_j filled))
    where
      where_is : (i : ℕ) → 0 < i → i < clock_at q.opened.shape.k q.opened.shape.n → value_of (get_or words i 0) ≡ x
          → x ≢ 0
          → kept.at x ≡ In i
      where_is i above below is filled =
          let there = ap (λ ws. value_of (get_or ws i 0)) (sym words_are) ∙ is in
          ap kept.at (sym there) ∙ (kept.slots some_tokens i above below (λ e. filled (sym there ∙ e))).0

  pub left_payloads : HavePayloads slots (items_left q.opened.shape words)
  unfolding tokens
  left_payloads = have_payloads slots kept.gifts tokens all_filled tokens_once

  pub pay_closes : (payloads : List T) → map Some payloads ≡ map (in_slot slots) (items_left q.opened.shape words)
      → PayCloses q (pay_pass_view table thread me.0) others payloads
  unfolding kept tokens
  pay_closes payloads are =
      let o = q.opened in
      let few = subst (λ (x : Opening). x.threads ≤ 64) same p.0.few.0 in
      let fit = kept.fit id w f.1.1 in
      let seen = seen_of me.0 in
      let parts = joined.all_end kept.all kept.gifts fit.begin fit.given in
      let ended : Begins thread seen kept.all × ((later : Gifts T) × (kept.gifts ≡ gifts_of me.0 ++ later)) =
      pass_ends thread me (pay_pass_view table thread me.0) kept.all kept.gifts p.0 refl refl refl parts.0.0
      parts.0.1 in
      let b : Begins thread seen kept.all = ended.0 in
      let tokens_are : items_left o.shape words ≡ items_left o.shape kept.world.words =
      ap (items_left o.shape) words_are in
      record {
        all = kept.all;
        gifts = kept.gifts;
        world = kept.world;
        tokens = items_left o.shape words;
        reached = kept.runs;
        ends = (ended, parts.1);
        alone = λ one.
            let here = p.0.idle.here in
            let reached : world_after o seen ≡ Some here = ap (λ (x : Opening). world_after x seen) (sym same)
            ∙ p.0.idle.reached in
            let size = threads_are o seen here reached in
            let within = p.0.idle.within in
            let mine = pass_thread thread me p.0 in
            let zero_is : thread ≡ 0 = omega (arith, within, size, one, mine) in
            let arrived : world_after o (seen ++ b.rest) ≡ Some kept.world = ap (world_after o) (sym b.goes_on)
            ∙ kept.runs in
            let onward = sym (run_on o.shape (Some (opening o.shape o.threads)) here seen b.rest reached) ∙ arrived in
            let none = none_other o.shape here kept.world b.rest (size ∙ one) onward
            (ap (λ t. own t b.rest) (sym zero_is) ∙ b.no_own) in
            b.goes_on ∙ ap (λ es. seen ++ es) none ∙ append-nil seen;
        in_turn = kept.in_turn.in_turn;
        holder_law = kept.in_turn.holder_law some_tokens;
        tokens_are = tokens_are;
        payloads_are = are ∙ gifts_are slots kept.gifts tokens all_filled;
        were_put = λ i above below filled. was_put o kept.all kept.gifts i (word_at kept.world i)
            (value_of (word_at kept.world i)) kept.in_turn.in_turn
            (who_put o kept.all kept.world kept.runs (kept.in_turn.holder_law some_tokens) i above below filled);
        balance = λ token. balance o kept.all kept.world token kept.runs
            ∙ ap (λ xs. undos token o kept.all + (takes token o kept.all + times token xs)) (sym tokens_are);
        promise = keeps_promise o kept.all kept.world few kept.runs;
        sealed = λ each one.
            let mine = pay_pass_view table thread me.0 in
            let idle : AllIdle o (passes_of (mine ∷ others)) = (
              pass_idle o thread me mine.pass p.0 same refl refl,
              subst (λ (x : Opening). AllIdle x (passes_of others)) same joined.all_idle,
            ) in
            let none : items_left o.shape kept.world.words ≡ [] =
            sealed_closes o (passes_of (mine ∷ others)) kept.all kept.world few kept.runs
            (all_seen kept.all kept.gifts (mine ∷ others) (ended, parts.1)) idle each one in
            none_mapped payloads (are ∙ ap (map (in_slot slots)) (tokens_are ∙ none));
      }
