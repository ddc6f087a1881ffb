-- For a plain history the kinds 1 to 4 are enough: where one of the kinds 5 to 7 is there, one of these is.
use Rattle.std.proofs.Common.{ℕ, zero, suc, ◌≡◌, ◌<◌, ◌≤◌, ◌+◌, ◌&&◌, Bool, true, false, List, Option, Some, None, cond}
use Rattle.std.proofs.Common.{leb, length, refl, sym, subst, inl, inr, arith, ◌∙◌}
use Rattle.std.proofs.lemmas.Bool.{and_from, and_parts, cases_lt, le-leb, ltb-true}
use Rattle.kfifo_verdict.proofs.Types.{Call, End}
use Rattle.kfifo_model.specs.Histories.{call, does, EndsBelow, HasEnd}
use Rattle.kfifo_model.specs.Overtaking.{adds, takes, ends_below}
use Rattle.kfifo_model.specs.Validity.{IsHistory}
use Rattle.kfifo_model.proofs.Lists.{each_at, each_from}
use Rattle.kfifo_verdict.specs.Evidence.{Gets, HasItemsLeft, IsCertainlyThere, IsLeft, IsNeverPut, IsOlder, IsOlderCopy}
use Rattle.kfifo_verdict.specs.Evidence.{IsOlderLeft, IsTakenTooSoon, IsTakenTwice, IsTooYoung, count_below, gets_begun}
use Rattle.kfifo_verdict.specs.Evidence.{gets_of, gets_ended, last_step, puts_begun, puts_ended, puts_of}
use Rattle.kfifo_verdict.specs.Finding.{HasGaps}
use Rattle.kfifo_verdict.specs.Judging.{GotTooYoung, HasNoEvidence, HasNoneForEachK, HasNoneTo3, IsPlain, Never}
use Rattle.kfifo_verdict.proofs.Covering.{moment_here}
use Rattle.kfifo_verdict.proofs.Skipping.{none_below}
use Rattle.kfifo_verdict.proofs.Refuting.{adds_is, got_ended, put_inside, takes_is}
use Rattle.kfifo_verdict.proofs.Telling.{gets_pass, got_inside, puts_pass}

-- ---- how many numbers pass a test

some_step : (t : ℕ → Bool) (n : ℕ) (b : Bool) → t n ≡ b → 0 < count_below t n + cond b 1 0
    → (0 < count_below t n → (c : ℕ) × (c < n) × (t c ≡ true)) → (c : ℕ) × (c < suc n) × (t c ≡ true)
some_step t n true is lt more = (n, omega arith, is)
some_step t n false is lt more =
    let r = more (omega (arith, lt)) in
    let below = r.1 in
    (r.0, omega (arith, below), r.2)

some_below : (t : ℕ → Bool) (n : ℕ) → 0 < count_below t n → (c : ℕ) × (c < n) × (t c ≡ true)
some_below t zero lt = absurd (omega (arith, lt))
some_below t (suc n) lt = some_step t n (t n) refl lt (some_below t n)

abbrev IsAlone : (ℕ → Bool) → ℕ → Type 0
IsAlone t n = (c d : ℕ) → c < n → d < n → t c ≡ true → t d ≡ true → c ≡ d

one_step : (t : ℕ → Bool) (n : ℕ) (b : Bool) → t n ≡ b → IsAlone t (suc n) → count_below t n ≤ 1
    → count_below t n + cond b 1 0 ≤ 1
one_step t n false is alone le = omega (arith, le)
one_step t n true is alone le =
    elim (cases_lt 0 (count_below t n)) [
      | inl some ↦ (
          let r = some_below t n some in
          let below = r.1 in
          let same = alone r.0 n (omega (arith, below)) (omega arith) r.2 is in
          absurd (omega (arith, below, same))
          )
      | inr none ↦ omega (arith, none)
    ]

at_most_one : (t : ℕ → Bool) (n : ℕ) → IsAlone t n → count_below t n ≤ 1
at_most_one t zero alone = omega arith
at_most_one t (suc n) alone =
    one_step t n (t n) refl alone
    (at_most_one t n (λ c d lt more holds too. alone c d (omega (arith, lt)) (omega (arith, more)) holds too))

-- ---- calls by their ends

ends_from : (o : Option End) (s : ℕ) → ends_below o s ≡ true → EndsBelow o s
ends_from (Some end) s is = ltb-true end.last s is
ends_from None s is = absurd (cc)

not_below_last : (o : Option End) → EndsBelow o (last_step o) → ⊥
not_below_last (Some end) lt = omega (arith, lt)
not_below_last None e = e

ends_later : (o : Option End) (s : ℕ) → HasEnd o → last_step o < s → EndsBelow o s
ends_later (Some end) s has lt = lt
ends_later None s has lt = has

-- ---- 7: then it is 4

copy_is_older : (h : List Call) (get put p : ℕ) → IsPlain h → (x : ℕ) → Gets h x get → IsOlderCopy h get put p
    → IsOlder h get put p
copy_is_older h get put p plain x gets copy =
    let y = copy.item in
    let single = plain.0 y p copy.puts in
    let step = last_step (call h p).end in
    let ended : ℕ → Bool = λ c. adds y (does h c) && ends_below (call h c).end step in
    let none : puts_ended h y step ≤ 0 = elim (cases_lt 0 (count_below ended (length h))) [
      | inl some ↦ (
          let r = some_below ended (length h) some in
          let two = and_parts (adds y (does h r.0)) (ends_below (call h r.0).end step) r.2 in
          let same = single.alone r.0 (adds_is y (does h r.0) two.0) in
          let E : ℕ → Type 0 = λ c. EndsBelow (call h c).end step in
          absurd (not_below_last (call h p).end (subst E same (ends_from (call h r.0).end step two.1)))
          )
      | inr le ↦ le
    ] in
    let late = last_step (call h get).end in
    let kept = copy.kept in
    let unbegun : gets_begun h y late ≤ 0 = omega (arith, none, kept) in
    record {
      item = y;
      single = single;
      before = copy.before;
      kept = λ g took. ends_later (call h get).end (call h g).first (got_ended h x get gets)
          (elim (cases_lt late (call h g).first) [
            | inl lt ↦ lt
            | inr le ↦ absurd (none_below (λ c. takes y (does h c) && leb (call h c).first late) (length h) g unbegun
                (got_inside h y g took)
                (and_from (takes y (does h g)) (leb (call h g).first late) (gets_pass h y g took)
                (le-leb (call h g).first late le)))
          ]);
    }

older_is_young : (k : ℕ) (h : List Call) (get : ℕ) (puts : List ℕ) → IsPlain h → IsOlderLeft k h get puts
    → IsTooYoung k h get puts
older_is_young k h get puts plain o = record {
  item = o.item;
  put = o.put;
  gets = o.gets;
  single = plain.0 o.item o.put o.adds_it;
  older = each_from (IsOlder h get o.put) puts (λ p inside. copy_is_older h get o.put p plain o.item o.gets
      (each_at (IsOlderCopy h get o.put) p puts o.older inside));
  rising = o.rising;
  count = o.count;
}

-- ---- 5: then it is 1

too_soon_never : (h : List Call) (get : ℕ) → IsPlain h → IsTakenTooSoon h get → IsNeverPut h get
too_soon_never h get plain s = (
  s.0,
  s.1,
  λ p puts. (
      let x = s.0 in
      let step = last_step (call h get).end in
      let single = plain.0 x p puts in
      let ended : ℕ → Bool = λ c. takes x (does h c) && leb (last_step (call h c).end) step in
      let one : gets_ended h x step ≤ 1 = at_most_one ended (length h) (λ c d lt more holds too. single.once c d
      (takes_is x (does h c) (and_parts (takes x (does h c)) (leb (last_step (call h c).end) step) holds).0)
      (takes_is x (does h d) (and_parts (takes x (does h d)) (leb (last_step (call h d).end) step) too).0)) in
      let over = s.2 in
      let none : puts_begun h x step ≤ 0 = omega (arith, one, over) in
      ends_later (call h get).end (call h p).first (got_ended h x get s.1) (elim (cases_lt step (call h p).first) [
        | inl lt ↦ lt
        | inr le ↦ absurd (none_below (λ c. adds x (does h c) && leb (call h c).first step) (length h) p none
            (put_inside h x p puts)
            (and_from (adds x (does h p)) (leb (call h p).first step) (puts_pass h x p puts)
            (le-leb (call h p).first step le)))
      ])
      ),
)

-- ---- 2: then it is 1

pub twice_never : (h : List Call) (get : ℕ) → IsPlain h → IsTakenTwice h get → IsNeverPut h get
twice_never h get plain twice = (
  twice.0,
  twice.1,
  λ p puts. (
      let x = twice.0 in
      let single = plain.0 x p puts in
      let one : gets_of h x ≤ 1 = at_most_one (λ c. takes x (does h c)) (length h)
      (λ c d lt more holds too. single.once c d (takes_is x (does h c) holds) (takes_is x (does h d) too)) in
      let over = twice.3 in
      let none : puts_of h x ≤ 0 = omega (arith, one, over) in
      absurd (none_below (λ c. adds x (does h c)) (length h) p none (put_inside h x p puts) (puts_pass h x p puts))
      ),
)

-- ---- 6: then it is 3

left_is_there : (h : List Call) (x moment : ℕ) → IsPlain h → IsLeft h x moment → (p : ℕ) × IsCertainlyThere h p moment
left_is_there h x moment plain left =
    let ended : ℕ → Bool = λ c. adds x (does h c) && ends_below (call h c).end moment in
    let r = some_below ended (length h) (omega (arith, left)) in
    let p = r.0 in
    let two = and_parts (adds x (does h p)) (ends_below (call h p).end moment) r.2 in
    let single = plain.0 x p (adds_is x (does h p) two.0) in
    let one : puts_ended h x moment ≤ 1 = at_most_one ended (length h) (λ c d lt more holds too.
    single.alone c (adds_is x (does h c) (and_parts (adds x (does h c)) (ends_below (call h c).end moment) holds).0)
    ∙ sym (single.alone d
    (adds_is x (does h d) (and_parts (adds x (does h d)) (ends_below (call h d).end moment) too).0))) in
    let none : gets_begun h x moment ≤ 0 = omega (arith, one, left) in (
      p,
      record {
        item = x;
        single = single;
        put = ends_from (call h p).end moment two.1;
        kept = λ g took. elim (cases_lt moment (call h g).first) [
          | inl lt ↦ lt
          | inr le ↦ absurd (none_below (λ c. takes x (does h c) && leb (call h c).first moment) (length h) g none
              (got_inside h x g took)
              (and_from (takes x (does h g)) (leb (call h g).first moment) (gets_pass h x g took)
              (le-leb (call h g).first moment le)))
        ];
      },
    )

none_left : (h : List Call) (c : ℕ) → IsHistory h → IsPlain h → HasGaps h → HasItemsLeft h c → ⊥
none_left h c history plain gaps left =
    let gap = gaps c left.empty in
    let here = left.left gap.0 gap.2 (moment_here h c gap.0 history gap.1 gap.2 gap.3) in
    let there = left_is_there h here.0 (call h gap.0).first plain here.1 in
    gap.4 there.0 there.1

-- ---- all of them

pub plain_none : (k : ℕ) (h : List Call) → IsHistory h → IsPlain h → HasNoneTo3 h → HasGaps h → Never (GotTooYoung k h)
    → HasNoEvidence k h
plain_none k h history plain none gaps young = (
  none.0,
  none.1,
  none.2,
  young,
  (λ get soon. none.0 get (too_soon_never h get plain soon)),
  (λ c left. none_left h c history plain gaps left),
  (λ get older. young get (older.0, older_is_young k h get older.0 plain older.1)),
)

pub plain_none_for_each : (h : List Call) → IsHistory h → IsPlain h → HasNoneTo3 h → HasGaps h → HasNoneForEachK h
plain_none_for_each h history plain none gaps = (
  none.0,
  none.1,
  none.2,
  (λ get soon. none.0 get (too_soon_never h get plain soon)),
  (λ c left. none_left h c history plain gaps left),
)
