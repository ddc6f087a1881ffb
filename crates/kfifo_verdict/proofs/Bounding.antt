-- The items that count at a moment, and the lower bound of k.
use Rattle.std.proofs.Common.{ℕ, zero, suc, ◌≡◌, ◌≢◌, ◌+◌, ◌-◌, ◌<◌, ◌≤◌, ◌⊎◌, ◌&&◌, min, max, Bool, true, false, cond}
use Rattle.std.proofs.Common.{leb, ltb, eqb, List, Option, length, get_or, set, refl, sym, ◌∙◌, ap, subst, inl, inr}
use Rattle.std.proofs.Common.{arith, get_or-set_other, get_or-set_same}
use Rattle.std.proofs.lemmas.Bool.{cases_lt, cases_eq, cases_Bool, and_parts, and_from, leb-true, le-leb}
use Rattle.std.proofs.lemmas.Bool.{false_from_ne_true}
use Rattle.std.proofs.lemmas.Bool.Decides.{nat_tests}
use Rattle.std.proofs.lemmas.List.{get_or_default}
use Rattle.kfifo_verdict.proofs.Types.{Call, End, Presence}
use Rattle.kfifo_model.specs.Histories.{call}
use Rattle.kfifo_model.specs.Validity.{IsHistory}
use Rattle.kfifo_verdict.specs.Evidence.{Gets, count_below, IsSingle}
use Rattle.kfifo_verdict.specs.Finding.{IsStart, ArePresences, no_presence, lasts_at}
use Rattle.kfifo_verdict.specs.Judging.{GotTooYoung, IsLowerBound}
use Rattle.kfifo_verdict.specs.Bound.{IsEndOfGet, IsOwnEnd, IsSoonest, AreSoonest, since, until, counts_at, counts_from}
use Rattle.kfifo_verdict.specs.Bound.{counts_until, AreChanges, IsMostAtOnce}
use Rattle.kfifo_verdict.specs.declared.bound.Changes.{Changes}
use Rattle.kfifo_verdict.proofs.ItemPresence.{same_put}
use Rattle.kfifo_verdict.proofs.Counting.{below_more}
use Rattle.kfifo_verdict.proofs.Moments.{precedes_below}
use Rattle.kfifo_verdict.proofs.Refuting.{put_inside}
use Rattle.kfifo_verdict.proofs.Skipping.{count_rises, count_flat, none_below}
use Rattle.kfifo_verdict.proofs.Telling.{same_item}
use Rattle.kfifo_verdict.proofs.Younger.{count_few, all_first, older_found, no_more_older}

-- ---- where gets end

start_least : (h : List Call) (end : Option End) (a b : ℕ) → IsStart h end a → IsStart h end b → a ≤ b
start_least h end a b s t =
    elim (cases_lt b a) [
      | inl lt ↦ (
          let bound = s.bound in
          let inside : b < length h = omega (arith, lt, bound) in
          let ge = (s.starts b inside).0 ((t.starts b inside).1 (omega arith)) in
          absurd (omega (arith, ge, lt))
          )
      | inr le ↦ le
    ]

pub own_found : (h : List Call) (x q g end : ℕ) → IsSingle h x q → Gets h x g → IsStart h (call h g).end end
    → IsOwnEnd h q end
own_found h x q g end single gets start = record {
  bound = let le = start.bound in omega (arith, le);
  attained = λ le. (g, record { item = x; single = single; gets = gets; start = start });
  only = λ y d s is.
      let G : ℕ → Type 0 = λ w. Gets h w d in
      let same = single.once g d gets (subst G (same_put h y x q s.puts single.puts) is) in
      let E : ℕ → Type 0 = λ w. IsEndOfGet h q w end in
      subst E same (record { item = x; single = single; gets = gets; start = start });
}

pub own_none : (h : List Call) (ps : List Presence) (q : ℕ) → ArePresences h (length h) ps → q < length h
    → ((x : ℕ) → IsSingle h x q → Gets h x (get_or ps q no_presence).gone → ⊥) → IsOwnEnd h q (length h + 1)
own_none h ps q are inside never = record {
  bound = omega arith;
  attained = λ le. absurd (omega (arith, le));
  only = λ x g s is. let k = (are.1 q inside).known x s in
      elim k.gone [ inl none ↦ absurd (none.1 g is) | inr got ↦ absurd (never x s got) ];
}

-- the get of another put's item
pub own_other : (h : List Call) (q r g : ℕ) → ((x : ℕ) × IsSingle h x r × Gets h x g × (r < length h)) → r ≢ q → (y : ℕ)
    → IsSingle h y q
    → Gets h y g → ⊥
own_other h q r g found ne y s is =
    let G : ℕ → Type 0 = λ w. IsSingle h w r in
    let same = same_item h found.0 y g found.2 is in
    ne (s.alone r (subst G same found.1).puts)

pub soonest_none : (h : List Call) → IsSoonest h (length h) (length h + 1)
soonest_none h = record {
  bound = omega arith;
  attained = λ le. absurd (omega (arith, le));
  least = λ r x g from s is. let lt = put_inside h x r s.puts in absurd (omega (arith, from, lt));
}

pub soonest_more : (h : List Call) (q own next least : ℕ) → IsOwnEnd h q own → IsSoonest h (q + 1) next
    → least ≡ min next own
    → IsSoonest h q least
soonest_more h q own next least o s is =
    let low : least ≤ own = omega arith in
    let low_next : least ≤ next = omega arith in
    let which : (least ≡ own) ⊎ (least ≡ next) = elim (cases_lt next own) [
      | inl lt ↦ inr (omega (arith, is, lt))
      | inr le ↦ inl (omega (arith, is, le))
    ] in
    let bound = o.bound in
    record {
      bound = omega (arith, low, bound);
      attained = λ le. elim which [
        | inl e ↦ (
            let a = o.attained (omega (arith, le, e)) in
            let E : ℕ → Type 0 = λ w. IsEndOfGet h q a.0 w in
            (q, omega arith, (a.0, subst E (sym e) a.1))
            )
        | inr e ↦ (
            let a = s.attained (omega (arith, le, e)) in
            let from = a.1 in
            let E : ℕ → Type 0 = λ w. IsEndOfGet h a.0 a.2.0 w in
            (a.0, omega (arith, from), (a.2.0, subst E (sym e) a.2.1))
            )
      ];
      least = λ r x g from single is. elim (cases_lt q r) [
        | inl later ↦ (let l = s.least r x g (omega (arith, later)) single is in let le =
            l.2 in (l.0, l.1, omega (arith, le, low_next)))
        | inr le ↦ (
            let same : q ≡ r = omega (arith, from, le) in
            let S : ℕ → Type 0 = λ w. IsSingle h x w in
            let E : ℕ → Type 0 = λ w. IsEndOfGet h w g own in
            (own, subst E same (o.only x g (subst S (sym same) single) is), low)
            )
      ];
    }

-- ---- counts of tests

below_weaker : (t u : ℕ → Bool) (n : ℕ) → ((p : ℕ) → p < n → t p ≡ true → u p ≡ true)
    → count_below t n ≤ count_below u n
below_weaker t u zero f = omega arith
below_weaker t u (suc n) f =
    let on = below_weaker t u n (λ p lt e. f p (omega (arith, lt)) e) in
    elim (cases_Bool (t n)) [
      | inl passes ↦ (
          let one : ◌≡◌ {A = ℕ} (cond (t n) 1 0) 1 = ap (λ b. cond b 1 0) passes in
          let too : ◌≡◌ {A = ℕ} (cond (u n) 1 0) 1 = ap (λ b. cond b 1 0) (f n (omega arith) passes) in
          omega (arith, on, one, too)
          )
      | inr fails ↦ (let none : ◌≡◌ {A = ℕ} (cond (t n) 1 0) 0 = ap (λ b. cond b 1 0) fails in omega (arith, on, none))
    ]

-- each number passes one of two tests at most, and one of them where it passes a third
count_parts : (t a b : ℕ → Bool) (n : ℕ) → ((p : ℕ) → ◌≡◌ {A = ℕ} (cond (t p) 1 0) (cond (a p) 1 0 + cond (b p) 1 0))
    → count_below t n ≡ count_below a n + count_below b n
count_parts t a b zero f = refl
count_parts t a b (suc n) f = let on = count_parts t a b n f in let here = f n in omega (arith, on, here)

-- of the numbers that pass, one with the greatest value
greatest : (t : ℕ → Bool) (value : ℕ → ℕ) (n : ℕ) → 0 < count_below t n
    → (p : ℕ) × (p < n) × (t p ≡ true) × ((q : ℕ) → q < n → t q ≡ true → value q ≤ value p)
greatest t value zero some = absurd (omega (arith, some))
greatest t value (suc n) some =
    let at_end : (q : ℕ) → q < suc n → n ≤ q → q ≡ n = λ q lt le. omega (arith, lt, le) in
    elim (cases_Bool (t n)) [
      | inl passes ↦ elim (cases_lt 0 (count_below t n)) [
        | inl more ↦ (
            let g = greatest t value n more in
            let lt = g.1 in
            let most = g.3 in
            elim (cases_lt (value g.0) (value n)) [
              | inl up ↦ (
                n,
                omega arith,
                passes,
                λ q in_q e. elim (cases_lt q n) [
                  | inl below ↦ (let le = most q below e in omega (arith, le, up))
                  | inr ge ↦ (let a = ap value (at_end q in_q ge) in omega (arith, a))
                ],
              )
              | inr down ↦ (
                g.0,
                omega (arith, lt),
                g.2,
                λ q in_q e. elim (cases_lt q n) [
                  | inl below ↦ most q below e
                  | inr ge ↦ (let a = ap value (at_end q in_q ge) in omega (arith, a, down))
                ],
              )
            ]
            )
        | inr none ↦ (
          n,
          omega arith,
          passes,
          λ q in_q e. elim (cases_lt q n) [
            | inl below ↦ absurd (none_below t n q none below e)
            | inr ge ↦ (let a = ap value (at_end q in_q ge) in omega (arith, a))
          ],
        )
      ]
      | inr fails ↦ (
          let none : ◌≡◌ {A = ℕ} (cond (t n) 1 0) 0 = ap (λ b. cond b 1 0) fails in
          let g = greatest t value n (omega (arith, some, none)) in
          let lt = g.1 in (
            g.0,
            omega (arith, lt),
            g.2,
            λ q in_q e. elim (cases_lt q n) [
              | inl below ↦ g.3 q below e
              | inr ge ↦ (let passes : t n ≡ true =
                  (let P : ℕ → Type 0 = λ w. t w ≡ true in subst P (at_end q in_q ge) e) in
                  let c : true ≡ false = sym passes ∙ fails in absurd (cc))
            ],
          )
          )
    ]

-- ---- how the numbers change

-- the counts of the first n numbers, for each value below the size
abbrev pub AreCounts : (ℕ → ℕ → Bool) → ℕ → ℕ → List ℕ → Type 0
AreCounts test size n l = (m : ℕ) → m < size → get_or l m 0 ≡ count_below (test m) n

pub counts_same : (test : ℕ → ℕ → Bool) (size n : ℕ) (l : List ℕ) → AreCounts test size n l
    → ((m : ℕ) → test m n ≡ false)
    → AreCounts test size (n + 1) l
counts_same test size n l was none m lt =
    let on = was m lt in
    let next = below_more (test m) n in
    let no : ◌≡◌ {A = ℕ} (cond (test m n) 1 0) 0 = ap (λ b. cond b 1 0) (none m) in
    omega (arith, on, next, no)

pub counts_more : (test : ℕ → ℕ → Bool) (size n i : ℕ) (l more : List ℕ) → length l ≡ size → i < size
    → more ≡ set l i (get_or l i 0 + 1) → test i n ≡ true → ((m : ℕ) → m ≢ i → test m n ≡ false)
    → AreCounts test size n l
    → AreCounts test size (n + 1) more
counts_more test size n i l more sized inside e here none was m lt =
    let on = was m lt in
    let next = below_more (test m) n in
    let at = ap (λ (w : List ℕ). get_or w m 0) e in
    elim (cases_eq m i) [
      | inl same ↦ (
          let P : ℕ → Type 0 = λ w. test w n ≡ true in
          let one : ◌≡◌ {A = ℕ} (cond (test m n) 1 0) 1 = ap (λ b. cond b 1 0) (subst P (sym same) here) in
          let there : get_or (set l i (get_or l i 0 + 1)) m 0 ≡ get_or l i 0 + 1 =
          ap (λ w. get_or (set l i (get_or l i 0 + 1)) w 0) same
          ∙ get_or-set_same l i (get_or l i 0 + 1) 0 (omega (arith, inside, sized)) in
          let old = ap (λ w. get_or l w 0) same in
          omega (arith, on, next, at, one, there, old)
          )
      | inr ne ↦ (
          let no : ◌≡◌ {A = ℕ} (cond (test m n) 1 0) 0 = ap (λ b. cond b 1 0) (none m ne) in
          let there = get_or-set_other l i m (get_or l i 0 + 1) 0 ne in
          omega (arith, on, next, at, no, there)
          )
    ]

apart : (a m b : ℕ) → b < a → (eqb a m && leb m b) ≡ false
apart a m b lt = grind (arith, nat_tests)

apart_until : (a m b : ℕ) → b < a → (leb a m && eqb m b) ≡ false
apart_until a m b lt = grind (arith, nat_tests)

-- an item that ends to count before it begins to never counts
pub never_from : (soonest : List ℕ) (ps : List Presence) (p : ℕ) → until ps p < since soonest ps p → (m : ℕ)
    → counts_from soonest ps m p ≡ false
never_from soonest ps p lt m = apart (since soonest ps p) m (until ps p) lt

pub never_until : (soonest : List ℕ) (ps : List Presence) (p : ℕ) → until ps p < since soonest ps p → (m : ℕ)
    → counts_until soonest ps m p ≡ false
never_until soonest ps p lt m = apart_until (since soonest ps p) m (until ps p) lt

-- ---- from one moment to the next

-- whether the item of put p has counted before a moment and counts on
abbrev pub counts_before : List ℕ → List Presence → ℕ → ℕ → Bool
counts_before soonest ps m p = ltb (since soonest ps p) m && leb m (until ps p)

begins_here : (a m b : ℕ)
    → ◌≡◌ {A = ℕ} (cond (leb a m && leb m b) 1 0) (cond (ltb a m && leb m b) 1 0 + cond (eqb a m && leb m b) 1 0)
begins_here a m b = grind (arith, nat_tests)

ends_here : (a m b : ℕ)
    → ◌≡◌ {A = ℕ} (cond (leb a m && leb m b) 1 0)
    (cond (ltb a (m + 1) && leb (m + 1) b) 1 0 + cond (leb a m && eqb m b) 1 0)
ends_here a m b = grind (arith, nat_tests)

counts_begin : (soonest : List ℕ) (ps : List Presence) (m n : ℕ)
    → count_below (counts_at soonest ps m) n ≡ count_below (counts_before soonest ps m) n + count_below
    (counts_from soonest ps m) n
counts_begin soonest ps m n = count_parts (counts_at soonest ps m) (counts_before soonest ps m)
    (counts_from soonest ps m) n (λ p. begins_here (since soonest ps p) m (until ps p))

counts_end : (soonest : List ℕ) (ps : List Presence) (m n : ℕ)
    → count_below (counts_at soonest ps m) n ≡ count_below (counts_before soonest ps (m + 1)) n + count_below
    (counts_until soonest ps m) n
counts_end soonest ps m n = count_parts (counts_at soonest ps m) (counts_before soonest ps (m + 1))
    (counts_until soonest ps m) n (λ p. ends_here (since soonest ps p) m (until ps p))

-- how many count at a moment, from those that begin, and how many go on, from those that end
pub begun_at : (soonest : List ℕ) (ps : List Presence) (c : Changes) (m count from : ℕ)
    → AreChanges soonest ps (length ps) c
    → m < length soonest → count ≡ count_below (counts_before soonest ps m) (length ps)
    → from ≡ get_or c.from.items m from
    → count_below (counts_at soonest ps m) (length ps) ≡ count + from
begun_at soonest ps c m count from are inside so_far is =
    let sized = are.sized.0 in
    let value = is ∙ get_or_default c.from.items m from 0 (omega (arith, inside, sized)) in
    let here = are.from m inside in
    omega (arith, so_far, value, here, counts_begin soonest ps m (length ps))

pub ended_at : (soonest : List ℕ) (ps : List Presence) (c : Changes) (m gone : ℕ) → AreChanges soonest ps (length ps) c
    → m < length soonest
    → gone ≡ get_or c.until.items m gone
    → count_below (counts_at soonest ps m) (length ps) ≡ gone + count_below (counts_before soonest ps (m + 1))
    (length ps)
ended_at soonest ps c m gone are inside is =
    let sized = are.sized.1 in
    let value = is ∙ get_or_default c.until.items m gone 0 (omega (arith, inside, sized)) in
    let here = are.until m inside in
    omega (arith, value, here, counts_end soonest ps m (length ps))

none_before : (a b : ℕ) → (ltb a 0 && leb 0 b) ≡ false
none_before a b = grind (arith, nat_tests)

pub counts_first : (soonest : List ℕ) (ps : List Presence) (n : ℕ) → count_below (counts_before soonest ps 0) n ≡ 0
counts_first soonest ps n = count_flat (counts_before soonest ps 0) 0 n (omega arith)
    (λ p a b. none_before (since soonest ps p) (until ps p))

-- the most of the moments below m
pub record IsMostBelow (soonest : List ℕ) (ps : List Presence) (m most : ℕ) : Type 0 where
  pub above : (d : ℕ) → d < m → count_below (counts_at soonest ps d) (length ps) ≤ most
  pub attained : 0 < most → (d : ℕ) × (d < m) × (count_below (counts_at soonest ps d) (length ps) ≡ most)

pub most_more : (soonest : List ℕ) (ps : List Presence) (m most count next : ℕ) → IsMostBelow soonest ps m most
    → count_below (counts_at soonest ps m) (length ps) ≡ count → next ≡ max most count
    → IsMostBelow soonest ps (m + 1) next
most_more soonest ps m most count next was here is =
    let which : ((next ≡ most) × (count ≤ most)) ⊎ ((next ≡ count) × (most ≤ count)) = elim (cases_lt most count) [
      | inl lt ↦ inr (omega (arith, is, lt), omega (arith, lt))
      | inr le ↦ inl (omega (arith, is, le), le)
    ] in
    record {
      above = λ d lt. elim (cases_lt d m) [
        | inl below ↦ (let le = was.above d below in elim which [
          | inl a ↦ (let e = a.0 in omega (arith, le, e))
          | inr b ↦ (let e = b.0 in let up = b.1 in omega (arith, le, e, up))
        ])
        | inr ge ↦ (
            let same : d ≡ m = omega (arith, lt, ge) in
            let a = ap (λ w. count_below (counts_at soonest ps w) (length ps)) same in
            elim which [
              | inl x ↦ (let e = x.0 in let le = x.1 in omega (arith, a, here, e, le))
              | inr y ↦ (let e = y.0 in omega (arith, a, here, e))
            ]
            )
      ];
      attained = λ some. elim which [
        | inl x ↦ (let e = x.0 in let a = was.attained (omega (arith, some, e)) in let lt =
            a.1 in (a.0, omega (arith, lt), a.2 ∙ sym e))
        | inr y ↦ (m, omega arith, here ∙ sym y.0)
      ];
    }

-- ---- what the most tells

-- no more count than there are
pub most_few : (soonest : List ℕ) (ps : List Presence) (most : ℕ) → IsMostAtOnce soonest ps most → most ≤ length ps
most_few soonest ps most m =
    elim (cases_lt 0 most) [
      | inl some ↦
          (let a = m.attained some in let e = a.2 in let few = count_few (counts_at soonest ps a.0) (length ps) in omega
          (arith, e, few))
      | inr none ↦ omega (arith, none)
    ]

-- an item that is older at a get counts as the get ends
older_counts : (h : List Call) (ps : List Presence) (soonest : List ℕ) (x put g after p : ℕ)
    → ArePresences h (length h) ps → AreSoonest h soonest
    → IsSingle h x put → Gets h x g → IsStart h (call h g).end after → p < length h → lasts_at ps put after p ≡ true
    → counts_at soonest ps after p ≡ true
older_counts h ps soonest x put g after p are soon single gets start inside passes =
    let s = get_or ps p no_presence in
    let parts = and_parts (leb s.start put) (leb after s.gone) passes in
    let from = leb-true s.start put parts.0 in
    let low = (are.1 p inside).bound.0 in
    let l = (soon.1 s.start low).least put x g from single gets in
    let up = start_least h (call h g).end l.0 after l.1.start start in
    let le = l.2 in
    and_from (leb (since soonest ps p) after) (leb after (until ps p))
    (le-leb (since soonest ps p) after (omega (arith, le, up))) parts.1

-- no more are older than count
pub older_few : (h : List Call) (ps : List Presence) (soonest : List ℕ) (most n g : ℕ) → IsHistory h
    → ArePresences h (length h) ps
    → AreSoonest h soonest → IsMostAtOnce soonest ps most → GotTooYoung n h g → n ≤ most
older_few h ps soonest most n g v are soon m young =
    let t = young.1 in
    let put = t.put in
    let inside = put_inside h t.item put t.single.puts in
    let l = (soon.1 put (omega (arith, inside))).least put t.item g (omega arith) t.single t.gets in
    let after = l.0 in
    let start = l.1.start in
    let bound = start.bound in
    let size = soon.0 in
    let many = are.0 in
    let few = no_more_older h ps t.item g put after n v are start t.single t.gets young in
    let all = below_weaker (lasts_at ps put after) (counts_at soonest ps after) put
    (λ p lt e. older_counts h ps soonest t.item put g after p are soon t.single t.gets start (omega (arith, lt, inside))
    e) in
    let rest = count_rises (counts_at soonest ps after) put (length ps) (omega (arith, inside, many)) in
    let top = m.above after (omega (arith, bound, size)) in
    omega (arith, few, all, rest, top)

-- an item that is older is put before
older_before : (h : List Call) (ps : List Presence) (g put after p : ℕ) → IsHistory h → ArePresences h (length h) ps
    → IsStart h (call h g).end after → put < length h → p < length h → lasts_at ps put after p ≡ true → p < put
older_before h ps g put after p v are start inside in_p passes =
    let s = get_or ps p no_presence in
    let parts = and_parts (leb s.start put) (leb after s.gone) passes in
    let o = ((are.1 p in_p).older g put after inside start).1
    (leb-true s.start put parts.0, leb-true after s.gone parts.1) in
    precedes_below h p put v in_p o.before

-- as many are older at some get as count at a moment
pub older_many : (h : List Call) (ps : List Presence) (soonest : List ℕ) (m most : ℕ) → IsHistory h
    → ArePresences h (length h) ps
    → AreSoonest h soonest → m < length soonest → count_below (counts_at soonest ps m) (length ps) ≡ most → 0 < most
    → (g : ℕ) × GotTooYoung most h g
older_many h ps soonest m most v are soon in_m is some =
    let size = soon.0 in
    let many = are.0 in
    let start_of : ℕ → ℕ = λ p. (get_or ps p no_presence).start in
    let top = greatest (counts_at soonest ps m) start_of (length ps) (omega (arith, is, some)) in
    let p = top.0 in
    let in_top = top.1 in
    let in_p : p < length h = omega (arith, in_top, many) in
    let parts = and_parts (leb (since soonest ps p) m) (leb m (until ps p)) top.2 in
    let begun = leb-true (since soonest ps p) m parts.0 in
    let a = (soon.1 (start_of p) (are.1 p in_p).bound.0).attained (omega (arith, begun, in_m, size)) in
    let r = a.0 in
    let from = a.1 in
    let g = a.2.0 in
    let e = a.2.1 in
    let after = since soonest ps p in
    let in_r = put_inside h e.item r e.single.puts in
    let weaker = below_weaker (counts_at soonest ps m) (lasts_at ps r after) (length ps) (λ q lt passes.
    let both = and_parts (leb (since soonest ps q) m) (leb m (until ps q)) passes in
    let here = leb-true m (until ps q) both.1 in
    let low = top.3 q lt passes in
    and_from (leb (start_of q) r) (leb after (until ps q)) (le-leb (start_of q) r (omega (arith, low, from)))
    (le-leb after (until ps q) (omega (arith, here, begun)))) in
    let flat = count_flat (lasts_at ps r after) r (length ps) (omega (arith, in_r, many))
    (λ q ge lt. false_from_ne_true (lasts_at ps r after q)
    (λ passes. let below = older_before h ps g r after q v are e.start in_r (omega (arith, lt, many)) passes in omega
    (arith, below, ge))) in
    let f = all_first (lasts_at ps r after) most r in (
      g,
      (
        f.0,
        older_found h ps e.item g r after most f.0 are e.start e.single e.gets (omega (arith, is, weaker, flat))
            f.1,
      ),
    )

pub lower_bound_found : (h : List Call) (ps : List Presence) (soonest : List ℕ) (most : ℕ) → IsHistory h
    → ArePresences h (length h) ps
    → AreSoonest h soonest → IsMostAtOnce soonest ps most → IsLowerBound h (most + 1)
lower_bound_found h ps soonest most v are soon m = record {
  positive = omega arith;
  above = λ n c young. let le = older_few h ps soonest most n c v are soon m young in omega (arith, le);
  attained = λ more.
      let some : 0 < most = omega (arith, more) in
      let a = m.attained some in
      let P : ℕ → Type 0 = λ w. (c : ℕ) × GotTooYoung w h c in
      let e : most ≡ most + 1 - 1 = omega arith in
      subst P e (older_many h ps soonest a.0 most v are soon a.1 a.2 some);
}
