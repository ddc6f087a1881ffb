-- Items that are certainly older and there where a single item is got.
use Rattle.std.proofs.Common.{ℕ, zero, suc, ◌≡◌, ◌+◌, ◌<◌, ◌≤◌, ◌↔◌, Bool, true, false, cond, count_by, leb, List, []}
use Rattle.std.proofs.Common.{◌∷◌, ◌++◌, length, get_or, add-one, refl, sym, ◌∙◌, ap, subst, inl, inr, arith}
use Rattle.std.proofs.Common.{length-append}
use Rattle.std.proofs.lemmas.Bool.{cases_lt, cases_Bool, and_parts, and_from, leb-true, le-leb}
use Rattle.kfifo_verdict.proofs.Types.{Call, Presence}
use Rattle.std.specs.List.{AllByRecursion}
use Rattle.kfifo_model.specs.Lists.{IsIn}
use Rattle.kfifo_model.specs.Histories.{call}
use Rattle.kfifo_model.specs.Validity.{IsHistory}
use Rattle.kfifo_model.proofs.Lists.{in_append, each_at, each_from, pairs_push}
use Rattle.kfifo_verdict.specs.Evidence.{Gets, count_below, IsSingle, IsOlder, IsTooYoung, Rise}
use Rattle.kfifo_verdict.specs.Finding.{IsStart, ArePresences, no_presence, lasts_at, IsCountedTo, AreFirst}
use Rattle.kfifo_verdict.specs.Judging.{GotTooYoung}
use Rattle.kfifo_verdict.proofs.Counting.{count_cons, count_within}
use Rattle.kfifo_verdict.proofs.Refuting.{put_inside, rising_distinct}
use Rattle.kfifo_verdict.proofs.Telling.{same_item}
use Rattle.kfifo_verdict.proofs.Moments.{precedes_below}

pub count_few : (test : ℕ → Bool) (n : ℕ) → count_below test n ≤ n
count_few test zero = omega arith
count_few test (suc n) =
    let on = count_few test n in
    elim (cases_Bool (test n)) [
      | inl passes
          ↦ (let one : ◌≡◌ {A = ℕ} (cond (test n) 1 0) 1 = ap (λ b. cond b 1 0) passes in omega (arith, on, one))
      | inr fails ↦
          (let none : ◌≡◌ {A = ℕ} (cond (test n) 1 0) 0 = ap (λ b. cond b 1 0) fails in omega (arith, on, none))
    ]

pub count_yes : (test : ℕ → Bool) (n : ℕ) → test n ≡ true → count_below test (n + 1) ≡ count_below test n + 1
count_yes test n passes =
    let one : ◌≡◌ {A = ℕ} (cond (test n) 1 0) 1 = ap (λ b. cond b 1 0) passes in
    ap (count_below test) (add-one n) ∙ omega (arith, one)

pub count_no : (test : ℕ → Bool) (n : ℕ) → test n ≡ false → count_below test (n + 1) ≡ count_below test n
count_no test n fails =
    let none : ◌≡◌ {A = ℕ} (cond (test n) 1 0) 0 = ap (λ b. cond b 1 0) fails in
    ap (count_below test) (add-one n) ∙ omega (arith, none)

pub count_all : (test : ℕ → Bool) (l : List ℕ) → AllByRecursion (λ p. test p ≡ true) l → count_by test l ≡ length l
count_all test [] a = refl
count_all test (x ∷ l) a =
    let on = count_all test l a.1 in
    let one : ◌≡◌ {A = ℕ} (cond (test x) 1 0) 1 = ap (λ b. cond b 1 0) a.0 in
    let p = count_cons test x l in
    omega (arith, on, one, p)

-- ---- the first that pass

pub first_none : (test : ℕ → Bool) (k : ℕ) (found : List ℕ) → found ≡ [] → AreFirst test k 0 found
first_none test k found e =
    let P : List ℕ → Type 0 = λ w. AllByRecursion (λ p. (p < 0) × (test p ≡ true)) w in
    let D : List ℕ → Type 0 = λ w. Rise w in
    let size = ap length e in
    record { count = omega (arith, size); pass = subst P (sym e) tt; rising = subst D (sym e) tt }

each_on : (test : ℕ → Bool) (n : ℕ) (found : List ℕ) → AllByRecursion (λ p. (p < n) × (test p ≡ true)) found
    → AllByRecursion (λ p. (p < n + 1) × (test p ≡ true)) found
each_on test n found a = each_from (λ p. (p < n + 1) × (test p ≡ true)) found (λ p i.
    let b = each_at (λ p. (p < n) × (test p ≡ true)) p found a i in let lt = b.0 in (omega (arith, lt), b.1))

pub first_skip : (test : ℕ → Bool) (k n : ℕ) (found : List ℕ) → AreFirst test k n found → test n ≡ false
    → AreFirst test k (n + 1) found
first_skip test k n found a fails =
    let same = count_no test n fails in
    let size = a.count in
    record { count = omega (arith, size, same); pass = each_on test n found a.pass; rising = a.rising }

pub first_full : (test : ℕ → Bool) (k n : ℕ) (found : List ℕ) → AreFirst test k n found → k ≤ length found
    → AreFirst test k (n + 1) found
first_full test k n found a full =
    let size = a.count in
    record {
      count = elim (cases_Bool (test n)) [
        | inl passes ↦ (let more = count_yes test n passes in omega (arith, size, more, full))
        | inr fails ↦ (let same = count_no test n fails in omega (arith, size, same))
      ];
      pass = each_on test n found a.pass;
      rising = a.rising;
    }

pub first_more : (test : ℕ → Bool) (k n : ℕ) (found more : List ℕ) → AreFirst test k n found → length found < k
    → test n ≡ true
    → more ≡ found ++ n ∷ [] → AreFirst test k (n + 1) more
first_more test k n found more a room passes e =
    let size = a.count in
    let up = count_yes test n passes in
    let size_more = ap length e in
    let P : List ℕ → Type 0 = λ w. AllByRecursion (λ p. (p < n + 1) × (test p ≡ true)) w in
    let D : List ℕ → Type 0 = λ w. Rise w in
    record {
      count = omega (arith, size, up, size_more, length-append found (n ∷ []), room);
      pass = subst P (sym e) (each_from (λ p. (p < n + 1) × (test p ≡ true)) (found ++ n ∷ [])
          (λ p i. elim (in_append p found (n ∷ []) i) [
            | inl j ↦ each_at (λ p. (p < n + 1) × (test p ≡ true)) p found (each_on test n found a.pass) j
            | inr j ↦ elim j [
              | inl same ↦
                  (let T : ℕ → Type 0 = λ w. (w < n + 1) × (test w ≡ true) in subst T (sym same) (omega arith, passes))
              | inr none ↦ absurd none
            ]
          ]));
      rising = subst D (sym e) (pairs_push (λ p q. p < q) found n a.rising
          (λ p i. (each_at (λ p. (p < n) × (test p ≡ true)) p found a.pass i).0));
    }

-- all that pass
pub all_first : (test : ℕ → Bool) (k n : ℕ) → (found : List ℕ) × AreFirst test k n found
all_first test k zero = ([], first_none test k [] refl)
all_first test k (suc n) =
    let on = all_first test k n in
    let P : ℕ → Type 0 = λ w. (found : List ℕ) × AreFirst test k w found in
    subst P (add-one n) (elim (cases_Bool (test n)) [
      | inl passes ↦ elim (cases_lt (length on.0) k) [
        | inl room ↦ (on.0 ++ n ∷ [], first_more test k n on.0 (on.0 ++ n ∷ []) on.1 room passes refl)
        | inr full ↦ (on.0, first_full test k n on.0 on.1 full)
      ]
      | inr fails ↦ (on.0, first_skip test k n on.0 on.1 fails)
    ])

-- ---- what they tell of a call that gets a single item

passes_older : (h : List Call) (ps : List Presence) (g put after p : ℕ) → ArePresences h (length h) ps
    → IsStart h (call h g).end after
    → put < length h → p < put → IsOlder h g put p ↔ (lasts_at ps put after p ≡ true)
passes_older h ps g put after p are start inside lt =
    let in_p : p < length h = omega (arith, inside, lt) in
    let r = (are.1 p in_p).older g put after inside start in
    let s = get_or ps p no_presence in (
      λ o. (let b = r.0 o in and_from (leb s.start put) (leb after s.gone) (le-leb s.start put b.0)
          (le-leb after s.gone b.1)),
      λ t. (let b = and_parts (leb s.start put) (leb after s.gone) t in r.1
          (leb-true s.start put b.0, leb-true after s.gone b.1)),
    )

-- no more than these are certainly older
pub no_more_older : (h : List Call) (ps : List Presence) (x g put after m : ℕ) → IsHistory h
    → ArePresences h (length h) ps
    → IsStart h (call h g).end after → IsSingle h x put → Gets h x g → GotTooYoung m h g
    → m ≤ count_below (lasts_at ps put after) put
no_more_older h ps x g put after m v are start single gets young =
    let t = young.1 in
    let puts = young.0 in
    let inside = put_inside h x put single.puts in
    let same_x = same_item h t.item x g t.gets gets in
    let P : ℕ → Type 0 = λ w. IsSingle h w t.put in
    let same = single.alone t.put (subst P same_x t.single).puts in
    let Q : ℕ → Type 0 = λ w. AllByRecursion (IsOlder h g w) puts in
    let older = subst Q same t.older in
    let below : (p : ℕ) → IsIn p puts → p < put = λ p i. let o = each_at (IsOlder h g put) p puts older i in
    precedes_below h p put v (put_inside h o.item p o.single.puts) o.before in
    let pass : (p : ℕ) → IsIn p puts → lasts_at ps put after p ≡ true =
    λ p i. (passes_older h ps g put after p are start inside (below p i)).0
    (each_at (IsOlder h g put) p puts older i) in
    let all = count_all (lasts_at ps put after) puts (each_from (λ p. lasts_at ps put after p ≡ true) puts pass) in
    let within = count_within (lasts_at ps put after) put puts (rising_distinct puts t.rising) (λ p i e. below p i) in
    let size = t.count in
    omega (arith, all, within, size)

-- the first of them show it
pub older_found : (h : List Call) (ps : List Presence) (x g put after k : ℕ) (found : List ℕ)
    → ArePresences h (length h) ps
    → IsStart h (call h g).end after → IsSingle h x put → Gets h x g → k ≤ count_below (lasts_at ps put after) put
    → AreFirst (lasts_at ps put after) k put found → IsTooYoung k h g found
older_found h ps x g put after k found are start single gets enough first =
    let inside = put_inside h x put single.puts in
    let size = first.count in
    record {
      item = x;
      put = put;
      gets = gets;
      single = single;
      older = each_from (IsOlder h g put) found
          (λ p i. let b = each_at (λ p. (p < put) × (lasts_at ps put after p ≡ true)) p found first.pass i in
          (passes_older h ps g put after p are start inside b.0).1 b.1);
      rising = first.rising;
      count = omega (arith, size, enough);
    }

-- ---- the same, as the code counts

pub young_none : (h : List Call) (ps : List Presence) (g put after k count : ℕ) → IsHistory h
    → ArePresences h (length h) ps
    → IsStart h (call h g).end after → (x : ℕ) × IsSingle h x put × Gets h x g × (put < length h)
    → IsCountedTo k (count_below (lasts_at ps put after) put) count → count < k → GotTooYoung k h g → ⊥
young_none h ps g put after k count v are start s counted few young =
    let most = no_more_older h ps s.0 g put after k v are start s.1 s.2 young in
    elim counted [ inl e ↦ omega (arith, e, most, few) | inr b ↦ (let le = b.0 in omega (arith, le, few)) ]

pub young_found : (h : List Call) (ps : List Presence) (g put after k count : ℕ) (found : List ℕ)
    → ArePresences h (length h) ps
    → IsStart h (call h g).end after → (x : ℕ) × IsSingle h x put × Gets h x g × (put < length h)
    → IsCountedTo k (count_below (lasts_at ps put after) put) count → k ≤ count
    → AreFirst (lasts_at ps put after) k put found
    → IsTooYoung k h g found
young_found h ps g put after k count found are start s counted enough first =
    let all : k ≤ count_below (lasts_at ps put after) put =
    elim counted [ inl e ↦ omega (arith, e, enough) | inr b ↦ (let le = b.1 in omega (arith, le, enough)) ] in
    older_found h ps s.0 g put after k found are start s.1 s.2 all first
