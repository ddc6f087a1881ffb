-- Items that are gone are passed over.
use Rattle.std.proofs.Common.{ℕ, zero, suc, ◌≡◌, ◌+◌, ◌<◌, ◌≤◌, Bool, true, false, cond, leb, List, length, get_or, sym}
use Rattle.std.proofs.Common.{ap, inl, inr, arith}
use Rattle.std.proofs.lemmas.Bool.{cases_lt, lt-leb, and_right}
use Rattle.kfifo_verdict.proofs.Types.{Presence}
use Rattle.kfifo_verdict.specs.Evidence.{count_below}
use Rattle.kfifo_verdict.specs.Finding.{no_presence, lasts_at, AreSkips}
use Rattle.kfifo_verdict.proofs.Counting.{below_more}

pub skips_later : (ps : List Presence) (n : ℕ) (skips : List ℕ) → AreSkips ps n skips → AreSkips ps (n + 1) skips
skips_later ps n skips s = record {
  sized = s.sized;
  ahead = s.ahead;
  gone = λ i p lt le below. let g = s.gone i p lt le below in omega (arith, g);
}

-- ---- counts

pub count_rises : (test : ℕ → Bool) (i j : ℕ) → i ≤ j → count_below test i ≤ count_below test j
count_rises test i zero le = let e : i ≡ 0 = omega arith in let a = ap (count_below test) e in omega (arith, a)
count_rises test i (suc j) le =
    elim (cases_lt j i) [
      | inl lt ↦ (let e : i ≡ suc j = omega (arith, le, lt) in let a = ap (count_below test) e in omega (arith, a))
      | inr ge ↦ (let on = count_rises test i j ge in omega (arith, on))
    ]

pub count_flat : (test : ℕ → Bool) (i j : ℕ) → i ≤ j → ((p : ℕ) → i ≤ p → p < j → test p ≡ false)
    → count_below test j ≡ count_below test i
count_flat test i zero le f = let e : i ≡ 0 = omega arith in ap (count_below test) (sym e)
count_flat test i (suc j) le f =
    elim (cases_lt j i) [
      | inl lt ↦ (let e : suc j ≡ i = omega (arith, le, lt) in ap (count_below test) e)
      | inr ge ↦ (
          let on = count_flat test i j ge (λ p a b. f p a (omega (arith, b))) in
          let none : ◌≡◌ {A = ℕ} (cond (test j) 1 0) 0 = ap (λ b. cond b 1 0) (f j ge (omega arith)) in
          omega (arith, on, none)
          )
    ]

pub none_below : (test : ℕ → Bool) (n c : ℕ) → count_below test n ≤ 0 → c < n → test c ≡ true → ⊥
none_below test n c none lt passes =
    let up = count_rises test (c + 1) n (omega (arith, lt)) in
    let next = below_more test c in
    let one : ◌≡◌ {A = ℕ} (cond (test c) 1 0) 1 = ap (λ b. cond b 1 0) passes in
    omega (arith, up, next, one, none)

-- an item that is gone at call n is got by a call below `after`
pub gone_fails : (ps : List Presence) (n put after p : ℕ) → n < after → (get_or ps p no_presence).gone ≤ n
    → lasts_at ps put after p ≡ false
gone_fails ps n put after p later gone =
    let s = get_or ps p no_presence in
    and_right (leb s.start put) (leb after s.gone) (lt-leb after s.gone (omega (arith, later, gone)))

-- nothing is counted on the way to the next call
pub count_skip_to : (ps : List Presence) (n put after p j : ℕ) (skips : List ℕ) → AreSkips ps n skips → n < after
    → p < length ps + 1
    → p ≤ j → j ≤ get_or skips p 0 → count_below (lasts_at ps put after) j ≡ count_below (lasts_at ps put after) p
count_skip_to ps n put after p j skips s later inside le most =
    count_flat (lasts_at ps put after) p j le
    (λ t from to. gone_fails ps n put after t later (s.gone p t inside from (omega (arith, to, most))))
