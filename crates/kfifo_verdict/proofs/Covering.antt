-- A chain of items of which one is certainly there at each moment of a call.
use Rattle.std.proofs.Common.{ℕ, ◌≡◌, ◌≢◌, ◌<◌, ◌≤◌, ◌+◌, List, [], ◌∷◌, ◌++◌, length, get_or, refl, sym, subst, inl}
use Rattle.std.proofs.Common.{inr, arith}
use Rattle.std.proofs.lemmas.Bool.{cases_lt}
use Rattle.kfifo_verdict.proofs.Types.{Call, Stay}
use Rattle.std.specs.List.{AllByRecursion}
use Rattle.kfifo_model.specs.Lists.{IsIn}
use Rattle.kfifo_model.specs.Histories.{call, does, EndsBelow, HasNoRepeats}
use Rattle.kfifo_model.specs.Validity.{IsHistory}
use Rattle.kfifo_model.proofs.Lists.{in_left, in_right, each_at, each_from, pairs_push, AllByRecursion-push}
use Rattle.kfifo_verdict.specs.Evidence.{IsCertainlyThere, IsMomentOf}
use Rattle.kfifo_model.specs.declared.effects.Effect.TheVariants.{FindsNone}
use Rattle.kfifo_verdict.specs.Finding.{AreStays, HasGap, HasGaps, IsStay, first_of, no_stay}
use Rattle.kfifo_verdict.specs.Judging.{FoundNotEmpty}
use Rattle.kfifo_verdict.proofs.Refuting.{ended_inside, found_ended, not_ended}
use Rattle.kfifo_verdict.proofs.Moments.{rising, not_falling}

-- the puts cover the moments of call e below the first step of call n, if there is one
pub record IsChain (h : List Call) (e n : ℕ) (puts : List ℕ) : Type 0 where
  pub from : e ≤ n
  pub covered : (moment : ℕ) → first_of h e ≤ moment → (n < length h → moment < first_of h n) → (p : ℕ) × IsIn p puts
      × IsCertainlyThere h p moment
  pub met : AllByRecursion (λ p. (moment : ℕ) × IsMomentOf h e moment × IsCertainlyThere h p moment) puts
  pub distinct : HasNoRepeats puts
  pub gone : AllByRecursion (λ p. n < length h → (moment : ℕ) → first_of h n ≤ moment → IsCertainlyThere h p moment
      → ⊥) puts

-- call n begins at a moment of call e
pub moment_here : (h : List Call) (e n : ℕ) → IsHistory h → e ≤ n → n < length h
    → (EndsBelow (call h e).end (first_of h n) → ⊥)
    → IsMomentOf h e (first_of h n)
moment_here h e n v le inside open_ = (not_falling h e n v le inside, not_ended (call h e).end (first_of h n) open_)

pub chain_more : (h : List Call) (e n : ℕ) (puts more : List ℕ) (s : Stay) → IsHistory h → IsStay h n s → n < length h
    → (EndsBelow (call h e).end (first_of h n) → ⊥) → n < s.gone → more ≡ puts ++ s.put ∷ [] → IsChain h e n puts
    → IsChain h e s.gone more
chain_more h e n puts more s v r inside open_ lt is c =
    let moment = moment_here h e n v c.from inside open_ in
    let there = r.there lt in
    let now : IsCertainlyThere h s.put (first_of h n) =
    there (first_of h n) (omega arith) (λ gone_in. rising h n s.gone v lt gone_in) in
    let M : List ℕ → Type 0 = λ w. AllByRecursion (λ p. (m : ℕ) × IsMomentOf h e m × IsCertainlyThere h p m) w in
    let D : List ℕ → Type 0 = λ w. HasNoRepeats w in
    let G : List ℕ
    → Type 0 = λ w. AllByRecursion (λ p. s.gone < length h → (m : ℕ) → first_of h s.gone ≤ m → IsCertainlyThere h p
    m → ⊥)
    w in
    let I : ℕ → List ℕ → Type 0 = λ p w. IsIn p w in
    let old_gone = each_from (λ p. s.gone < length h → (m : ℕ) → first_of h s.gone ≤ m → IsCertainlyThere h p m
    → ⊥) puts
    (λ p i gone_in m le t.
    let up = rising h n s.gone v lt gone_in in
    each_at (λ q. n < length h → (m : ℕ) → first_of h n ≤ m → IsCertainlyThere h q m → ⊥) p puts c.gone i inside m
    (omega (arith, up, le))
    t) in
    let start = c.from in
    record {
      from = omega (arith, start, lt);
      covered = λ m le below.
          let J : List ℕ → Type 0 = λ w. (p : ℕ) × IsIn p w × IsCertainlyThere h p m in
          subst J (sym is) (elim (cases_lt m (first_of h n)) [
            | inl early ↦ (let p = c.covered m le (λ _. early) in (p.0, in_left p.0 puts (s.put ∷ []) p.1, p.2))
            | inr late ↦ (s.put, in_right s.put puts (s.put ∷ []) (inl refl), there m late below)
          ]);
      met = subst M (sym is) (AllByRecursion-push (λ (p : ℕ). (m : ℕ) × IsMomentOf h e m × IsCertainlyThere h p m) puts
          s.put c.met (first_of h n, moment, now));
      distinct = subst D (sym is) (pairs_push (λ p q. p ≢ q) puts s.put c.distinct (λ p i same.
          let P : ℕ → Type 0 = λ w. IsCertainlyThere h w (first_of h n) in
          each_at (λ q. n < length h → (m : ℕ) → first_of h n ≤ m → IsCertainlyThere h q m → ⊥) p puts c.gone i inside
          (first_of h n)
          (omega arith) (subst P (sym same) now)));
      gone = subst G (sym is) (AllByRecursion-push
          (λ (p : ℕ). s.gone < length h → (m : ℕ) → first_of h s.gone ≤ m → IsCertainlyThere h p m → ⊥) puts s.put
          old_gone
          (λ gone_in m le t. let b = r.until lt m t gone_in in absurd (omega (arith, b, le))));
    }

-- at the beginning of call n no item is certainly there
pub chain_broken : (h : List Call) (e n : ℕ) (puts : List ℕ) (stays : List Stay) → IsHistory h → AreStays h stays
    → n < length h
    → (EndsBelow (call h e).end (first_of h n) → ⊥) → (get_or stays n no_stay).gone ≤ n → IsChain h e n puts
    → FoundNotEmpty h e → ⊥
chain_broken h e n puts stays v are inside open_ le c f =
    let t = f.1.covered (first_of h n) (moment_here h e n v c.from inside open_) in
    let lt = are.found n t.0 inside t.2 in
    omega (arith, lt, le)

-- ---- gaps

-- where the longest stay is over, none is there
pub gap_at : (h : List Call) (stays : List Stay) (e n : ℕ) → AreStays h stays → e ≤ n → n < length h
    → (EndsBelow (call h e).end (first_of h n) → ⊥) → (get_or stays n no_stay).gone ≤ n → HasGap h e
gap_at h stays e n are from inside open_ le = (
  n,
  from,
  inside,
  open_,
  λ p there. (
      let lt = are.found n p inside there in
      omega (arith, lt, le)
      ),
)

-- each call below n that returned Empty has a gap
abbrev pub HasGapsBelow : List Call → ℕ → Type 0
HasGapsBelow h n = (e : ℕ) → e < n → does h e ≡ FindsNone → HasGap h e

pub gaps_more : (h : List Call) (n : ℕ) → HasGapsBelow h n → (does h n ≡ FindsNone → HasGap h n)
    → HasGapsBelow h (n + 1)
gaps_more h n below here e lt empty =
    elim (cases_lt e n) [
      | inl less ↦ below e less empty
      | inr le ↦ (
          let same : n ≡ e = omega (arith, lt, le) in
          let G : ℕ → Type 0 = λ c. HasGap h c in
          let D : ℕ → Type 0 = λ c. does h c ≡ FindsNone in
          subst G same (here (subst D (sym same) empty))
          )
    ]

pub gaps_all : (h : List Call) (n : ℕ) → length h ≤ n → HasGapsBelow h n → HasGaps h
gaps_all h n le below e empty =
    let inside = ended_inside h e (found_ended h e empty) in
    below e (omega (arith, inside, le)) empty
