-- 6: where some item is certainly left as each call begins, the list is never empty meanwhile.
use Rattle.std.proofs.Common.{ℕ, ◌≡◌, ◌+◌, ◌<◌, ◌≤◌, ◌&&◌, Bool, true, leb, count_by, List, [], ◌∷◌, length, map, sym}
use Rattle.std.proofs.Common.{◌∙◌, ap, subst, inl, inr, arith, Option, Some, None}
use Rattle.std.proofs.lemmas.Bool.{ltb-true, false≢true, le-leb, and_parts, and_from}
use Rattle.kfifo_model.specs.declared.calls.Call.{Call}
use Rattle.kfifo_model.specs.declared.calls.End.{End}
use Rattle.kfifo_model.specs.Lists.{IsIn}
use Rattle.kfifo_model.specs.declared.effects.Effect.{Effect}
use Rattle.kfifo_model.specs.declared.effects.Effect.TheVariants.{Adds, Takes, FindsNone, Refused, Wrong}
use Rattle.kfifo_model.specs.Relaxed.{Leaves}
use Rattle.kfifo_model.specs.Histories.{call, does, CanStand, EndsBelow}
use Rattle.kfifo_model.specs.Overtaking.{adds, takes, ends_below}
use Rattle.kfifo_model.specs.Validity.{IsHistory, EndsFrom}
use Rattle.kfifo_model.specs.Searching.{HasOrder}
use Rattle.kfifo_model.proofs.Lists.{in_left, each_at, pairs_front, Differ}
use Rattle.kfifo_model.proofs.Checking.{in_bounds}
use Rattle.kfifo_verdict.specs.Evidence.{puts_ended, gets_begun, HasItemsLeft}
use Rattle.kfifo_verdict.proofs.Counting.{count_into, count_within, count_weaker}
use Rattle.kfifo_verdict.proofs.Runs.{RunsTo, times, copies, copies_push, copies_remove}
use Rattle.kfifo_verdict.proofs.Refuting.{around, in_front, not_in_front, greatest, not_ended, found_ended}
use Rattle.kfifo_verdict.proofs.Refuting.{ended_inside, got_ended, times_map, adds_is, takes_is}

-- what was there and what is added is what is there and what was taken
balance : (k x : ℕ) (items after : List ℕ) (es : List Effect) → RunsTo k items es after
    → copies x items + times (adds x) es ≡ copies x after + times (takes x) es
balance k x items after [] r = let e = ap (copies x) r in omega (arith, e)
balance k x items after (Adds y ∷ es) r =
    let on = balance k x r.0 after es r.2 in
    let e = ap (copies x) r.1 ∙ copies_push x y items in
    omega (arith, on, e)
balance k x items after (Takes y ∷ es) r =
    let on = balance k x r.0 after es r.2 in
    let s = r.1 in
    let e = copies_remove x y items s.0 s.2 in
    let a = ap (copies x) s.3 in
    omega (arith, on, e, a)
balance k x items after (FindsNone ∷ es) r =
    let on = balance k x r.0 after es r.2 in
    let a = ap (copies x) (r.1.1 ∙ sym r.1.0) in
    omega (arith, on, a)
balance k x items after (Refused ∷ es) r =
    let on = balance k x r.0 after es r.2 in
    let a = ap (copies x) r.1 in
    omega (arith, on, a)
balance k x items after (Wrong ∷ es) r = absurd r.1

pub ends_at : (o : Option End) (step : ℕ) → ends_below o step ≡ true → EndsBelow o step
ends_at (Some e) step q = ltb-true e.last step q
ends_at None step q = absurd (false≢true q)

-- Of the calls up to the Empty in the order take the one that begins last. Those puts stand before the Empty, and no
-- other gets.
pub items_left_refutes : (k : ℕ) (h : List Call) (e : ℕ) → IsHistory h → HasItemsLeft h e → HasOrder k h → ⊥
items_left_refutes k h e v n o =
    let ended = found_ended h e n.empty in
    let a = around k h o.0 e o.1 (o.1.is_order.complete e ended) in
    let F = a.front in
    let g = greatest (λ c. (call h c).first) e F in
    let step : ℕ = (call h g.0).first in
    let lasts : EndsFrom step (call h e).end = elim g.1 [
      | inl q ↦ (let P : ℕ → Type 0 = λ w. EndsFrom (call h w).first (call h e).end in subst P (sym q)
          (v e (ended_inside h e ended)).ends)
      | inr i ↦ not_ended (call h e).end step (λ b. not_in_front k h o.0 e g.0 a b i)
    ] in
    let O : List ℕ → Type 0 = λ w. IsIn g.0 w in
    let inside : g.0 < length h = elim g.1 [
      | inl q ↦ (let P : ℕ → Type 0 = λ w. w < length h in subst P (sym q) (ended_inside h e ended))
      | inr i ↦ in_bounds h g.0 (each_at (λ c. CanStand (call h c).end (call h c).op) g.0 o.0 o.1.is_order.calls
          (subst O (sym a.is) (in_left g.0 F (e ∷ a.back) i)))
    ] in
    let there = n.left g.0 inside (g.2, lasts) in
    let x : ℕ = there.0 in
    let more = there.1 in
    let adds_x : ℕ → Bool = λ c. adds x (does h c) in
    let takes_x : ℕ → Bool = λ c. takes x (does h c) in
    let gone : ℕ → Bool = λ c. adds x (does h c) && ends_below (call h c).end step in
    let begun : ℕ → Bool = λ c. takes x (does h c) && leb (call h c).first step in
    let all : puts_ended h x step ≤ count_by gone F = count_into gone (length h) F (λ c lt t.
    let both = and_parts (adds x (does h c)) (ends_below (call h c).end step) t in
    in_front k h o.0 e c g.0 o.1 a (ends_at (call h c).end step both.1) g.1 (λ same.
    let u = sym (ap (does h) same) ∙ adds_is x (does h c) both.0 in
    let w = sym n.empty ∙ u in
    absurd (cc))) in
    let put = count_weaker gone adds_x F
    (λ c i t. (and_parts (adds x (does h c)) (ends_below (call h c).end step) t).0) in
    let took = count_weaker takes_x begun F (λ c i t.
    and_from (takes x (does h c)) (leb (call h c).first step) t (le-leb (call h c).first step (g.3 c i))) in
    let few : count_by begun F ≤ gets_begun h x step =
    count_within begun (length h) F (pairs_front Differ F (e ∷ a.back) a.distinct)
    (λ c i t. ended_inside h c (got_ended h x c
    (takes_is x (does h c) (and_parts (takes x (does h c)) (leb (call h c).first step) t).0))) in
    let L : Effect → Type 0 = λ w. Leaves k a.mid w a.after in
    let none = ap (copies x) (subst L n.empty a.legal).0 in
    let even = balance k x [] a.mid (map (does h) F) a.runs in
    let t = times_map h (takes x) F in
    let p = times_map h (adds x) F in
    absurd (omega (arith, all, more, put, took, few, none, even, t, p))
