use Rattle.std.proofs.Common.{ℕ, ◌≡◌, ◌+◌, ◌-◌, get_or, set, sym, ◌∙◌, ap, subst, inl, inr, arith, get_or-set_other}
use Rattle.std.proofs.Common.{get_or-set_same}
use Rattle.std.proofs.lemmas.Bool.{cases_eq}
use Rattle.std.proofs.Math.ListN.{length-set}
use Rattle.kfifo_verdict.specs.Bound.{IsSoonest}
use Rattle.kfifo_verdict.proofs.Bounding.{soonest_more}
use Rattle.kfifo_verdict.proofs.bound.soonest_ends.Goals as goal

pub loop-q-preserved : goal.loop-q-preserved
loop-q-preserved c =
    let h = c.args.calls.now in
    let q : ℕ = c.loop-q.q - 1 in
    let l = c.loop-q.soonest.items in
    let least = c.min-least.result in
    let test = c.loop-q-test.true in
    let within = c.loop-q.invariant.within in
    let sized = c.loop-q.invariant.sized in
    let last : q + 1 ≡ c.loop-q.q = omega (arith, test) in
    let S : ℕ → Type 0 = λ w. IsSoonest h w c.loop-q.least in
    let here = soonest_more h q c.own_end.result c.loop-q.least least c.own_end.ensures
    (subst S (sym last) c.loop-q.invariant.least) c.min-least.ensures in
    record {
      within = omega (arith, within);
      sized = omega (arith, sized, length-set l q least);
      least = here;
      filled = λ i from to. elim (cases_eq i q) [
        | inl same ↦ (
            let at : get_or (set l q least) i 0 ≡ least =
            ap (λ w. get_or (set l q least) w 0) same
            ∙ get_or-set_same l q least 0 (omega (arith, sized, last, within)) in
            let P : ℕ → Type 0 = λ w. IsSoonest h i w in
            let Q : ℕ → Type 0 = λ w. IsSoonest h w least in
            subst P (sym at) (subst Q (sym same) here)
            )
        | inr ne ↦ (
            let at : get_or (set l q least) i 0 ≡ get_or l i 0 = get_or-set_other l q i least 0 ne in
            let P : ℕ → Type 0 = λ w. IsSoonest h i w in
            subst P (sym at) (c.loop-q.invariant.filled i (omega (arith, from, ne, last)) to)
            )
      ];
    }
