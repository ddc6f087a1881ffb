use Rattle.std.proofs.Common.{ℕ, List, ◌<◌, ◌≡◌, ◌+◌, length, get_or, sym, ◌∙◌, subst, inl, arith, length-append}
use Rattle.std.proofs.lemmas.Bool.{false≢true}
use Rattle.std.proofs.lemmas.List.{get_or_default}
use Rattle.kfifo_model.specs.Searching.{IsAsGood}
use Rattle.kfifo_model.proofs.Resting.{as_good_more, worthless}
use Rattle.kfifo_model.proofs.search.remembered.Goals as goal
use Rattle.kfifo_model.proofs.search.remembered.Goals.{then-is_left, else-is_left}

pub loop-i-preserved : goal.loop-i-preserved
loop-i-preserved c =
    let calls = c.args.calls.now in
    let done = c.args.done.now in
    let items = c.args.items.now.items in
    let lt : c.loop-i.i < length items = (let e = c.len-i-end.ensures in omega arith) in
    let at = c.index-item.ensures ∙ get_or_default items c.loop-i.i _ 0 lt in
    let P : ℕ → Type 0 = λ w. IsAsGood calls done w c.if-is_left.as_good in
    let Q : ℕ → Type 0 = λ w. IsAsGood calls done c.index-item.result.now w in
    let good : IsAsGood calls done c.index-item.result.now c.if-is_left.as_good =
    elim c.if-is_left.branch [
      | then-is_left w ↦ inl (sym w.as_good-is)
      | else-is_left w ↦ subst Q (sym w.as_good-is)
          (worthless calls done c.index-item.result.now c.requires
          (λ x. false≢true (sym w.if-is_left.false ∙ c.is_left.ensures.1 x)))
    ] in
    let R : List ℕ → Type 0 = λ t. (length t ≡ c.loop-i.i + 1) in
    let S : List ℕ → Type 0 = λ t. (j : ℕ) → j < c.loop-i.i + 1
    → IsAsGood calls done (get_or items j 0) (get_or t j 0) in
    record {
      sized = subst R (sym c.in_ok-push.ensures.items)
          (simp length-append (let z = c.loop-i.invariant.sized in omega arith));
      good = subst S (sym c.in_ok-push.ensures.items)
          (as_good_more calls done items c.loop-i.kept.items c.loop-i.i c.if-is_left.as_good c.loop-i.invariant.sized
          c.loop-i.invariant.good (subst P at good));
    }
