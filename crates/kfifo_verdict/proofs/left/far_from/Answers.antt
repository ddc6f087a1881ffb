use Rattle.std.proofs.Common.{ℕ, List, ◌≡◌, ◌<◌, max, length, ◌∙◌, ap, subst, arith}
use Rattle.std.proofs.lemmas.List.{get_or_default}
use Rattle.kfifo_verdict.specs.Left.{AreEnds}
use Rattle.kfifo_verdict.proofs.EmptyWhileLeft.{most_more, far_all}
use Rattle.kfifo_verdict.proofs.left.far_from.Goals as goal

pub loop-n-preserved : goal.loop-n-preserved
loop-n-preserved c =
    let h = c.args.calls.now in
    let n = c.loop-n.n in
    let ends = c.in_ok-ends.ends.items in
    let size = c.in_ok-ends.ensures.sized in
    let test = c.loop-n-test.true in
    let end = c.len-n-end.ensures in
    let here : n < length ends = omega (arith, test, end) in
    let inside : n < length h = omega (arith, here, size) in
    most_more h _ _ ends c.loop-n.far.items c.push.new.self.items c.loop-n.most c.max-most.result n c.in_ok-ends.ensures
    inside
    (c.max-most.ensures ∙ ap (λ w. max c.loop-n.most w) (c.index.ensures ∙ get_or_default ends n _ 0 here))
    c.in_ok-push.ensures.items c.loop-n.invariant

pub returns : goal.returns
returns c =
    let size = c.in_ok-ends.ensures.sized in
    let end = c.len-n-end.ensures in
    let test = c.loop-n-test.false in
    let most = c.loop-n.auto.n-end in
    let all : c.loop-n.n ≡ length c.args.calls.now = omega (arith, size, end, test, most) in
    let P : List (ℕ × ℕ × ℕ) → Type 0 = λ w. AreEnds c.args.calls.now w (length w) c.in_ok-ends.ends.items in
    far_all c.args.calls.now c.in_ok-puts.puts.items c.in_ok-ends.ends.items c.loop-n.far.items c.loop-n.most c.loop-n.n
    c.in_ok-puts.ensures (subst P c.deref.ensures.value c.in_ok-ends.ensures) all c.loop-n.invariant
