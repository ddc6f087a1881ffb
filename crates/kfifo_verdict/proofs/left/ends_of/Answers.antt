use Rattle.std.proofs.Common.{ℕ, List, ◌≡◌, ◌+◌, ◌<◌, ◌≤◌, max, length, sym, ◌∙◌, ap, subst, arith}
use Rattle.std.proofs.lemmas.List.{get_or_default}
use Rattle.kfifo_verdict.specs.Left.{AreEnds}
use Rattle.kfifo_verdict.proofs.EmptyWhileLeft.{ends_skip, ends_more}
use Rattle.kfifo_verdict.proofs.left.ends_of.Goals as goal
use Rattle.kfifo_verdict.proofs.left.ends_of.Goals.{then-start-len, else-start-len}

pub loop-i-preserved : goal.loop-i-preserved
loop-i-preserved c =
    let h = c.args.calls.now in
    let puts = c.args.puts.now in
    let i = c.loop-i.i in
    let s = c.span_of-span.result in
    let size = c.loop-i.invariant.sized in
    let long = c.len.ensures in
    let P : List ℕ → Type 0 = λ w. AreEnds h puts (i + 1) w in
    elim c.if-start-len.branch [
      | then-start-len w ↦ (
          let lt = w.if-start-len.true in
          let here : s.start < length c.loop-i.far.items = omega (arith, lt, long) in
          let inside : s.start < length h = omega (arith, here, size) in
          ends_more h puts i c.loop-i.far.items c.if-start-len.far.items s w.max.result c.loop-i.invariant
          c.span_of-span.ensures inside
          (w.max.ensures ∙ ap (λ w. max w s.gone) (w.index.ensures ∙ get_or_default c.loop-i.far.items s.start _ 0
          here))
          (ap (λ v. v.items) w.far-is)
          )
      | else-start-len w ↦ (
          let le = w.if-start-len.false in
          let past : length h ≤ s.start = omega (arith, le, long, size) in
          subst P (ap (λ v. v.items) (sym w.far-is))
          (ends_skip h puts i c.loop-i.far.items s c.loop-i.invariant c.span_of-span.ensures past)
          )
    ]

pub returns : goal.returns
returns c =
    let most = c.loop-i.auto.i-end in
    let least = c.loop-i-test.false in
    let all : c.loop-i.i ≡ length c.args.puts.now = omega (arith, most, least) in
    let P : ℕ → Type 0 = λ w. AreEnds c.args.calls.now c.args.puts.now w c.loop-i.far.items in
    subst P all c.loop-i.invariant
