use Rattle.std.proofs.Common.{◌<◌, get_or, arith, refl, sym, ◌∙◌, ap, inl, inr}
use Rattle.std.proofs.lemmas.Bool.{false≢true}
use Rattle.kfifo_model.proofs.Places.{pairs_from_places}
use Rattle.kfifo_model.proofs.Checking.{read, at_bounds, breaks_before, keeps_more, most_more, safe_some, no_end}
use Rattle.kfifo_model.specs.Histories.{call, Precedes}
use Rattle.kfifo_model.proofs.orders.keeps_before.Goals as goal
use Rattle.kfifo_model.proofs.orders.keeps_before.Goals.{in-Some+else-end-latest, in_default, then-call-latest}
use Rattle.kfifo_model.proofs.orders.keeps_before.Goals.{else-call-latest}

pub returns-then-end-latest : goal.returns-then-end-latest
returns-then-end-latest c =
    let same = read c.args.calls.now (get_or c.args.order.now c.loop-n.n-index 0) _
    (at_bounds c.args.calls.now c.args.order.now c.loop-n.n-index c.requires c.loop-n-test.true) in
    let e = ap (λ w. w.end) (sym same) ∙ c.in-Some.is in (
      λ f. absurd (false≢true f),
      λ keeps. absurd (elim c.loop-n.invariant.some [
        | inl z ↦ omega arith
        | inr p ↦ breaks_before c.args.calls.now c.args.order.now p.0 c.loop-n.n-index c.in-Some.end p.1
            c.loop-n-test.true e (omega arith) keeps
      ]),
    )

pub returns : goal.returns
returns c = (
  λ t. pairs_from_places (λ x y. Precedes c.args.calls.now y x → ⊥) c.args.order.now
      (λ i j h k. c.loop-n.invariant.kept i j h (omega arith)),
  λ h. refl,
)

pub loop-n-preserved : goal.loop-n-preserved
loop-n-preserved c =
    let same = read c.args.calls.now (get_or c.args.order.now c.loop-n.n-index 0) _
    (at_bounds c.args.calls.now c.args.order.now c.loop-n.n-index c.requires c.loop-n-test.true) in
    record {
      kept = keeps_more c.args.calls.now c.args.order.now c.loop-n.n-index c.loop-n.latest c.loop-n.invariant.kept
          c.loop-n.invariant.most (λ s le. elim c.match-call.branch [
            | in-Some+else-end-latest w
                ↦ safe_some (call c.args.calls.now (get_or c.args.order.now c.loop-n.n-index 0)).end w.in-Some.end
                c.loop-n.latest s (ap (λ w. w.end) (sym same) ∙ w.in-Some.is) w.if-end-latest.false le
            | in_default w ↦ no_end (call c.args.calls.now (get_or c.args.order.now c.loop-n.n-index 0)).end s
                (ap (λ w. w.end) (sym same) ∙ w.in_default.is)
          ]);
      most = elim c.if-call-latest.branch [
        | then-call-latest w ↦ most_more c.args.calls.now c.args.order.now c.loop-n.n-index c.loop-n.latest
            c.if-call-latest.latest
            c.loop-n.invariant.most (let a = w.if-call-latest.true in let b = w.latest-is in omega arith)
            (let a = w.latest-is in let e = ap (λ w. w.first) same in omega arith)
        | else-call-latest w ↦ most_more c.args.calls.now c.args.order.now c.loop-n.n-index c.loop-n.latest
            c.if-call-latest.latest c.loop-n.invariant.most (let b = w.latest-is in omega arith)
            (let f = w.if-call-latest.false in let a = w.latest-is in let e = ap (λ w. w.first) same in omega arith)
      ];
      some = elim c.if-call-latest.branch [
        | then-call-latest w ↦ inr (c.loop-n.n-index, omega arith, ap (λ w. w.first) (sym same) ∙ sym w.latest-is)
        | else-call-latest w ↦ elim c.loop-n.invariant.some [
          | inl z ↦ inl (w.latest-is ∙ z)
          | inr p ↦
              inr (p.0, (let lt : p.0 < c.loop-n.n-index = p.1 in omega arith), p.2 ∙ sym w.latest-is)
        ]
      ];
    }
