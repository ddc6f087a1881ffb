use Rattle.std.proofs.Common.{ℕ, ◌≡◌, true, false, refl, subst, arith, length}
use Rattle.kfifo_draw.specs.Drawing.{AreThoseBelow, IsInPart}
use Rattle.kfifo_draw.proofs.Parts.{drawn_more, drawn_same}
use Rattle.kfifo_draw.proofs.part.drawn_calls.Goals as goal
use Rattle.kfifo_draw.proofs.part.drawn_calls.Goals.{then-is_in_part+in_ok-push, else-is_in_part}

pub loop-number-preserved : goal.loop-number-preserved
loop-number-preserved c = elim c.if-is_in_part.branch [
  | then-is_in_part+in_ok-push w ↦ (
      let is = w.drawn-is in
      let more = w.in_ok-push.ensures.items in
      rw (is, more) (drawn_more (IsInPart c.args.calls.now c.args.logged.now c.args.part) c.loop-number.number
      c.loop-number.drawn.items
      c.loop-number.invariant (w.if-is_in_part.ensures.0 refl))
      )
  | else-is_in_part w ↦ (
      let is = w.drawn-is in
      rw is (drawn_same (IsInPart c.args.calls.now c.args.logged.now c.args.part) c.loop-number.number
      c.loop-number.drawn.items
      c.loop-number.invariant
      (λ p. (let bad : false ≡ true = w.if-is_in_part.ensures.1 p in cc)))
      )
]

pub returns : goal.returns
returns c =
    let P : ℕ → Type 0 = IsInPart c.args.calls.now c.args.logged.now c.args.part in
    let over = c.loop-number-test.false in
    let end : c.loop-number.number ≡ length c.args.calls.now = omega (arith, over, c.loop-number.auto.number-end) in
    subst (λ n. AreThoseBelow P n c.loop-number.drawn.items) end c.loop-number.invariant
