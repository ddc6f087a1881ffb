use Rattle.std.proofs.Common.{ℕ, ◌≡◌, true, false, refl, subst, arith, length}
use Rattle.kfifo_draw.specs.Drawing.{CountsThose, IsInPart}
use Rattle.kfifo_draw.proofs.Parts.{count_more, count_none, count_same}
use Rattle.kfifo_draw.proofs.part.count_drawn.Goals as goal
use Rattle.kfifo_draw.proofs.part.count_drawn.Goals.{then-is_in_part, else-is_in_part}

pub overflow_add-count : goal.overflow_add-count
overflow_add-count c =
    let few = c.loop-number.invariant.1 in
    let here = c.loop-number-test.true in
    omega (arith, few, here, c.loop-number.auto.number-end)

pub loop-number-preserved : goal.loop-number-preserved
loop-number-preserved c =
    let few = c.loop-number.invariant.1 in
    let counted = c.loop-number.invariant.0 in
    elim c.if-is_in_part.branch [
      | then-is_in_part w ↦ (
          let is = w.count-is in
          rw is (
            count_more (IsInPart c.args.calls.now c.args.logged.now c.args.part) c.loop-number.number
                c.loop-number.count counted (w.if-is_in_part.ensures.0 refl),
            omega (arith, few),
          )
          )
      | else-is_in_part w ↦ (
          let is = w.count-is in
          rw is (
            count_same (IsInPart c.args.calls.now c.args.logged.now c.args.part) c.loop-number.number
                c.loop-number.count counted (λ p. (let bad : false ≡ true = w.if-is_in_part.ensures.1 p in cc)),
            omega (arith, few),
          )
          )
    ]

pub loop-number-init : goal.loop-number-init
loop-number-init c = (count_none (IsInPart c.args.calls.now c.args.logged.now c.args.part), omega arith)

pub returns : goal.returns
returns c =
    let P : ℕ → Type 0 = IsInPart c.args.calls.now c.args.logged.now c.args.part in
    let over = c.loop-number-test.false in
    let end : c.loop-number.number ≡ length c.args.calls.now = omega (arith, over, c.loop-number.auto.number-end) in
    subst (λ n. CountsThose P n c.loop-number.count) end c.loop-number.invariant.0
