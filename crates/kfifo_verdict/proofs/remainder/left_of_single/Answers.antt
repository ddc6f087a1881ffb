use Rattle.std.proofs.Common.{ℕ, ◌≡◌, ◌+◌, ◌<◌, ◌^◌, sym, ◌∙◌, ap, subst, arith, rules}
use Rattle.std.proofs.lemmas.Bool.{le-leb, lt-leb}
use Rattle.kfifo_model.specs.Histories.{call}
use Rattle.kfifo_model.proofs.Checking.{read}
use Rattle.kfifo_verdict.specs.declared.tallies.Tally.{Tally}
use Rattle.kfifo_verdict.specs.Finding.{tally_in}
use Rattle.kfifo_verdict.specs.Remainder.{done_item, is_left, left_below}
use Rattle.kfifo_verdict.proofs.AtEnd.{left_more, left_skip, tells_single}
use Rattle.kfifo_verdict.proofs.Younger.{count_few}
use Rattle.kfifo_verdict.proofs.remainder.left_of_single.Goals as goal
use Rattle.kfifo_verdict.proofs.remainder.left_of_single.Goals.{in-Some+else-tally_of-ne1+then-tally_of-eq0}
use Rattle.kfifo_verdict.proofs.remainder.left_of_single.Goals.{in-Some+else-tally_of-ne1+else-tally_of-eq0, in_default}

pub overflow_add-left : goal.overflow_add-left
overflow_add-left c =
    let h = c.args.calls.now in
    let few = count_few (λ n. is_left h n (done_item (call h n))) c.loop-n.n in
    let is = c.loop-n.invariant in
    let room : c.loop-n.n < 2 ^ 63 = search rules in
    omega (arith, few, is, room)

pub loop-n-preserved : goal.loop-n-preserved
loop-n-preserved c =
    let h = c.args.calls.now in
    let n = c.loop-n.n in
    let inside = c.loop-n-test.true in
    let puts = c.args.items.now.puts in
    let gets = c.args.items.now.gets in
    let said = sym (c.done_item.ensures ∙ ap done_item (read h n _ inside)) in
    let Q : ℕ → Type 0 = λ left. left ≡ left_below h (n + 1) in
    elim c.match-done_item.branch [
      | in-Some+else-tally_of-ne1+then-tally_of-eq0 w ↦ (
          let x = w.in-Some.item in
          let put = ap (λ (t : Tally). t.count) w.tally_of.ensures in
          let once = w.if-tally_of-ne1.false in
          let one : (tally_in puts x).count ≡ 1 = omega (arith, put, once) in
          let none = w.if-tally_of-eq0.true in
          let tells = tells_single h puts gets n x w.tally_of-in-Some.result.count c.requires.puts c.requires.gets
          inside one
          (ap (λ (t : Tally). t.count) w.tally_of-in-Some.ensures) (said ∙ w.in-Some.is) in
          subst Q (sym w.left-is)
          (left_more h n c.loop-n.left c.loop-n.invariant (tells ∙ le-leb _ _ (omega (arith, none))))
          )
      | in-Some+else-tally_of-ne1+else-tally_of-eq0 w ↦ (
          let x = w.in-Some.item in
          let put = ap (λ (t : Tally). t.count) w.tally_of.ensures in
          let once = w.if-tally_of-ne1.false in
          let one : (tally_in puts x).count ≡ 1 = omega (arith, put, once) in
          let some = w.if-tally_of-eq0.false in
          let tells = tells_single h puts gets n x w.tally_of-in-Some.result.count c.requires.puts c.requires.gets
          inside one
          (ap (λ (t : Tally). t.count) w.tally_of-in-Some.ensures) (said ∙ w.in-Some.is) in
          subst Q (sym w.left-is)
          (left_skip h n c.loop-n.left c.loop-n.invariant (tells ∙ lt-leb _ _ (omega (arith, some))))
          )
      | in_default w ↦ subst Q (sym w.left-is)
          (left_skip h n c.loop-n.left c.loop-n.invariant (ap (is_left h n) (said ∙ w.in_default.is)))
    ]
