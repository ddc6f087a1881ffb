use Rattle.std.proofs.Common.{ℕ, ◌≡◌, ◌+◌, ◌<◌, ◌^◌, leb, List, Some, None, sym, ◌∙◌, ap, subst, arith, rules}
use Rattle.std.proofs.lemmas.Bool.{le-leb, lt-leb}
use Rattle.kfifo_model.specs.declared.calls.Call.{Call}
use Rattle.kfifo_model.specs.Histories.{call}
use Rattle.kfifo_model.proofs.Checking.{read}
use Rattle.kfifo_verdict.specs.declared.tallies.ByItem.{ByItem}
use Rattle.kfifo_verdict.specs.declared.tallies.Tally.{Tally}
use Rattle.kfifo_verdict.specs.Evidence.{gets_of}
use Rattle.kfifo_verdict.specs.Finding.{AreGets, tally_in}
use Rattle.kfifo_verdict.specs.Remainder.{AreDonePuts, done_item, done_puts, is_item, is_left, left_below}
use Rattle.kfifo_verdict.proofs.AtEnd.{left_more, left_skip, puts_more, puts_skip}
use Rattle.kfifo_verdict.proofs.Younger.{count_few}
use Rattle.kfifo_verdict.proofs.remainder.left_of.Goals as goal
use Rattle.kfifo_verdict.proofs.remainder.left_of.Goals.{in-Some+in_ok-set_count, then-tally_of-before}
use Rattle.kfifo_verdict.proofs.remainder.left_of.Goals.{else-tally_of-before, in_default}

pub overflow_add-left : goal.overflow_add-left
overflow_add-left c =
    let h = c.args.calls.now in
    let few = count_few (λ n. is_left h n (done_item (call h n))) c.loop-n.n in
    let is = c.loop-n.invariant.1 in
    let room : c.loop-n.n < 2 ^ 63 = search rules in
    omega (arith, few, is, room)

pub overflow_add-before : goal.overflow_add-before
overflow_add-before c =
    let h = c.args.calls.now in
    let x = c.in-Some.item in
    let few = count_few (λ n. is_item x (done_item (call h n))) c.loop-n.n in
    let is = c.loop-n.invariant.0 x in
    let read = c.count_in-before.ensures in
    let room : c.loop-n.n < 2 ^ 63 = search rules in
    omega (arith, few, is, read, room)

-- the put with this item, before which its item was put so often, leaves an item
tells_left : (h : List Call) (n x before : ℕ) (gets : ByItem) (tally : Tally) → AreGets h gets → tally ≡ tally_in gets x
    → done_item (call h n) ≡ Some x → before ≡ done_puts h x n
    → is_left h n (done_item (call h n)) ≡ leb tally.count before
tells_left h n x before gets tally are told is count =
    let got : gets_of h x ≡ tally.count = sym (ap (λ t. t.count) told ∙ (are x).count) in
    ap (is_left h n) is ∙ (ap (λ g. leb g (done_puts h x n)) got ∙ ap (leb tally.count) (sym count))

pub loop-n-preserved : goal.loop-n-preserved
loop-n-preserved c =
    let h = c.args.calls.now in
    let n = c.loop-n.n in
    let same = read h n _ c.loop-n-test.true in
    let said = sym (c.done_item.ensures ∙ ap done_item same) in
    let P : ByItem → Type 0 = λ m. AreDonePuts h (n + 1) m in
    let Q : ℕ → Type 0 = λ left. left ≡ left_below h (n + 1) in
    elim c.match-done_item.branch [
      | in-Some+in_ok-set_count w ↦ (
          let x = w.in-Some.item in
          let before = w.count_in-before.result in
          let is = said ∙ w.in-Some.is in
          let counted = w.count_in-before.ensures ∙ c.loop-n.invariant.0 x in
          let puts = puts_more h n x c.loop-n.puts w.set_count.new.puts c.loop-n.invariant.0 is
          (w.in_ok-set_count.ensures.set ∙ ap (λ b. b + 1) w.count_in-before.ensures)
          w.in_ok-set_count.ensures.others in
          let tells = tells_left h n x before c.in_ok-gets.gets w.tally_of.result c.in_ok-gets.ensures
          w.tally_of.ensures is counted in
          let left : Q w.if-tally_of-before.left =
          elim w.if-tally_of-before.branch [
            | then-tally_of-before v ↦ subst Q (sym v.left-is)
                (left_more h n c.loop-n.left c.loop-n.invariant.1 (tells ∙ le-leb _ _ v.if-tally_of-before.true))
            | else-tally_of-before v ↦ subst Q (sym v.left-is)
                (left_skip h n c.loop-n.left c.loop-n.invariant.1 (tells ∙ lt-leb _ _ v.if-tally_of-before.false))
          ] in
          (subst P (sym w.puts-is) puts, subst Q (sym w.left-is) left)
          )
      | in_default w ↦ (
          let is : done_item (call h n) ≡ None = said ∙ w.in_default.is in (
            subst P (sym w.puts-is) (puts_skip h n c.loop-n.puts c.loop-n.invariant.0 is),
            subst Q (sym w.left-is) (left_skip h n c.loop-n.left c.loop-n.invariant.1 (ap (is_left h n) is)),
          )
          )
    ]
