use Rattle.std.proofs.Common.{ℕ, List, ◌≡◌, ◌+◌, ◌<◌, ◌≤◌, leb, eqb, length, get_or, set, refl, sym, ◌∙◌, ap, subst}
use Rattle.std.proofs.Common.{arith}
use Rattle.std.proofs.lemmas.Bool.{and_left, and_right, and_from, eq-eqb, le-leb, ne_eqb}
use Rattle.std.proofs.lemmas.List.{get_or_default}
use Rattle.std.proofs.Math.ListN.{length-set}
use Rattle.kfifo_verdict.specs.Evidence.{count_below}
use Rattle.kfifo_verdict.specs.Bound.{since, until, counts_from, counts_until}
use Rattle.kfifo_verdict.proofs.Bounding.{counts_same, counts_more, never_from, never_until}
use Rattle.kfifo_verdict.proofs.Younger.{count_few}
use Rattle.kfifo_verdict.proofs.bound.changes_of.Goals as goal
use Rattle.kfifo_verdict.proofs.bound.changes_of.Goals.{then-begin-end, else-begin-end}

pub overflow_add-index_mut : goal.overflow_add-index_mut
overflow_add-index_mut c =
    let s = c.args.soonest.now in
    let ps = c.args.presences.now in
    let p = c.loop-p.p in
    let test = c.loop-p-test.true in
    let low = (c.requires.presences.1 p (omega (arith, test, c.requires.presences.0))).bound in
    let ordered = c.if-begin-end.true in
    let begin = since s ps p in
    let end : until ps p ≤ length c.args.calls.now = low.1 in
    let size = c.requires.soonest.0 in
    let inside : begin < length s = omega (arith, ordered, end, size) in
    let sized = c.loop-p.invariant.sized.0 in
    let value = c.index_mut.ensures.value
    ∙ get_or_default c.loop-p.from.items begin _ 0 (omega (arith, inside, sized)) in
    let is = c.loop-p.invariant.from begin inside in
    let few = count_few (counts_from s ps begin) p in
    omega (arith, value, is, few, test)

pub overflow_add-index_mut-then-begin-end : goal.overflow_add-index_mut-then-begin-end
overflow_add-index_mut-then-begin-end c =
    let s = c.args.soonest.now in
    let ps = c.args.presences.now in
    let p = c.loop-p.p in
    let test = c.loop-p-test.true in
    let low = (c.requires.presences.1 p (omega (arith, test, c.requires.presences.0))).bound in
    let end : until ps p ≤ length c.args.calls.now = low.1 in
    let size = c.requires.soonest.0 in
    let inside : until ps p < length s = omega (arith, end, size) in
    let sized = c.loop-p.invariant.sized.1 in
    let value = c.index_mut-then-begin-end.ensures.value
    ∙ get_or_default c.loop-p.until.items (until ps p) _ 0 (omega (arith, inside, sized)) in
    let is = c.loop-p.invariant.until (until ps p) inside in
    let few = count_few (counts_until s ps (until ps p)) p in
    omega (arith, value, is, few, test)

pub loop-p-preserved : goal.loop-p-preserved
loop-p-preserved c =
    let s = c.args.soonest.now in
    let ps = c.args.presences.now in
    let p = c.loop-p.p in
    let n = length s in
    let begin = since s ps p in
    let end = until ps p in
    let was = c.loop-p.invariant in
    let test = c.loop-p-test.true in
    let size = c.requires.soonest.0 in
    let bound : end ≤ length c.args.calls.now =
    (c.requires.presences.1 p (omega (arith, test, c.requires.presences.0))).bound.1 in
    let in_end : end < n = omega (arith, bound, size) in
    elim c.if-begin-end.branch [
      | then-begin-end w ↦ (
          let ordered : begin ≤ end = w.if-begin-end.true in
          let in_begin : begin < n = omega (arith, ordered, in_end) in
          let sized_from = was.sized.0 in
          let sized_until = was.sized.1 in
          let old_from = w.index_mut.ensures.value
          ∙ get_or_default c.loop-p.from.items begin _ 0 (omega (arith, in_begin, sized_from)) in
          let old_until = w.index_mut-then-begin-end.ensures.value
          ∙ get_or_default c.loop-p.until.items end _ 0 (omega (arith, in_end, sized_until)) in
          let set_from = ap (λ v. v.items) w.from-is ∙ ap (λ x. set c.loop-p.from.items begin (x + 1)) old_from in
          let set_until = ap (λ v. v.items) w.until-is ∙ ap (λ x. set c.loop-p.until.items end (x + 1)) old_until in
          let length_from = ap length set_from in
          let length_until = ap length set_until in
          record {
            sized = (
              omega (
                arith,
                length_from,
                sized_from,
                length-set c.loop-p.from.items begin
                    (get_or c.loop-p.from.items begin 0 + 1),
              ),
              omega (
                arith,
                length_until,
                sized_until,
                length-set c.loop-p.until.items end
                    (get_or c.loop-p.until.items end 0 + 1),
              ),
            );
            from = counts_more (counts_from s ps) n p begin c.loop-p.from.items c.if-begin-end.from.items sized_from
                in_begin set_from
                (and_from (eqb begin begin) (leb begin end) (eq-eqb begin begin refl) (le-leb begin end ordered))
                (λ m ne. and_left (eqb begin m) (leb m end) (ne_eqb begin m (λ e. ne (sym e)))) was.from;
            until = counts_more (counts_until s ps) n p end c.loop-p.until.items c.if-begin-end.until.items sized_until
                in_end set_until (and_from (leb begin end) (eqb end end) (le-leb begin end ordered)
                (eq-eqb end end refl))
                (λ m ne. and_right (leb begin m) (eqb m end) (ne_eqb m end ne)) was.until;
          }
          )
      | else-begin-end w ↦ (
          let late = w.if-begin-end.false in
          let same_from = ap (λ v. v.items) w.from-is in
          let same_until = ap (λ v. v.items) w.until-is in
          let F : List ℕ → Type 0 = λ l. (m : ℕ) → m < n → get_or l m 0 ≡ count_below (counts_from s ps m) (p + 1) in
          let U : List ℕ → Type 0 = λ l. (m : ℕ) → m < n → get_or l m 0 ≡ count_below (counts_until s ps m) (p + 1) in
          record {
            sized = (ap length same_from ∙ was.sized.0, ap length same_until ∙ was.sized.1);
            from = subst F (sym same_from) (counts_same (counts_from s ps) n p c.loop-p.from.items was.from
                (never_from s ps p late));
            until = subst U (sym same_until) (counts_same (counts_until s ps) n p c.loop-p.until.items was.until
                (never_until s ps p late));
          }
          )
    ]
