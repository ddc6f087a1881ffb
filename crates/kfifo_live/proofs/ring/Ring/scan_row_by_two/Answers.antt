-- Each two looks lead to the next two.
use Rattle.std.proofs.Common.{◌≡◌, ℕ, ◌+◌, ◌-◌, ◌<◌, ap, subst, arith, sym, ◌∙◌}
use Rattle.kfifo_machine.specs.declared.place.Access.TheVariants.{Load}
use Rattle.kfifo_live.specs.Step.{Onward}
use Rattle.kfifo_live.proofs.CompleteExecutions.{awaits, onward_comes, onward_step}
use Rattle.kfifo_live.proofs.Scans.{onward_first, row_at, row_found, row_goes_on, row_over}
use Rattle.kfifo_live.proofs.ring.Ring.scan_row_by_two.Goals as goal
use Rattle.kfifo_live.proofs.ring.Ring.scan_row_by_two.Goals.{then-count-eq1+else-is_wanted+else-index-end}
use Rattle.kfifo_live.proofs.ring.Ring.scan_row_by_two.Goals.{else-count-eq1}

pub pairs-init : goal.pairs-init
pairs-init g c =
    elim c.if-count-eq1.branch [
      | then-count-eq1+else-is_wanted+else-index-end w ↦ rw (w.seat-is, w.index-is) record {
        from = omega arith;
        inside = omega arith;
        even = omega arith;
        stands = λ row stands.
            onward_step (onward_first row stands) w.load-word.ensures
            (row_goes_on row c.args.first w.load-word.result (omega arith) (omega arith)
            (sym w.is_wanted.ensures ∙ w.if-is_wanted.false));
      }
      | else-count-eq1 w ↦ rw (w.seat-is, w.index-is)
          record {
            from = omega arith;
            inside = omega arith;
            even = omega arith;
            stands = λ row stands. onward_first row stands;
          }
    ]

pub load-next-requires : goal.load-next-requires
load-next-requires g c =
    let i = c.pairs.invariant in
    let row = c.requires.row.0 in
    let more : c.pairs.index + 1 < c.args.first + c.args.count = (let e = i.even in let n = i.inside in omega arith) in
    let on = onward_step (i.stands row c.requires.row.1) c.load-word-in-pairs.ensures
    (row_goes_on row c.pairs.index c.load-word-in-pairs.result i.from more
    (sym c.is_wanted-in-pairs.ensures ∙ c.if-is_wanted-2.false)) in
    awaits on.stands (row.scan.is_scan.looks _ ∙ ap Load (row_at row (c.pairs.index + 1) (omega arith) more))

pub returns-then-is_wanted-3 : goal.returns-then-is_wanted-3
returns-then-is_wanted-3 g c row stands =
    let i = c.pairs.invariant in
    let more : c.pairs.index + 1 < c.args.first + c.args.count = (let e = i.even in let n = i.inside in omega arith) in
    let on = onward_step (i.stands row stands) c.load-word-in-pairs.ensures
    (row_goes_on row c.pairs.index c.load-word-in-pairs.result i.from more
    (sym c.is_wanted-in-pairs.ensures ∙ c.if-is_wanted-2.false)) in
    onward_comes on c.load-next.ensures (row_found row (c.pairs.index + 1) c.load-next.result (omega arith) more
    (sym c.is_wanted-in-pairs-2.ensures ∙ c.if-is_wanted-3.true))

pub returns-then-index-end-2 : goal.returns-then-index-end-2
returns-then-index-end-2 g c row stands =
    let i = c.pairs.invariant in
    let more : c.pairs.index + 1 < c.args.first + c.args.count = (let e = i.even in let n = i.inside in omega arith) in
    let on = onward_step (i.stands row stands) c.load-word-in-pairs.ensures
    (row_goes_on row c.pairs.index c.load-word-in-pairs.result i.from more
    (sym c.is_wanted-in-pairs.ensures ∙ c.if-is_wanted-2.false)) in
    onward_comes on c.load-next.ensures (row_over row (c.pairs.index + 1) c.load-next.result (omega arith) (omega arith)
    (sym c.is_wanted-in-pairs-2.ensures ∙ c.if-is_wanted-3.false))

pub pairs-preserved : goal.pairs-preserved
pairs-preserved g c =
    let i = c.pairs.invariant in
    let more : c.pairs.index + 1 < c.args.first + c.args.count = (let e = i.even in let n = i.inside in omega arith) in
    let two : c.pairs.index + 2 < c.args.first + c.args.count = (let e = i.even in omega arith) in
    record {
      from = omega arith;
      inside = two;
      even = (let e = i.even in omega arith);
      stands = λ row stands.
          (let on = onward_step (i.stands row stands) c.load-word-in-pairs.ensures
          (row_goes_on row c.pairs.index c.load-word-in-pairs.result i.from more
          (sym c.is_wanted-in-pairs.ensures ∙ c.if-is_wanted-2.false)) in
          let same : (c.pairs.index + 1) + 1 ≡ c.pairs.index + 2 = omega arith in
          subst (λ (n : ℕ). Onward c.args.self c.args.seat.now (row.scan.looking (row.offset + (n - c.args.first)))
          c.load-next.new.seat)
          same (onward_step on c.load-next.ensures
          (row_goes_on row (c.pairs.index + 1) c.load-next.result (omega arith) (omega arith)
          (sym c.is_wanted-in-pairs-2.ensures ∙ c.if-is_wanted-3.false))));
    }

pub returns-then-is_wanted : goal.returns-then-is_wanted
returns-then-is_wanted g c row stands =
    onward_comes (onward_first row stands) c.load-word.ensures
    (row_found row c.args.first c.load-word.result (omega arith) (let positive = row.some in omega arith)
    (sym c.is_wanted.ensures ∙ c.if-is_wanted.true))
