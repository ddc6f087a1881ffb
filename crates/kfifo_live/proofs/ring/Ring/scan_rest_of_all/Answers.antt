-- The slots behind the start, and then those before it.
use Rattle.std.proofs.Common.{◌≡◌, ◌+◌, ◌-◌, ◌<◌, arith, refl}
use Rattle.kfifo_machine.specs.declared.place.Found.TheVariants.{Nothing}
use Rattle.kfifo_live.proofs.Scans.{upper_row, lower_row, row_ends, row_left}
use Rattle.kfifo_live.proofs.CompleteExecutions.{comes_as, stands_on, runs_on}
use Rattle.kfifo_live.proofs.ring.Ring.scan_rest_of_all.Goals as goal

pub scan_row-requires : goal.scan_row-requires
scan_row-requires g c =
    let r = c.requires in
    record {
      row = (
        upper_row r.scan.0 c.args.origin _ ((c.args.origin + c.args.limit) - ((c.args.origin + c.args.start) + 1))
            r.origin refl r.segment (omega arith) (omega arith) (omega arith),
        r.scan.1,
      );
    }

pub returns-in-Slot : goal.returns-in-Slot
returns-in-Slot g c scan stands =
    let r = c.requires in
    c.in-Slot.ensures
    (upper_row scan c.args.origin _ ((c.args.origin + c.args.limit) - ((c.args.origin + c.args.start) + 1))
    r.origin refl
    r.segment (omega arith) (omega arith) (omega arith)) stands

pub returns-then-start-eq0 : goal.returns-then-start-eq0
returns-then-start-eq0 g c scan stands =
    let r = c.requires in
    let row = upper_row scan c.args.origin _ ((c.args.origin + c.args.limit) - ((c.args.origin + c.args.start) + 1))
    r.origin refl r.segment
    (omega arith) (omega arith) (omega arith) in
    comes_as (c.in_default.ensures row stands) (row_ends row (omega arith) Nothing)

pub scan_row_by_two-requires : goal.scan_row_by_two-requires
scan_row_by_two-requires g c =
    let r = c.requires in
    let less : 1 + ((c.args.origin + c.args.limit) - ((c.args.origin + c.args.start) + 1)) < c.args.limit =
    omega arith in
    let all : (1 + ((c.args.origin + c.args.limit) - ((c.args.origin + c.args.start) + 1))) + c.args.start
    ≡ c.args.limit = omega arith in
    let row = upper_row r.scan.0 c.args.origin _ ((c.args.origin + c.args.limit) - ((c.args.origin + c.args.start) + 1))
    r.origin refl
    r.segment (omega arith) (omega arith) (omega arith) in
    let upper = comes_as (c.in_default.ensures row r.scan.1) (row_left row less) in
    record {
      row = (
        lower_row r.scan.0 c.args.origin c.args.start
            (1 + ((c.args.origin + c.args.limit) - ((c.args.origin + c.args.start) + 1))) r.origin r.segment r.start
            (omega arith)
            (omega arith)
            all (omega arith),
        stands_on r.scan.1.of upper,
      );
    }

pub returns : goal.returns
returns g c scan stands =
    let r = c.requires in
    let less : 1 + ((c.args.origin + c.args.limit) - ((c.args.origin + c.args.start) + 1)) < c.args.limit =
    omega arith in
    let all : (1 + ((c.args.origin + c.args.limit) - ((c.args.origin + c.args.start) + 1))) + c.args.start
    ≡ c.args.limit = omega arith in
    let row = upper_row scan c.args.origin _ ((c.args.origin + c.args.limit) - ((c.args.origin + c.args.start) + 1))
    r.origin refl r.segment
    (omega arith) (omega arith) (omega arith) in
    let rest = lower_row scan c.args.origin c.args.start
    (1 + ((c.args.origin + c.args.limit) - ((c.args.origin + c.args.start) + 1)))
    r.origin r.segment r.start (omega arith) (omega arith) all (omega arith) in
    let upper = comes_as (c.in_default.ensures row stands) (row_left row less) in
    runs_on upper (comes_as (c.scan_row_by_two.ensures rest (stands_on stands.of upper))
    (row_ends rest all c.scan_row_by_two.result))
