-- The first slot, and then the others.
use Rattle.std.proofs.Common.{◌≡◌, ◌+◌, ap, arith, refl, sym, ◌∙◌}
use Rattle.kfifo_machine.specs.declared.place.Access.TheVariants.{Load}
use Rattle.kfifo_machine.specs.declared.place.Found.TheVariants.{Slot}
use Rattle.kfifo_live.proofs.Scans.{starts_at, lower_row, row_ends}
use Rattle.kfifo_live.proofs.CompleteExecutions.{awaits, comes, comes_as, goes_to, stands_on, runs_on}
use Rattle.kfifo_live.proofs.ring.Ring.scan_all.Goals as goal

pub load-word-requires : goal.load-word-requires
load-word-requires g c =
    let r = c.requires in
    awaits r.scan.1
    (r.scan.0.is_scan.looks 0 ∙ ap Load (starts_at _ _ _ _ _ c.slot_index-origin.ensures.value refl r.start))

pub returns-then-is_wanted : goal.returns-then-is_wanted
returns-then-is_wanted g c scan stands =
    comes stands c.load-word.ensures
    (scan.is_scan.finds 0 c.load-word.result (sym c.is_wanted.ensures ∙ c.if-is_wanted.true)
    ∙ ap (λ n. scan.leads (Slot n c.load-word.result)) (starts_at _ _ _ _ _ c.slot_index-origin.ensures.value refl
    c.requires.start))

pub scan_rest_of_all-requires : goal.scan_rest_of_all-requires
scan_rest_of_all-requires g c =
    let r = c.requires in
    record {
      segment = r.segment;
      origin = c.slot_index-origin.ensures.value;
      start = r.start;
      limit = (omega arith, r.limit);
      scan = (
        r.scan.0,
        goes_to r.scan.1 c.load-word.ensures
            (r.scan.0.is_scan.goes_on 0 c.load-word.result (sym c.is_wanted.ensures ∙ c.if-is_wanted.false)
            (λ last. omega arith)),
      );
    }

pub returns : goal.returns
returns g c scan stands =
    let first = comes stands c.load-word.ensures
    (scan.is_scan.goes_on 0 c.load-word.result (sym c.is_wanted.ensures ∙ c.if-is_wanted.false)
    (λ last. omega arith)) in
    runs_on first (c.scan_rest_of_all.ensures scan (stands_on stands.of first))

pub returns-then-start-eq0 : goal.returns-then-start-eq0
returns-then-start-eq0 g c scan stands =
    comes stands c.load-word.ensures
    (scan.is_scan.is_over 0 c.load-word.result (sym c.is_wanted.ensures ∙ c.if-is_wanted.false)
    (omega arith))

pub scan_row_by_two-requires : goal.scan_row_by_two-requires
scan_row_by_two-requires g c =
    let r = c.requires in
    record {
      row = (
        lower_row r.scan.0 c.slot_index-origin.result c.args.start 1 c.slot_index-origin.ensures.value r.segment r.start
            (omega arith) (omega arith) (omega arith) (omega arith),
        goes_to r.scan.1 c.load-word.ensures
            (r.scan.0.is_scan.goes_on 0 c.load-word.result (sym c.is_wanted.ensures ∙ c.if-is_wanted.false)
            (λ last. omega arith)),
      );
    }

pub returns-then-index-origin : goal.returns-then-index-origin
returns-then-index-origin g c scan stands =
    let r = c.requires in
    let all : 1 + c.args.start ≡ c.args.limit = omega arith in
    let rest = lower_row scan c.slot_index-origin.result c.args.start 1 c.slot_index-origin.ensures.value r.segment
    r.start (omega arith)
    (omega arith) (omega arith) (omega arith) in
    let first = comes stands c.load-word.ensures
    (scan.is_scan.goes_on 0 c.load-word.result (sym c.is_wanted.ensures ∙ c.if-is_wanted.false)
    (λ last. omega arith)) in
    runs_on first (comes_as (c.scan_row_by_two.ensures rest (stands_on stands.of first))
    (row_ends rest all c.scan_row_by_two.result))
