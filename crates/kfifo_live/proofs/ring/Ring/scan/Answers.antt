-- The first slot, and then the others.
use Rattle.std.proofs.Common.{ap, arith, refl, sym, ◌∙◌}
use Rattle.kfifo_machine.specs.declared.place.Access.TheVariants.{Load}
use Rattle.kfifo_machine.specs.declared.place.Found.TheVariants.{Slot}
use Rattle.kfifo_live.proofs.Scans.{starts_at}
use Rattle.kfifo_live.proofs.CompleteExecutions.{awaits, comes, goes_to, stands_on, runs_on}
use Rattle.kfifo_live.proofs.ring.Ring.scan.Goals as goal

pub load-word-requires : goal.load-word-requires
load-word-requires g c =
    let r = c.requires in
    awaits r.scan.1
    (r.scan.0.is_scan.looks 0 ∙ ap Load (starts_at _ _ _ _ _ c.slot_index-origin.ensures.value refl r.start))

pub returns-then-is_wanted : goal.returns-then-is_wanted
returns-then-is_wanted g c scan stands =
    comes stands c.load-word.ensures
    (scan.is_scan.finds 0 c.load-word.result (sym c.is_wanted.ensures ∙ c.if-is_wanted.true)
    ∙ ap (λ n. scan.leads (Slot n c.load-word.result)) (starts_at _ _ _ _ _ c.slot_index-origin.ensures.value refl
    c.requires.start))

pub scan_rest_of_some-requires : goal.scan_rest_of_some-requires
scan_rest_of_some-requires g c =
    let r = c.requires in
    record {
      segment = r.segment;
      origin = c.slot_index-origin.ensures.value;
      start = r.start;
      limit = (omega arith, r.limit.1);
      scan = (
        r.scan.0,
        goes_to r.scan.1 c.load-word.ensures
            (r.scan.0.is_scan.goes_on 0 c.load-word.result (sym c.is_wanted.ensures ∙ c.if-is_wanted.false)
            (λ last. c.if-limit-eq1.false (sym last))),
      );
    }

pub returns : goal.returns
returns g c scan stands =
    let first = comes stands c.load-word.ensures
    (scan.is_scan.goes_on 0 c.load-word.result (sym c.is_wanted.ensures ∙ c.if-is_wanted.false)
    (λ last. c.if-limit-eq1.false (sym last))) in
    runs_on first (c.scan_rest_of_some.ensures scan (stands_on stands.of first))
