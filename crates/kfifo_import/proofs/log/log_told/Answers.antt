use Rattle.std.proofs.Common.{rules, ap, arith, length, map, subst, sym, ◌≡◌, ◌≤◌, ◌∙◌}
use Rattle.std.proofs.lemmas.List.{length-map}
use Rattle.std.proofs.lemmas.List.Sorted.{length_permutation}
use Rattle.kfifo_import.specs.declared.log.Line.{Line}
use Rattle.kfifo_import.specs.Lines.{fault_among}
use Rattle.kfifo_import.specs.Logs.{IsImportFault, calls_of, import_fault, logged_call}
use Rattle.kfifo_import.specs.Stamping.{AreStamped}
use Rattle.kfifo_import.proofs.Logs.{calls_rise, refused}
use Rattle.kfifo_import.proofs.Order.{same_fault}
use Rattle.kfifo_import.proofs.log.log_told.Goals as goal

pub stamped-requires-clause-few : goal.stamped-requires-clause-few
stamped-requires-clause-few c =
    let lines = c.args.lines.items in
    let by = c.in_ok-calls.ensures in
    let same : c.as_slice.result.now ≡ calls_of by.0 = c.as_slice.ensures.value ∙ by.2 in
    let mapped = length-map by.0 (λ (x : Line). x.call) in
    let moved = length_permutation lines by.0 by.1.moved in
    let sized : length c.as_slice.result.now ≡ length lines = ap length same ∙ (mapped ∙ moved) in
    let few : length lines ≤ 16777215 = search rules in
    omega (arith, sized, few)

pub stamped-requires-clause-by_first : goal.stamped-requires-clause-by_first
stamped-requires-clause-by_first c =
    let by = c.in_ok-calls.ensures in
    rw (c.as_slice.ensures.value ∙ by.2) (calls_rise by.0 by.1.rise)

pub returns-in-Ok-clause-log : goal.returns-in-Ok-clause-log
returns-in-Ok-clause-log c =
    let by = c.in_ok-calls.ensures in
    let made : AreStamped (calls_of by.0) c.in_ok-found.found.items =
    rw (c.as_slice.ensures.value ∙ by.2) at c.in_ok-found.ensures in
    record {
      few = search rules;
      sorted = by.0;
      by_first = by.1;
      stamped = rw c.in-Ok.ensures.0 made;
      valid = rw c.in-Ok.ensures.0 c.in-Ok.ensures.1;
      logged = by.3;
    }

pub returns-in-Err-clause-log : goal.returns-in-Err-clause-log
returns-in-Err-clause-log c =
    let by = c.in_ok-calls.ensures in
    let made : AreStamped (calls_of by.0) c.in_ok-found.found.items =
    rw (c.as_slice.ensures.value ∙ by.2) at c.in_ok-found.ensures in
    let logged : c.as_slice-in-Err-3.result.now ≡ map logged_call by.0 = c.as_slice-in-Err-3.ensures.value ∙ by.3 in
    let is : c.with_cause.result.fault ≡ import_fault by.0 c.in-Err.fault =
    c.with_cause.ensures.fault
    ∙ (c.from-in-Err.ensures.0 ∙ (c.fault_of.ensures ∙ (ap (λ l. fault_among l c.in-Err.fault) logged
    ∙ same_fault by.0 c.in-Err.fault))) in
    subst (IsImportFault c.args.lines.items) (sym is)
    (refused c.args.lines.items by.0 c.in_ok-found.found.items c.in-Err.fault by.1 made c.in-Err.ensures)
