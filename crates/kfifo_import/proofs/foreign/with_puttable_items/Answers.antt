use Rattle.std.proofs.Common.{◌≡◌, ◌∙◌, List, ap, false, sym}
use Rattle.std.specs.List.{list_any}
use Rattle.std.proofs.lemmas.Bool.{both_ways}
use Rattle.kfifo_import.specs.declared.log.Line.{Line}
use Rattle.kfifo_import.specs.Foreign.{is_foreign}
use Rattle.kfifo_import.proofs.Kept.{same_lines}
use Rattle.kfifo_import.proofs.foreign.with_puttable_items.Goals as goal

pub returns-then-not-has_foreign : goal.returns-then-not-has_foreign
returns-then-not-has_foreign c =
    let lines = c.args.lines.items in
    let none : list_any is_foreign lines ≡ false =
    ap (λ (w : List Line). list_any is_foreign w) (sym c.as_slice.ensures.value)
    ∙ (sym c.has_foreign.ensures ∙ c.if-not-has_foreign.true) in
    (0, λ e. absurd (both_ways (list_any is_foreign lines) none e), sym (same_lines 0 lines none))
