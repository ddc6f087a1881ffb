use Rattle.std.proofs.Common.{append-nil, refl, rules}
use Rattle.kfifo_import.proofs.Standing.{ends, moved, no_row}
use Rattle.kfifo_import.proofs.walk.RowReader.end.Goals as goal

pub returns-in_ok-end_field : goal.returns-in_ok-end_field
returns-in_ok-end_field c = λ text rest s. record {
  row = λ over.
      rw (
        c.in_ok-end_field.ensures.fields,
        c.in_ok-end_field.ensures.none,
        c.in_ok-end_field.ensures.bytes,
        c.in_ok-end_field.ensures.rest.1,
        c.in_ok-end_field.ensures.rest.2,
        s.none,
        append-nil,
      )
      (ends _ _ _ _ _ _ text rest (search rules) c.requires s);
  none = λ still. absurd (still refl);
}

pub returns-else-not-is_between : goal.returns-else-not-is_between
returns-else-not-is_between c = λ text rest s. record {
  row = λ over. absurd (c.requires over);
  none = λ still. no_row _ _ _ _ _ text rest (moved _ _ _ _ _ _ _ text rest _ (search rules) s);
}
