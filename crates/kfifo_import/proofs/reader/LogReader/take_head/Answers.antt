use Rattle.std.proofs.Common.{◌++◌, ◌∙◌, ap, append_assoc, arith, sym}
use Rattle.kfifo_import.proofs.Readers.{aside, marked_text, plain_reading, then_both, then_err}
use Rattle.kfifo_import.proofs.reader.LogReader.take_head.Goals as goal

pub returns-then-len-lt3-clause-ok : goal.returns-then-len-lt3-clause-ok
returns-then-len-lt3-clause-ok c = λ text more is fresh. (
  is ∙ sym (append_assoc c.args.head.items c.args.piece.now more)
      ∙ ap (λ held. held ++ more) (sym c.in_ok-extend_from_slice.ensures.items),
  omega arith,
  λ any. aside c.args.self.now _ any any (fresh any),
)

pub returns-clause-ok : goal.returns-clause-ok
returns-clause-ok c =
    then_both c.feed.result _ _ _ (rw (c.without_mark.ensures, c.as_slice.ensures.value) at c.feed.ensures.ok)
    c.feed.ensures.same
    (λ ok same text more is fresh.
    let whole = is ∙ sym (append_assoc c.args.head.items c.args.piece.now more)
    ∙ ap (λ held. held ++ more) (sym c.in_ok-extend_from_slice.ensures.items) in
    plain_reading (λ held. held.items) c.feed.new.self.head c.feed.new.self text more (same.1 ∙ c.requires)
    (ok _ more (marked_text c.args.self.now text c.extend_from_slice.new.self.items more whole (omega arith) fresh)))

pub returns-clause-err : goal.returns-clause-err
returns-clause-err c =
    then_err c.feed.result _ _ (rw (c.without_mark.ensures, c.as_slice.ensures.value) at c.feed.ensures.err)
    (λ refusal says text more is fresh.
    let whole = is ∙ sym (append_assoc c.args.head.items c.args.piece.now more)
    ∙ ap (λ held. held ++ more) (sym c.in_ok-extend_from_slice.ensures.items) in
    says _ more (marked_text c.args.self.now text c.extend_from_slice.new.self.items more whole (omega arith) fresh))
