use Rattle.std.proofs.Common.{◌++◌, ◌+◌, drop, arith}
use Rattle.csv.specs.Records.{fields_of, partial_of}
use Rattle.kfifo_import.specs.Spots.{StandsAt, part}
use Rattle.kfifo_import.specs.declared.walk.Spot.TheVariants as spots
use Rattle.kfifo_import.proofs.Standing.{next_byte, run_at}
use Rattle.kfifo_import.proofs.walk.RowReader.plain.Goals as goal

pub returns-then-end-text : goal.returns-then-end-text
returns-then-end-text c = record {
  some = omega (arith, c.requires.inside, c.if-end-text.true);
  within = c.plain_end-end.ensures.within;
  taken = λ more whole rest s.
      rw c.in_ok-extend_from_slice.ensures.items
      (run_at _ _ _ _ _ _ c.args.text.now more whole rest c.args.at c.plain_end-end.result c.requires.inside
      c.plain_end-end.ensures.from
      c.requires.plain c.plain_end-end.ensures.plain s);
}

pub returns : goal.returns
returns c =
    let text = c.args.text.now in
    let old = c.args.self.now in
    let end = c.plain_end-end.result in
    let within = c.plain_end-end.ensures.within in
    let ended = c.in_ok-end_field.ensures in
    record {
      some = (let from = c.plain_end-end.ensures.from in omega (arith, from));
      within = omega (arith, within, c.if-end-text.false);
      taken = λ more whole rest s.
          let bytes = old.field.items ++ part text c.args.at end in
          let run : StandsAt spots.Plain (fields_of old.row) (partial_of old.row) bytes old.line old.front whole rest
          (drop end text ++ more) =
          run_at _ _ _ _ _ _ text more whole rest c.args.at end c.requires.inside c.plain_end-end.ensures.from
          c.requires.plain c.plain_end-end.ensures.plain s in
          let here = rw (s.none, next_byte text more end (omega (arith, within, c.if-end-text.false))) at run in
          c.in_ok-part.ensures (fields_of old.row) bytes whole rest (drop (end + 1) text ++ more)
          (rw s.none at ended.fields) ended.none ended.bytes (rw (ended.rest.1, ended.rest.2) here);
    }
