use Rattle.std.proofs.Common.{◌≡◌, ◌++◌, ◌∙◌, ◌⊎◌, ℕ, List, [], arith, inl, inr, refl, rules, subst, take}
use Rattle.std.specs.Io.KnownBytes.{Consumes}
use Rattle.kfifo_import.specs.Readers.{IsReading}
use Rattle.kfifo_cli_commands.specs.Inputs.{IsLogFault}
use Rattle.kfifo_cli_commands.proofs.Intake.{TakesPiece, err_on, fed_all, fed_first, fed_more, fed_wrong, first_wrong}
use Rattle.kfifo_cli_commands.proofs.calls.feed_log.Goals as goal

pub returns-in_err-take_piece-clause-err : goal.returns-in_err-take_piece-clause-err
returns-in_err-take_piece-clause-err g c =
    let failure = c.in_err-take_piece.field-0.0 in
    err_on c.from_residual.result failure _ c.from_residual.ensures.1
    (inr (inr (first_wrong c.args.start.now (g.S.Source.remaining c.args.source.now) c.new-reader.result failure.fault
    c.new-reader.ensures.reads c.in_err-take_piece.ensures.err)))

pub pieces-init : goal.pieces-init
pieces-init g c = record {
  fed = fed_first c.args.start.now (g.S.Source.remaining c.args.source.now) c.new-reader.result c.take_piece.new.reader
      c.new-reader.ensures.reads c.in_ok-take_piece.ensures.ok;
  most = c.in_ok-take_piece.ensures.same ∙ c.new-reader.ensures.most;
  failures = refl;
}

pub returns-then-count-eq0-clause-ok : goal.returns-then-count-eq0-clause-ok
returns-then-count-eq0-clause-ok g c =
    let inv = c.pieces.invariant in
    let none : c.in-Ok.count ≡ 0 = search rules in
    let came : Consumes (g.S.Source.remaining c.pieces.source) (g.S.Source.remaining c.read.new.self) [] =
    subst (λ n. Consumes (g.S.Source.remaining c.pieces.source) (g.S.Source.remaining c.read.new.self)
    (take n c.read.new.piece)) none
    c.in-Ok.ensures.bytes.0 in
    fed_all c.args.start.now (g.S.Source.remaining c.args.source.now) (g.S.Source.remaining c.pieces.source)
    (g.S.Source.remaining c.read.new.self) c.pieces.reader inv.fed came (c.in-Ok.ensures.bytes.1 none (omega arith))

pub returns-in_err-take_piece-2-clause-err : goal.returns-in_err-take_piece-2-clause-err
returns-in_err-take_piece-2-clause-err g c =
    let inv = c.pieces.invariant in
    let failure = c.in_err-take_piece-2.field-0.0 in
    let wrong : (text more : List ℕ) → IsReading c.pieces.reader text (take c.in-Ok.count c.read.new.piece ++ more)
    → IsLogFault text failure.fault = search rules in
    err_on c.from_residual-in_err-take_piece-2.result failure _ c.from_residual-in_err-take_piece-2.ensures.1
    (inr (inr (fed_wrong c.args.start.now (g.S.Source.remaining c.args.source.now)
    (g.S.Source.remaining c.pieces.source)
    (g.S.Source.remaining c.read.new.self) c.pieces.reader (take c.in-Ok.count c.read.new.piece) failure.fault inv.fed
    c.in-Ok.ensures.bytes.0 wrong)))

pub pieces-preserved : goal.pieces-preserved
pieces-preserved g c =
    let inv = c.pieces.invariant in
    let takes : TakesPiece c.pieces.reader c.take_piece-in-pieces.new.reader (take c.in-Ok.count c.read.new.piece) =
    search rules in
    record {
      fed = fed_more c.args.start.now (g.S.Source.remaining c.args.source.now) (g.S.Source.remaining c.pieces.source)
          (g.S.Source.remaining c.read.new.self) c.pieces.reader c.take_piece-in-pieces.new.reader
          (take c.in-Ok.count c.read.new.piece) inv.fed
          c.in-Ok.ensures.bytes.0 takes;
      most = c.in_ok-take_piece-2.ensures.same ∙ inv.most;
      failures = c.in-Ok.ensures.failures ∙ inv.failures;
    }
