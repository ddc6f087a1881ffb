use Rattle.kfifo_verdict.specs.Judging.{IsPlain}
use Rattle.kfifo_verdict.proofs.Sufficing.{twice_never}
use Rattle.kfifo_verdict.proofs.finding.repeatedly_taken.Goals as goal

pub returns-then-items : goal.returns-then-items
returns-then-items c =
    let h = c.args.calls.now in
    let plain : IsPlain h = c.requires.items.plain.0 c.if-items.true in
    λ get twice. c.requires.put get (twice_never h get plain twice)
