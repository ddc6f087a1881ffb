-- All handles have joined the generation that was opened.
use Rattle.std.proofs.Common.{ap, ◌∙◌}
use Rattle.kfifo_live.specs.Pass.{OpenQueue}
use Rattle.kfifo_renewing.proofs.opening.open_first.Goals as goal

pub returns-clause-one : goal.returns-clause-one
returns-clause-one g c =
    let first = c.in_ok-generation.generation in
    let made = c.in_ok-generation.ensures in
    let joined = c.in_ok-handles.ensures in (
      (
        first.queue,
        first.book,
        ap (λ (q : OpenQueue). q.opened) made.0 ∙ c.in_ok-queue.ensures.opened,
        joined.each,
        joined.threads,
      ),
      joined.count,
    )
