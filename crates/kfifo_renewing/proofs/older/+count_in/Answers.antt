-- The values of the first generation, and those of the others, are no more than their slots.
use Rattle.std.proofs.Common.{◌≡◌, ◌≤◌, ◌+◌, ◌*◌, length, arith, ap, sym, ◌∙◌, subst}
use Rattle.kfifo_live.specs.Pass.{OpenQueue}
use Rattle.kfifo_live.specs.declared.view.Opening.{Opening}
use Rattle.kfifo_renewing.specs.Joining.{PartView}
use Rattle.kfifo_renewing.specs.Renewing.{IsOpenedAs, slots_of}
use Rattle.kfifo_renewing.proofs.Counting.{counts-more}
use Rattle.kfifo_renewing.proofs.Parts.{all-next}
use Rattle.kfifo_renewing.proofs.older.+count_in.Goals as goal

pub returns : goal.returns
returns g t c = λ o all.
    let T = g.row.T.Denot in
    let (first, rest) = all-next (λ (p : PartView T). IsOpenedAs o p.handle) c.in-Some.first.now c.in-Some.rest.now
    c.args.parts.now c.in-Some.ensures.cases.0 all in
    let opened : c.queue.result.now.opened ≡ o =
    ap (λ (q : OpenQueue). q.opened) c.queue.ensures ∙ sym c.generation.ensures.1 ∙ first in
    let count : length c.in-Some.rest.now + 1 ≡ length c.args.parts.now =
    omega (arith, ap length c.in-Some.ensures.cases.0) in
    subst (λ n. c.saturating_add.result ≤ n * slots_of o) count
    (counts-more c.saturating_add.result c.count_in.result c.len.result 18446744073709551615 (length c.in-Some.rest.now)
    (slots_of o)
    c.saturating_add.ensures (c.count_in.ensures o rest) (subst (λ (q : Opening). c.len.result ≤ slots_of q) opened
    c.len.ensures))
