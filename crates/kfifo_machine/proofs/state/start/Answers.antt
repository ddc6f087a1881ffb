-- The opening state is sound.
use Rattle.std.proofs.Common.{◌≡◌, ◌+◌, ◌*◌, ◌∙◌, replicate, None, refl, rules}
use Rattle.kfifo_machine.proofs.Places.{opens, opening_is, all_none}
use Rattle.kfifo_machine.proofs.state.start.Goals as goal

pub invariant_of-result : goal.invariant_of-result
invariant_of-result c =
    let zeros : c.in_ok-words.words.items ≡ replicate (2 + c.args.shape.n * c.args.shape.k) 0 = search rules in
    let idle : c.in_ok-places.places.items ≡ replicate c.args.threads None = c.in_ok-places.ensures
    ∙ all_none c.args.threads in
    rw (zeros, idle) (opens c.args.shape (2 + c.args.shape.n * c.args.shape.k) c.args.threads refl)

pub returns-clause-opening : goal.returns-clause-opening
returns-clause-opening c =
    let zeros : c.in_ok-words.words.items ≡ replicate (2 + c.args.shape.n * c.args.shape.k) 0 = search rules in
    let idle : c.in_ok-places.places.items ≡ replicate c.args.threads None = c.in_ok-places.ensures
    ∙ all_none c.args.threads in
    (refl, opening_is c.args.shape c.args.threads _ _ zeros idle)
