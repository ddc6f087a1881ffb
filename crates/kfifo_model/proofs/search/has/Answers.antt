use Rattle.std.proofs.Common.{ℕ, ◌<◌, length, arith, refl, subst}
use Rattle.std.proofs.lemmas.Bool.{false≢true}
use Rattle.kfifo_model.specs.Lists.{IsIn}
use Rattle.kfifo_model.proofs.Places.{in_from_place, in_place}
use Rattle.kfifo_model.proofs.search.has.Goals as goal

pub returns-then-x-item : goal.returns-then-x-item
returns-then-x-item c =
    let P : ℕ → Type 0 = λ w. IsIn w c.args.items.now in
    (λ t. subst P c.if-x-item.true (in_from_place c.args.items.now c.loop-x.x-index c.loop-x-test.true), λ i. refl)

pub returns : goal.returns
returns c = (
  λ f. absurd (false≢true f),
  λ i. absurd (let p = in_place c.args.item c.args.items.now i in let lt : p.0
      < length c.args.items.now = p.1 in c.loop-x.invariant p.0 (omega arith) p.2),
)
