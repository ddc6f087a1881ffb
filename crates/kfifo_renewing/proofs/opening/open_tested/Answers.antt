-- What the tests refuse is refused, and the sizes are those that hold again.
use Rattle.std.proofs.Common.{◌≡◌, length, subst}
use Rattle.kfifo_live.specs.declared.tokens.sizes.Sizes.{Sizes}
use Rattle.kfifo_renewing.specs.declared.fault.RenewFault.TheVariants.{GenerationsOutOfRange}
use Rattle.kfifo_renewing.specs.Renewing.{HaveOne, opening_with}
use Rattle.kfifo_renewing.proofs.Refusing.{err_of}
use Rattle.kfifo_renewing.proofs.opening.open_tested.Goals as goal

pub returns-in-Err-clause-generations : goal.returns-in-Err-clause-generations
returns-in-Err-clause-generations g c most =
    let same = c.in-Err.ensures.generations most in
    let fault = c.in-Err.fault in (
      (λ is. same.0 (err_of fault (GenerationsOutOfRange most) is)),
      (λ why. err_of fault (GenerationsOutOfRange most) (same.1 why)),
    )

pub returns-in-Ok-clause-ok : goal.returns-in-Ok-clause-ok
returns-in-Ok-clause-ok g c =
    let handles = c.in-Ok.handles.items in
    subst (λ (s : Sizes). HaveOne (opening_with g.K.Kind.bare s) handles × (length handles ≡ s.threads))
    c.hold_again.ensures c.in-Ok.ensures.one
