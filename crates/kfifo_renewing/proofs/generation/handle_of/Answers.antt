-- Each other handle is still there.
use Rattle.std.proofs.Common.{inl, inr, ⊎_elim}
use Rattle.kfifo_renewing.proofs.generation.handle_of.Goals as goal

pub returns-in-Some-clause-others : goal.returns-in-Some-clause-others
returns-in-Some-clause-others g c h of =
    ⊎_elim inl (λ is. inr (let found = c.in-Some.is in cc)) (c.take_of.ensures.others h of)

pub returns-clause-others : goal.returns-clause-others
returns-clause-others g c h of =
    ⊎_elim inl (λ is. let none = c.in_default.is in absurd cc) (c.take_of.ensures.others h of)
