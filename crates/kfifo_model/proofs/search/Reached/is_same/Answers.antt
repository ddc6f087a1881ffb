use Rattle.std.proofs.Common.{sym, ◌∙◌, ap}
use Rattle.std.specs.Cmp.{booleans_Decides}
use Rattle.std.proofs.lemmas.Slice.Eq.{slice_eq-Decides}
use Rattle.std.proofs.lemmas.Bool.Decides.{Decides-eqb}
use Rattle.kfifo_model.specs.Reach.{reach}
use Rattle.kfifo_model.proofs.search.Reached.is_same.Goals as goal

pub returns-then-eq : goal.returns-then-eq
returns-then-eq c = λ t.
    let d = (slice_eq-Decides booleans_Decides c.self.inside.done.items c.other.inside.done.items c.eq.result
    c.eq.ensures).0
    c.if-eq.true in
    let i = (slice_eq-Decides Decides-eqb c.self.inside.items.items c.other.inside.items.items c.eq-then-eq.result
    c.eq-then-eq.ensures).0
    t in
    sym c.self.view_is
    ∙ (ap (λ x. reach x c.self.inside.items.items) d
    ∙ (ap (λ x. reach c.other.inside.done.items x) i ∙ c.other.view_is))
