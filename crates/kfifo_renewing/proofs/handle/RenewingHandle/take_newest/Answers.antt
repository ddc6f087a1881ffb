-- What was taken is returned after a look where it is Empty.
use Rattle.std.proofs.Common.{ap, subst, sym, ◌∙◌}
use Rattle.kfifo_pool.specs.Pooled.{Pooled}
use Rattle.kfifo_renewing.specs.Renewing.{Generations, LooksAgain, TakesThere, with_newest}
use Rattle.kfifo_renewing.proofs.Following.{later-newest, later-trans}
use Rattle.kfifo_renewing.proofs.handle.RenewingHandle.take_newest.Goals as goal

pub returns : goal.returns
returns g c =
    let T = g.row.T.Denot in
    let R = g.K.Kind.takes in
    let now = c.args.self.now in
    let new = c.look_again.new.self in
    let h = c.take-taken.new.self.handle in
    let e = ap (λ (v : Generations T). with_newest v h) c.self.view_is in
    let same = c.look_again.ensures.same in
    let newest = ap (λ (v : Generations T). v.newest) same in record {
      later = later-trans now _ new (later-newest now _ h e) c.look_again.ensures.later;
      same = (
        ap (λ (v : Generations T). v.older) same ∙ ap (λ (v : Generations T). v.older) c.self.view_is,
        ap (λ (v : Generations T). v.number) same ∙ ap (λ (v : Generations T). v.number) c.self.view_is,
      );
      takes = record {
        taken = c.take-taken.result;
        did = subst (λ (x : Pooled T). TakesThere R c.take-taken.result now.newest x) (sym newest)
            (subst (λ (v : Generations T). TakesThere R c.take-taken.result v.newest h) c.self.view_is
            c.take-taken.ensures.takes);
        then = subst (λ (v : Generations T). LooksAgain c.take-taken.result c.look_again.result v new) e
            c.look_again.ensures.looks;
      };
    }
