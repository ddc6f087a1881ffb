-- The next place is that of the next thread.
use Rattle.std.proofs.Common.{◌≡◌, ◌≤◌, ◌++◌, ⊎_elim, [], ◌∷◌, refl, sym, ap, ◌∙◌, subst, All, arith}
use Rattle.std.proofs.lemmas.Bool.Decides.{nat_tests}
use Rattle.std.proofs.lemmas.List.Elements.{All-contains}
use Rattle.kfifo_live.specs.Pass.{IsPassOf, OpenQueue}
use Rattle.kfifo_pool.specs.Pooled.{Pooled}
use Rattle.kfifo_renewing.specs.Renewing.{without}
use Rattle.kfifo_renewing.proofs.Parts.{all-from-contains, all-next, others-more}
use Rattle.kfifo_renewing.proofs.generation.Generation.into_parts.Goals as goal

pub loop-place-preserved : goal.loop-place-preserved
loop-place-preserved g c =
    let i = c.loop-place.invariant in
    let added = c.in_ok-add_other.ensures in
    let next = all-next (λ (q : OpenQueue). q ≡ c.args.self.queue) c.in-Some.place c.next.new.self.rest.items
    c.loop-place.place-iterator.rest.items c.in-Some.ensures.steps.0 i.rest in
    record {
      bound = refl;
      same = refl;
      few = omega (arith, c.if-thread-threads.false);
      count = omega (arith, i.count, added.room.1);
      room = subst (λ n. c.args.threads ≤ n) (sym added.room.0) i.room;
      rest = next.1;
      of = subst (λ (q : OpenQueue). All (λ (h : Pooled g.row.T.Denot). IsPassOf q h.held.pass.pass)
          c.add_other.new.others.items) next.0
          (added.of (subst (λ (q : OpenQueue). All (λ (h : Pooled g.row.T.Denot). IsPassOf q h.held.pass.pass)
          c.loop-place.others.items)
          (sym next.0) i.of));
      theirs = all-from-contains (λ (h : Pooled g.row.T.Denot). IsPassOf c.args.self.queue h.held.pass.pass)
          c.add_other.new.theirs.items
          (λ h of. All-contains (λ (p : Pooled g.row.T.Denot). IsPassOf c.args.self.queue p.held.pass.pass)
          c.loop-place.theirs.items h i.theirs (c.add_other.ensures.fewer h of));
      moved = λ h of. added.moved h (i.moved h of);
      others = added.threads ∙ ap (λ l. l ++ without c.args.own (c.loop-place.thread ∷ [])) i.others
          ∙ sym (others-more c.args.own c.loop-place.thread);
    }

pub returns-clause-theirs : goal.returns-clause-theirs
returns-clause-theirs g c h of =
    let empty = c.if-not-is_empty.ensures in
    let long = c.loop-place.theirs.ok.0 in
    ⊎_elim (λ there. there)
    (λ still. let inside = still.1 in absurd (grind (arith, nat_tests)))
    (c.loop-place.invariant.moved h of)
