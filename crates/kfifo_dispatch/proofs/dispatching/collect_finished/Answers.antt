-- What one worker more finished, and its pass.
use Rattle.std.proofs.Common.{rules, ◌≡◌, ◌∙◌, ◌++◌, ◌∷◌, [], IsOk, ap, refl, sym, map, Ok}
use Rattle.std.proofs.lemmas.List.{flat_map_more, map_push}
use Rattle.kfifo_dispatch.specs.Jobs.{JobView}
use Rattle.kfifo_dispatch.specs.Working.{places_of}
use Rattle.kfifo_dispatch.proofs.Running.{all_push}
use Rattle.kfifo_dispatch.proofs.Taken.{taken_all}
use Rattle.kfifo_dispatch.proofs.dispatching.collect_finished.Goals as goal

pub loop-back-preserved : goal.loop-back-preserved
loop-back-preserved g c =
    let i = c.loop-back.invariant in
    let back = c.in-Some.back in
    let items = c.in_ok-done-items.done-items in
    let those = c.into_iter-done-iterator in
    let kept : back.kept ≡ Ok items = search rules in
    let whole : c.loop-done.yielded ≡ items.items =
    taken_all items.items those.result c.loop-done.yielded c.loop-done.done-iterator c.next-in-loop-done.new.self
    c.next-in-loop-done.result those.ensures.into_iter_gives.0
    (those.ensures.into_iter_gives.1 ∙ items.ok.0) c.loop-done.yielded_by c.in-None-done.is
    c.next-in-loop-done.ensures.steps in
    let here : map (λ (d : JobView). d.place) c.loop-done.yielded ≡ places_of back.kept =
    ap (map (λ (d : JobView). d.place)) whole ∙ sym (ap places_of kept) in
    record {
      can_next = tt;
      is_finite = tt;
      all = all_push (λ b. IsOk b.kept) c.loop-back.yielded back i.all (rw kept refl);
      passes = c.in_ok-push.ensures.items ∙ (λ k. i.passes k ++ back.pass ∷ [])
          ∙ sym (map_push (λ b. b.pass) c.loop-back.yielded back);
      came =
          c.loop-done.invariant.came ∙ (λ k. i.came k ++ here k)
          ∙ flat_map_more (λ b. places_of b.kept) (map (λ (d : JobView). d.place) c.args.returned.now.items)
          c.loop-back.yielded back;
    }

pub returns-clause-all : goal.returns-clause-all
returns-clause-all g c =
    let it = c.into_iter-back-iterator in
    let whole : c.loop-back.yielded ≡ c.args.backs.items =
    taken_all c.args.backs.items it.result c.loop-back.yielded c.loop-back.back-iterator c.next.new.self c.next.result
    it.ensures.into_iter_gives.0 (it.ensures.into_iter_gives.1 ∙ c.args.backs.ok.0) c.loop-back.yielded_by c.in-None.is
    c.next.ensures.steps in
    rw (sym whole) c.loop-back.invariant.all
