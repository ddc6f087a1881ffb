-- The caller has given all tasks.
use Rattle.std.proofs.Common.{arith, ap, subst, ◌∙◌, ◌≡◌, ◌+◌, ◌++◌, ℕ, List, ◌<◌, get_or, length, map, take}
use Rattle.std.proofs.Math.Seq.{take-length}
use Rattle.std.proofs.lemmas.List.{get_or_default}
use Rattle.kfifo_dispatch.specs.declared.task.Task.{Task}
use Rattle.kfifo_dispatch.specs.Jobs.{JobView}
use Rattle.kfifo_dispatch.specs.Running.{GivesAll, begun, kept_after}
use Rattle.kfifo_dispatch.specs.Working.{TellsOf}
use Rattle.kfifo_dispatch.proofs.Running.{gives_more, same_trans}
use Rattle.kfifo_dispatch.proofs.dispatching.give_all.Goals as goal

pub loop-place-preserved : goal.loop-place-preserved
loop-place-preserved g c =
    let less : c.loop-place.place < length c.args.tasks.now = omega (arith, c.loop-place-test.true) in
    let task = get_or c.args.tasks.now c.loop-place.place (record { id = 0; left = 0; sum = 0 }) in
    let job : c.new-job.result ≡ begun c.loop-place.place task = c.new-job.ensures in
    let more : map (λ (d : JobView). d.place) c.keep.new.kept.items
    ≡ map (λ (d : JobView). d.place) c.loop-place.returned.items ++ kept_after c.give-given.result =
    c.in_ok-keep.ensures ∙ ap (λ (ns : List ℕ). map (λ (d : JobView). d.place) c.loop-place.returned.items ++ ns)
    c.work_off_refused.ensures.kept in
    record {
      same =
          same_trans (g.P.Station.known c.args.pass.now) (g.P.Station.known c.loop-place.pass)
          (g.P.Station.known c.give-given.new.self)
          c.loop-place.invariant.same c.give-given.ensures.same;
      gives =
          gives_more _ g.P.Station.gives _ _ c.loop-place.place c.args.tasks.now _ _ _ task _ _ _ _ less
          c.loop-place.invariant.gives
          (get_or_default c.args.tasks.now c.loop-place.place _ _ less) job c.turns.ensures c.give-given.ensures.gives
          c.work_off_refused.ensures.told more;
    }

pub returns-clause-gives : goal.returns-clause-gives
returns-clause-gives g c =
    let all : c.loop-place.place ≡ length c.args.tasks.now =
    omega (arith, c.loop-place.auto.place-end, c.loop-place-test.false) in
    let whole : take c.loop-place.place c.args.tasks.now ≡ c.args.tasks.now =
    ap (λ n. take n c.args.tasks.now) all ∙ take-length c.args.tasks.now in
    subst (λ (ts : List Task). GivesAll (TellsOf (g.G.WorkGate.told c.args.gate.now) g.L.Tasks.tasks 0)
    g.P.Station.gives (c.args.shape.n + 2) 0 ts c.args.pass.now c.loop-place.pass
    (map (λ (d : JobView). d.place) c.loop-place.returned.items))
    whole c.loop-place.invariant.gives
