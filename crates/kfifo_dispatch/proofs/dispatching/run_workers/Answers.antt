-- Each worker came back from its run.
use Rattle.std.proofs.Common.{arith, length, get_or, map, sym, subst, ◌≡◌, IfOk}
use Rattle.kfifo_live.specs.Payloads.{PayPassView}
use Rattle.kfifo_dispatch.specs.Jobs.{JobView}
use Rattle.kfifo_dispatch.specs.Working.{PassRuns}
use Rattle.kfifo_dispatch.proofs.Running.{are_each}
use Rattle.kfifo_dispatch.proofs.dispatching.run_workers.Goals as goal

pub returns-clause-run : goal.returns-clause-run
returns-clause-run g c =
    let runs = PassRuns (g.G.Gate.passed c.args.gate.now) (g.G.WorkGate.told c.args.gate.now) g.L.Tasks.tasks
    c.args.shape c.args.seed in
    let len : length c.in_ok-backs.backs.items ≡ length c.args.passes.items =
    omega (arith, c.in_ok-backs.ensures.len) in
    are_each _ c.args.passes.items c.in_ok-backs.backs.items len (λ i a b less.
    let given = (c.in_ok-backs.ensures.each i b less).1 in
    let back = get_or c.in_ok-backs.backs.items i b in
    let call = given.call in
    let ran : IfOk back.kept (λ kept. PassRuns (g.G.Gate.passed c.args.gate.now) (g.G.WorkGate.told c.args.gate.now)
    g.L.Tasks.tasks
    c.args.shape c.args.seed given.job back.pass (map (λ (d : JobView). d.place) kept.items)) = search call in
    subst (λ (p : PayPassView JobView). IfOk back.kept
    (λ kept. runs p back.pass (map (λ (d : JobView). d.place) kept.items)))
    (sym (given.job_is a)) ran)
