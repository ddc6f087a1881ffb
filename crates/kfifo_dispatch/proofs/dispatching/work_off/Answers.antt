-- What the calls of a dispatch came to, one after the other.
use Rattle.std.proofs.Common.{ℕ, All, map, subst, sym, List, ◌∙◌, ◌+◌}
use Rattle.std.proofs.lemmas.List.Elements.{All-map}
use Rattle.kfifo_live.specs.Pass.{IsPassOf}
use Rattle.kfifo_live.specs.Payloads.{PayCloses, PayPassView, new_pay_passes}
use Rattle.kfifo_dispatch.specs.Jobs.{JobView}
use Rattle.kfifo_dispatch.specs.Running.{AreEach, GivesAll}
use Rattle.kfifo_dispatch.specs.Working.{CallerTells, Ended, PassGives, PassRuns, TellsOf}
use Rattle.kfifo_dispatch.specs.declared.task.Task.{Task}
use Rattle.kfifo_dispatch.proofs.Passes.{if_ok}
use Rattle.kfifo_dispatch.proofs.Running.{each_ran, ended, lasts}
use Rattle.kfifo_dispatch.proofs.dispatching.work_off.Goals as goal

-- the passes that came back are of the queue
pub close_with-requires-clause-others : goal.close_with-requires-clause-others
close_with-requires-clause-others g c =
    let queue = c.in_ok-queue.queue in
    subst (λ (ps : List (PayPassView JobView)). All (λ (p : PayPassView JobView). IsPassOf queue p.pass) ps)
    (sym c.in_ok-others.ensures.passes)
    (All-map (λ (p : PayPassView JobView). IsPassOf queue p.pass) (λ b. b.pass) c.in_ok-backs.backs.items
    c.in_ok-backs.ensures.of)

pub returns-clause-run : goal.returns-clause-run
returns-clause-run g c =
    let passed = g.G.Gate.passed c.args.gate.now in
    let told = g.G.WorkGate.told c.args.gate.now in
    let opened = c.in_ok-queue.ensures in
    let queue = c.in_ok-queue.queue in
    let backs = c.in_ok-backs.backs.items in
    let ends = map (ended (λ b. b.pass) (λ b. b.kept)) backs in
    let ran = each_ran c.in_ok-queue.passes.items backs (λ b. b.pass) (λ b. b.kept)
    (PassRuns passed told g.L.Tasks.tasks c.args.shape c.args.seed) c.in_ok-backs.ensures.run
    c.in_ok-others.ensures.all in
    let Runs = λ (ts : List Task) (first : PayPassView JobView) (end : Ended).
    PassRuns passed told ts c.args.shape c.args.seed first end.last end.kept in
    let first_runs = subst (λ (ps : List (PayPassView JobView)). AreEach (Runs g.L.Tasks.tasks) ps ends)
    opened.passes_are ran in
    if_ok c.finish.result (record {
      queue = queue;
      opened = opened.opened;
      given = c.give_all.new.pass;
      refused = map (λ (d : JobView). d.place) c.in_ok-returned.returned.items;
      first = c.in_ok-queue.own;
      first_is = opened.own_is;
      gives = subst (λ (ts : List Task). GivesAll (TellsOf told ts 0) PassGives (c.args.shape.n + 2) 0 c.args.tasks.now
          c.in_ok-queue.own
          c.give_all.new.pass (map (λ (d : JobView). d.place) c.in_ok-returned.returned.items)) c.requires.tasks
          c.in_ok-returned.ensures.gives;
      ends = ends;
      runs = subst (λ (ts : List Task). AreEach (Runs ts) (new_pay_passes queue 1 c.args.workers) ends) c.requires.tasks
          first_runs;
      left = c.in-Ok.left.items;
      closes = subst (λ (ps : List (PayPassView JobView)). PayCloses queue c.give_all.new.pass ps c.in-Ok.left.items)
          (c.in_ok-others.ensures.passes ∙ lasts (λ b. b.pass) (λ b. b.kept) backs) c.in-Ok.ensures.ok;
      works_off = subst (λ (ts : List Task). CallerTells told ts c.in-Ok.left.items) c.requires.tasks
          c.in_ok-finish_left.ensures.told;
    })
