-- Each pass came back with the calls of its script made.
use Rattle.std.proofs.Common.{rules, ◌≡◌, arith, length, get_or}
use Rattle.kfifo_record.specs.Scripts.{MakesInTurn, script_of, scripts_in}
use Rattle.kfifo_record.proofs.Ran.{by_threads}
use Rattle.kfifo_record.proofs.running.run_each.Goals as goal

pub returns : goal.returns
returns g c =
    let scripts = scripts_in c.args.scripts.now in
    let olds = c.args.passes.items in
    let news = c.in_ok-passes.passes.items in
    let len : length news ≡ length olds = omega (arith, c.in_ok-passes.ensures.len) in
    by_threads (g.G.Gate.passed c.args.gate.now) c.args.shape scripts c.args.queue.now olds news c.requires.opened len
    (λ t d less.
    let back = c.in_ok-passes.ensures.each t d less in
    let made : MakesInTurn (g.G.Gate.passed c.args.gate.now (get_or olds t d).pass.thread) 1
    (script_of scripts (get_or olds t d).pass.thread) (get_or olds t d) (get_or news t d) = search rules in made)
