-- What holds of each list holds of each in the list of lists.
use Rattle.std.proofs.Common.{rules, All, List, Vec, Global}
use Rattle.std.proofs.lemmas.List.Elements.{All-map}
use Rattle.kfifo_machine.specs.declared.event.Begin.{Begin}
use Rattle.kfifo_record.specs.Scripts.{IsCall}
use Rattle.test_live.proofs.tests.record.are_scripts.Goals as goal

pub returns : goal.returns
returns c = λ is.
    let each : All (λ (script : Vec Begin Global). All (IsCall c.args.shape.now) script.items) c.args.scripts.now =
    search rules in
    All-map (λ (script : List Begin). All (IsCall c.args.shape.now) script)
    (λ (script : Vec Begin Global). script.items) c.args.scripts.now
    each
