use Rattle.std.proofs.Common.{map, rules}
use Rattle.kfifo_cli_commands.specs.Replays.{IsReplayRefusal}
use Rattle.kfifo_model.proofs.Outcomes.{ok_to}
use Rattle.kfifo_cli_commands.proofs.Refusals.{err_to}
use Rattle.kfifo_cli_commands.proofs.Replaying.{gives, picks_refused, played_refused, script_refused}
use Rattle.kfifo_cli_commands.proofs.commands.replay.answer.Goals as goal

pub returns-in_err-scripts-clause-err : goal.returns-in_err-scripts-clause-err
returns-in_err-scripts-clause-err g c =
    let refusal : IsReplayRefusal c.args.options c.in_err-scripts.field-0.0 =
    script_refused c.args.options c.in_ok-shape.shape c.in_ok-shape.ensures.ok c.k.result c.k.ensures
    c.in_err-scripts.field-0.0
    c.in_err-scripts.ensures.fault in
    search (rules, refusal)

pub returns-in_err-groups-clause-err : goal.returns-in_err-groups-clause-err
returns-in_err-groups-clause-err g c =
    let refusal : IsReplayRefusal c.args.options c.in_err-groups.field-0.0 =
    picks_refused c.args.options c.in_ok-shape.shape c.in_ok-shape.ensures.ok c.k.result c.k.ensures
    (map (λ script. script.items) c.in_ok-scripts.scripts.items) c.in_ok-scripts.ensures.scripts
    c.in_err-groups.field-0.0 c.in_err-groups.ensures in
    search (rules, refusal)

pub returns-clause-ok : goal.returns-clause-ok
returns-clause-ok g c =
    let played = rw (c.as_slice.ensures.value, c.as_slice-2.ensures.value) at c.played.ensures.ok in
    let given = gives c.args.options c.in_ok-shape.shape c.in_ok-shape.ensures.ok c.k.result c.k.ensures
    (map (λ script. script.items) c.in_ok-scripts.scripts.items) c.in_ok-scripts.ensures.scripts
    c.in_ok-groups.groups.items c.in_ok-groups.ensures in
    ok_to _ _ (λ text told. record {
      shape = c.in_ok-shape.shape;
      scripts = map (λ script. script.items) c.in_ok-scripts.scripts.items;
      groups = c.in_ok-groups.groups.items;
      given = given;
      made = told.0;
      makes = told.1;
      is = told.2;
    }) c.played.result played

pub returns-clause-err : goal.returns-clause-err
returns-clause-err g c =
    let unplayed = rw (c.as_slice.ensures.value, c.as_slice-2.ensures.value) at c.played.ensures.err in
    err_to _ _ (λ fault told. played_refused c.args.options c.in_ok-shape.shape c.in_ok-shape.ensures.ok c.k.result
    c.k.ensures
    (map (λ script. script.items) c.in_ok-scripts.scripts.items)
    c.in_ok-scripts.ensures.scripts c.in_ok-groups.groups.items c.in_ok-groups.ensures fault told) c.played.result
    unplayed
