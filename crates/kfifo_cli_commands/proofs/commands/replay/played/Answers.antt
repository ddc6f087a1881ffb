use Rattle.std.proofs.Common.{◌≡◌, ◌∙◌, false, map, string_bytes, sym, true}
use Rattle.kfifo_model.proofs.Outcomes.{ok_to}
use Rattle.kfifo_cli_commands.specs.Replays.{traces}
use Rattle.kfifo_cli_commands.proofs.EventLines.{no_text}
use Rattle.kfifo_cli_commands.proofs.Refusals.{err_to}
use Rattle.kfifo_cli_commands.proofs.Replaying.{plain_text, traced_text}
use Rattle.kfifo_cli_commands.proofs.commands.replay.played.Goals as goal

pub returns-then-is_traced-clause-ok : goal.returns-then-is_traced-clause-ok
returns-then-is_traced-clause-ok g c =
    let o = c.args.options.now in
    let own = map (λ script. script.items) c.args.scripts.now in
    let played = c.in_ok-replay.ensures.ok in
    let asked : traces o.record o.trace ≡ true = sym c.is_traced.ensures ∙ c.if-is_traced.true in
    ok_to _ _ (λ text told. (
      played.0,
      played.1,
      traced_text o.points o.stopped c.args.shape own played.0 (string_bytes text) o.record o.trace asked
          (told own played.0 played.2),
    )) c.text_of.result c.text_of.ensures.ok

pub returns-then-is_traced-clause-err : goal.returns-then-is_traced-clause-err
returns-then-is_traced-clause-err g c =
    let o = c.args.options.now in
    let own = map (λ script. script.items) c.args.scripts.now in
    let played = c.in_ok-replay.ensures.ok in
    let asked : traces o.record o.trace ≡ true = sym c.is_traced.ensures ∙ c.if-is_traced.true in
    let refused = no_text o c.args.shape own _ played.0 c.in_ok-replay.replay asked played.1 played.2 in
    err_to _ _ refused c.text_of.result c.text_of.ensures.err

pub returns-clause-ok : goal.returns-clause-ok
returns-clause-ok g c =
    let o = c.args.options.now in
    let own = map (λ script. script.items) c.args.scripts.now in
    let played = c.in_ok-replay.ensures.ok in
    let none : traces o.record o.trace ≡ false = sym c.is_traced.ensures ∙ c.if-is_traced.false in
    ok_to _ _ (λ text told. (
      played.0,
      played.1,
      plain_text o.points o.stopped c.args.shape own played.0 (string_bytes text) o.record o.trace none
          (told c.args.shape own played.0 played.2),
    )) c.text_of-else-is_traced.result c.text_of-else-is_traced.ensures.ok
