use Rattle.std.proofs.Common.{◌∙◌, refl, map, ◌<◌, List, ◌++◌, length, subst}
use Rattle.kfifo_cli_commands.proofs.Types.{Begin}
use Rattle.kfifo_cli_texts.specs.Picks.{picks_of}
use Rattle.kfifo_cli_commands.proofs.commands.replay.play.Goals as goal

pub returns-in_ok-finish-in-Some-clause-ok : goal.returns-in_ok-finish-in-Some-clause-ok
returns-in_ok-finish-in-Some-clause-ok g c =
    let own = map (λ script. script.items) c.args.scripts.now in
    let fed = c.in_ok-feed.ensures.made c.args.shape own _ c.in_ok-replay.ensures.opened in
    let finished = c.in_ok-finish-in-Some.ensures.finished c.args.shape own (picks_of c.args.groups.now) fed in
    rw c.in-Some.is (
      picks_of c.args.groups.now ++ finished.0,
      (
        finished.0,
        refl,
        subst (λ (scripts : List (List Begin)). c.in-Some.thread < length scripts) fed.scripts_are
            c.in_ok-finish-in-Some.ensures.stopped,
        finished.1,
      ),
      finished.2,
    )

pub returns-in-None-clause-ok : goal.returns-in-None-clause-ok
returns-in-None-clause-ok g c =
    let own = map (λ script. script.items) c.args.scripts.now in
    let fed = c.in_ok-feed.ensures.made c.args.shape own _ c.in_ok-replay.ensures.opened in
    rw c.in-None.is (picks_of c.args.groups.now, refl, fed)

pub returns-in_ok-finish-in-Some-clause-kept : goal.returns-in_ok-finish-in-Some-clause-kept
returns-in_ok-finish-in-Some-clause-kept g c asked =
    c.in_ok-finish-in-Some.ensures.most ∙ c.feed.ensures.most ∙ c.in_ok-replay.ensures.most ∙ c.steps_kept.ensures asked

pub returns-in-None-clause-kept : goal.returns-in-None-clause-kept
returns-in-None-clause-kept g c asked = c.feed.ensures.most ∙ c.in_ok-replay.ensures.most ∙ c.steps_kept.ensures asked
