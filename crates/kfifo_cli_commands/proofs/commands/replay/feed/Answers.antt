use Rattle.std.proofs.Common.{◌∙◌, arith, get_or, subst}
use Rattle.std.proofs.lemmas.List.Sums.{sum_by_more, sum_by_more_le}
use Rattle.kfifo_replay.specs.Player.{StandsFor}
use Rattle.kfifo_cli_commands.proofs.Feeding.{no_group, one_more, place_within, stops_on}
use Rattle.kfifo_cli_commands.proofs.commands.replay.feed.Goals as goal

pub overflow_add-made : goal.overflow_add-made
overflow_add-made g c =
    let sums = sum_by_more_le (λ group. group.count) c.args.groups.now c.loop-group.group-index no_group
    c.loop-group-test.true in
    omega (arith, sums, c.loop-group.invariant.count, c.requires.few)

pub behind-requires : goal.behind-requires
behind-requires g c place is =
    let sums = sum_by_more_le (λ group. group.count) c.args.groups.now c.loop-group.group-index no_group
    c.loop-group-test.true in
    let opened = c.requires.stands in
    let stands = c.loop-group.invariant.stands opened.0 opened.1 opened.2 opened.3 in
    let inside = place_within opened.0 opened.1 _ (get_or c.args.groups.now c.loop-group.group-index no_group)
    c.in-Err.fault
    c.feed_group.new.replay place (c.in-Err.ensures.refused opened.0 opened.1 _ stands) is in
    omega (arith, sums, inside, c.loop-group.invariant.count, c.requires.few)

pub loop-group-preserved : goal.loop-group-preserved
loop-group-preserved g c = record {
  most = c.feed_group.ensures.most ∙ c.loop-group.invariant.most;
  count = let sums = sum_by_more (λ group. group.count) c.args.groups.now c.loop-group.group-index no_group
      c.loop-group-test.true in
      omega (arith, sums, c.loop-group.invariant.count);
  stands = λ shape scripts earlier opened.
      let stands = c.loop-group.invariant.stands shape scripts earlier opened in
      subst (λ picks. StandsFor shape scripts picks c.feed_group.new.replay)
      (one_more c.args.groups.now c.loop-group.group-index no_group earlier c.loop-group-test.true)
      (c.in-Ok.ensures.made shape scripts _ stands);
}

pub returns-in-Err-clause-refused : goal.returns-in-Err-clause-refused
returns-in-Err-clause-refused g c shape scripts earlier opened =
    let stands = c.loop-group.invariant.stands shape scripts earlier opened in
    rw (c.behind.ensures, c.loop-group.invariant.count)
    (stops_on shape scripts earlier c.args.groups.now c.loop-group.group-index no_group c.in-Err.fault
    c.feed_group.new.replay
    c.loop-group-test.true (c.in-Err.ensures.refused shape scripts _ stands))

pub feed_group-requires-clause-stands : goal.feed_group-requires-clause-stands
feed_group-requires-clause-stands g c =
    let opened = c.requires.stands in
    (opened.0, opened.1, _, c.loop-group.invariant.stands opened.0 opened.1 opened.2 opened.3)
