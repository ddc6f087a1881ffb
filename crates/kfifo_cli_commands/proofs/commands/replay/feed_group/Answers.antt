use Rattle.std.proofs.Common.{◌∙◌, ◌+◌, ◌-◌, ◌≤◌, arith, subst}
use Rattle.std.proofs.Math.Nat.{min-le_right}
use Rattle.kfifo_replay.specs.Player.{StandsFor}
use Rattle.kfifo_cli_commands.proofs.Types.{Group}
use Rattle.kfifo_cli_commands.proofs.Feeding.{piece_more, piece_stops, place_within}
use Rattle.kfifo_cli_commands.proofs.commands.replay.feed_group.Goals as goal

pub behind-requires : goal.behind-requires
behind-requires g c place is =
    let opened = c.requires.stands in
    let stands = c.loop-fed.invariant.stands opened.0 opened.1 opened.2 opened.3 in
    let piece : Group = record { thread = c.args.group.thread; count = c.min-piece.result } in
    let inside = place_within opened.0 opened.1 _ piece c.in-Err.fault c.feed_many.new.self place
    (c.in-Err.ensures.refused opened.0 opened.1 _ stands) is in
    let room = min-le_right c.room.result (c.args.group.count - c.loop-fed.fed) in
    omega (arith, inside, room, c.min-piece.ensures, c.loop-fed.invariant.within, c.requires.few)

pub loop-fed-preserved : goal.loop-fed-preserved
loop-fed-preserved g c = record {
  most = c.feed_many.ensures.most ∙ c.loop-fed.invariant.most;
  within = let room = min-le_right c.room.result (c.args.group.count - c.loop-fed.fed) in
      omega (arith, room, c.min-piece.ensures, c.loop-fed.invariant.within);
  stands = λ shape scripts earlier opened.
      let stands = c.loop-fed.invariant.stands shape scripts earlier opened in
      subst (λ picks. StandsFor shape scripts picks c.feed_many.new.self)
      (piece_more earlier c.loop-fed.fed c.min-piece.result c.args.group.thread)
      (c.in-Ok.ensures.made shape scripts _ stands);
}

pub returns-in-Err-clause-refused : goal.returns-in-Err-clause-refused
returns-in-Err-clause-refused g c shape scripts earlier opened =
    let stands = c.loop-fed.invariant.stands shape scripts earlier opened in
    let room = min-le_right c.room.result (c.args.group.count - c.loop-fed.fed) in
    let within : c.loop-fed.fed + c.min-piece.result ≤ c.args.group.count =
    omega (arith, room, c.min-piece.ensures, c.loop-fed.invariant.within) in
    rw c.behind.ensures
    (piece_stops shape scripts earlier c.loop-fed.fed c.min-piece.result c.args.group.count c.args.group.thread
    c.in-Err.fault
    c.feed_many.new.self within (c.in-Err.ensures.refused shape scripts _ stands))
