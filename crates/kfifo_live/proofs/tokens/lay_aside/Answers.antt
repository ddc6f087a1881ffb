-- The token goes back to those at home, of which it is then the only one.
use Rattle.std.proofs.Common.{ap}
use Rattle.kfifo_live.proofs.Types.{View}
use Rattle.kfifo_live.specs.Schedule.{hand_of}
use Rattle.kfifo_live.proofs.tokens.lay_aside.Goals as goal

pub cut_token-alone-requires-clause-some : goal.cut_token-alone-requires-clause-some
cut_token-alone-requires-clause-some g c =
    (_, _, ap (λ (v : View g.row.T.Denot). (hand_of v).at_home) c.lay_back.ensures.lays.afterwards)
