use Rattle.kfifo_live.proofs.tokens.TokenQueue.meet.Given as goal

abbrev pub ghosts-join_seats : goal.ghosts-join_seats
ghosts-join_seats g a = record { opened = a.seat.now.me.0.opened }
