use Rattle.kfifo_live.proofs.payload.PayQueue.meet.Given as goal

abbrev pub ghosts-join_seats : goal.ghosts-join_seats
ghosts-join_seats g a = record { opened = a.seat.now.me.0.opened }
