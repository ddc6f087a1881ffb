use Rattle.kfifo_live.proofs.meeting.meet.Given as goal

abbrev pub ghosts-join_seats : goal.ghosts-join_seats
ghosts-join_seats a = record { opened = a.seat.now.me.0.opened }
