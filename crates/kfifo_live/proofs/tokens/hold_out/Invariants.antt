use Rattle.kfifo_live.proofs.tokens.hold_out.Given as goal

abbrev pub ghosts-add_token : goal.ghosts-add_token
ghosts-add_token g a = record { opened = a.seat.now.me.0.opened }
