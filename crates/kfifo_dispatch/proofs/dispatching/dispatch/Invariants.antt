-- The tasks are those that were handed over.
use Rattle.kfifo_dispatch.proofs.dispatching.dispatch.Given as goal

abbrev pub ghosts-work_off : goal.ghosts-work_off
ghosts-work_off g a = record { tasks = a.tasks.now }
