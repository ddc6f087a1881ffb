-- The steps of a pass are the calls of its payload queue.
use Rattle.kfifo_dispatch.proofs.dispatching.run_one.Goals as goal

pub returns-clause-runs : goal.returns-clause-runs
returns-clause-runs g c = c.run_at_station.ensures.runs
