-- The laws hold of every schedule.
use Rattle.kfifo_linear.proofs.Schedule.{has_legal_order, few_overtake, few_certainly, laws_hold, puts_in_visit}
use Rattle.kfifo_linear.proofs.linearization.linearize.Goals as goal

pub returns-clause-legal : goal.returns-clause-legal
returns-clause-legal c = has_legal_order c.args.shape c.args.threads

pub returns-clause-overtaken : goal.returns-clause-overtaken
returns-clause-overtaken c = few_overtake c.args.shape c.args.threads

pub returns-clause-certainly : goal.returns-clause-certainly
returns-clause-certainly c = few_certainly c.args.shape c.args.threads

pub returns-clause-laws : goal.returns-clause-laws
returns-clause-laws c = laws_hold c.args.shape c.args.threads

pub returns-clause-puts : goal.returns-clause-puts
returns-clause-puts c = puts_in_visit c.args.shape c.args.threads
