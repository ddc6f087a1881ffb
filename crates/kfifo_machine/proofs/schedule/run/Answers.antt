-- The laws hold of every schedule.
use Rattle.kfifo_machine.proofs.NoWrap.{no_wrap}
use Rattle.kfifo_machine.proofs.Budget.{few_events}
use Rattle.kfifo_machine.proofs.Refusals.{leaves_none}
use Rattle.kfifo_machine.proofs.Laws.{versions_rise, none_returns, others_leave}
use Rattle.kfifo_machine.proofs.Causes.{full_has_cause}
use Rattle.kfifo_machine.proofs.Wear.{worn_has_cause}
use Rattle.kfifo_machine.proofs.Losses.{busy_has_cause}
use Rattle.kfifo_machine.proofs.Tokens.{items_are_tokens}
use Rattle.kfifo_machine.proofs.BusyIsDisturbed.{busy_is_disturbed}
use Rattle.kfifo_machine.proofs.schedule.run.Goals as goal

pub returns-clause-no_wrap : goal.returns-clause-no_wrap
returns-clause-no_wrap c = no_wrap c.args.shape c.args.threads

pub returns-clause-few_events : goal.returns-clause-few_events
returns-clause-few_events c = few_events c.args.shape c.args.threads

pub returns-clause-leaves_none : goal.returns-clause-leaves_none
returns-clause-leaves_none c = leaves_none c.args.shape c.args.threads

pub returns-clause-versions_rise : goal.returns-clause-versions_rise
returns-clause-versions_rise c = versions_rise c.args.shape c.args.threads

pub returns-clause-none_returns : goal.returns-clause-none_returns
returns-clause-none_returns c = none_returns c.args.shape c.args.threads

pub returns-clause-others_leave : goal.returns-clause-others_leave
returns-clause-others_leave c = others_leave c.args.shape c.args.threads

pub returns-clause-full_has_cause : goal.returns-clause-full_has_cause
returns-clause-full_has_cause c = full_has_cause c.args.shape c.args.threads

pub returns-clause-worn_has_cause : goal.returns-clause-worn_has_cause
returns-clause-worn_has_cause c = worn_has_cause c.args.shape c.args.threads

pub returns-clause-busy_has_cause : goal.returns-clause-busy_has_cause
returns-clause-busy_has_cause c = busy_has_cause c.args.shape c.args.threads

pub returns-clause-busy_is_disturbed : goal.returns-clause-busy_is_disturbed
returns-clause-busy_is_disturbed c = busy_is_disturbed c.args.shape c.args.threads

pub returns-clause-tokens : goal.returns-clause-tokens
returns-clause-tokens c = items_are_tokens c.args.shape c.args.threads
