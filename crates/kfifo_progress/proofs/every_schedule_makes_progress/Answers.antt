use Rattle.kfifo_progress.proofs.Answers.{busy_means_progress, few_turns, some_call_answers, turns_of_few}
use Rattle.kfifo_progress.proofs.Schedule.{some_call_ends}
use Rattle.kfifo_progress.proofs.every_schedule_makes_progress.Goals as goal

pub returns : goal.returns
returns c = record {
  ends = some_call_ends;
  few_threads = turns_of_few;
  turns = few_turns;
  answers = some_call_answers;
  busy = busy_means_progress;
}
