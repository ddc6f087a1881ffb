use Rattle.kfifo_linear.proofs.Counts.{numbers_agree}
use Rattle.kfifo_linear.proofs.Late.{late_take}
use Rattle.kfifo_linear.proofs.Schedule.{points_hold, has_legal_order, few_overtake, few_certainly, laws_hold}
use Rattle.kfifo_linear.proofs.Schedule.{puts_in_visit, one_order}
use Rattle.kfifo_linear.proofs.every_schedule_has_a_legal_order.Goals as goal

pub returns : goal.returns
returns c = record {
  points = points_hold;
  legal = has_legal_order;
  overtaken = few_overtake;
  certainly = few_certainly;
  laws = laws_hold;
  puts = puts_in_visit;
  numbers = numbers_agree;
  one = one_order;
  in_time = late_take;
}
