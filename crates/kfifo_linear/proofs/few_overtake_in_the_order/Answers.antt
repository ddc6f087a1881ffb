use Rattle.kfifo_linear.specs.Points.{by_point}
use Rattle.kfifo_linear.proofs.Orders.{is_by_point}
use Rattle.kfifo_linear.proofs.Bounds.{overtaken_in_order}
use Rattle.kfifo_linear.proofs.few_overtake_in_the_order.Goals as goal

pub returns : goal.returns
returns c = λ k steps h m f s below distinct a x i q.
    overtaken_in_order k h m (by_point m.stands m.point steps h) a x f (is_by_point h m steps s below) distinct i q
