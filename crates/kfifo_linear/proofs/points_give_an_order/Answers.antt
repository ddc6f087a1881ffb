use Rattle.kfifo_linear.specs.Points.{by_point}
use Rattle.kfifo_linear.proofs.Orders.{legal_by_point, is_by_point}
use Rattle.kfifo_linear.proofs.points_give_an_order.Goals as goal

pub returns : goal.returns
returns c = λ k steps h m f s below. legal_by_point k h m (by_point m.stands m.point steps h) f s
    (is_by_point h m steps s below)
