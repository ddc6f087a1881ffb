use Rattle.kfifo_linear.proofs.Bounds.{certainly_overtaken_below}
use Rattle.kfifo_linear.proofs.few_certainly_overtake.Goals as goal

pub returns : goal.returns
returns c = λ k h m f s distinct a x e q. certainly_overtaken_below k h m a x f s distinct e q
