use Rattle.std.proofs.Common.{length}
use Rattle.kfifo_renewing.proofs.places.+has_number.Given as goal

abbrev pub decreases-has_number : goal.decreases-has_number
decreases-has_number g l = length l.joined.now
