-- For seats of one type, that their blocks are what a pointer of C's owns.
use Rattle.std.specs.Prelude.{Some}
use base.Fml.{Fml, fall, fsep, fwand}
use denote.RattleType.{RattleType}
use denote.RawPtr.{Ptr}
use Rattle.kfifo_c.specs.Behind.{Behind}
use Rattle.kfifo_c.specs.Held.{block_of, held_owns}

-- what the pointer owns is the seat's block
abbrev pub leaves : (R : RattleType) → (R.Denot → Behind) → Fml
leaves R behind = fall Ptr (λ p. fall R.Denot (λ x. fwand (held_owns p (Some (behind x))) (block_of R p x)))

-- and the other way round
abbrev pub enters : (R : RattleType) → (R.Denot → Behind) → Fml
enters R behind = fall Ptr (λ p. fall R.Denot (λ x. fwand (block_of R p x) (held_owns p (Some (behind x)))))

abbrev pub fits : (R : RattleType) → (R.Denot → Behind) → Fml
fits R behind = fsep (leaves R behind) (enters R behind)
