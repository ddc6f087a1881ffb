-- What the calls with cells did, from what the pass and the free tokens did.
use Rattle.std.proofs.Common.{◌≡◌, Bool, false, true, Option, Some, ap, refl, subst}
use Rattle.kfifo_live.specs.declared.payload.Taken.{Taken}
use Rattle.kfifo_live.specs.declared.payload.Taken.TheVariants as K
use Rattle.kfifo_live.specs.declared.payload.sealing.TakenOrSealed.{TakenOrSealed}
use Rattle.kfifo_live.specs.declared.payload.sealing.TakenOrSealed.TheVariants as S
use Rattle.kfifo_live.specs.declared.tokens.Put.{Put}
use Rattle.kfifo_live.specs.Payloads.{TokenView}
use Rattle.kfifo_live.specs.Tokens.{TokenHandleView}
use Rattle.kfifo_pool.specs.Cells.{Publishes, PutsCell, ReleasesCell, cells_of, cells_or_sealed, with_reserved}
use Rattle.kfifo_pool.specs.Pooled.{CellsInHand, Pooled}

module _ {T : Type 0} where
  -- a put of the token of the cell that was reserved
  pub published : (answer : Put T) (left : Option TokenView) (token : TokenView) (inside old : Pooled T)
      (held : TokenHandleView T)
      (cells : CellsInHand) → inside ≡ old → inside.cells.reserved ≡ Some token → PutsCell token answer inside.held held
      → cells ≡ with_reserved left inside.cells
      → Publishes answer left old (record { held = held; free = inside.free; cells = cells })
  published answer left token inside old held cells is reserved puts kept =
      subst (λ (o : Pooled T). Publishes answer left o (record { held = held; free = inside.free; cells = cells })) is
      (token, reserved, puts, refl, kept)

  -- a release leaves the pass as it is
  pub released_held : (released : Bool) (old new : Pooled T) → ReleasesCell released old new → new.held ≡ old.held
  released_held false old new (none, same) = ap (λ (h : Pooled T). h.held) same
  released_held true old new (token, received, (keeps, held, cells)) = held

-- a take is Busy where what it says of the cell is
pub cells_busy : (taken : Taken TokenView) → cells_of taken ≡ K.Busy → taken ≡ K.Busy
cells_busy (K.Got token) is = absurd cc
cells_busy K.Empty is = absurd cc
cells_busy K.Busy is = refl
cells_busy K.Worn is = absurd cc

-- and so is one that may seal; and it is Sealed where that is
pub cells_or_sealed_busy : (taken : TakenOrSealed TokenView) → cells_or_sealed taken ≡ S.Busy → taken ≡ S.Busy
cells_or_sealed_busy (S.Got token) is = absurd cc
cells_or_sealed_busy S.Empty is = absurd cc
cells_or_sealed_busy S.Sealed is = absurd cc
cells_or_sealed_busy S.Busy is = refl
cells_or_sealed_busy S.Worn is = absurd cc

pub cells_or_sealed_sealed : (taken : TakenOrSealed TokenView) → cells_or_sealed taken ≡ S.Sealed → taken ≡ S.Sealed
cells_or_sealed_sealed (S.Got token) is = absurd cc
cells_or_sealed_sealed S.Empty is = absurd cc
cells_or_sealed_sealed S.Sealed is = refl
cells_or_sealed_sealed S.Busy is = absurd cc
cells_or_sealed_sealed S.Worn is = absurd cc
