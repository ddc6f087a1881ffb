-- From what lay behind a handle, and was put back: what the handle's call did.
use Rattle.std.proofs.Common.{◌≡◌, Option, Some, None, MatchOption, sym, ap, subst, ◌∙◌}
use Rattle.kfifo_c.specs.Behind.{Behind, Items}
use Rattle.kfifo_c.specs.Exports.{Tries}
use Rattle.kfifo_c.specs.Seats.{Seated}

abbrev seat_or : Seated → Option Behind → Seated
seat_or other (Some (Items seat)) = seat
seat_or other o = other

pub tried : {A : Type 0} (may : Seated → Type 0) (makes : A → Seated → Seated → Type 0) (answer : Option A)
    (old new : Option Behind) (seat after : Seated) → old ≡ Some (Items seat) → new ≡ Some (Items after)
    → MatchOption answer ((after ≡ seat) × (¬ may seat)) (λ a. may seat × makes a seat after)
    → Tries Items may makes answer old new
tried {A} may makes None old new seat after was is made = (
  is ∙ ap (λ s. Some (Items s)) made.0 ∙ sym was,
  λ other there. subst (λ s. ¬ may s)
      (ap (seat_or seat) (sym was ∙ there)) made.1,
)
tried {A} may makes (Some a) old new seat after was is made = (seat, after, was, is, made.0, made.1)
