-- A walk.
use Rattle.std.proofs.Common.{[], ◌∷◌, refl}
use mir.Val.{Val, vstruct, vnil}
use base.Logic.{SProp}
use base.Fml.{ftrue}
use types.Kit.{‵, raw, ◌⊛◌, ◌$◌, ◌∵◌, !, qed, by, keep, use0, fjoin}
use types.Run.{no_more, and_then, returns, enter}
use types.ByLocal.{alloc_all, pass_all, free_all, look_at, sets, get}
use types.Part.{agg}
use contract.Running.{tables}
use denote.Steps.{nothing}
use denote.Triple.Walked.{Stays, walk_of}
use Rattle.std.proofs.raw_atomic.Walks.{proved_at, leaves}
use Rattle.kfifo_c.specs.Fits.{enters, leaves as leaving}
use Rattle.kfifo_c.specs.Behind.{Left}
use Rattle.kfifo_c.proofs.HeldValues.{lone_val, fits_in}
use Rattle.kfifo_c.proofs.Fitting.{made_enters, made_leaves}
use Rattle.kfifo_c.specs.contracts.cell_queue.left_seat.LeftSeat as seat
use Rattle.kfifo_c.specs.contracts.seating.LeftSeatSeating.TheImpl.{ghosts}
use Rattle.kfifo_c.specs.contracts.seating.LeftSeatSeating.fits.{ended, clauses}
use Rattle.kfifo_c.specs.contracts.seating.LeftSeatSeating.fits.Key.{name as #self}
use Rattle.kfifo_c.proofs.seating.LeftSeatSeating.fits.Statement.{statement}
use Rattle.kfifo_c.proofs.seating.LeftSeatSeating.fits.Code as code

pub fits_spec : {M : Type 1} → statement M
fits_spec 𝓤 𝓛 𝓜 𝓡 wired =
    let H = 𝓛.H in let 𝓣 = tables 𝓤 H 𝓜 𝓡 𝓡.env in let c = clauses 𝓛 𝓜.mem 𝓡.returns in
    let fn = code.function in let hs : Stays (ended.signature).params (ended.kept) = tt in
    proved_at 𝓛 ended hs c 𝓜 𝓡 tt #self fn (code.unfolded 𝓤 H 𝓜 𝓡 wired) (λ z are.
    let κs = z.0.0 in let Post : Val → SProp 𝓤 = (walk_of 𝓛 ended hs c).post z in
    qed 𝓛 ((‵ ftrue ⊛ ‵ ftrue) ∷ raw ((c κs z.0.3).requires z.1) ∷ []) ∵ keep ! (1 ∷ []) $
    enter ! 𝓣.C 𝓣.Λ fn [] Post $ alloc_all ! (λ l. pass_all ! refl tt $
    sets ! (agg ! (no_more !)) refl (tt, tt) $
    sets ! (agg ! (and_then ! (get ! refl) (no_more !))) refl (tt, (tt, tt)) $ returns ! (look_at ! 0 refl)
    $ free_all ! refl $ keep ! (0 ∷ []) $
    use0 𝓛 (‵ (enters seat.the_row Left)) (made_enters 𝓛 seat.the_row Left (λ p x. refl)) $
    use0 𝓛 (‵ (leaving seat.the_row Left)) (made_leaves 𝓛 seat.the_row Left (λ p x. refl)) $ fjoin ! $
    fits_in seat.the_row ghosts ! $
    nothing ! $ nothing !
    $ by ! (leaves 𝓛 ended hs c z (lone_val (vstruct vnil)) (record { of = record {} }) tt tt)))
