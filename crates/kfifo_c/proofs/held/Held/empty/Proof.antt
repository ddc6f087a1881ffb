-- A walk.
use Rattle.std.proofs.Common.{◌≡◌, [], ◌∷◌, refl, None, lit<}
use mir.Val.{Val}
use base.Logic.{SProp, emp}
use base.Fml.{ftrue}
use types.Kit.{‵, raw, ◌⊛◌, ◌$◌, ◌∵◌, !, qed, by, move, keep, use0}
use types.Run.{lit, no_more, and_then, returns, enter}
use types.ByLocal.{alloc_all, pass_all, free_all, look_at, sets}
use types.Part.{agg}
use contract.Monad.{fact, fact_i}
use contract.Running.{tables}
use denote.RawPtr.{block_ptr, null_ptr}
use denote.Steps.{nothing}
use denote.Triple.Walked.{Stays, walk_of}
use Rattle.std.proofs.raw_atomic.Walks.{proved_at, leaves}
use Rattle.kfifo_c.proofs.HeldValues.{lone_val, held_in}
use Rattle.kfifo_c.specs.contracts.held.Held.empty.{ended, clauses}
use Rattle.kfifo_c.specs.contracts.held.Held.empty.Key.{name as #self}
use Rattle.kfifo_c.proofs.held.Held.empty.Statement.{statement}
use Rattle.kfifo_c.proofs.held.Held.empty.Code as code

pub empty_spec : {M : Type 1} → statement M
empty_spec 𝓤 𝓛 𝓜 𝓡 wired =
    let H = 𝓛.H in let 𝓣 = tables 𝓤 H 𝓜 𝓡 𝓡.env in let c = clauses 𝓛 𝓜.mem 𝓡.returns in
    let fn = code.function in let hs : Stays (ended.signature).params (ended.kept) = tt in
    proved_at 𝓛 ended hs c 𝓜 𝓡 tt #self fn (code.unfolded 𝓤 H 𝓜 𝓡 wired) (λ z are.
    let κs = z.0.0 in let Post : Val → SProp 𝓤 = (walk_of 𝓛 ended hs c).post z in
    qed 𝓛 ((‵ ftrue ⊛ ‵ ftrue) ∷ raw ((c κs z.0.3).requires z.1) ∷ []) ∵ keep ! [] $
    enter ! 𝓣.C 𝓣.Λ fn [] Post $ alloc_all ! (λ l. pass_all ! refl tt $
    sets ! (agg ! (and_then ! (lit ! tt) (no_more !))) refl (tt, (record { fits = lit< tt }, tt)) $
    returns ! (look_at ! 0 refl)
    $ free_all ! refl $ keep ! [] $ nothing ! $
    held_in ! null_ptr None $ use0 𝓛 (raw (fact 𝓤 (None ≡ None))) (fact_i 𝓤 (None ≡ None) (emp 𝓤) refl) $
    nothing ! $ nothing ! $ move ! (0 ∷ 1 ∷ 3 ∷ 2 ∷ [])
    $ by ! (leaves 𝓛 ended hs c z (lone_val (denote.RawPtr.ptr_val null_ptr)) (record {
      at = null_ptr;
      value = None;
    }) tt tt)))
