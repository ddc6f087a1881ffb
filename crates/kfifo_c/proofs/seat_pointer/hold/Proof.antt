-- A walk.
use Rattle.std.proofs.Common.{◌≡◌, List, [], ◌∷◌, ◌++◌, refl, sym, subst, Some}
use mir.Syntax.{a_type, dcons, dnil}
use mir.Val.{Val, vptr, vstruct, vnil}
use mir.MapTy.{inst_fn}
use base.Logic.{SProp, ent, emp, id⊢}
use base.Fml.{ftrue, flft}
use prog.Wp.{WpFn}
use types.Kit.{‵, raw, ◌⊛◌, ◌$◌, ◌∵◌, !, qed, by, move, keep, split, fsplit, fjoin, suffices, use0, use2}
use types.Run.{stop, fld, of_opd, no_more, and_then, returns, enter}
use types.ByLocal.{alloc_all, pass_all, free_all, look_at, get, get_in, sets}
use types.Part.{agg, sub, whole}
use contract.Monad.{fact, fact_i}
use contract.Running.{tables}
use denote.Exit.{no}
use denote.RattleType.{RattleType, owns}
use denote.Signature.{types_at, plain}
use denote.RawPtr.{block_ptr}
use denote.Param.{param, bounded}
use denote.Steps.{nothing}
use denote.Triple.Walked.{Stays, stay_dropped, walk_of}
use Rattle.core.proofs.alloc.Calls.{Goes-blank}
use Rattle.std.proofs.raw_atomic.Walks.{proved_at, leaves}
use Rattle.std.specs.contracts.alloc.Global as heap
use Rattle.std.proofs.alloc.Global.TheLaws as heap_laws
use Rattle.std.specs.contracts.impls.GlobalAllocator.TheImpl.{ghosts}
use Rattle.kfifo_c.specs.Held.{held_owns}
use Rattle.kfifo_c.proofs.Fitting.{comes_in}
use Rattle.kfifo_c.proofs.Values.{both, Loose, loose_good, loose_out}
use Rattle.kfifo_c.proofs.HeldValues.{lone_val, Fits, fits_out, held_in}
use Rattle.kfifo_c.specs.contracts.seat_pointer.hold.{ended, clauses}
use Rattle.kfifo_c.specs.contracts.seat_pointer.hold.Key.{name as #self}
use Rattle.kfifo_c.proofs.seat_pointer.hold.Statement.{statement}
use Rattle.kfifo_c.proofs.seat_pointer.hold.Code as code

pub hold_spec : {M : Type 1} → statement M
hold_spec 𝓤 𝓛 𝓜 𝓡 wired S L g d dd met glue =
    let H = 𝓛.H in let 𝓣 = tables 𝓤 H 𝓜 𝓡 𝓡.env in let R : RattleType = param 0 S in
    let Z : RattleType = heap.the_row in
    let LZ = heap_laws.the_row_laws in let En = ended S g d dd in let c = clauses S g d dd 𝓛 𝓜.mem 𝓡.returns in
    let bound = bounded (a_type ∷ []) (S, tt) (dcons d (dcons dd dnil)) in let fn = inst_fn bound code.function in
    let Lr : RattleType = Loose R Z LZ ghosts in let hs : Stays En.signature.params En.kept =
    (stay_dropped (plain (λ _. Lr)) no, (stay_dropped (plain (λ _. Fits R g)) no, tt)) in
    proved_at 𝓛 En hs c 𝓜 𝓡 (
      Goes-blank 𝓛 1 (plain (λ _. Lr)) no (λ κs x f. tt),
      (Goes-blank 𝓛 1 (plain (λ _. Fits R g)) no (λ κs x f. tt), tt),
    ) (#self bound) fn (code.unfolded 𝓤 H 𝓜 𝓡 wired (S, tt) d dd) (λ z are.
    let κs = z.0.0 in let qs = z.0.1 in let v = z.0.3.0 in let Post : Val → SProp 𝓤 = (walk_of 𝓛 En hs c).post z in
    let Run : List Val → SProp 𝓤 = λ ws. WpFn 𝓤 H 𝓣.C 𝓣.Λ fn ws Post in
    let toks = ‵ (flft κs.0 qs.0) ⊛ ‵ ftrue in
    qed 𝓛 ((toks ⊛ ‵ (owns (types_at En.signature.params κs) z.0.3 z.0.4)) ∷ raw ((c κs z.0.3).requires z.1) ∷ []) ∵
    split !
    $ move ! (1 ∷ []) $ fsplit ! $ loose_out R Z LZ ghosts ! v z.0.4.0 (λ b o h e ws good.
    move ! (2 ∷ []) $ fsplit ! $ fits_out R g ! z.0.3.1.0 z.0.4.1.0 (λ us. fsplit ! $ keep ! (3 ∷ 1 ∷ 5 ∷ []) $
    use2 𝓛 (‵ (held_owns (block_ptr b o) (Some (g.behind v.value)))) (comes_in 𝓛 R g.behind (block_ptr b o) v.value) $
    let w : Val = both (vptr b o) h in let f : Val = lone_val (vstruct vnil) in
    let typed = loose_good R Z LZ ghosts b o h good in
    suffices ! (Run (w ∷ f ∷ [])) (subst (λ (us : List Val). ent 𝓤 (Run (w ∷ f ∷ [])) (Run us))
    (sym (λ i. ws i ++ (us i ++ [])))
    (id⊢ 𝓤 (Run (w ∷ f ∷ [])))) $
    enter ! 𝓣.C 𝓣.Λ fn (w ∷ f ∷ []) Post $ alloc_all ! (λ l. pass_all ! refl (typed, ((tt, (tt, tt)), tt)) $
    sets ! (of_opd ! (get_in ! (fld ! refl (stop !)) (sub ! 0 refl (whole !)))) refl (tt, tt) $
    sets ! (of_opd ! (get ! refl)) refl (tt, tt)
    $
    sets ! (agg ! (and_then ! (get ! refl) (no_more !))) refl (tt, (tt, tt)) $ returns ! (look_at ! 0 refl) $
    free_all ! refl
    $ keep ! (0 ∷ 1 ∷ []) $
    let x = Some (g.behind v.value) in
    held_in ! (block_ptr b o) x $ use0 𝓛 (raw (fact 𝓤 (x ≡ x))) (fact_i 𝓤 (x ≡ x) (emp 𝓤) refl) $
    nothing ! $ nothing ! $ fjoin ! $ nothing ! $ fjoin ! $ move ! (3 ∷ 0 ∷ 2 ∷ 1 ∷ [])
    $ by ! (leaves 𝓛 En hs c z (lone_val (vptr b o)) (record {
      at = block_ptr b o;
      value = x;
    }) (tt, (tt, tt)) (tt, (tt, tt)))))))
