-- A walk.
use Rattle.std.proofs.Common.{◌≡◌, List, [], ◌∷◌, ◌++◌, refl, sym, subst, Option, Some, ◌∙◌}
use mir.Syntax.{a_type, dcons, dnil}
use mir.Val.{Val, vptr, vstruct, vnil}
use mir.MapTy.{inst_fn}
use mir.Raw.{raw as bare}
use base.Logic.{SProp, ent, emp, id⊢, never, fst∗}
use base.Fml.{ftrue, flft}
use prog.Wp.{WpFn}
use types.Logic.{sem}
use types.Kit.{‵, raw, ◌⊛◌, ◌$◌, ◌∵◌, !, qed, by, move, keep, drop, split, fsplit, fjoin, suffices, use0, use1, use2}
use types.Kit.{rewrite}
use types.Run.{stop, fld, of_opd, no_more, and_then, returns, enter}
use types.ByLocal.{alloc_all, pass_all, free_all, look_at, get, get_in, sets}
use types.Part.{agg, sub, whole}
use contract.BorrowLft.{◌⊑◌}
use contract.Monad.{fact, fact_i}
use contract.Running.{tables}
use denote.Exit.{no, yes}
use denote.Memory.{lone}
use denote.RattleType.{RattleType, owns}
use denote.Signature.{types_at, plain}
use denote.RawPtr.{block_ptr, null_ptr, ptr_val, in_a_block}
use denote.Param.{param, bounded}
use denote.Steps.{nothing, heard}
use denote.Triple.Walked.{Stays, stay_dropped, walk_of, Goes-dropped}
use Rattle.core.proofs.alloc.Calls.{Goes-blank, handle_tells}
use Rattle.std.proofs.raw_atomic.Walks.{proved_at, leaves}
use Rattle.std.specs.contracts.alloc.Global as heap
use Rattle.std.proofs.alloc.Global.TheLaws as heap_laws
use Rattle.std.specs.contracts.impls.GlobalAllocator.TheImpl.{ghosts}
use Rattle.kfifo_c.specs.Behind.{Behind}
use Rattle.kfifo_c.specs.Held.{heap as global, block_of, held_owns}
use Rattle.kfifo_c.proofs.Fitting.{goes_out}
use Rattle.kfifo_c.proofs.Values.{both, loose_good, loose_in, al}
use Rattle.kfifo_c.proofs.HeldValues.{lone_val, Fits, fits_out, Held, held_out}
use Rattle.kfifo_c.specs.contracts.seat_pointer.release.{ended, clauses}
use Rattle.kfifo_c.specs.contracts.seat_pointer.release.Key.{name as #self}
use Rattle.kfifo_c.proofs.seat_pointer.release.Statement.{statement}
use Rattle.kfifo_c.proofs.seat_pointer.release.Code as code

pub release_spec : {M : Type 1} → statement M
release_spec 𝓤 𝓛 𝓜 𝓡 wired S L g d dd met glue =
    let H = 𝓛.H in let 𝓣 = tables 𝓤 H 𝓜 𝓡 𝓡.env in let R : RattleType = param 0 S in
    let Z : RattleType = heap.the_row in
    let LZ = heap_laws.the_row_laws in let En = ended S g d dd in let c = clauses S g d dd 𝓛 𝓜.mem 𝓡.returns in
    let bound = bounded (a_type ∷ []) (S, tt) (dcons d (dcons dd dnil)) in let fn = inst_fn bound code.function in
    let hs : Stays En.signature.params En.kept = (
      stay_dropped (plain (λ _. Held)) yes,
      (stay_dropped (plain (λ _. Fits R g)) no, (stay_dropped (plain (λ _. Z)) yes, tt)),
    ) in
    proved_at 𝓛 En hs c 𝓜 𝓡 (
      Goes-dropped 𝓛 1 (plain (λ _. Held)) yes (λ κs x f. refl),
      (
        Goes-blank 𝓛 1 (plain (λ _. Fits R g)) no (λ κs x f. tt),
        (Goes-dropped 𝓛 1 (plain (λ _. Z)) yes (λ κs x f. refl), tt),
      ),
    ) (#self bound) fn (code.unfolded 𝓤 H 𝓜 𝓡 wired (S, tt) d dd) (λ z are.
    let κs = z.0.0 in let qs = z.0.1 in let h = z.0.3.0 in let a = z.0.3.1.1.0 in let Post : Val
    → SProp 𝓤 = (walk_of 𝓛 En hs c).post z in
    let Run : List Val → SProp 𝓤 = λ ws. WpFn 𝓤 H 𝓣.C 𝓣.Λ fn ws Post in
    let toks = ‵ (flft κs.0 qs.0) ⊛ ‵ ftrue in
    let Asked : Type 0 = (seat : S.Denot) × (h.value ≡ Some (g.behind seat)) in
    qed 𝓛 ((toks ⊛ ‵ (owns (types_at En.signature.params κs) z.0.3 z.0.4)) ∷ raw ((c κs z.0.3).requires z.1) ∷ []) ∵
    move ! (1 ∷ [])
    $ use1 𝓛 (raw (fact 𝓤 (κs.0 ⊑ S.lives)) ⊛ raw (fact 𝓤 Asked)) (id⊢ 𝓤 _) $ split ! $ drop !
    $ heard ! Asked (λ asked. let x : S.Denot = asked.0 in let has = asked.1 in
    split ! $ move ! (1 ∷ []) $ fsplit ! $ held_out ! h z.0.4.0 (λ hv.
    move ! (1 ∷ []) $ fsplit ! $ fits_out R g ! z.0.3.1.0 z.0.4.1.0 (λ fv. fsplit ! $ move ! (2 ∷ []) $ fsplit !
    $ handle_tells (al R Z LZ ghosts) ! a z.0.4.1.1.0 (λ e ev good. keep ! (4 ∷ 2 ∷ 0 ∷ 5 ∷ []) $
    rewrite ! 0 (λ (u : Option Behind). ‵ (held_owns h.at u)) has refl $
    use2 𝓛 (‵ (block_of R h.at x)) (goes_out 𝓛 R g.behind h.at x) $
    in_a_block ! h.at (λ p. block_of R p x)
    (fst∗ 𝓤 (never 𝓤) (sem 𝓛 (ghosts.dealloc_token global (bare (lone R.mir)) null_ptr))) (λ b o at_b.
    let w : Val = lone_val (vptr b o) in let f : Val = lone_val (vstruct vnil) in
    suffices ! (Run (w ∷ f ∷ e ∷ [])) (subst (λ (us : List Val). ent 𝓤 (Run (w ∷ f ∷ e ∷ [])) (Run us))
    (sym (λ i. (hv ∙ (λ j. lone_val (ptr_val (at_b j)) ∷ [])) i ++ (fv i ++ (ev i ++ []))))
    (id⊢ 𝓤 (Run (w ∷ f ∷ e ∷ [])))) $
    enter ! 𝓣.C 𝓣.Λ fn (w ∷ f ∷ e ∷ []) Post $
    alloc_all ! (λ l. pass_all ! refl ((tt, (tt, tt)), ((tt, (tt, tt)), (good, tt))) $
    sets ! (of_opd ! (get_in ! (fld ! refl (stop !)) (sub ! 0 refl (whole !)))) refl (tt, tt) $
    sets ! (of_opd ! (get ! refl)) refl (tt, tt)
    $
    sets ! (agg ! (and_then ! (get ! refl) (and_then ! (get ! refl) (no_more !)))) refl
    (loose_good R Z LZ ghosts b o e good)
    $ returns ! (look_at ! 0 refl) $ free_all ! refl $ keep ! (0 ∷ 1 ∷ 2 ∷ []) $
    loose_in R Z LZ ghosts ! b o e a x $
    use0 𝓛 (raw (fact 𝓤 (h.value ≡ Some (g.behind x)))) (fact_i 𝓤 (h.value ≡ Some (g.behind x)) (emp 𝓤) has) $
    nothing ! $ nothing ! $ fjoin ! $ nothing ! $ fjoin ! $ nothing ! $ fjoin ! $ move ! (3 ∷ 0 ∷ 2 ∷ 1 ∷ [])
    $ by ! (leaves 𝓛 En hs c z (both (vptr b o) e) (record {
      at = block_ptr b o;
      alloc = a;
      value = x;
    }) (tt, (tt, (tt, tt)))
    (tt, (tt, (tt, tt)))))))))))
