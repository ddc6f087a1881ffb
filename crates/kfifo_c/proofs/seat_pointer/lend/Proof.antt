-- A walk.
use Rattle.std.proofs.Common.{◌≡◌, ℕ, List, [], ◌∷◌, ◌++◌, refl, sym, subst, Option, Some, ◌∙◌}
use mir.Syntax.{named, a_type, dcons, dnil}
use mir.Val.{Val, vptr, vstruct, vnil}
use mir.MapTy.{inst_fn}
use mir.Raw.{raw as bare}
use base.Fraction.{full_share}
use base.Logic.{SProp, ent, emp, sep, id⊢, never, fst∗}
use base.Fml.{Fml, Lft, GName, ftrue, fsep, flft}
use prog.Wp.{WpFn}
use types.Logic.{sem}
use types.Kit.{‵, raw, ◌⊛◌, some, later, at_ret, ◌$◌, ◌∵◌, !, qed, by, move, keep, drop, split, join, pick, use1, use2}
use types.Kit.{await, group, rewrite, use0, split3, done, suffices, fsplit, fsplit3, fjoin, fpack, feq_l}
use types.Run.{stop, fld, load, addr, of_opd, first, blocks, exec, returns, enter}
use types.ByLocal.{alloc_all, pass_all, free_all, look_at, get, through, sets, sets_last, env}
use types.Part.{sub, whole, look_in}
use contract.Monad.{fact, fact_i}
use contract.BorrowLft.{◌⊑◌}
use contract.Running.{tables}
use denote.Builtin.{RefMutOf}
use denote.Exit.{no}
use denote.Follow.{follows, Part, lends_Part}
use denote.Memory.{lone, part_at, cell_at, mem, part_of}
use denote.RattleType.{RattleType, owns}
use denote.RawPtr.{Ptr, block_ptr, null_ptr, ptr_val, in_a_block}
use denote.Ref.{MutRef}
use denote.Signature.{types_at, plain}
use denote.Param.{param, bounded}
use denote.Steps.{nothing, heard, opens}
use denote.Triple.Walked.{Stays, stay_dropped, walk_of, Goes-spent_ref}
use Rattle.core.proofs.alloc.Calls.{Goes-blank}
use Rattle.core.proofs.alloc.Shapes.{after}
use Rattle.std.proofs.raw_atomic.Walks.{proved_at, leaves}
use Rattle.std.specs.contracts.impls.GlobalAllocator.TheImpl.{ghosts}
use Rattle.kfifo_c.specs.Behind.{Behind}
use Rattle.kfifo_c.specs.Held.{heap, block_of, held_owns}
use Rattle.kfifo_c.specs.Fits.{enters}
use Rattle.kfifo_c.specs.SeatPointer.{held_with}
use Rattle.kfifo_c.proofs.Fitting.{comes_in, goes_out}
use Rattle.kfifo_c.proofs.HeldValues.{lone_val, Fits, fits_out, Held, held_out, held_in}
use Rattle.kfifo_c.specs.contracts.seat_pointer.lend.{ended, clauses}
use Rattle.kfifo_c.specs.contracts.seat_pointer.lend.Key.{name as #self}
use Rattle.kfifo_c.proofs.seat_pointer.lend.Statement.{statement}
use Rattle.kfifo_c.proofs.seat_pointer.lend.Code as code

pub lend_spec : {M : Type 1} → statement M
unfolding part_of
lend_spec 𝓤 𝓛 𝓜 𝓡 wired S L g d dd met glue =
    let H = 𝓛.H in let A = 𝓛.A in let 𝓣 = tables 𝓤 H 𝓜 𝓡 𝓡.env in let R : RattleType = param 0 S in
    let En = ended S g d dd in let c = clauses S g d dd 𝓛 𝓜.mem 𝓡.returns in
    let bound = bounded (a_type ∷ []) (S, tt) (dcons d (dcons dd dnil)) in let fn = inst_fn bound code.function in
    let hs : Stays En.signature.params En.kept = (
      stay_dropped (RefMutOf (0 ∷ []) tt (plain (λ _. Held)) (λ _. tt)) no,
      (stay_dropped (plain (λ _. Fits R g)) no, tt),
    ) in
    proved_at 𝓛 En hs c 𝓜 𝓡 (
      Goes-spent_ref 𝓛 2 (0 ∷ []) tt (plain (λ _. Held)),
      (Goes-blank 𝓛 2 (plain (λ _. Fits R g)) no (λ κs x f. tt), tt),
    ) (#self bound) fn (code.unfolded 𝓤 H 𝓜 𝓡 wired (S, tt) d dd) (λ z are.
    let κs = z.0.0 in let qs = z.0.1 in let κ : Lft = κs.0 in let q = qs.0 in
    let a = z.0.3.0 in let rb : ℕ = a.ref_ptr.0 in let ro : ℕ = a.ref_ptr.1 in let γ : GName = a.ghost_name in
    let h : Held.Denot = a.now in let Post : Val → SProp 𝓤 = (walk_of 𝓛 En hs c).post z in
    let Run : List Val → SProp 𝓤 = λ ws. WpFn 𝓤 H 𝓣.C 𝓣.Λ fn ws Post in
    let toks = ‵ (flft κs.0 qs.0) ⊛ ‵ (flft κs.1.0 qs.1.0) ⊛ ‵ ftrue in
    let Asked : Type 0 = (seat : S.Denot) × (h.value ≡ Some (g.behind seat)) in
    qed 𝓛 ((toks ⊛ ‵ (owns (types_at En.signature.params κs) z.0.3 z.0.4)) ∷ raw ((c κs z.0.3).requires z.1) ∷ []) ∵
    move ! (1 ∷ [])
    $ use1 𝓛 (raw (fact 𝓤 (κs.1.0 ⊑ S.lives)) ⊛ raw (fact 𝓤 Asked)) (id⊢ 𝓤 _) $ split ! $ drop !
    $ heard ! Asked (λ asked. let x : S.Denot = asked.0 in let has = asked.1 in
    split ! $ move ! (1 ∷ []) $ fsplit ! $ move ! (1 ∷ []) $ fsplit ! $
    fits_out R g ! z.0.3.1.0 z.0.4.1.0 (λ fs. fsplit !
    $ move ! (3 ∷ []) $ fsplit3 ! $ feq_l ! (λ rs. move ! (5 ∷ []) $ split3 ! $ keep ! (3 ∷ 4 ∷ 0 ∷ 5 ∷ 6 ∷ 1 ∷ []) $
    let r : Val = vptr rb ro in let f : Val = lone_val (vstruct vnil) in
    suffices ! (Run (r ∷ f ∷ [])) (subst (λ (us : List Val). ent 𝓤 (Run (r ∷ f ∷ [])) (Run us))
    (sym (λ i. rs i ++ (fs i ++ [])))
    (id⊢ 𝓤 (Run (r ∷ f ∷ [])))) $
    enter ! 𝓣.C 𝓣.Λ fn (r ∷ f ∷ []) Post $ alloc_all ! (λ l. pass_all ! refl ((tt, tt), ((tt, (tt, tt)), tt)) $
    let Ev = env fn.locals l in
    opens ! tt Held rb ro (λ vs. move ! (1 ∷ []) $ held_out ! h vs (λ ws.
    rewrite ! 0 (λ (u : Option Behind). ‵ (held_owns h.at u)) has refl $ move ! (0 ∷ 5 ∷ []) $
    use2 𝓛 (‵ (block_of R h.at x)) (goes_out 𝓛 R g.behind h.at x) $
    in_a_block ! h.at (λ p. block_of R p x)
    (fst∗ 𝓤 (never 𝓤) (sem 𝓛 (ghosts.dealloc_token heap (bare (lone R.mir)) null_ptr))) (λ b o at_b.
    fsplit ! $
    let w₀ : Val = lone_val (vptr b o) in
    rewrite ! 2 (λ (us : List Val). ‵ (cell_at full_share Held.mir us rb ro))
    (ws ∙ (λ i. lone_val (ptr_val (at_b i)) ∷ [])) refl $
    let Token : Fml = ghosts.dealloc_token heap (bare (lone R.mir)) (block_ptr b o) in
    let Cell : Fml = cell_at full_share Held.mir (w₀ ∷ []) rb ro in
    let Rest : Fml = fsep Token (fsep Cell (enters R g.behind)) in
    let back : (w : S.Denot) → ent 𝓤 (sep 𝓤 (sem 𝓛 ((mem R).own_at w b o)) (sem 𝓛 Rest))
    (sem 𝓛 ((mem Held).own_at (held_with g.behind h w) rb ro)) = λ w.
    qed 𝓛 (‵ (part_at R full_share w b o) ∷ ‵ Rest ∷ []) ∵ move ! (1 ∷ []) $ fsplit ! $ move ! (2 ∷ 0 ∷ []) $ fjoin ! $
    move ! (1 ∷ [])
    $ fsplit ! $ move ! (2 ∷ 1 ∷ []) $
    rewrite ! 0 (λ (p : Ptr). ‵ (block_of R p w)) (sym at_b) refl $
    use2 𝓛 (‵ (held_owns h.at (Some (g.behind w)))) (comes_in 𝓛 R g.behind h.at w) $
    held_in ! h.at (Some (g.behind w)) $
    rewrite ! 0 (λ (p : Ptr). ‵ (Held.own_val (held_with g.behind h w) (lone_val (ptr_val p) ∷ []))) at_b refl $
    move ! (1 ∷ 0 ∷ []) $ fjoin ! $
    fpack ! (List Val) (λ us. fsep (cell_at full_share Held.mir us rb ro) (Held.own_val (held_with g.behind h w) us))
    (w₀ ∷ []) $ done ! in
    first ! $ blocks ! $
    sets ! (of_opd ! (load ! (through ! refl (fld ! refl (stop !))) (look_in ! 2 (sub ! 0 refl (whole !))))) refl
    (tt, tt) $
    sets ! (of_opd ! (get ! refl)) refl (tt, tt) $
    sets_last ! (addr ! (through ! refl (stop !))) refl (tt, tt) $
    exec ! 𝓣.C 𝓣.Λ Ev (after 1 fn.body) (at_ret Ev Post) $
    sets ! (of_opd ! (get ! refl)) refl (tt, tt) $
    move ! (2 ∷ 6 ∷ []) $ fjoin ! $ move ! (2 ∷ 0 ∷ []) $ fjoin ! $ move ! (2 ∷ 3 ∷ 4 ∷ 1 ∷ 0 ∷ []) $ group ! 5 $
    use1 𝓛 (later
    (some (λ (γ' : GName). raw (Part 𝓛 Held R (held_with g.behind h) (named 0) κ q rb ro b o γ (sem 𝓛 Rest) back x
    γ'))))
    (lends_Part 𝓛 Held R (held_with g.behind h) (named 0) κ q rb ro b o γ (sem 𝓛 Rest) back (Held.coded.code h)
    (Held.coded.code h) x)
    $ await ! tt $ pick ! (λ γ'.
    returns ! (look_at ! 0 refl) $ free_all ! refl $ keep ! (0 ∷ 1 ∷ []) $
    let lent : (MutRef (named 0) κ R).Denot = record { ref_ptr = (b, o); ghost_name = γ'; now = x } in
    use1 𝓛 (‵ ((MutRef (named 0) κ R).own_val lent (vptr b o ∷ [])) ⊛ ‵ (flft κ q) ⊛ ‵
    (follows Held R γ γ' (held_with g.behind h))) (id⊢ 𝓤 _)
    $ split3 ! $
    use0 𝓛 (raw (fact 𝓤 (h.value ≡ Some (g.behind x)))) (fact_i 𝓤 (h.value ≡ Some (g.behind x)) (emp 𝓤) has) $
    move ! (3 ∷ 0 ∷ []) $ join ! $ nothing ! $ move ! (4 ∷ 0 ∷ []) $ join ! $ move ! (3 ∷ 0 ∷ []) $ join ! $
    nothing ! $ nothing ! $ fjoin ! $ nothing ! $ fjoin ! $ move ! (1 ∷ 0 ∷ 3 ∷ 2 ∷ [])
    $ by ! (leaves 𝓛 En hs c z (vptr b o) lent (tt, (tt, tt)) (tt, (tt, tt))))))))))))
