-- The machine values of a `Held` and of a `Fits`. Assumes `Logic`.
use Rattle.std.proofs.Common.{◌≡◌, List, [], ◌∷◌, ◌++◌, refl, subst, Option}
use seplogic.Ra.Ura.{Ura}
use mir.Val.{Val, vstruct, vcons, vnil, of_list}
use types.Logic.{Logic}
use types.Kit.{Item, Goal, Seq, Step, step, ‵, ◌$◌, drop, fsplit, fjoin, fpick, fpack, feq_i, feq_l}
use denote.RattleType.{RattleType, Valss}
use denote.Builtin.{RawPtr}
use denote.RawPtr.{Ptr, ptr_val}
use denote.Steps.{nothing}
use denote.Struct.Struct.{within}
use denote.Struct.Owning.{shape}
use Rattle.kfifo_c.specs.Behind.{Behind}
use Rattle.kfifo_c.specs.Held.{held_owns}
use Rattle.kfifo_c.specs.Fits.{fits}
use Rattle.kfifo_c.specs.contracts.held.Held as held
use Rattle.kfifo_c.specs.contracts.fits.Fits as fit
use Rattle.core.specs.contracts.marker.PhantomData as phantom
use Rattle.kfifo_c.specs.declared.seating.Seating.{Ghosts}

abbrev pub lone_val : Val → Val
lone_val v = vstruct (vcons v vnil)

abbrev pub Held : RattleType
Held = held.the_row

module _ (R : RattleType) (g : Ghosts R.Denot) where
  abbrev pub Fits : RattleType
  Fits = fit.the_row R g

  module _ {M : Type 1} {𝓤 : Ura M} {𝓛 : Logic 𝓤} {K : Type 0} {Γ : List (Item 𝓤)} {G : Goal 𝓤 𝓛.H} where
    pub fits_out : K → (d : Fits.Denot) (vs : List Val)
        → (vs ≡ lone_val (vstruct vnil) ∷ [] → Seq K 𝓛 (‵ (fits R g.behind) ∷ Γ) G)
        → Seq K 𝓛 (‵ (Fits.own_val d vs) ∷ Γ) G
    fits_out t d vs k =
        fsplit t $ fpick t (λ vss. fsplit t $
        feq_l t (λ ev. fsplit t $ fpick t (λ uss. fsplit t $ feq_l t (λ ep. drop t $ drop t $
        k (subst (λ (ps : List Val). vs ≡ vstruct (of_list (ps ++ [])) ∷ []) ep ev)))))

    pub fits_in : K → Step K 𝓛 (‵ (Fits.own_val (record { of = record {} }) (lone_val (vstruct vnil) ∷ [])) ∷ Γ) G
        (‵ (fits R g.behind) ∷ Γ) G
    fits_in t = step (λ s. let w : Val = vstruct vnil in let v : Val = lone_val w in
        nothing t $ nothing t $ feq_i t (List Val) (w ∷ []) (w ∷ []) refl $ fjoin t $
        fpack t (Valss []) (within (record { name = []; args = []; types = []; fields = [] }) tt (w ∷ [])) tt $
        fjoin t $
        feq_i t (List Val) (v ∷ []) (v ∷ []) refl $ fjoin t $
        fpack t (Valss (phantom.the_row R ∷ [])) (within (shape (fit.the_type R g)) (record {}, tt) (v ∷ []))
        (w ∷ [], tt) $ fjoin t $ s)

module _ {M : Type 1} {𝓤 : Ura M} {𝓛 : Logic 𝓤} {K : Type 0} {Γ : List (Item 𝓤)} {G : Goal 𝓤 𝓛.H} where
  -- a handle's pointer, and what it owns
  pub held_out : K → (d : Held.Denot) (vs : List Val)
      → (vs ≡ lone_val (ptr_val d.at) ∷ [] → Seq K 𝓛 (‵ (held_owns d.at d.value) ∷ Γ) G)
      → Seq K 𝓛 (‵ (Held.own_val d vs) ∷ Γ) G
  held_out t d vs k =
      fsplit t $ fpick t (λ vss. fsplit t $ feq_l t
      (λ ev. fsplit t $
      feq_l t (λ ep. drop t $ k (subst (λ (ps : List Val). vs ≡ vstruct (of_list (ps ++ [])) ∷ []) ep ev))))

  -- a handle, made of its pointer and of what that owns
  pub held_in : K → (p : Ptr) (u : Option Behind)
      → Step K 𝓛 (‵ (Held.own_val (record {
        at = p;
        value = u;
      }) (lone_val (ptr_val p) ∷ [])) ∷ Γ) G (‵ (held_owns p u) ∷ Γ) G
  held_in t p u = step (λ s. let v : Val = lone_val (ptr_val p) in
      nothing t $ feq_i t (List Val) (ptr_val p ∷ []) (ptr_val p ∷ []) refl $ fjoin t $
      feq_i t (List Val) (v ∷ []) (v ∷ []) refl $ fjoin t
      $
      fpack t (Valss (RawPtr ∷ [])) (within (shape held.the_type) (p, tt) (v ∷ [])) (ptr_val p ∷ [], tt) $ fjoin t $ s)
