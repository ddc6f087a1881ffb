-- What a `Fits` gives, and how it is made. Assumes `Logic`.
use Rattle.std.proofs.Common.{◌≡◌, sym, subst, Some}
use seplogic.Ra.Ura.{Ura}
use base.Logic.{SProp, ent, emp, sep, all, all_i, all_e, wand, wand_i, via, snd∗, mono_r, apply∗}
use types.Logic.{Logic, sem}
use denote.RattleType.{RattleType}
use denote.RawPtr.{Ptr}
use Rattle.kfifo_c.specs.Behind.{Behind}
use Rattle.kfifo_c.specs.Held.{block_of, held_owns}
use Rattle.kfifo_c.specs.Fits.{enters, leaves}

module _ {M : Type 1} {𝓤 : Ura M} (𝓛 : Logic 𝓤) (R : RattleType) (behind : R.Denot → Behind)
    (same : (p : Ptr) (x : R.Denot) → held_owns p (Some (behind x)) ≡ block_of R p x) where
  pub made_enters : ent 𝓤 (emp 𝓤) (sem 𝓛 (enters R behind))
  made_enters = all_i 𝓤 _ (λ p. all_i 𝓤 _ (λ x.
      wand_i 𝓤 (emp 𝓤) (sem 𝓛 (block_of R p x)) (sem 𝓛 (held_owns p (Some (behind x))))
      (subst (λ F. ent 𝓤 (sep 𝓤 (emp 𝓤) (sem 𝓛 (block_of R p x))) (sem 𝓛 F)) (sym (same p x))
      (snd∗ 𝓤 (emp 𝓤) (sem 𝓛 (block_of R p x))))))

  pub made_leaves : ent 𝓤 (emp 𝓤) (sem 𝓛 (leaves R behind))
  made_leaves = all_i 𝓤 _ (λ p. all_i 𝓤 _ (λ x.
      wand_i 𝓤 (emp 𝓤) (sem 𝓛 (held_owns p (Some (behind x)))) (sem 𝓛 (block_of R p x))
      (subst (λ F. ent 𝓤 (sep 𝓤 (emp 𝓤) (sem 𝓛 F)) (sem 𝓛 (block_of R p x))) (sym (same p x))
      (snd∗ 𝓤 (emp 𝓤) (sem 𝓛 (block_of R p x))))))

module _ {M : Type 1} {𝓤 : Ura M} (𝓛 : Logic 𝓤) (R : RattleType) (behind : R.Denot → Behind) (p : Ptr) (x : R.Denot)
  where
    abbrev Block : Ptr → R.Denot → SProp 𝓤
    Block q y = sem 𝓛 (block_of R q y)

    abbrev Behind_at : Ptr → R.Denot → SProp 𝓤
    Behind_at q y = sem 𝓛 (held_owns q (Some (behind y)))

    pub comes_in : ent 𝓤 (sep 𝓤 (Block p x) (sem 𝓛 (enters R behind))) (Behind_at p x)
    comes_in = via 𝓤 (sep 𝓤 (Block p x) (wand 𝓤 (Block p x) (Behind_at p x)))
        (mono_r 𝓤 (Block p x) (via 𝓤 (all 𝓤 (λ y. wand 𝓤 (Block p y) (Behind_at p y)))
        (all_e 𝓤 (λ q. all 𝓤 (λ y. wand 𝓤 (Block q y) (Behind_at q y))) p)
        (all_e 𝓤 (λ y. wand 𝓤 (Block p y) (Behind_at p y)) x)))
        (apply∗ 𝓤 (Block p x) (Behind_at p x))

    pub goes_out : ent 𝓤 (sep 𝓤 (Behind_at p x) (sem 𝓛 (leaves R behind))) (Block p x)
    goes_out = via 𝓤 (sep 𝓤 (Behind_at p x) (wand 𝓤 (Behind_at p x) (Block p x)))
        (mono_r 𝓤 (Behind_at p x) (via 𝓤 (all 𝓤 (λ y. wand 𝓤 (Behind_at p y) (Block p y)))
        (all_e 𝓤 (λ q. all 𝓤 (λ y. wand 𝓤 (Behind_at q y) (Block q y))) p)
        (all_e 𝓤 (λ y. wand 𝓤 (Behind_at p y) (Block p y)) x)))
        (apply∗ 𝓤 (Behind_at p x) (Block p x))
