-- Takes from generations leave each of them as many and as large.
use Rattle.std.proofs.Common.{◌≡◌, ◌≢◌, ap, ℕ, true, false, List, [], None, inl, inr, refl, sym, ◌∙◌, subst}
use Rattle.kfifo_live.specs.declared.payload.Taken.{Taken}
use Rattle.kfifo_pool.specs.Pooled.{Pooled}
use Rattle.kfifo_live.specs.declared.payload.Taken.TheVariants as K
use Rattle.kfifo_live.specs.declared.payload.sealing.TakenOrSealed.{TakenOrSealed}
use Rattle.kfifo_renewing.specs.declared.change.Change.{Change}
use Rattle.kfifo_renewing.specs.Renewing.{Follows, Generations, HasAll, IsLater, LooksAgain, TakesBy, TakesFirst}
use Rattle.kfifo_renewing.specs.Renewing.{TakesNewest, TakesThere, with_newest, with_seen}
use Rattle.kfifo_renewing.proofs.Following.{Looked, both-before, follows-trans, later-newest, later-refl, later-trans}
use Rattle.kfifo_renewing.proofs.Following.{looked-follows, looked-newest}

module _ {T G : Type 0} (R : Taken G → Pooled T → Pooled T → Type 0) (S : TakenOrSealed G → Pooled T → Pooled T
    → Type 0) where
  -- a call by a handle that had looked before it
  pub takes-from-after : (answer : Taken G) (old mid new : Generations T) → Follows old mid → TakesBy R S answer mid new
      → TakesBy R S answer old new
  takes-from-after answer old mid new before (here, follows, inl takes) = (
    here,
    follows-trans old mid here before follows,
    inl (both-before old mid here before.later.seen true takes.0, takes.1, takes.2),
  )
  takes-from-after answer old mid new before (here, follows, inr busy) = (
    here,
    follows-trans old mid here before follows,
    inr (both-before old mid here before.later.seen false busy.0, busy.1, busy.2),
  )

  -- a take by a handle with one generation, after a look that found no later one
  pub took-here : (answer : Taken G) (g new : Generations T) (found : ℕ) (log : List Change) → Looked found log g
      → found ≡ 0
      → HasAll (with_seen g log) → g.older ≡ [] → IsLater (with_seen g log) new → new.number ≡ g.number → new.older ≡ []
      → TakesNewest R answer (with_seen g log) new → TakesBy R S answer g new
  took-here answer g new found log looked none all alone later number older takes = (
    with_seen g log,
    looked-follows found log g looked,
    inl (
      looked-newest found log g looked none,
      all,
      record {
        later = later;
        number = number;
        found = None;
        looked = [];
        older = subst (λ hs. TakesFirst R S None hs []) (sym alone) (refl, refl);
        left = older;
        newest = inr (refl, (with_seen g log, later-refl (with_seen g log), refl, takes));
      },
    ),
  )

  -- it found something, or lost each round
  pub took-some : (answer : Taken G) (g : Generations T) (found : ℕ) (log : List Change) (h : Pooled T)
      → Looked found log g → found ≡ 0
      → HasAll (with_seen g log) → g.older ≡ [] → TakesThere R answer g.newest h → answer ≢ K.Empty
      → TakesBy R S answer g (with_newest (with_seen g log) h)
  took-some answer g found log h looked none all alone takes some =
      took-here answer g (with_newest (with_seen g log) h) found log looked none all alone
      (later-newest (with_seen g log) (with_newest (with_seen g log) h) h refl) refl alone
      (record { taken = answer; did = takes; then = inl (some, refl, refl) })

  -- it came to something else, and the handle may have looked again
  pub took-other : (taken answer : Taken G) (g new : Generations T) (found : ℕ) (log : List Change) (h : Pooled T)
      → Looked found log g → found ≡ 0 → HasAll (with_seen g log) → g.older ≡ [] → TakesThere R taken g.newest h
      → new ≡ with_seen (with_newest (with_seen g log) h) new.seen → IsLater (with_newest (with_seen g log) h) new
      → LooksAgain taken answer (with_newest (with_seen g log) h) new → TakesBy R S answer g new
  took-other taken answer g new found log h looked none all alone takes same later again =
      let mid = with_newest (with_seen g log) h in
      took-here answer g new found log looked none all alone
      (later-trans (with_seen g log) mid new (later-newest (with_seen g log) mid h refl) later)
      (ap (λ (v : Generations T). v.number) same) (ap (λ (v : Generations T). v.older) same ∙ alone)
      (record {
        taken = taken;
        did = subst (λ (x : Pooled T). TakesThere R taken g.newest x) (sym (ap (λ (v : Generations T). v.newest) same))
            takes;
        then = again;
      })
