-- The older generations of a handle, while it takes from one after the other.
use Rattle.std.proofs.Common.{◌≡◌, ◌≢◌, ◌≤◌, ◌+◌, ℕ, Bool, true, List, [], ◌∷◌}
use Rattle.std.proofs.Common.{◌++◌, None, Option, append_assoc, arith, ap}
use Rattle.std.proofs.Common.{inl, inr, length, length-append, refl, sym, ◌∙◌, subst}
use Rattle.std.proofs.lemmas.List.{append-nil, nil_from_length}
use mathlib.Core.List.{IsPrefix}
use Rattle.kfifo_live.specs.declared.payload.Taken.{Taken}
use Rattle.kfifo_live.specs.declared.payload.sealing.TakenOrSealed.{TakenOrSealed}
use Rattle.kfifo_pool.specs.Pooled.{Pooled}
use Rattle.kfifo_renewing.specs.Joining.{HasSealedAt, LeavesAt, TakesAt}
use Rattle.kfifo_renewing.specs.Renewing.{HasLeft, HeldIn, LeavesGone, TakesFirst, TakesOlder}
use Rattle.kfifo_renewing.specs.declared.change.Change.{Change}
use Rattle.kfifo_renewing.proofs.Departures.{leaves-append, leaves-later, leaves-refl}
use Rattle.kfifo_renewing.proofs.Parts.{get-split, split-same}

module _ {T G : Type 0} (takes : Taken G → Pooled T → Pooled T → Type 0)
    (seals : TakenOrSealed G → Pooled T → Pooled T → Type 0) where
  -- Each of the old generations up to this index of the new ones was found empty. Some of these were left by this log,
  -- and the others are kept. The rest are as they were
  pub record FindsEmpty (log : List Change) (old new : List (HeldIn T)) (index : ℕ) : Type 0 where
    pub done : List (HeldIn T)
    pub looked : List (HeldIn T)
    pub kept : List (HeldIn T)
    pub rest : List (HeldIn T)
    pub was : old ≡ done ++ rest
    pub now : new ≡ kept ++ rest
    pub at : length kept ≡ index
    pub took : TakesFirst takes seals None done looked
    pub left : LeavesGone log looked kept

  -- The takes go on behind those that were found empty
  takes-append : (answer : Option (Taken G)) (done looked hs ks : List (HeldIn T))
      → TakesFirst takes seals None done looked → TakesFirst takes seals answer hs ks
      → TakesFirst takes seals answer (done ++ hs) (looked ++ ks)
  takes-append answer [] looked hs ks took next =
      subst (λ l. TakesFirst takes seals answer hs (l ++ ks)) (sym took.1) next
  takes-append answer (h ∷ done) looked hs ks (after, afters, is, number, inl (empty, took)) next = (
    after,
    afters ++ ks,
    ap (λ l. l ++ ks) is,
    number,
    inl (empty, takes-append answer done afters hs ks took next),
  )
  takes-append answer (h ∷ done) looked hs ks (after, afters, is, number, inr (some, took, same)) next =
      absurd (some refl)

  pub none-yet : (log : List Change) (hs : List (HeldIn T)) → FindsEmpty log hs hs 0
  none-yet log hs = record {
    done = [];
    looked = [];
    kept = [];
    rest = hs;
    was = refl;
    now = refl;
    at = refl;
    took = (refl, refl);
    left = refl;
  }

  -- all were found empty
  pub all-empty : (log : List Change) (old new : List (HeldIn T)) (index : ℕ) → FindsEmpty log old new index
      → length new ≤ index
      → (looked : List (HeldIn T)) × TakesFirst takes seals None old looked × LeavesGone log looked new
  all-empty log old new index f over =
      let long = ap length f.now in
      let split = length-append f.kept f.rest in
      let at = f.at in
      let none : f.rest ≡ [] = nil_from_length f.rest (omega (arith, long, split, at, over)) in (
        f.looked,
        subst (λ l. TakesFirst takes seals None l f.looked)
            (sym (f.was ∙ ap (λ l. f.done ++ l) none ∙ append-nil f.done)) f.took,
        subst (LeavesGone log f.looked) (sym (f.now ∙ ap (λ l. f.kept ++ l) none ∙ append-nil f.kept)) f.left,
      )

  -- as many are there after a take
  pub as-many : (index : ℕ) (answer : Option (Taken G)) (b : Bool) (old new : List (HeldIn T))
      → TakesAt takes seals index answer b old new → length new ≡ length old
  as-many index answer b old new t =
      ap length t.now ∙ length-append t.before (t.next ∷ t.after)
      ∙ sym (length-append t.before (t.handle ∷ t.after)) ∙ sym (ap length t.was)

  -- and that at the index may have seen its generation sealed empty
  pub sealed-there : (index : ℕ) (answer : Option (Taken G)) (b : Bool) (old new : List (HeldIn T))
      → TakesAt takes seals index answer b old new → b ≡ true → HasSealedAt new index
  sealed-there index answer b old new t asked =
      subst (HasSealedAt new) t.at (subst (λ hs. HasSealedAt hs (length t.before)) (sym t.now)
      (t.next, get-split t.before t.after t.next, t.sealed asked))

  module _ (log more : List Change) (old new next : List (HeldIn T)) (index : ℕ) (answer : Option (Taken G))
      (b : Bool) (p : IsPrefix log more) (f : FindsEmpty log old new index)
      (t : TakesAt takes seals index answer b new next) where
    -- the generation at the index is the first of the rest
    here : (f.kept ≡ t.before) × (f.rest ≡ t.handle ∷ t.after)
    here = split-same f.kept f.rest t.before (t.handle ∷ t.after) (f.at ∙ sym t.at) (sym f.now ∙ t.was)

    was-here : old ≡ f.done ++ t.handle ∷ t.after
    was-here = f.was ∙ ap (λ l. f.done ++ l) here.1

    now-here : next ≡ f.kept ++ t.next ∷ t.after
    now-here = t.now ∙ ap (λ l. l ++ t.next ∷ t.after) (sym here.0)

    -- the take from it returned something
    pub one-taken : answer ≢ None
        → (looked : List (HeldIn T)) × TakesFirst takes seals answer old looked × LeavesGone more looked next
    one-taken some = (
      f.looked ++ t.next ∷ t.after,
      subst (λ l. TakesFirst takes seals answer l (f.looked ++ t.next ∷ t.after)) (sym was-here)
          (takes-append answer f.done f.looked (t.handle ∷ t.after) (t.next ∷ t.after) f.took
          (t.next, t.after, refl, t.number, inr (some, t.took, refl))),
      subst (LeavesGone more (f.looked ++ t.next ∷ t.after)) (sym now-here)
          (leaves-append more f.looked f.kept (t.next ∷ t.after) (t.next ∷ t.after)
          (leaves-later log more f.looked f.kept p f.left) (leaves-refl more (t.next ∷ t.after))),
    )

    -- it was found empty
    took-none : answer ≡ None → TakesFirst takes seals None (f.done ++ t.handle ∷ []) (f.looked ++ t.next ∷ [])
    took-none none = takes-append None f.done f.looked (t.handle ∷ []) (t.next ∷ []) f.took (
      t.next,
      [],
      refl,
      t.number,
      inl (subst (λ a. TakesOlder takes seals a t.handle.handle t.next.handle) none t.took, (refl, refl)),
    )

    -- and is kept
    pub one-kept : (last : List (HeldIn T)) → answer ≡ None → last ≡ next → FindsEmpty more old last (index + 1)
    one-kept last none same = record {
      done = f.done ++ t.handle ∷ [];
      looked = f.looked ++ t.next ∷ [];
      kept = f.kept ++ t.next ∷ [];
      rest = t.after;
      was = was-here ∙ sym (append_assoc f.done (t.handle ∷ []) t.after);
      now = same ∙ now-here ∙ sym (append_assoc f.kept (t.next ∷ []) t.after);
      at = length-append f.kept (t.next ∷ []) ∙ ap (λ n. n + 1) f.at;
      took = took-none none;
      left = leaves-append more f.looked f.kept (t.next ∷ []) (t.next ∷ [])
          (leaves-later log more f.looked f.kept p f.left) (leaves-refl more (t.next ∷ []));
    }

    -- or left
    pub one-left : (last : List (HeldIn T)) → answer ≡ None → LeavesAt more index next last
        → FindsEmpty more old last index
    one-left last none l =
        let both = split-same t.before (t.next ∷ t.after) l.before (l.handle ∷ l.after) (t.at ∙ sym l.at)
        (sym t.now ∙ l.was) in
        let same : l.handle ≡ t.next = cc in
        let rest : l.after ≡ t.after = cc in
        record {
          done = f.done ++ t.handle ∷ [];
          looked = f.looked ++ t.next ∷ [];
          kept = f.kept;
          rest = t.after;
          was = was-here ∙ sym (append_assoc f.done (t.handle ∷ []) t.after);
          now = l.now ∙ (λ k. (sym both.0 ∙ sym here.0) k ++ rest k);
          at = f.at;
          took = took-none none;
          left = subst (LeavesGone more (f.looked ++ t.next ∷ [])) (append-nil f.kept)
              (leaves-append more f.looked f.kept (t.next ∷ []) [] (leaves-later log more f.looked f.kept p f.left)
              (inr (
                ap (λ (h : HeldIn T). h.handle.cells) (sym same) ∙ l.no_cell,
                subst (HasLeft more) same l.left,
                refl,
              )));
        }
