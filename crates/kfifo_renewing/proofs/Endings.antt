-- One generation more is closed, and the parts of the other handles are in those that are left.
use Rattle.std.proofs.Common.{◌≡◌, ◌==◌, ◌≤◌, ◌+◌, ◌⊎◌, ⊎_elim, ℕ, Bool, true, false, not, List, [], ◌∷◌, ◌++◌}
use Rattle.std.proofs.Common.{All, map, filter, cond, append_assoc, arith, ap, eqb-true, inl}
use Rattle.std.proofs.Common.{inr, refl, sym, ◌∙◌, subst}
use Rattle.std.specs.List.{Contains}
use Rattle.std.proofs.lemmas.List.{append-nil, map-append}
use Rattle.std.proofs.lemmas.List.Elements.{All-contains, All-filter, All-map, All-weaker, Contains-append_left}
use Rattle.std.proofs.lemmas.List.Elements.{Contains-append_right, Contains-push, Contains-push_cases, filter-append}
use Rattle.std.proofs.lemmas.List.Elements.{filter_passes}
use Rattle.std.proofs.lemmas.Bool.{cases_Bool}
use Rattle.std.proofs.lemmas.Bool.Decides.{nat_tests}
use mathlib.Core.List.{IsPrefix}
use Rattle.logbook.specs.Pages.{Book}
use Rattle.kfifo_pool.specs.Pooled.{Pooled}
use Rattle.kfifo_live.specs.Pass.{IsPassOf, OpenQueue}
use Rattle.kfifo_live.specs.declared.view.Opening.{Opening}
use Rattle.kfifo_renewing.specs.declared.change.Change.{Change}
use Rattle.kfifo_renewing.specs.declared.change.Made.{Made}
use Rattle.kfifo_renewing.specs.Cells.{CellsWereLeft, LeavesCells}
use Rattle.kfifo_renewing.specs.History.{IsMade, queue_in}
use Rattle.kfifo_renewing.specs.Joining.{HaveParts, IsBeside, IsPart, PartView, held_by, held_in}
use Rattle.kfifo_renewing.specs.Renewing.{AreOfOneQueue, ClosesEach, EndsGone, Generations, HaveEnded, HaveOwnAmong}
use Rattle.kfifo_renewing.specs.Renewing.{HaveSeen, HeldIn, IsClosedBy, IsOpenedAs, WereLeft, all_of, other_threads}
use Rattle.kfifo_renewing.proofs.Departures.{ends-each, left-later}
use Rattle.kfifo_renewing.proofs.Histories.{prefix-trans}
use Rattle.kfifo_renewing.proofs.Parts.{all-from-contains, all-next, contains-filter, contains-image, contains-map}

module _ {T : Type 0} where
  pub closes-more : (log : List Change) (handles : List (Generations T)) (done : List (HeldIn T)) (before : List T)
      (h : HeldIn T) (left : List T) → ClosesEach log handles done before → WereLeft log handles h left
      → ClosesEach log handles (done ++ h ∷ []) (before ++ left)
  closes-more log handles [] before h left none here =
      (left, [], ap (λ b. b ++ left) none ∙ sym (append-nil left), here, refl)
  closes-more log handles (x ∷ done) before h left (first, rest, e, were, each) here = (
    first,
    rest ++ left,
    ap (λ b. b ++ left) e ∙ append_assoc first rest left,
    were,
    closes-more log handles done rest h left each here,
  )

  pub leaves-more : (log : List Change) (handles : List (Generations T)) (done : List (HeldIn T))
      (before : List (List ℕ)) (h : HeldIn T) (left : List ℕ) → LeavesCells log handles done before
      → CellsWereLeft log handles h left → LeavesCells log handles (done ++ h ∷ []) (before ++ left ∷ [])
  leaves-more log handles [] before h left none here = (left, [], ap (λ b. b ++ left ∷ []) none, here, refl)
  leaves-more log handles (x ∷ done) before h left (first, rest, e, were, each) here = (
    first,
    rest ++ left ∷ [],
    ap (λ b. b ++ left ∷ []) e,
    were,
    leaves-more log handles done rest h left each here,
  )

  -- of some parts those are kept whose generation has this number or a greater one
  abbrev pub KeepsFrom : ℕ → List (PartView T) → List (PartView T) → Type 0
  KeepsFrom least all kept = (p : PartView T) → Contains all p → least ≤ p.number → Contains kept p

  -- the handles of parts in the generation with a number
  abbrev pub handles_at : ℕ → List (PartView T) → List (Pooled T)
  handles_at n parts = map (λ p. p.handle) (filter (λ p. p.number == n) parts)

  -- the other parts
  abbrev pub others_than : ℕ → List (PartView T) → List (PartView T)
  others_than n parts = filter (λ p. not (p.number == n)) parts

  own-at : (all kept : List (PartView T)) (least n : ℕ) (h : HeldIn T) → Contains (held_by all) h
      → KeepsFrom least all kept → least ≤ n → h.number ≡ n → Contains (handles_at n kept) h.handle
  own-at all kept least n h of keeps up at =
      let at-part = contains-image (λ (p : PartView T). held_in p) all h of in
      let p = at-part.0 in
      let number : p.number ≡ n = ap (λ (x : HeldIn T). x.number) at-part.2 ∙ at in
      let same : (p.number == n) ≡ true = grind (arith, nat_tests) in
      subst (Contains (handles_at n kept)) (ap (λ (x : HeldIn T). x.handle) at-part.2)
      (contains-map (λ (q : PartView T). q.handle) (filter (λ (q : PartView T). q.number == n) kept) p
      (contains-filter (λ (q : PartView T). q.number == n) kept p (keeps p at-part.1 (omega (arith, up, number))) same))

  pub own-among : (log : List Change) (handles : List (Generations T)) (all kept : List (PartView T)) (least n : ℕ)
      → HaveParts log handles all → KeepsFrom least all kept → least ≤ n → HaveOwnAmong log handles n (handles_at n
      kept)
  own-among log handles all kept least n have keeps up g h among of at =
      ⊎_elim inl (λ there. inr (own-at all kept least n h there keeps up at)) (have g h among of)

  pub keeps-more : (all kept : List (PartView T)) (least n : ℕ) → KeepsFrom least all kept → least ≤ n
      → KeepsFrom (n + 1) all (others_than n kept)
  keeps-more all kept least n keeps up p of above =
      let other : (p.number == n) ≡ false = grind (arith, nat_tests) in
      contains-filter (λ (q : PartView T). not (q.number == n)) kept p (keeps p of (omega (arith, up, above)))
      (ap not other)

  one-beside : (log : List Change) (o : Opening) (h p : PartView T) → IsPart log h → IsOpenedAs o h.handle → IsPart
      log p
      → IsOpenedAs o p.handle → (p.number == h.number) ≡ true → IsBeside h.handle p.handle
  one-beside log o h p part opened other other-opened test =
      let same : p.number ≡ h.number = grind (arith, nat_tests) in
      let made = subst (λ n. IsMade log n (queue_in p.handle.held.pass.pass)) same other.made in
      let first = part.made in
      let queue : queue_in p.handle.held.pass.pass ≡ queue_in h.handle.held.pass.pass = cc in
      (ap (λ (q : Made). q.table) queue, other-opened ∙ sym opened)

  -- parts in one generation, by what the history says of it
  pub beside : (log : List Change) (o : Opening) (h : PartView T) (kept : List (PartView T)) → IsPart log h
      → IsOpenedAs o h.handle → All (IsPart log) kept → All (λ (p : PartView T). IsOpenedAs o p.handle) kept
      → All (λ k. IsBeside h.handle k) (handles_at h.number kept)
  beside log o h kept part opened parts all-opened =
      let test : PartView T → Bool = λ p. p.number == h.number in
      All-map (λ k. IsBeside h.handle k) (λ (p : PartView T). p.handle) (filter test kept)
      (λ k d inside. one-beside log o h _ part opened (All-filter test (IsPart log) kept parts k d inside)
      (All-filter test (λ (p : PartView T). IsOpenedAs o p.handle) kept all-opened k d inside)
      (filter_passes test kept k d inside))

  -- no handle has a part
  pub have-none : (log : List Change) (parts : List (PartView T)) → HaveParts log [] parts
  have-none log parts g h (k, inside, is) of = absurd (omega (arith, inside))

  -- as more of the history is seen
  pub have-later : (xs ys : List Change) (handles : List (Generations T)) (parts : List (PartView T)) → IsPrefix xs ys
      → HaveParts xs handles parts → HaveParts ys handles parts
  have-later xs ys handles parts pre have g h among of =
      ⊎_elim (λ left. inl (left-later xs ys h pre left)) inr (have g h among of)

  -- the parts of one handle more, but for those that have left
  pub have-more : (log : List Change) (handles : List (Generations T)) (g : Generations T) (parts more : List
      (PartView T))
      → HaveParts log handles parts → EndsGone log (all_of g) (held_by more)
      → HaveParts log (handles ++ g ∷ []) (parts ++ more)
  have-more log handles g parts more have ends other h among of =
      let both = map-append (λ (p : PartView T). held_in p) parts more in
      let back : Contains (held_by parts ++ held_by more) h → Contains (held_by (parts ++ more)) h =
      λ there. subst (λ l. Contains l h) (sym both) there in
      ⊎_elim
      (λ before. ⊎_elim inl (λ there. inr (back (Contains-append_left (held_by parts) (held_by more) h there)))
      (have other h before of))
      (λ same. ⊎_elim inl (λ there. inr (back (Contains-append_right (held_by parts) (held_by more) h there)))
      (ends-each log (all_of g) (held_by more) h ends (subst (λ (x : Generations T). Contains (all_of x) h) (sym
      same) of)))
      (Contains-push_cases handles g other among)

  -- a part more that is in the generation
  pub sorted-here : (n : ℕ) (done : List (PartView T)) (p : PartView T) → (p.number == n) ≡ true
      → (handles_at n (done ++ p ∷ []) ≡ handles_at n done ++ p.handle ∷ [])
      × (others_than n (done ++ p ∷ []) ≡ others_than n done)
  sorted-here n done p test =
      let at : PartView T → Bool = λ q. q.number == n in (
        ap (map (λ (q : PartView T). q.handle)) (filter-append at done (p ∷ [])
            ∙ ap (λ t. filter at done ++ cond t (p ∷ []) []) test)
            ∙ map-append (λ (q : PartView T). q.handle) (filter at done) (p ∷ []),
        filter-append (λ q. not (at q)) done (p ∷ [])
            ∙ ap (λ t. others_than n done ++ cond (not t) (p ∷ []) []) test ∙ append-nil (others_than n done),
      )

  -- and one that is not
  pub sorted-else : (n : ℕ) (done : List (PartView T)) (p : PartView T) → (p.number == n) ≡ false
      → (handles_at n (done ++ p ∷ []) ≡ handles_at n done)
      × (others_than n (done ++ p ∷ []) ≡ others_than n done ++ p ∷ [])
  sorted-else n done p test =
      let at : PartView T → Bool = λ q. q.number == n in (
        ap (map (λ (q : PartView T). q.handle)) (filter-append at done (p ∷ [])
            ∙ ap (λ t. filter at done ++ cond t (p ∷ []) []) test ∙ append-nil (filter at done)),
        filter-append (λ q. not (at q)) done (p ∷ [])
            ∙ ap (λ t. others_than n done ++ cond (not t) (p ∷ []) []) test,
      )

  -- a generation is closed by a part and the handles that were found for the other threads
  pub closed-by : (log : List Change) (handles : List (Generations T)) (q : OpenQueue) (joined : PartView T)
      (h : Pooled T) (others theirs : List (Pooled T)) (threads : ℕ) → h ≡ joined.handle → IsPassOf q h.held.pass.pass
      → map (λ o. o.held.pass.pass.thread) others ≡ other_threads joined.handle.held.pass.pass.thread threads
      → joined.handle.held.pass.pass.opened.threads ≡ threads
      → ((o : Pooled T) → Contains theirs o → Contains others o) → HaveOwnAmong log handles joined.number theirs
      → IsClosedBy log handles q (held_in joined) others
  closed-by log handles q joined h others theirs threads is of each same moved own =
      let here = subst (λ (x : Pooled T). IsPassOf q x.held.pass.pass) is of in record {
        of = here;
        each_other = each ∙ ap (other_threads joined.handle.held.pass.pass.thread)
            (sym same ∙ ap (λ (o : Opening). o.threads) here.1);
        theirs = λ g x among has at. ⊎_elim inl (λ there. inr (moved x.handle there)) (own g x among has at);
      }

  -- each of these parts is kept, or in the generation of one of those
  abbrev pub KeptOrIn : List (PartView T) → List (PartView T) → List (PartView T) → Type 0
  KeptOrIn all kept done = (p : PartView T) → Contains all p
      → Contains kept p ⊎ Contains (map (λ (h : HeldIn T). h.number) (held_by done)) p.number

  -- one generation more was closed
  kept-more : (all kept done : List (PartView T)) (here : PartView T) → KeptOrIn all kept done
      → KeptOrIn all (others_than here.number kept) (done ++ here ∷ [])
  kept-more all kept done here each p of =
      let number : HeldIn T → ℕ = λ h. h.number in
      let both : map number (held_by (done ++ here ∷ [])) ≡ map number (held_by done) ++ here.number ∷ [] =
      ap (map number) (map-append (λ (q : PartView T). held_in q) done (here ∷ []))
      ∙ map-append number (held_by done) (held_in here ∷ []) in
      ⊎_elim
      (λ there. elim (cases_Bool (p.number == here.number)) [
        | inl same ↦ inr (subst (λ l. Contains l p.number) (sym both)
            (subst (Contains (map number (held_by done) ++ here.number ∷ []))
            (sym (eqb-true p.number here.number same)) (Contains-push (map number (held_by done)) here.number)))
        | inr other ↦ inl (contains-filter (λ (q : PartView T). not (q.number == here.number)) kept p there
            (ap not other))
      ])
      (λ before. inr (subst (λ l. Contains l p.number) (sym both)
      (Contains-append_left (map number (held_by done)) (here.number ∷ []) p.number before)))
      (each p of)

  -- where no part is kept, each handle has ended
  pub all-ended : (log : List Change) (handles : List (Generations T)) (all kept done : List (PartView T))
      → HaveParts log handles all → KeptOrIn all kept done → kept ≡ [] → HaveEnded log handles (held_by done)
  all-ended log handles all kept done have each none g h among of =
      ⊎_elim inl
      (λ there.
      let p = contains-image (λ (q : PartView T). held_in q) all h there in
      ⊎_elim (λ still. absurd (let (k, inside, is) = subst (λ l. Contains l p.0) none still in omega (arith, inside)))
      (λ closed. inr (subst (Contains (map (λ (x : HeldIn T). x.number) (held_by done)))
      (ap (λ (x : HeldIn T). x.number) p.2) closed))
      (each p.0 p.1))
      (have g h among of)

  -- What a close has to go on with: the parts in the generations that are not closed yet, and the parts of the other
  -- handles in them, by those in the generations that are closed. All were opened alike, and each generation has its
  -- number in one history
  pub record AreLeft (o : Opening) (all : List (PartView T)) (least : ℕ) (done rest theirs : List (PartView T)) : Type 0
    where
      pub opened : All (λ (p : PartView T). IsOpenedAs o p.handle) rest × All (λ (p : PartView T). IsOpenedAs o
          p.handle)
          theirs
      pub parts : (log : List Change) × All (IsPart log) rest × All (IsPart log) theirs
      pub keeps : KeepsFrom least all theirs
      pub each : KeptOrIn all theirs done

  -- at first these are all parts
  pub left-first : (o : Opening) (least : ℕ) (all rest theirs : List (PartView T)) → rest ≡ all
      → All (λ (p : PartView T). IsOpenedAs o p.handle) all × All (λ (p : PartView T). IsOpenedAs o p.handle) theirs
      → (log : List Change) × All (IsPart log) all × All (IsPart log) theirs → AreLeft o theirs least [] rest theirs
  left-first o least all rest theirs is opened parts = record {
    opened = (subst (All (λ (p : PartView T). IsOpenedAs o p.handle)) (sym is) opened.0, opened.1);
    parts = (parts.0, subst (All (IsPart parts.0)) (sym is) parts.1, parts.2);
    keeps = λ p of up. of;
    each = λ p of. inl of;
  }

  module _ (o : Opening) (all : List (PartView T)) (least n : ℕ) (done rest more theirs : List (PartView T))
      (here : PartView T) (next : rest ≡ here ∷ more) (number : n ≡ here.number)
      (left : AreLeft o all least done rest theirs) where
    -- the generation of the next part is closed
    pub left-more : (after : ℕ) (others : List (PartView T)) → least ≤ n → after ≡ n + 1 → others ≡ others_than n theirs
        → AreLeft o all after (done ++ here ∷ []) more others
    left-more after others up is are =
        let test : PartView T → Bool = λ q. not (q.number == n) in record {
          opened = (
            (all-next (λ (p : PartView T). IsOpenedAs o p.handle) here more rest next left.opened.0).1,
            subst (All (λ (p : PartView T). IsOpenedAs o p.handle)) (sym are)
                (All-filter test (λ (p : PartView T). IsOpenedAs o p.handle) theirs left.opened.1),
          );
          parts = (
            left.parts.0,
            (all-next (IsPart left.parts.0) here more rest next left.parts.1).1,
            subst (All (IsPart left.parts.0)) (sym are) (All-filter test (IsPart left.parts.0) theirs left.parts.2),
          );
          keeps = subst (λ l. KeepsFrom after all l) (sym are)
              (subst (λ k. KeepsFrom k all (others_than n theirs)) (sym is) (keeps-more all theirs least n
              left.keeps up));
          each = subst (λ l. KeptOrIn all l (done ++ here ∷ []))
              (sym (are ∙ ap (λ k. others_than k theirs) number)) (kept-more all theirs done here left.each);
        }

    pub left-opened : IsOpenedAs o here.handle
    left-opened = (all-next (λ (p : PartView T). IsOpenedAs o p.handle) here more rest next left.opened.0).0

    -- the handles that are found for it are in its generation
    pub left-beside : (found : List (Pooled T)) → found ≡ handles_at n theirs → All (λ k. IsBeside here.handle k) found
    left-beside found are =
        subst (All (λ k. IsBeside here.handle k)) (sym (are ∙ ap (λ k. handles_at k theirs) number))
        (beside left.parts.0 o here theirs (all-next (IsPart left.parts.0) here more rest next left.parts.1).0
        left-opened
        left.parts.2 left.opened.1)

    -- and those of all other handles are among them
    pub left-among : (found : List (Pooled T)) (log : List Change) (handles : List (Generations T))
        → found ≡ handles_at n theirs → least ≤ n → HaveParts log handles all
        → HaveOwnAmong log handles here.number found
    left-among found log handles are up have =
        subst (λ k. HaveOwnAmong log handles k found) number
        (subst (HaveOwnAmong log handles n) (sym are) (own-among log handles all theirs least n have left.keeps up))

  -- what has all that handles have seen is still there in a longer beginning of the history
  pub seen-later : (handles : List (Generations T)) (xs ys : List Change) → IsPrefix xs ys → HaveSeen handles xs
      → HaveSeen handles ys
  seen-later handles xs ys p seen =
      All-weaker (λ (h : Generations T). IsPrefix h.seen xs) (λ (h : Generations T). IsPrefix h.seen ys)
      (λ h was. prefix-trans h.seen xs ys was p) handles seen

  -- what handles of one queue have in common, the last of them and the others
  pub one-queue : (handles others : List (Generations T)) (last : Generations T) → handles ≡ others ++ last ∷ []
      → AreOfOneQueue handles → (o : Opening) × (book : Book) × All (λ (h : Generations T). h.opened ≡ o) others
      × All (λ (h : Generations T). h.book ≡ book) others × (last.opened ≡ o) × (last.book ≡ book)
  one-queue handles others last is (o, book, all) =
      let P : Generations T → Type 0 = λ h. (h.opened ≡ o) × (h.book ≡ book) in
      let whole = subst (All P) is all in
      let each : (h : Generations T) → Contains others h → P h =
      λ h of. All-contains P (others ++ last ∷ []) h whole (Contains-append_left others (last ∷ []) h of) in
      let own = All-contains P (others ++ last ∷ []) last whole (Contains-push others last) in (
        o,
        book,
        all-from-contains (λ (h : Generations T). h.opened ≡ o) others (λ h of. (each h of).0),
        all-from-contains (λ (h : Generations T). h.book ≡ book) others (λ h of. (each h of).1),
        own.0,
        own.1,
      )
