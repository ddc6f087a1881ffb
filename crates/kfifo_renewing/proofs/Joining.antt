-- What a handle has joined stays so as it sees more of the history, makes calls, leaves generations and joins others.
use Rattle.std.proofs.Common.{◌≡◌, ◌<◌, ◌≤◌, ◌+◌, ◌⊎◌, ⊎_elim, ℕ, zero, suc, List, [], ◌∷◌, ◌++◌, All, take, drop}
use Rattle.std.proofs.Common.{length, slice_get, slice_index_or, ◌≢◌, ◌==◌, Bool, true, false, MatchBool, None, Option}
use Rattle.std.proofs.Common.{Some, arith, inl, inr, length-append, refl, slice_set, sym, ap, ◌∙◌, subst}
use Rattle.std.specs.List.{Contains, insert, remove}
use Rattle.std.specs.Prelude.{if◌then◌else◌}
use Rattle.std.specs.Result.{IsOk, is_ok}
use Rattle.core.specs.declared.result.Result.{Result}
use Rattle.std.proofs.lemmas.List.{length-map, map-append}
use Rattle.std.proofs.lemmas.List.Elements.{All-append, All-cons, All-nil, All-push, Contains-append_left}
use Rattle.std.proofs.lemmas.List.Elements.{Contains-append_right, Contains-push}
use Rattle.std.proofs.Math.Nat.{eq-or-lt_of_le}
use Rattle.std.proofs.lemmas.Bool.{cases_lt}
use Rattle.std.proofs.lemmas.Bool.Decides.{nat_tests}
use mathlib.Core.List.{IsPrefix}
use Rattle.logbook.specs.Pages.{Book, Cell}
use Rattle.kfifo_pool.specs.Pooled.{Pooled, no_cells}
use Rattle.kfifo_live.specs.Pass.{IsPassOf}
use Rattle.kfifo_live.specs.declared.view.Opening.{Opening}
use Rattle.kfifo_renewing.specs.declared.change.Change.{Change}
use Rattle.kfifo_renewing.specs.declared.change.Change.TheVariants as C
use Rattle.kfifo_renewing.specs.History.{FindsThere, HasRisen, IsGone, IsKept, IsMade, IsPlaced, WasNewest}
use Rattle.kfifo_renewing.specs.History.{place_count, queue_in}
use Rattle.kfifo_renewing.specs.Joining.{AreAmong, AreSameParts, HasJoined, HasNumber, HasOlder, HasSealedAt}
use Rattle.kfifo_renewing.specs.Joining.{HasSeenSealed, IsPart, IsPartOf, IsSamePart, IsSealedPart, LeavesAt}
use Rattle.kfifo_renewing.specs.Joining.{PartView, held_by, held_in}
use Rattle.kfifo_renewing.specs.Renewing.{Generations, HasAll, HasLeft, HeldIn, LeavesGone, Numbered}
use Rattle.kfifo_renewing.proofs.Histories.{contains-later, gone-later, made-later, was-below, was-later}
use Rattle.kfifo_renewing.proofs.Histories.{queue-same, risen-was, was_first}
use Rattle.kfifo_renewing.proofs.Keeping.{kept-placed}
use Rattle.kfifo_renewing.proofs.Departures.{leaves-append, leaves-refl}
use Rattle.kfifo_renewing.proofs.Parts.{all-next, all-without, contains-cons, contains-head, contains-map, split-get}
use Rattle.kfifo_renewing.proofs.Parts.{contains-without}

-- the element at an index
pub get-at : {A : Type 0} (xs : List A) (i : ℕ) (x d : A) → i < length xs → x ≡ slice_index_or xs i d
    → slice_get xs i ≡ Some x
get-at [] i x d inside is = absurd (omega (arith, inside))
get-at (y ∷ xs) zero x d inside is = ap Some (sym is)
get-at (y ∷ xs) (suc i) x d inside is = get-at xs i x d (omega (arith, inside)) is

module _ {T : Type 0} where
  pub part-later : (xs ys : List Change) (p : PartView T) → IsPrefix xs ys → IsPart xs p → IsPart ys p
  part-later xs ys p more is = record {
    made = made-later xs ys p.number (queue_in p.handle.held.pass.pass) more is.made;
    inside = is.inside;
    placed = contains-later xs ys (C.Placed p.number p.place) more is.placed;
  }

  pub parts-later : (xs ys : List Change) (ps : List (PartView T)) → IsPrefix xs ys → All (IsPart xs) ps
      → All (IsPart ys) ps
  parts-later xs ys [] more all = All-nil (IsPart ys)
  parts-later xs ys (p ∷ ps) more all =
      let next = all-next (IsPart xs) p ps (p ∷ ps) refl all in
      All-cons (IsPart ys) p ps (part-later xs ys p more next.0) (parts-later xs ys ps more next.1)

  pub part-same : (log : List Change) (p q : PartView T) → IsSamePart p q → IsPart log p → IsPart log q
  part-same log p q same is = record {
    made = subst (λ n. IsMade log n (queue_in q.handle.held.pass.pass)) (sym same.0)
        (subst (IsMade log p.number) (queue-same _ _ _ _ (sym same.2.0) (sym same.2.1)) is.made);
    inside = let low = is.inside in let at = same.1 in omega (arith, low, at);
    placed = subst (λ n. IsPlaced log n q.place) (sym same.0) (subst (IsPlaced log p.number) (sym same.1) is.placed);
  }

  pub older-later : (xs ys : List Change) (ps : List (PartView T)) (number : ℕ) → IsPrefix xs ys → HasRisen ys
      → WasNewest xs number
      → HasOlder xs ps number → HasOlder ys ps number
  older-later xs ys ps number more risen newest older n was below = ⊎_elim
      (λ gone. inl (gone-later xs ys n more gone))
      (λ has. inr has)
      (older n (was-below xs ys n number more risen newest below was) below)

  -- the book of the history by another name
  of-book : (o : Opening) (b c : Book) (ps : List (PartView T)) → c ≡ b → All (IsPartOf o b) ps → All (IsPartOf o c) ps
  of-book o b c ps same all = λ i d inside. ((all i d inside).0, (all i d inside).1 ∙ sym same)

  -- a handle that has joined the first generation alone
  pub joined-first : (o : Opening) (shared book : Book) (log : List Change) (g : Numbered) (h : PartView T)
      → IsPartOf o book h
      → book ≡ shared → g.book ≡ book → IsPassOf g.queue h.handle.held.pass.pass → g.number ≡ 0 → h.number ≡ 0
      → IsPart log h → HasRisen log
      → HasJoined o shared book log g h []
  joined-first o shared book log g h opened same books of first number part risen = record {
    newest_opened = opened;
    older_opened = All-nil (IsPartOf o book);
    same_book = same;
    books = books;
    of = of;
    number = number ∙ sym first;
    was = subst (WasNewest log) (sym first) (was_first log);
    risen = risen;
    newest_part = part;
    older_parts = All-nil (IsPart log);
    below = All-nil (λ (p : PartView T). p.number < g.number);
    all = λ n was below. absurd (omega (arith, below, first));
  }

  -- a handle that has seen more of the history
  pub joined-later : (o : Opening) (shared book mine : Book) (xs ys : List Change) (g : Numbered) (h : PartView T)
      (ps : List (PartView T))
      → HasJoined o shared book xs g h ps → mine ≡ book → IsPrefix xs ys → HasRisen ys
      → HasJoined o shared mine ys g h ps
  joined-later o shared book mine xs ys g h ps j same more risen = record {
    newest_opened = (j.newest_opened.0, j.newest_opened.1 ∙ sym same);
    older_opened = of-book o book mine ps same j.older_opened;
    same_book = same ∙ j.same_book;
    books = j.books ∙ sym same;
    of = j.of;
    number = j.number;
    was = was-later xs ys g.number more j.was;
    risen = risen;
    newest_part = part-later xs ys h more j.newest_part;
    older_parts = parts-later xs ys ps more j.older_parts;
    below = j.below;
    all = older-later xs ys ps g.number more risen j.was j.all;
  }

  -- a handle that has made a call in its newest generation
  pub joined-newest : (o : Opening) (shared book : Book) (log : List Change) (g : Numbered) (h k : PartView T)
      (ps : List (PartView T))
      → HasJoined o shared book log g h ps → IsSamePart h k → HasJoined o shared book log g k ps
  joined-newest o shared book log g h k ps j same = record {
    newest_opened = (same.2.1 ∙ j.newest_opened.0, same.3 ∙ j.newest_opened.1);
    older_opened = j.older_opened;
    same_book = j.same_book;
    books = j.books;
    of = (same.2.0 ∙ j.of.0, same.2.1 ∙ j.of.1);
    number = same.0 ∙ j.number;
    was = j.was;
    risen = j.risen;
    newest_part = part-same log h k same j.newest_part;
    older_parts = j.older_parts;
    below = j.below;
    all = j.all;
  }

  pub same-refl : (ps : List (PartView T)) → AreSameParts ps ps
  same-refl [] = refl
  same-refl (p ∷ ps) = (p, ps, refl, (refl, refl, (refl, refl, refl), refl), same-refl ps)

  number-same : (ps qs : List (PartView T)) (n : ℕ) → AreSameParts ps qs → HasNumber ps n → HasNumber qs n
  number-same [] qs n same (p, (k, inside, is), number) = absurd (omega (arith, inside))
  number-same (x ∷ ps) qs n (y, ys, e, s, same) (p, (zero, inside, is), number) =
      subst (λ l. HasNumber l n) (sym e) (y, contains-head y ys, s.0 ∙ ap (λ (v : PartView T). v.number) is ∙ number)
  number-same (x ∷ ps) qs n (y, ys, e, s, same) (p, (suc k, inside, is), number) =
      let rest = number-same ps ys n same (p, (k, omega (arith, inside), is), number) in
      subst (λ l. HasNumber l n) (sym e) (rest.0, contains-cons y rest.0 ys rest.1, rest.2)

  -- what holds of parts holds of the same parts after calls
  all-same : (P : PartView T → Type 0) → ((p q : PartView T) → IsSamePart p q → P p → P q) → (ps qs : List (PartView T))
      → AreSameParts ps qs → All P ps → All P qs
  all-same P keeps [] qs same all = subst (All P) (sym same) (All-nil P)
  all-same P keeps (p ∷ ps) qs (q, rest, e, s, same) all =
      let next = all-next P p ps (p ∷ ps) refl all in
      subst (All P) (sym e) (All-cons P q rest (keeps p q s next.0) (all-same P keeps ps rest same next.1))

  -- a handle that has made calls in its older generations
  pub joined-same : (o : Opening) (shared book : Book) (log : List Change) (g : Numbered) (h : PartView T)
      (ps qs : List (PartView T))
      → HasJoined o shared book log g h ps → AreSameParts ps qs → HasJoined o shared book log g h qs
  joined-same o shared book log g h ps qs j same = record {
    newest_opened = j.newest_opened;
    older_opened = all-same (IsPartOf o book) (λ p q s is. (s.2.1 ∙ is.0, s.3 ∙ is.1)) ps qs same j.older_opened;
    same_book = j.same_book;
    books = j.books;
    of = j.of;
    number = j.number;
    was = j.was;
    risen = j.risen;
    newest_part = j.newest_part;
    older_parts = all-same (IsPart log) (part-same log) ps qs same j.older_parts;
    below = all-same (λ (p : PartView T). p.number < g.number) (λ p q s low. let at = s.0 in omega (arith, low, at)) ps
        qs same j.below;
    all = λ n was below. ⊎_elim inl (λ has. inr (number-same ps qs n same has)) (j.all n was below);
  }

  -- a handle that leaves an older generation that has gone
  pub joined-less : (o : Opening) (shared book : Book) (log : List Change) (g : Numbered) (h : PartView T)
      (ps qs : List (PartView T)) (i : ℕ) (p : PartView T) → HasJoined o shared book log g h ps
      → qs ≡ take i ps ++ drop (i + 1) ps
      → slice_get ps i ≡ Some p → IsGone log p.number → HasJoined o shared book log g h qs
  joined-less o shared book log g h ps qs i p j without at gone = record {
    newest_opened = j.newest_opened;
    older_opened = all-without (IsPartOf o book) ps qs i without j.older_opened;
    same_book = j.same_book;
    books = j.books;
    of = j.of;
    number = j.number;
    was = j.was;
    risen = j.risen;
    newest_part = j.newest_part;
    older_parts = all-without (IsPart log) ps qs i without j.older_parts;
    below = all-without (λ (q : PartView T). q.number < g.number) ps qs i without j.below;
    all = λ n was below. ⊎_elim inl
        (λ has. ⊎_elim
        (λ stays. inr (has.0, subst (λ l. Contains l has.0) (sym without) stays, has.2))
        (λ is.
        let same : p ≡ has.0 = cc (at, is) in
        inl (subst (IsGone log) (ap (λ (q : PartView T). q.number) same ∙ has.2) gone))
        (contains-without ps i has.0 has.1))
        (j.all n was below);
  }

  below-more : (ps : List (PartView T)) (n m : ℕ) → n < m → All (λ (p : PartView T). p.number < n) ps
      → All (λ (p : PartView T). p.number < m) ps
  below-more ps n m less all = λ k d inside. let low = all k d inside in omega (arith, low, less)

  pub below-newest : (ps : List (PartView T)) (n m : ℕ) → n ≤ m → All (λ (p : PartView T). p.number < n) ps
      → All (λ (p : PartView T). p.number < m) ps
  below-newest ps n m up all = λ k d inside. let low = all k d inside in omega (arith, low, up)

  -- a part in a list of parts
  made-of : (log : List Change) (ps : List (PartView T)) (p : PartView T) → All (IsPart log) ps → Contains ps p
      → IsMade log p.number (queue_in p.handle.held.pass.pass)
  made-of log ps p all (k, inside, is) =
      subst (λ (q : PartView T). IsMade log q.number (queue_in q.handle.held.pass.pass)) is (all k p inside).made

  number-in : (ps qs : List (PartView T)) (n : ℕ) → ((p : PartView T) → Contains ps p → Contains qs p) → HasNumber ps n
      → HasNumber qs n
  number-in ps qs n all has = (has.0, all has.0 has.1, has.2)

  pub among-later : (first end : ℕ) (ps : List (PartView T)) (old xs ys : List Change) → IsPrefix xs ys
      → AreAmong first end ps old xs
      → AreAmong first end ps old ys
  among-later first end ps old xs ys more among n above below was =
      ⊎_elim (λ left. inl (gone-later xs ys n more left)) (λ has. inr has) (among n above below was)

  -- a handle that joins a later generation, and those between
  pub joined-more : (o : Opening) (shared book mine : Book) (xs ys : List Change) (g next : Numbered)
      (h k : PartView T)
      (ps between qs : List (PartView T)) → HasJoined o shared book xs g h ps → mine ≡ book → IsPrefix xs ys
      → HasRisen ys
      → (next.book ≡ book) → IsPartOf o book k → IsPassOf next.queue k.handle.held.pass.pass
      → k.number ≡ next.number → IsPart ys k
      → g.number < next.number → WasNewest xs next.number → All (IsPartOf o book) between
      → All (IsPart ys) between
      → All (λ (p : PartView T). p.number < next.number) between → AreAmong g.number next.number between xs ys
      → qs ≡ (ps ++ h ∷ []) ++ between → HasJoined o shared mine ys next k qs
  joined-more o shared book mine xs ys g next h k ps between qs j same more risen books opened of number part
      later was all-opened parts below among is =
      let both : (P : PartView T → Type 0) → All P ps → P h → All P between → All P qs =
      λ P first mid last. subst (All P) (sym is) (All-append P (ps ++ h ∷ []) between (All-push P ps h first mid)
      last) in
      record {
        newest_opened = (opened.0, opened.1 ∙ sym same);
        older_opened = of-book o book mine qs same (both (IsPartOf o book) j.older_opened j.newest_opened all-opened);
        same_book = same ∙ j.same_book;
        books = books ∙ sym same;
        of = of;
        number = number;
        was = was-later xs ys next.number more was;
        risen = risen;
        newest_part = part;
        older_parts = both (IsPart ys) (parts-later xs ys ps more j.older_parts) (part-later xs ys h more j.newest_part)
            parts;
        below = both (λ (p : PartView T). p.number < next.number) (below-more ps g.number next.number later j.below)
            (let at = j.number in omega (arith, at, later)) below;
        all = λ n newest low.
            let before = was-below xs ys n next.number more risen was low newest in
            ⊎_elim
            (λ less. ⊎_elim
            (λ gone. inl (gone-later xs ys n more gone))
            (λ has. inr (number-in ps qs n (λ p c. subst (λ l. Contains l p) (sym is)
            (Contains-append_left (ps ++ h ∷ []) between p (Contains-append_left ps (h ∷ []) p c))) has))
            (j.all n before less))
            (λ no-less. ⊎_elim
            (λ at. inr (
              h,
              subst (λ l. Contains l h) (sym is) (Contains-append_left (ps ++ h ∷ []) between h (Contains-push ps h)),
              j.number ∙ at,
            ))
            (λ above. ⊎_elim
            inl
            (λ has. inr (number-in between qs n (λ p c. subst (λ l. Contains l p) (sym is)
            (Contains-append_right (ps ++ h ∷ []) between p c)) has))
            (among n above low before))
            (eq-or-lt_of_le no-less))
            (cases_lt n g.number);
      }

  -- the number of the newest generation in the history
  pub numbered-by : (o : Opening) (shared book : Book) (log : List Change) (g : Numbered) (h : PartView T)
      (ps : List (PartView T))
      → HasJoined o shared book log g h ps → IsMade log g.number (queue_in h.handle.held.pass.pass)
  numbered-by o shared book log g h ps j = subst (λ n. IsMade log n (queue_in h.handle.held.pass.pass)) j.number
      j.newest_part.made

  -- the handle is in each generation that has not gone
  pub has-all : (o : Opening) (shared book : Book) (g : Numbered) (h : PartView T) (ps : List (PartView T))
      (v : Generations T)
      → HasJoined o shared book v.seen g h ps → held_by ps ≡ v.older → h.handle ≡ v.newest → g.number ≡ v.number
      → HasAll v
  has-all o shared book g h ps v j older newest number n was up =
      let last : HeldIn T = record { handle = v.newest; number = v.number } in
      ⊎_elim
      (λ less. ⊎_elim
      inl
      (λ has. inr (
        held_in has.0,
        subst (λ l. Contains (l ++ last ∷ []) (held_in has.0)) older
            (Contains-append_left (held_by ps) (last ∷ []) (held_in has.0)
            (contains-map (λ (p : PartView T). held_in p) ps has.0 has.1)),
        has.2,
        subst (λ k. IsMade v.seen k (queue_in has.0.handle.held.pass.pass)) has.2
            (made-of v.seen ps has.0 j.older_parts has.1),
      ))
      (j.all n was (let at = number in omega (arith, less, at))))
      (λ no-less.
      let same : n ≡ v.number = omega (arith, no-less, up) in
      inr (
        last,
        Contains-push v.older last,
        sym same,
        subst (λ k. IsMade v.seen k (queue_in v.newest.held.pass.pass)) (number ∙ sym same)
            (subst (λ (x : Pooled T). IsMade v.seen g.number (queue_in x.held.pass.pass)) newest
            (numbered-by o shared book v.seen g h ps j)),
      ))
      (cases_lt n v.number)

  -- what an append with room for all leaves
  pub all-moved : {X E : Type 0} (r : Result X E) (appended pushed reserved ps between : List (PartView T))
      (h before : PartView T)
      → appended ≡ (if is_ok r then pushed ++ between else pushed) → IsOk r → pushed ≡ reserved ++ before ∷ []
      → before ≡ h → reserved ≡ ps
      → appended ≡ (ps ++ h ∷ []) ++ between
  all-moved r appended pushed reserved ps between h before is ok pushed-is same reserved-is =
      is ∙ ap (λ b. if b then pushed ++ between else pushed) ok
      ∙ ap (λ l. l ++ between) (pushed-is ∙ ap (λ l. l ++ before ∷ []) reserved-is ∙ ap (λ x. ps ++ x ∷ []) same)

  pub number-here : (ps rest : List (PartView T)) (p : PartView T) (n : ℕ) → ps ≡ p ∷ rest → p.number ≡ n
      → HasNumber ps n
  number-here ps rest p n is same = subst (λ l. HasNumber l n) (sym is) (p, contains-head p rest, same)

  not-behind : (rest : List (PartView T)) (p : PartView T) (n : ℕ) → (p.number ≡ n → ⊥) → (HasNumber rest n → ⊥)
      → HasNumber (p ∷ rest) n → ⊥
  not-behind rest p n other none (q, (zero, inside, is), same) = other (ap (λ (x : PartView T). x.number) is ∙ same)
  not-behind rest p n other none (q, (suc k, inside, is), same) = none (q, (k, omega (arith, inside), is), same)

  pub number-behind : (ps rest : List (PartView T)) (p : PartView T) (n : ℕ) (b : Bool) → ps ≡ p ∷ rest
      → (p.number ≡ n → ⊥)
      → MatchBool b (HasNumber rest n) (HasNumber rest n → ⊥) → MatchBool b (HasNumber ps n) (HasNumber ps n → ⊥)
  number-behind ps rest p n true is other has =
      subst (λ l. HasNumber l n) (sym is) (has.0, contains-cons p has.0 rest has.1, has.2)
  number-behind ps rest p n false is other none =
      subst (λ l. HasNumber l n → ⊥) (sym is) (not-behind rest p n other none)

  -- what looks at the places below an index have told
  abbrev pub LookedAt : ℕ → ℕ → ℕ → List (PartView T) → List Change → List Change → Type 0
  LookedAt first end index parts base log = (n i : ℕ) → first < n → n < end → i < index → IsPlaced base n i
      → IsGone log n ⊎ HasNumber parts n

  found-by : (first end index : ℕ) (parts : List (PartView T)) (m : ℕ) (old new : List Change) (n : ℕ)
      → FindsThere index (Some m) old new → ((k : ℕ) → Some m ≡ Some k → first < k → k < end → HasNumber parts k)
      → first < n → n < end → IsPlaced old n index → (b : Bool) → (m == n) ≡ b → IsGone new n ⊎ HasNumber parts n
  found-by first end index parts m old new n finds known above below there true is =
      let same : m ≡ n = grind (arith, nat_tests) in
      inr (known n (ap Some same) above below)
  found-by first end index parts m old new n finds known above below there false is =
      let other : m ≢ n = λ same. grind (arith, nat_tests) in
      inl (finds.left n there (λ same. other cc))

  found-here : (first end index : ℕ) (parts : List (PartView T)) (found : Option ℕ) (old new : List Change) (n : ℕ)
      → FindsThere index found old new → ((m : ℕ) → found ≡ Some m → first < m → m < end → HasNumber parts m)
      → first < n → n < end → IsPlaced old n index → IsGone new n ⊎ HasNumber parts n
  found-here first end index parts None old new n finds known above below there =
      inl (finds.left n there (λ same. absurd cc))
  found-here first end index parts (Some m) old new n finds known above below there =
      found-by first end index parts m old new n finds known above below there (m == n) refl

  -- one look more
  pub looked-more : (first end index : ℕ) (parts : List (PartView T)) (found : Option ℕ) (base old new : List Change)
      → LookedAt first end index parts base old → IsPrefix base old → IsPrefix old new → FindsThere index found old new
      → ((m : ℕ) → found ≡ Some m → first < m → m < end → HasNumber parts m)
      → LookedAt first end (index + 1) parts base new
  looked-more first end index parts found base old new looked before more finds known n i above below inside there =
      ⊎_elim
      (λ less. ⊎_elim (λ left. inl (gone-later old new n more left)) (λ has. inr has)
      (looked n i above below less there))
      (λ no-less.
      let same : i ≡ index = omega (arith, no-less, inside) in
      found-here first end index parts found old new n finds known above below
      (contains-later base old (C.Placed n index) before (subst (IsPlaced base n) same there)))
      (cases_lt i index)

  -- looks at all places tell of each generation that was the newest
  pub looked-all : (first end : ℕ) (parts : List (PartView T)) (cells : List Cell) (seen base log : List Change)
      → IsKept cells base → IsPrefix seen base → WasNewest seen end → LookedAt first end place_count parts base log
      → AreAmong first end parts seen log
  looked-all first end parts cells seen base log kept before newest looked n above below was =
      let up = risen-was base end kept.holds.risen (was-later seen base end before newest) in
      let there = kept-placed cells base n kept (omega (arith, above)) (was-later seen base n before was)
      (omega (arith, below, up)) in
      looked n there.0 above below there.1 there.2

  pub part-at : (log : List Change) (ps : List (PartView T)) (i : ℕ) (p : PartView T) → All (IsPart log) ps
      → slice_get ps i ≡ Some p
      → IsPart log p
  part-at log [] i p all at = absurd cc
  part-at log (q ∷ ps) zero p all at =
      let same : q ≡ p = cc in
      subst (IsPart log) same (all-next (IsPart log) q ps (q ∷ ps) refl all).0
  part-at log (q ∷ ps) (suc i) p all at = part-at log ps i p (all-next (IsPart log) q ps (q ∷ ps) refl all).1 at

  -- the part at an index
  pub at-all : (P : PartView T → Type 0) (ps : List (PartView T)) (i : ℕ) (p : PartView T) → All P ps
      → slice_get ps i ≡ Some p → P p
  at-all P [] i p all at = absurd cc
  at-all P (q ∷ ps) zero p all at =
      let same : q ≡ p = cc in
      subst P same (all-next P q ps (q ∷ ps) refl all).0
  at-all P (q ∷ ps) (suc i) p all at = at-all P ps i p (all-next P q ps (q ∷ ps) refl all).1 at

  held-at : (ps : List (PartView T)) (i : ℕ) (p : PartView T) → slice_get ps i ≡ Some p
      → slice_get (held_by ps) i ≡ Some (held_in p)
  held-at [] i p at = absurd cc
  held-at (q ∷ ps) zero p at =
      let same : q ≡ p = cc in
      ap (λ (x : PartView T). Some (held_in x)) same
  held-at (q ∷ ps) (suc i) p at = held-at ps i p at

  -- the part at an index, of whose handle it is known that it has seen its generation sealed empty
  pub sealed-at : (ps : List (PartView T)) (i : ℕ) (p : PartView T) → slice_get ps i ≡ Some p
      → HasSealedAt (held_by ps) i → IsSealedPart p
  sealed-at ps i p at (h, is, seen) =
      let there = held-at ps i p at in
      let same : h ≡ held_in p = cc in
      subst (λ (x : HeldIn T). HasSeenSealed x.handle.held.pass.pass) same seen

  -- the handles of parts, but the one at an index where its generation has gone and was left
  leaves-at : (log : List Change) (ps : List (PartView T)) (i : ℕ) (p : PartView T) → slice_get ps i ≡ Some p
      → p.handle.cells ≡ no_cells → HasLeft log (held_in p)
      → LeavesAt log i (held_by ps) (held_by (take i ps ++ drop (i + 1) ps))
  leaves-at log ps i p at none left =
      let f : PartView T → HeldIn T = λ q. held_in q in
      let split = split-get ps i p at in
      record {
        before = held_by (take i ps);
        after = held_by (drop (i + 1) ps);
        handle = held_in p;
        was = ap held_by split.0 ∙ map-append f (take i ps) (p ∷ drop (i + 1) ps);
        now = map-append f (take i ps) (drop (i + 1) ps);
        at = length-map (take i ps) f ∙ split.1;
        no_cell = none;
        left = left;
      }

  pub held-left : (b : Bool) (log : List Change) (ps qs : List (PartView T)) (i : ℕ) (p : PartView T)
      → qs ≡ (if b then take i ps ++ drop (i + 1) ps else ps) → slice_get ps i ≡ Some p → p.handle.cells ≡ no_cells
      → (b ≡ true → HasLeft log (held_in p))
      → MatchBool b (LeavesAt log i (held_by ps) (held_by qs)) (held_by qs ≡ held_by ps)
  held-left true log ps qs i p is at none left =
      subst (λ l. LeavesAt log i (held_by ps) (held_by l)) (sym is) (leaves-at log ps i p at none (left refl))
  held-left false log ps qs i p is at none left = ap held_by is

  -- where one was left, it has gone, and there are fewer
  pub left-at : (log : List Change) (i : ℕ) (hs ks : List (HeldIn T)) → LeavesAt log i hs ks
      → LeavesGone log hs ks × (length ks + 1 ≡ length hs)
  left-at log i hs ks l = (
    subst (λ xs. LeavesGone log xs ks) (sym l.was) (subst (LeavesGone log (l.before ++ l.handle ∷ l.after)) (sym l.now)
        (leaves-append log l.before l.before (l.handle ∷ l.after) l.after (leaves-refl log l.before)
        (inr (l.no_cell, l.left, leaves-refl log l.after)))),
    let old = ap length l.was in
        let new = ap length l.now in
        let some = length-append l.before (l.handle ∷ l.after) in
        let rest = length-append l.before l.after in
        omega (arith, old, new, some, rest),
  )

  pub gone-if : (b : Bool) (log : List Change) (i : ℕ) (hs ks : List (HeldIn T))
      → MatchBool b (LeavesAt log i hs ks) (ks ≡ hs)
      → LeavesGone log hs ks × (length ks + (if b then 1 else 0) ≡ length hs)
  gone-if true log i hs ks l = left-at log i hs ks l
  gone-if false log i hs ks same = (
    subst (LeavesGone log hs) (sym same) (leaves-refl log hs),
    let long = ap length same in omega (arith, long),
  )

  -- a part is the same after a call, and so are the others
  pub same-set : (ps : List (PartView T)) (i : ℕ) (p q : PartView T) → slice_get ps i ≡ Some p → IsSamePart p q
      → AreSameParts ps (slice_set ps i q)
  same-set [] i p q at same = absurd cc
  same-set (x ∷ ps) zero p q at same =
      let is : x ≡ p = cc in
      (q, ps, refl, subst (λ (y : PartView T). IsSamePart y q) (sym is) same, same-refl ps)
  same-set (x ∷ ps) (suc i) p q at same =
      (x, slice_set ps i q, refl, (refl, refl, (refl, refl, refl), refl), same-set ps i p q at same)

  pub joined-left : (b : Bool) (o : Opening) (shared book : Book) (log : List Change) (g : Numbered) (h : PartView T)
      (ps qs : List (PartView T)) (i : ℕ) (p : PartView T) → HasJoined o shared book log g h ps
      → qs ≡ (if b then take i ps ++ drop (i + 1) ps else ps) → slice_get ps i ≡ Some p
      → (b ≡ true → HasLeft log (held_in p)) → HasJoined o shared book log g h qs
  joined-left true o shared book log g h ps qs i p j is at left =
      joined-less o shared book log g h ps qs i p j is at (left refl).gone
  joined-left false o shared book log g h ps qs i p j is at left =
      subst (HasJoined o shared book log g h) (sym is) j

-- the element at an index of a list by another name
pub get-there : {A : Type 0} (xs ys : List A) (i : ℕ) (x : A) → ys ≡ xs → i < length xs → x ≡ slice_index_or ys i x
    → slice_get xs i ≡ Some x
get-there xs ys i x same inside is =
    subst (λ l. slice_get l i ≡ Some x) same
    (get-at ys i x x (let long = ap length same in omega (arith, inside, long)) is)

-- the part at an index of the parts of a handle by another name
pub part-there : {T : Type 0} (ps qs : List (PartView T)) (hs : List (HeldIn T)) (i : ℕ) (p : PartView T) → qs ≡ ps
    → held_by ps ≡ hs → i < length hs → p ≡ slice_index_or qs i p → slice_get ps i ≡ Some p
part-there {T} ps qs hs i p same are inside is =
    let long = length-map ps (λ (q : PartView T). held_in q) in
    let all = ap length are in
    get-there ps qs i p same (omega (arith, long, all, inside)) is

-- a look at a place that did not find the generation that was shown there
pub gone-there : (old new : List Change) (n place m i : ℕ) → (IsPlaced old m i → IsGone new m) → m ≡ n → i ≡ place
    → IsPlaced old n place → IsGone new n
gone-there old new n place m i finds number at there =
    subst (IsGone new) number
    (finds (subst (λ k. IsPlaced old k i) (sym number) (subst (IsPlaced old n) (sym at) there)))

pub get-of : {A : Type 0} (xs : List A) (i : ℕ) (x d : A) → slice_get xs i ≡ Some x → slice_index_or xs i d ≡ x
get-of [] i x d at = absurd cc
get-of (y ∷ xs) zero x d at = cc
get-of (y ∷ xs) (suc i) x d at = get-of xs i x d at

-- what is put back where it was taken from
pub insert-back : {A : Type 0} (xs : List A) (i : ℕ) (x : A) → slice_get xs i ≡ Some x → insert (remove xs i) i x ≡ xs
insert-back [] i x at = absurd cc
insert-back (y ∷ xs) zero x at = let same : y ≡ x = cc in ap (λ z. z ∷ xs) (sym same)
insert-back (y ∷ xs) (suc i) x at = ap (λ l. y ∷ l) (insert-back xs i x at)
