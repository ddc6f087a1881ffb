-- Histories: what holds of one holds of each longer one.
use Rattle.std.proofs.Common.{◌≡◌, ◌⊎◌, ◌+◌, ◌<◌, ◌≤◌, ◌==◌, ⊎_elim, ℕ, zero, suc, Bool}
use Rattle.std.proofs.Common.{true, false, List, [], ◌∷◌, ◌++◌}
use Rattle.std.proofs.Common.{length}
use Rattle.std.proofs.Common.{Some, slice_get, refl, sym, ap, ◌∙◌, subst, arith, inl, inr, append_assoc, length-append}
use Rattle.std.specs.Prelude.{if◌then◌else◌}
use Rattle.std.proofs.lemmas.Bool.{false≢true}
use Rattle.std.proofs.lemmas.List.{append-nil}
use Rattle.std.proofs.lemmas.List.Elements.{Contains-append_cases, Contains-append_left}
use Rattle.std.specs.List.{Contains}
use Rattle.atomic_table.specs.Seated.{TableId}
use mathlib.Core.List.{IsPrefix}
use Rattle.kfifo_live.specs.Pass.{queue_of}
use Rattle.kfifo_live.specs.declared.view.Opening.{Opening}
use Rattle.kfifo_renewing.specs.declared.change.Change.{Change}
use Rattle.kfifo_renewing.specs.declared.change.Change.TheVariants as C
use Rattle.kfifo_renewing.specs.declared.change.Made.{Made}
use Rattle.kfifo_renewing.specs.declared.change.Sight.{Sight}
use Rattle.kfifo_renewing.specs.History.{HasRisen, IsGone, IsMade, WasNewest, left_of, made, made_by, newest_after}
use Rattle.kfifo_renewing.specs.History.{newest_of, opens_more}

pub prefix-trans : {A : Type 0} (xs ys zs : List A) → IsPrefix xs ys → IsPrefix ys zs → IsPrefix xs zs
prefix-trans xs ys zs p q = (p.0 ++ q.0, sym (append_assoc xs p.0 q.0) ∙ (ap (λ w. w ++ q.0) p.1 ∙ q.1))

pub get-first : {A : Type 0} (xs ys : List A) (k : ℕ) (x : A) → slice_get xs k ≡ Some x
    → slice_get (xs ++ ys) k ≡ Some x
get-first [] ys k x h = absurd cc
get-first (y ∷ xs) ys zero x h = h
get-first (y ∷ xs) ys (suc k) x h = get-first xs ys k x h

pub get-last : {A : Type 0} (xs : List A) (x : A) → slice_get (xs ++ x ∷ []) (length xs) ≡ Some x
get-last [] x = refl
get-last (y ∷ xs) x = get-last xs x

-- a beginning of a list with one element more is that list, or a beginning of the list without it
prefix-last : {A : Type 0} (before after xs : List A) (x : A) → xs ++ x ∷ [] ≡ before ++ after
    → (before ≡ xs ++ x ∷ []) ⊎ ((rest : List A) × (xs ≡ before ++ rest))
prefix-last [] after xs x is = inr (xs, refl)
prefix-last (b ∷ []) after [] x is = inl cc
prefix-last (b ∷ c ∷ before) after [] x is = absurd cc
prefix-last (b ∷ before) after (y ∷ xs) x is =
    let head : y ≡ b = cc in
    let tail : xs ++ x ∷ [] ≡ before ++ after = cc in
    ⊎_elim
    (λ same. inl cc)
    (λ less. inr (less.0, cc))
    (prefix-last before after xs x tail)

none-of : {A : Type 0} (xs : List A) → length xs ≡ 0 → xs ≡ []
none-of [] none = refl
none-of (x ∷ xs) none = absurd (omega (arith, none))

pub made-append : (xs ys : List Change) → made (xs ++ ys) ≡ made xs ++ made ys
made-append [] ys = refl
made-append (C.Made q more ∷ xs) ys = ap (λ l. q ∷ l) (made-append xs ys)
made-append (C.Newest n ∷ xs) ys = made-append xs ys
made-append (C.Look t ∷ xs) ys = made-append xs ys
made-append (C.Placed n i ∷ xs) ys = made-append xs ys
made-append (C.Gone s ∷ xs) ys = made-append xs ys
made-append (C.Left n t ∷ xs) ys = made-append xs ys

pub newest-append : (n : ℕ) (xs ys : List Change) → newest_after n (xs ++ ys) ≡ newest_after (newest_after n xs) ys
newest-append n [] ys = refl
newest-append n (C.Made q more ∷ xs) ys = newest-append n xs ys
newest-append n (C.Newest m ∷ xs) ys = newest-append m xs ys
newest-append n (C.Look t ∷ xs) ys = newest-append n xs ys
newest-append n (C.Placed m i ∷ xs) ys = newest-append n xs ys
newest-append n (C.Gone s ∷ xs) ys = newest-append n xs ys
newest-append n (C.Left m t ∷ xs) ys = newest-append n xs ys

left-cond : (b : Bool) (t : Sight) (xs ys zs : List Sight) → xs ≡ ys ++ zs
    → (if b then t ∷ xs else xs) ≡ (if b then t ∷ ys else ys) ++ zs
left-cond true t xs ys zs is = ap (λ l. t ∷ l) is
left-cond false t xs ys zs is = is

pub left-append : (n : ℕ) (xs ys : List Change) → left_of n (xs ++ ys) ≡ left_of n xs ++ left_of n ys
left-append n [] ys = refl
left-append n (C.Made q more ∷ xs) ys = left-append n xs ys
left-append n (C.Newest m ∷ xs) ys = left-append n xs ys
left-append n (C.Look t ∷ xs) ys = left-append n xs ys
left-append n (C.Placed m i ∷ xs) ys = left-append n xs ys
left-append n (C.Gone s ∷ xs) ys = left-append n xs ys
left-append n (C.Left m t ∷ xs) ys =
    left-cond (m == n) t (left_of n (xs ++ ys)) (left_of n xs) (left_of n ys) (left-append n xs ys)

-- of two beginnings with as many passes that left, the longer one has no other
pub left-as-many : (n : ℕ) (xs ys : List Change) → IsPrefix xs ys → length (left_of n xs) ≡ length (left_of n ys)
    → left_of n ys ≡ left_of n xs
left-as-many n xs ys p many =
    let whole : left_of n ys ≡ left_of n xs ++ left_of n p.0 = ap (left_of n) (sym p.1) ∙ left-append n xs p.0 in
    let none : left_of n p.0 ≡ [] =
    none-of (left_of n p.0) (let l = ap length whole in let m = length-append (left_of n xs) (left_of n p.0) in
    omega (arith, l, m, many)) in
    whole ∙ ap (λ l. left_of n xs ++ l) none ∙ append-nil (left_of n xs)

-- what was made stays so
pub made-later : (xs ys : List Change) (n : ℕ) (t : Made) → IsPrefix xs ys → IsMade xs n t → IsMade ys n t
made-later xs ys n t p is =
    subst (λ l. slice_get l n ≡ Some t) (sym (made-append xs p.0) ∙ ap made p.1) (get-first (made xs) (made p.0) n t is)

-- a number has one generation, whichever beginnings of the history two handles have seen
pub made-once : (xs ys all : List Change) (n m : ℕ) (t u : Made) → IsPrefix xs all → IsPrefix ys all → IsMade xs n t
    → IsMade ys m u → n ≡ m → t ≡ u
made-once xs ys all n m t u p q first second same =
    let at : IsMade all n t = made-later xs all n t p first in
    let other : IsMade all n u = subst (λ k. IsMade all k u) (sym same) (made-later ys all m u q second) in
    cc (at, other)

-- one queue, by the names of its table and of its opening
pub queue-same : (t u : TableId) (o p : Opening) → t ≡ u → o ≡ p → made_by (queue_of t o) ≡ made_by (queue_of u p)
queue-same t u o p table opened = λ i. record {
  table = table i;
  shape = (opened i).shape;
  threads = (opened i).threads;
}

-- the first generation was the newest
pub was_first : (log : List Change) → WasNewest log 0
was_first log = ([], log, refl, refl)

pub was-now : (log : List Change) → WasNewest log (newest_of log)
was-now log = (log, [], sym (append-nil log), refl)

pub was-later : (xs ys : List Change) (n : ℕ) → IsPrefix xs ys → WasNewest xs n → WasNewest ys n
was-later xs ys n p (before, after, is, newest) =
    (before, after ++ p.0, sym p.1 ∙ ap (λ l. l ++ p.0) is ∙ append_assoc before after p.0, newest)

-- with one entry more
pub was-more : (log : List Change) (e : Change) (n : ℕ) → WasNewest (log ++ e ∷ []) n → WasNewest log n
    ⊎ (n ≡ newest_of (log ++ e ∷ []))
was-more log e n (before, after, is, newest) = ⊎_elim
    (λ all. inr (sym newest ∙ ap newest_of all))
    (λ less. inl (before, less.0, less.1, newest))
    (prefix-last before after log e is)

pub was-less : (log : List Change) (e : Change) (n : ℕ) → newest_of (log ++ e ∷ []) ≡ newest_of log
    → WasNewest (log ++ e ∷ []) n
    → WasNewest log n
was-less log e n same was = ⊎_elim
    (λ before. before)
    (λ last. subst (WasNewest log) (sym (last ∙ same)) (was-now log))
    (was-more log e n was)

-- of two beginnings of a list one begins the other
prefix-or : {A : Type 0} (a b c d : List A) → a ++ b ≡ c ++ d → IsPrefix a c ⊎ IsPrefix c a
prefix-or [] b c d is = inl (c, refl)
prefix-or (x ∷ a) b [] d is = inr (x ∷ a, refl)
prefix-or (x ∷ a) b (y ∷ c) d is =
    let head : x ≡ y = cc in
    let tail : a ++ b ≡ c ++ d = cc in
    ⊎_elim
    (λ p. inl (p.0, let rest = p.1 in cc))
    (λ p. inr (p.0, let rest = p.1 in cc))
    (prefix-or a b c d tail)

-- at first nothing has risen
pub was-none : (n : ℕ) → WasNewest [] n → n ≡ 0
was-none n ([], after, is, newest) = sym newest
was-none n (e ∷ before, after, is, newest) = absurd cc

pub was-made : (t : Made) (b : Bool) (n : ℕ) → WasNewest (C.Made t b ∷ []) n → n ≡ 0
was-made t b n was = ⊎_elim (λ before. was-none n before) (λ last. last) (was-more [] (C.Made t b) n was)

pub made-some : (log : List Change) (n : ℕ) (t : Made) → IsMade log n t → 0 < length (made log)
made-some log n t is = some (made log) n is
  where
    some : (ts : List Made) (k : ℕ) → slice_get ts k ≡ Some t → 0 < length ts
    some [] k is = absurd cc
    some (u ∷ ts) k is = omega arith

-- whether a queue may open further generations is said by the first entry
opens-head : (e : Change) (xs ys : List Change) → opens_more (e ∷ xs) ≡ opens_more (e ∷ ys)
opens-head (C.Made q more) xs ys = refl
opens-head (C.Newest n) xs ys = refl
opens-head (C.Look s) xs ys = refl
opens-head (C.Placed n i) xs ys = refl
opens-head (C.Gone s) xs ys = refl
opens-head (C.Left n s) xs ys = refl

pub opens-more : (xs ys : List Change) → IsPrefix xs ys → opens_more xs ≡ true → opens_more ys ≡ true
opens-more [] ys p more = absurd (false≢true more)
opens-more (e ∷ xs) ys p more = sym (ap opens_more p.1) ∙ opens-head e (xs ++ p.0) xs ∙ more

pub opens-same : (xs ys : List Change) → IsPrefix xs ys → 0 < length (made xs) → opens_more ys ≡ opens_more xs
opens-same [] ys p some = absurd (omega (arith, some))
opens-same (e ∷ xs) ys p some = sym (ap opens_more p.1) ∙ opens-head e (xs ++ p.0) xs

-- a queue that may open none still has one generation after an entry by which none becomes the newest
pub one-stays : (g : ℕ) (log : List Change) (e : Change) → length (made log) ≡ g + 1
    → newest_of (log ++ e ∷ []) ≡ newest_of log → (opens_more log ≡ false → newest_of log ≡ 0)
    → opens_more (log ++ e ∷ []) ≡ false → newest_of (log ++ e ∷ []) ≡ 0
one-stays g log e count same one none =
    same ∙ one (sym (opens-same log (log ++ e ∷ []) (e ∷ [], refl) (omega (arith, count))) ∙ none)

pub risen-none : HasRisen []
risen-none [] more after is = omega arith
risen-none (e ∷ before) more after is = absurd cc

-- an entry more, with which the number does not fall
pub risen-more : (log : List Change) (e : Change) → newest_of log ≤ newest_of (log ++ e ∷ []) → HasRisen log
    → HasRisen (log ++ e ∷ [])
risen-more log e up risen before more after is = ⊎_elim
    (λ all. ⊎_elim
    (λ whole. let same = ap newest_of (whole ∙ sym all) in omega (arith, same))
    (λ less.
    let low = risen before less.0 [] (less.1 ∙ sym (append-nil (before ++ less.0))) in
    let mid = ap newest_of less.1 in
    let end = ap newest_of all in
    omega (arith, low, mid, end, up))
    (prefix-last before more log e (sym all)))
    (λ less. risen before more less.0 less.1)
    (prefix-last (before ++ more) after log e is)

-- the number of the newest generation does not fall
pub risen-from : (xs ys : List Change) → IsPrefix xs ys → HasRisen ys → newest_of xs ≤ newest_of ys
risen-from xs ys p risen =
    subst (λ l. newest_of xs ≤ newest_of l) p.1 (risen xs p.0 [] (sym p.1 ∙ sym (append-nil (xs ++ p.0))))

pub risen-was : (log : List Change) (n : ℕ) → HasRisen log → WasNewest log n → n ≤ newest_of log
risen-was log n risen (before, after, is, newest) =
    subst (λ k. k ≤ newest_of log) newest (risen-from before log (after, sym is) risen)

-- what was the newest before a later one was the newest before that
pub was-below : (xs ys : List Change) (n m : ℕ) → IsPrefix xs ys → HasRisen ys → WasNewest xs m → n < m → WasNewest ys n
    → WasNewest xs n
was-below xs ys n m p risen (first, rest, is, newest) below (before, after, is', newest') = ⊎_elim
    (λ q. (before, q.0, sym q.1, newest'))
    (λ q.
    let more : first ++ (rest ++ q.0) ≡ before = sym (append_assoc first rest q.0) ∙ ap (λ l. l ++ q.0) (sym is)
    ∙ q.1 in
    let up = risen first (rest ++ q.0) after (is' ∙ ap (λ l. l ++ after) (sym more)) in
    let end = ap newest_of more in
    absurd (omega (arith, up, end, newest, newest', below)))
    (prefix-or before after xs p.0 (sym is' ∙ sym p.1))

pub contains-later : {A : Type 0} (xs ys : List A) (x : A) → IsPrefix xs ys → Contains xs x → Contains ys x
contains-later xs ys x p has = subst (λ l. Contains l x) p.1 (Contains-append_left xs p.0 x has)

contains-one : {A : Type 0} (e x : A) → Contains (e ∷ []) x → x ≡ e
contains-one e x (zero, inside, is) = sym is
contains-one e x (suc k, inside, is) = absurd (omega (arith, inside))

pub contains-more : {A : Type 0} (xs : List A) (e x : A) → Contains (xs ++ e ∷ []) x → Contains xs x ⊎ (x ≡ e)
contains-more xs e x has = ⊎_elim inl (λ last. inr (contains-one e x last)) (Contains-append_cases xs (e ∷ []) x has)

pub gone-later : (xs ys : List Change) (n : ℕ) → IsPrefix xs ys → IsGone xs n → IsGone ys n
gone-later xs ys n p gone = record {
  sealed = gone.sealed;
  told = contains-later xs ys (C.Gone gone.sealed) p gone.told;
  number = gone.number;
  made = made-later xs ys n gone.sealed.queue p gone.made;
  empty = gone.empty;
}
