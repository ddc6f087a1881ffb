-- Lists: what holds of all their elements, and lists of threads.
use Rattle.std.proofs.Common.{◌≡◌, ◌==◌, ◌+◌, ◌⊎◌, ⊎_elim, ℕ, zero, suc, not, List, [], ◌∷◌, ◌++◌, All, take, drop}
use Rattle.std.proofs.Common.{Bool, true, false, Some, arith, cond, filter, inl, inr}
use Rattle.std.proofs.Common.{length, map, refl, slice_get, slice_set}
use Rattle.std.proofs.Common.{slice_index_or, sym, ap, ◌∙◌, subst}
use Rattle.std.specs.List.{Contains}
use Rattle.kfifo_renewing.specs.Joining.{PartView}
use Rattle.std.proofs.lemmas.List.{append-nil, drop_all, take_all}
use Rattle.std.proofs.lemmas.List.Elements.{All-append, All-drop, All-take, Contains-get_or, filter-append}
use Rattle.kfifo_live.specs.Schedule.{count_up}
use Rattle.kfifo_renewing.specs.Renewing.{other_threads, without}

pub contains-cons : {A : Type 0} (y x : A) (xs : List A) → Contains xs x → Contains (y ∷ xs) x
contains-cons y x xs (k, inside, is) = (suc k, omega (arith, inside), is)

pub contains-head : {A : Type 0} (x : A) (xs : List A) → Contains (x ∷ xs) x
contains-head x xs = (zero, omega arith, refl)

-- what is in a list is there without the element at a place, or is that one
pub contains-without : {A : Type 0} (xs : List A) (i : ℕ) (x : A) → Contains xs x
    → Contains (take i xs ++ drop (i + 1) xs) x ⊎ (slice_get xs i ≡ Some x)
contains-without [] i x (k, inside, is) = absurd (omega (arith, inside))
contains-without (y ∷ xs) zero x (zero, inside, is) = inr (ap Some is)
contains-without (y ∷ xs) zero x (suc k, inside, is) = inl (k, omega (arith, inside), is)
contains-without (y ∷ xs) (suc i) x (zero, inside, is) =
    inl (subst (λ z. Contains (y ∷ (take i xs ++ drop (suc i + 1) (y ∷ xs))) z) is
    (contains-head y (take i xs ++ drop (suc i + 1) (y ∷ xs))))
contains-without (y ∷ xs) (suc i) x (suc k, inside, is) = ⊎_elim
    (λ rest. inl (subst (λ n. Contains (y ∷ (take i xs ++ drop n (y ∷ xs))) x) (let e : suc (i + 1) ≡ suc i + 1 =
    omega arith in e)
    (contains-cons y x (take i xs ++ drop (i + 1) xs) rest)))
    inr
    (contains-without xs i x (k, omega (arith, inside), is))

pub contains-map : {A B : Type 0} (f : A → B) (xs : List A) (x : A) → Contains xs x → Contains (map f xs) (f x)
contains-map f [] x (k, inside, is) = absurd (omega (arith, inside))
contains-map f (y ∷ xs) x (zero, inside, is) =
    subst (λ z. Contains (map f (y ∷ xs)) (f z)) is (contains-head (f y) (map f xs))
contains-map f (y ∷ xs) x (suc k, inside, is) =
    contains-cons (f y) (f x) (map f xs) (contains-map f xs x (k, omega (arith, inside), is))

-- an element of the images is the image of one
pub contains-image : {A B : Type 0} (f : A → B) (xs : List A) (y : B) → Contains (map f xs) y
    → (x : A) × Contains xs x × (f x ≡ y)
contains-image f [] y (k, inside, is) = absurd (omega (arith, inside))
contains-image f (x ∷ xs) y (zero, inside, is) = (x, contains-head x xs, is)
contains-image f (x ∷ xs) y (suc k, inside, is) =
    let rest = contains-image f xs y (k, omega (arith, inside), is) in
    (rest.0, contains-cons x rest.0 xs rest.1, rest.2)

contains-cond : {A : Type 0} (b : Bool) (y x : A) (xs : List A) → Contains xs x → Contains (cond b (y ∷ xs) xs) x
contains-cond true y x xs c = contains-cons y x xs c
contains-cond false y x xs c = c

-- an element that passes the test is among those that do
pub contains-filter : {A : Type 0} (p : A → Bool) (xs : List A) (x : A) → Contains xs x → p x ≡ true
    → Contains (filter p xs) x
contains-filter p [] x (k, inside, is) passes = absurd (omega (arith, inside))
contains-filter p (y ∷ xs) x (zero, inside, is) passes =
    subst (λ b. Contains (cond b (y ∷ filter p xs) (filter p xs)) x) (sym (ap p is ∙ passes))
    (subst (Contains (y ∷ filter p xs)) is (contains-head y (filter p xs)))
contains-filter p (y ∷ xs) x (suc k, inside, is) passes =
    contains-cond (p y) y x (filter p xs) (contains-filter p xs x (k, omega (arith, inside), is) passes)

-- what holds of each element of a list
pub all-from-contains : {A : Type 0} (P : A → Type 0) (xs : List A) → ((x : A) → Contains xs x → P x) → All P xs
all-from-contains P xs each k d inside = each (slice_index_or xs k d) (Contains-get_or xs k d inside)

module _ {A : Type 0} where
  pub all-next : (P : A → Type 0) (x : A) (xs ys : List A) → ys ≡ x ∷ xs → All P ys → P x × All P xs
  all-next P x xs ys e all =
      let each = subst (All P) e all in
      (each 0 x (omega arith), λ k d l. each (suc k) d (omega (arith, l)))

  pub all-without : (P : A → Type 0) (xs ys : List A) (i : ℕ) → ys ≡ take i xs ++ drop (i + 1) xs → All P xs → All P ys
  all-without P xs ys i e all =
      subst (All P) (sym e) (All-append P (take i xs) (drop (i + 1) xs) (All-take P i xs all)
      (All-drop P (i + 1) xs all))

  -- a list, all of whose elements were written anew
  pub written : (xs ys : List A) (n : ℕ) → length ys ≡ length xs → n ≡ length xs
      → take n (ys ++ drop (length ys) xs) ≡ ys
  written xs ys n same is =
      ap (λ l. take n (ys ++ l)) (drop_all (length ys) xs (omega (arith, same))) ∙ ap (take n) (append-nil ys)
      ∙ take_all n ys (omega (arith, same, is))

pub count-more : (first n : ℕ) → count_up first (n + 1) ≡ count_up first n ++ (first + n) ∷ []
count-more first zero = ap (λ k. k ∷ []) (let e : first ≡ first + 0 = omega arith in e)
count-more first (suc n) =
    ap (λ k. count_up first k) (let e : suc n + 1 ≡ suc (n + 1) = omega arith in e)
    ∙ ap (λ l. first ∷ l) (count-more (suc first) n)
    ∙ ap (λ k. first ∷ count_up (suc first) n ++ k ∷ []) (let e : suc first + n ≡ first + suc n = omega arith in e)

-- one thread more
pub others-more : (own n : ℕ) → other_threads own (n + 1) ≡ other_threads own n ++ without own (n ∷ [])
others-more own n = ap (without own) (count-more 0 n) ∙ filter-append (λ thread. not (thread == own)) (count_up 0 n)
    ((0 + n) ∷ [])
    ∙ ap (λ k. other_threads own n ++ without own (k ∷ [])) (let e : 0 + n ≡ n = omega arith in e)

-- what is so of all parts is so of those behind the first
pub bare_rest : {T : Type 0} (bare : Bool) (parts rest : List (PartView T)) (first : PartView T) → parts ≡ first ∷ rest
    → All (λ (p : PartView T). p.handle.held.pass.pass.opened.bare ≡ bare) parts
    → All (λ (p : PartView T). p.handle.held.pass.pass.opened.bare ≡ bare) rest
bare_rest {T} bare parts rest first is all i d inside =
    subst (All (λ (p : PartView T). p.handle.held.pass.pass.opened.bare ≡ bare)) is all (suc i) d
    (omega (arith, inside))

-- a list, by the element at an index
pub split-get : {A : Type 0} (xs : List A) (i : ℕ) (x : A) → slice_get xs i ≡ Some x
    → (xs ≡ take i xs ++ x ∷ drop (i + 1) xs) × (length (take i xs) ≡ i)
split-get [] i x at = absurd cc
split-get (y ∷ xs) zero x at = let same : y ≡ x = cc in (ap (λ z. z ∷ xs) same, refl)
split-get (y ∷ xs) (suc i) x at =
    let rest = split-get xs i x at in
    let next : suc (i + 1) ≡ suc i + 1 = omega arith in
    (ap (λ l. y ∷ l) rest.0 ∙ ap (λ n. y ∷ (take i xs ++ x ∷ drop n (y ∷ xs))) next, ap suc rest.1)

-- with another one there
pub split-set : {A : Type 0} (xs : List A) (i : ℕ) (x y : A) → slice_get xs i ≡ Some x
    → slice_set xs i y ≡ take i xs ++ y ∷ drop (i + 1) xs
split-set [] i x y at = absurd cc
split-set (z ∷ xs) zero x y at = refl
split-set (z ∷ xs) (suc i) x y at =
    let next : suc (i + 1) ≡ suc i + 1 = omega arith in
    ap (λ l. z ∷ l) (split-set xs i x y at) ∙ ap (λ n. z ∷ (take i xs ++ y ∷ drop n (z ∷ xs))) next

pub get-split : {A : Type 0} (xs ys : List A) (x : A) → slice_get (xs ++ x ∷ ys) (length xs) ≡ Some x
get-split [] ys x = refl
get-split (y ∷ xs) ys x = get-split xs ys x

-- lists that are alike begin alike, and go on alike
pub split-same : {A : Type 0} (xs us ys vs : List A) → length xs ≡ length ys → xs ++ us ≡ ys ++ vs
    → (xs ≡ ys) × (us ≡ vs)
split-same [] us [] vs long is = (refl, is)
split-same [] us (y ∷ ys) vs long is = absurd cc
split-same (x ∷ xs) us [] vs long is = absurd cc
split-same (x ∷ xs) us (y ∷ ys) vs long is =
    let less : length xs ≡ length ys = omega (arith, long) in
    let more : xs ++ us ≡ ys ++ vs = cc in
    let rest = split-same xs us ys vs less more in
    let same : x ≡ y = cc in
    ((λ k. same k ∷ rest.0 k), rest.1)
