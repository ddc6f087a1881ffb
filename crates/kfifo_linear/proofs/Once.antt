-- There is one list by point: any other that is sorted and has the same calls is it.
use Rattle.std.proofs.Common.{◌≡◌, ◌≢◌, ℕ, ◌<◌, List, [], ◌∷◌, refl, sym, ap, ◌∙◌, inl, inr, arith}
use Rattle.std.proofs.lemmas.Bool.{cases_eq}
use Rattle.kfifo_model.specs.Lists.{IsIn, EachPair}
use Rattle.kfifo_model.proofs.Lists.{each_at}
use Rattle.kfifo_linear.specs.Points.{Marks, IsEarlier, IsByPoint}

-- not each before the other
apart : (point : ℕ → ℕ) (c d : ℕ) → IsEarlier point c d → IsEarlier point d c → ⊥
apart point c d a b =
    let same : point c ≡ point d = omega (arith, a.0, b.0) in
    let lt : c < d = a.1 same in
    let gt : d < c = b.1 (sym same) in
    absurd (omega arith)

in_rest : (c x : ℕ) (xs : List ℕ) → IsIn c (x ∷ xs) → c ≢ x → IsIn c xs
in_rest c x xs (inl e) ne = absurd (ne e)
in_rest c x xs (inr i) ne = i

-- the first of both
same_first : (point : ℕ → ℕ) (x y : ℕ) (xs ys : List ℕ) → EachPair (IsEarlier point) (x ∷ xs)
    → EachPair (IsEarlier point) (y ∷ ys)
    → IsIn x (y ∷ ys) → IsIn y (x ∷ xs) → x ≡ y
same_first point x y xs ys p q i j =
    elim (cases_eq x y) [
      | inl e ↦ e
      | inr ne ↦
          let before : IsEarlier point y x = each_at (IsEarlier point y) x ys q.0 (in_rest x y ys i ne) in
          let after : IsEarlier point x y = each_at (IsEarlier point x) y xs p.0 (in_rest y x xs j (λ e. ne (sym e))) in
          absurd (apart point x y after before)
    ]

-- a call after another is another one
not_first : (point : ℕ → ℕ) (x c : ℕ) (xs : List ℕ) → EachPair (IsEarlier point) (x ∷ xs) → IsIn c xs → c ≢ x
not_first point x c xs p i e =
    let later : IsEarlier point x c = each_at (IsEarlier point x) c xs p.0 i in
    let same : point x ≡ point c = ap point (sym e) in
    let lt : x < c = later.1 same in
    absurd (omega arith)

one_list : (point : ℕ → ℕ) (xs ys : List ℕ) → EachPair (IsEarlier point) xs → EachPair (IsEarlier point) ys
    → ((c : ℕ) → IsIn c xs → IsIn c ys) → ((c : ℕ) → IsIn c ys → IsIn c xs) → xs ≡ ys
one_list point [] [] p q f g = refl
one_list point [] (y ∷ ys) p q f g = absurd (g y (inl refl))
one_list point (x ∷ xs) [] p q f g = absurd (f x (inl refl))
one_list point (x ∷ xs) (y ∷ ys) p q f g =
    let first : x ≡ y = same_first point x y xs ys p q (f x (inl refl)) (g y (inl refl)) in
    let rest : xs ≡ ys = one_list point xs ys p.1 q.1
    (λ c i. in_rest c y ys (f c (inr i)) (λ e. not_first point x c xs p i (e ∙ sym first)))
    (λ c i. in_rest c x xs (g c (inr i)) (λ e. not_first point y c ys q i (e ∙ first))) in
    ap (λ z. z ∷ xs) first ∙ ap (λ zs. y ∷ zs) rest

pub one_by_point : (m : Marks) (xs ys : List ℕ) → IsByPoint m xs → IsByPoint m ys → xs ≡ ys
one_by_point m xs ys p q = one_list m.point xs ys p.sorted q.sorted (λ c i. q.every c (p.only c i))
    (λ c i. p.every c (q.only c i))
