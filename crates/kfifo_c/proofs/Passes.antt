-- Passes of one opening.
use Rattle.std.proofs.Common.{◌≡◌, ◌+◌, All, arith, ap, ◌∙◌, map, reverse, length, ℕ, zero, suc, List, [], ◌∷◌, ◌++◌}
use Rattle.std.proofs.Common.{refl}
use Rattle.std.proofs.lemmas.List.{map-append, reverse-append, length-reverse, length-map}
use Rattle.std.proofs.lemmas.List.Elements.{All-cons, All-nil}
use Rattle.kfifo_live.specs.Pass.{OpenQueue, new_passes}
use Rattle.kfifo_c.specs.Seats.{seated, IsOpenPassOf}
use Rattle.kfifo_c.specs.Exports.{seats_of}

-- of a list whose last element goes over to a list that is read from its end, both together stay the same
pub moved : {A B : Type 0} (f : A → B) (rest : List A) (x : A) (made : List B)
    → map f rest ++ f x ∷ made ≡ map f (rest ++ x ∷ []) ++ made
moved f [] x made = refl
moved f (y ∷ rest) x made = ap (λ l. f y ∷ l) (moved f rest x made)

pub reverse_mapped : {A B : Type 0} (f : A → B) (xs : List A) (x : A) → reverse (map f (xs ++ x ∷ [])) ≡ f x
    ∷ reverse (map f xs)
reverse_mapped f xs x = ap reverse (map-append f xs (x ∷ [])) ∙ reverse-append (map f xs) (f x ∷ [])

pub length_read : {A B : Type 0} (f : A → B) (xs : List A) → length (reverse (map f xs)) ≡ length xs
length_read f xs = length-reverse (map f xs) ∙ length-map xs f

pub length_passes : (q : OpenQueue) (first count : ℕ) → length (new_passes q first count) ≡ count
length_passes q first zero = refl
length_passes q first (suc count) = ap suc (length_passes q (suc first) count)

pub length_seats : (q : OpenQueue) (first count : ℕ) → length (seats_of q (new_passes q first count)) ≡ count
length_seats q first count = length-map (new_passes q first count) (λ p. seated q p) ∙ length_passes q first count

-- the new passes of a queue are of its threads
pub passes_of : (q : OpenQueue) (first count : ℕ) → q.opened.threads ≡ first + count
    → All (IsOpenPassOf q) (new_passes q first count)
passes_of q first zero are = All-nil (IsOpenPassOf q)
passes_of q first (suc count) are = All-cons (IsOpenPassOf q) _ _ ((refl, refl), omega arith)
    (passes_of q (suc first) count (omega arith))
