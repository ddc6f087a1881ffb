-- Writes to a sink in turn append their texts in turn, as far as they go.
use Rattle.std.proofs.Common.{ℕ, zero, suc, [], ◌∷◌, ◌≡◌, ◌+◌, ◌-◌, ◌≤◌, List, [], ◌++◌, length, take, drop, refl, sym}
use Rattle.std.proofs.Common.{◌∙◌, ap, arith, Option, Some, None, append_assoc, length-drop}
use Rattle.std.proofs.lemmas.List.{take-append-drop, take_all, drop-take}
use Rattle.std.specs.Io.KnownBytes.{Appends, Keeps}
use Rattle.kfifo_judge.specs.Streams.{AppendsPart, CountsWrite}
use Rattle.std.specs.declared.result.Result.TheVariants.{Ok, Err}
use Rattle.std.specs.declared.result.Result.{Result}

pub appends_more : (a b c : Option (List ℕ)) (xs ys zs : List ℕ) → Appends a b xs → Appends b c ys → zs ≡ xs ++ ys
    → Appends a c zs
appends_more None b c xs ys zs p q e = tt
appends_more (Some old) None c xs ys zs p q e = absurd p
appends_more (Some old) (Some bs) None xs ys zs p q e = absurd q
appends_more (Some old) (Some bs) (Some cs) xs ys zs p q e =
    q ∙ (ap (λ t. t ++ ys) p ∙ (append_assoc old xs ys ∙ ap (λ t. old ++ t) (sym e)))

pub appends_kept : (a b c : Option (List ℕ)) (xs : List ℕ) → Appends a b xs → Keeps b c → Appends a c xs
appends_kept None b c xs p q = tt
appends_kept (Some old) None c xs p q = absurd p
appends_kept (Some old) (Some bs) None xs p q = absurd q
appends_kept (Some old) (Some bs) (Some cs) xs p q = q ∙ p

pub part_kept : (a b c : Option (List ℕ)) (text : List ℕ) (w : ℕ) → Appends a b (take w text) → Keeps b c
    → AppendsPart a c text
part_kept a b c text w p q =
    (take w text, drop w text, sym (take-append-drop w text), appends_kept a b c (take w text) p q)

take_front : (w n : ℕ) (t : List ℕ) → w ≤ n → take w (take n t) ≡ take w t
take_front zero n t le = refl
take_front (suc w) zero t le = absurd (omega arith)
take_front (suc w) (suc n) [] le = refl
take_front (suc w) (suc n) (x ∷ t) le = ap (λ s. x ∷ s) (take_front w n t (omega arith))

take-add : (w n : ℕ) (t : List ℕ) → take (w + n) t ≡ take w t ++ take n (drop w t)
take-add w n t =
    sym (take-append-drop w (take (w + n) t))
    ∙ (ap (λ s. s ++ drop w (take (w + n) t)) (take_front w (w + n) t (omega arith)) ∙ ap (λ s. take w t ++ s)
    (drop-take w n t))

piece_is : (text : List ℕ) (w : ℕ) → take (length text - w) (drop w text) ≡ drop w text
piece_is text w = take_all (length text - w) (drop w text) (omega (arith, length-drop w text))

-- one more piece
pub wrote_more : (a b c : Option (List ℕ)) (text : List ℕ) (w n : ℕ) → Appends a b (take w text)
    → Appends b c (take n (take (length text - w) (drop w text))) → Appends a c (take (w + n) text)
wrote_more a b c text w n p q =
    appends_more a b c (take w text) (take n (take (length text - w) (drop w text))) (take (w + n) text) p q
    (take-add w n text ∙ ap (λ t. take w text ++ take n t) (sym (piece_is text w)))

pub part_more : (a b c : Option (List ℕ)) (text : List ℕ) (w n : ℕ) → Appends a b (take w text)
    → Appends b c (take n (take (length text - w) (drop w text))) → AppendsPart a c text
part_more a b c text w n p q =
    (take (w + n) text, drop (w + n) text, sym (take-append-drop (w + n) text), wrote_more a b c text w n p q)

pub inside_more : (text : List ℕ) (w n : ℕ) → w ≤ length text → n ≤ length (take (length text - w) (drop w text))
    → w + n ≤ length text
inside_more text w n le h = omega (arith, ap length (piece_is text w), length-drop w text)

-- a call that took a byte did not fail
pub took_some : {E : Type 0} (r : Result ℕ E) (n offered before after : ℕ) → r ≡ Ok n → (n ≡ 0 → ⊥)
    → CountsWrite r offered before after
    → after ≡ before
took_some (Ok zero) n offered before after e f c = let z : 0 ≡ n = cc in absurd (f (sym z))
took_some (Ok (suc m)) n offered before after e f c = c
took_some (Err x) n offered before after e f c = absurd (cc)
