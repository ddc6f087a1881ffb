-- The items of a closed table, read one after the other.
use Rattle.std.proofs.Common.{◌≡◌, ◌≢◌, ℕ, suc, ◌+◌, ◌-◌, ◌<◌, List, [], ◌∷◌, ◌++◌, get_or, sym, ap, ◌∙◌, append_assoc}
use Rattle.std.proofs.Common.{arith, cond, eq-eqb, ne_eqb}
use Rattle.std.proofs.lemmas.List.{append-nil}
use Rattle.kfifo_live.proofs.Types.{Shape}
use Rattle.kfifo_words.specs.Words.{value_of}
use Rattle.kfifo_words.specs.Ring.{next_segment, slot_at}
use Rattle.kfifo_live.specs.Left.{item_in, slots_left, segments_left}

-- the first of the segments that are left
pub segment_left : (shape : Shape) (words : List ℕ) (segment count first : ℕ) → count < shape.n
    → first ≡ slot_at shape.k segment 0
    → slots_left words (first + 0) (shape.k - 0) ++ segments_left shape words (next_segment shape.n segment)
    (shape.n - (count + 1))
    ≡ segments_left shape words segment (shape.n - count)
segment_left shape words segment count first less at =
    let place : first + 0 ≡ slot_at shape.k segment 0 = omega (arith, at) in
    let all : shape.k - 0 ≡ shape.k = omega arith in
    let n : suc (shape.n - (count + 1)) ≡ shape.n - count = omega arith in
    (λ i. slots_left words (place i) (all i) ++ segments_left shape words (next_segment shape.n segment)
    (shape.n - (count + 1)))
    ∙ ap (segments_left shape words segment) n

-- the first of the slots that are left
slot_left : (words : List ℕ) (first slot k : ℕ) → slot < k
    → slots_left words (first + slot) (k - slot)
    ≡ item_in (get_or words (first + slot) 0) ++ slots_left words (first + (slot + 1)) (k - (slot + 1))
slot_left words first slot k less =
    let n : k - slot ≡ suc (k - (slot + 1)) = omega arith in
    let next : suc (first + slot) ≡ first + (slot + 1) = omega arith in
    ap (slots_left words (first + slot)) n
    ∙ ap (λ i. item_in (get_or words (first + slot) 0) ++ slots_left words i (k - (slot + 1))) next

-- reading it keeps the items read and those left together
pub reads_slot : (words items more all rest : List ℕ) (first slot k : ℕ) → slot < k
    → items ++ (slots_left words (first + slot) (k - slot) ++ rest) ≡ all
    → more ≡ items ++ item_in (get_or words (first + slot) 0)
    → more ++ (slots_left words (first + (slot + 1)) (k - (slot + 1)) ++ rest) ≡ all
reads_slot words items more all rest first slot k less upto is =
    let item = item_in (get_or words (first + slot) 0) in
    let left = slots_left words (first + (slot + 1)) (k - (slot + 1)) in
    ap (λ xs. xs ++ (left ++ rest)) is ∙ append_assoc items item (left ++ rest)
    ∙ ap (λ xs. items ++ xs) (sym (append_assoc item left rest))
    ∙ ap (λ xs. items ++ (xs ++ rest)) (sym (slot_left words first slot k less)) ∙ upto

pub filled_item : (word : ℕ) → value_of word ≢ 0 → item_in word ≡ value_of word ∷ []
filled_item word filled = ap (λ b. cond b [] (value_of word ∷ [])) (ne_eqb (value_of word) 0 filled)

pub no_item : (items : List ℕ) (word : ℕ) → value_of word ≡ 0 → items ≡ items ++ item_in word
no_item items word empty =
    sym (ap (λ b. items ++ cond b [] (value_of word ∷ [])) (eq-eqb (value_of word) 0 empty) ∙ append-nil items)
