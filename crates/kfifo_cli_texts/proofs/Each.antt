-- Texts that were read so far, each as the value in its place.
use Rattle.std.proofs.Common.{◌≡◌, ℕ, suc, ◌+◌, ◌<◌, List, [], ◌∷◌, ◌++◌, length, get_or, map, take, drop, Bor, sym}
use Rattle.std.proofs.Common.{subst, ap, ◌∙◌, add-one}
use Rattle.std.proofs.lemmas.List.{map-append, take-append-drop}
use Rattle.std.proofs.Math.Seq.{take-suc, drop-cons}
use Rattle.kfifo_cli_texts.specs.Words.{EachWrites}

-- the texts behind references, each read so
abbrev pub texts_by : (List ℕ → List ℕ) → List (Bor (List ℕ)) → List (List ℕ)
texts_by part words = map (λ t. part t.now) words

module _ {B : Type 0} (Writes : List ℕ → B → Type 0) where
  -- one more text writes one more value
  each_more : (parts : List (List ℕ)) (values : List B) (part : List ℕ) (value : B) → EachWrites Writes parts values
      → Writes part value
      → EachWrites Writes (parts ++ part ∷ []) (values ++ value ∷ [])
  each_more [] [] part value before here = (here, tt)
  each_more [] (v ∷ values) part value before here = absurd before
  each_more (p ∷ parts) [] part value before here = absurd before
  each_more (p ∷ parts) (v ∷ values) part value before here =
      (before.0, each_more parts values part value before.1 here)

  -- where one of the texts writes no value, the texts write none
  part_unread : (parts : List (List ℕ)) (part : List ℕ) (rest : List (List ℕ)) → ((v : B) → Writes part v → ⊥)
      → (values : List B)
      → EachWrites Writes (parts ++ part ∷ rest) values → ⊥
  part_unread [] part rest unread [] all = all
  part_unread [] part rest unread (v ∷ values) all = unread v all.0
  part_unread (p ∷ parts) part rest unread [] all = all
  part_unread (p ∷ parts) part rest unread (v ∷ values) all = part_unread parts part rest unread values all.1

  module _ (part : List ℕ → List ℕ) where
    -- one more text was read
    pub read_more : (words : List (Bor (List ℕ))) (place : ℕ) (d : Bor (List ℕ)) (values : List B) (value : B)
        → place < length words
        → EachWrites Writes (texts_by part (take place words)) values → Writes (part (get_or words place d).now) value
        → EachWrites Writes (texts_by part (take (place + 1) words)) (values ++ value ∷ [])
    read_more words place d values value inside before here =
        rw (
          add-one,
          take-suc words place d inside,
          map-append (λ (t : Bor (List ℕ)). part t.now) (take place words) (get_or words place d ∷ []),
        )
        (each_more (texts_by part (take place words)) values (part (get_or words place d).now) value before here)

    -- a text writes no value, so that the texts write none
    pub text_unread : (words : List (Bor (List ℕ))) (place : ℕ) (d : Bor (List ℕ)) → place < length words
        → ((v : B) → Writes (part (get_or words place d).now) v → ⊥) → (values : List B)
        → EachWrites Writes (texts_by part words) values
        → ⊥
    text_unread words place d inside unread values all =
        let cut : take place words ++ get_or words place d ∷ drop (suc place) words ≡ words =
        ap (λ (more : List (Bor (List ℕ))). take place words ++ more) (sym (drop-cons words place d inside))
        ∙ take-append-drop place words in
        let parts : texts_by part words ≡ texts_by part (take place words) ++ part (get_or words place d).now
        ∷ texts_by part (drop (suc place) words) =
        ap (texts_by part) (sym cut) ∙ map-append (λ (t : Bor (List ℕ)). part t.now) (take place words)
        (get_or words place d ∷ drop (suc place) words) in
        part_unread (texts_by part (take place words)) (part (get_or words place d).now)
        (texts_by part (drop (suc place) words)) unread
        values
        (subst (λ t. EachWrites Writes t values) parts all)
