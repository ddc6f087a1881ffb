-- The byte order mark in front of a text.
use Rattle.std.proofs.Common.{ℕ, ◌∷◌, ◌≡◌, ◌∙◌, ◌-◌, ◌<◌, ◌≤◌, true, false, List, [], get_or, take, drop, length, refl}
use Rattle.std.proofs.Common.{arith}
use Rattle.std.proofs.lemmas.List.{length-drop, take_all}
use Rattle.csv.specs.Reading.{is_bom, strip_bom}

strip_marked : (text : List ℕ) → 3 ≤ length text → is_bom (get_or text 0 0) (get_or text 1 0) (get_or text 2 0) ≡ true
    → drop 3 text ≡ strip_bom text
unfolding strip_bom
strip_marked (a ∷ b ∷ c ∷ rest) l e = rw e refl
strip_marked [] l e = absurd (omega arith)
strip_marked (a ∷ []) l e = absurd (omega arith)
strip_marked (a ∷ b ∷ []) l e = absurd (omega arith)

pub marked : (text : List ℕ) → 3 ≤ length text → is_bom (get_or text 0 0) (get_or text 1 0) (get_or text 2 0) ≡ true
    → take (length text - 3) (drop 3 text) ≡ strip_bom text
marked text l e = take_all (length text - 3) (drop 3 text) (omega (arith, length-drop 3 text)) ∙ strip_marked text l e

pub unmarked : (text : List ℕ) → is_bom (get_or text 0 0) (get_or text 1 0) (get_or text 2 0) ≡ false
    → text ≡ strip_bom text
unfolding strip_bom
unmarked (a ∷ b ∷ c ∷ rest) e = rw e refl
unmarked [] e = refl
unmarked (a ∷ []) e = refl
unmarked (a ∷ b ∷ []) e = refl

pub unmarked_short : (text : List ℕ) → length text < 3 → text ≡ strip_bom text
unfolding strip_bom
unmarked_short (a ∷ b ∷ c ∷ rest) l = absurd (omega arith)
unmarked_short [] l = refl
unmarked_short (a ∷ []) l = refl
unmarked_short (a ∷ b ∷ []) l = refl
