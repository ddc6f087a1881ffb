-- The handles of one queue, after a call of one of them, and without the last.
use Rattle.std.proofs.Common.{◌≡◌, ◌<◌, ◌∙◌, ℕ, List, ap, get_or, length}
use Rattle.std.proofs.lemmas.List.Elements.{All-cons, All-nil, All-pop, All-set}
use Rattle.std.proofs.Math.ListN.{set}
use Rattle.std.specs.Option.{option_to_list}
use Rattle.std.specs.Prelude.{◌++◌, ◌∷◌, [], Option, Some}
use Rattle.kfifo_renewing.specs.Renewing.{AreOfOneQueue, Generations, IsOfSameQueue}

module _ {T : Type 0} where
  -- a handle of these made a call
  pub still_queue : (hs : List (Generations T)) (i : ℕ) (old new : Generations T) → i < length hs
      → old ≡ get_or hs i old → IsOfSameQueue old new → AreOfOneQueue hs → AreOfOneQueue (set hs i new)
  still_queue hs i old new below is same of =
      let P : Generations T → Type 0 = λ g. (g.opened ≡ of.0) × (g.book ≡ of.1) in let was = of.2 i old below in (
        of.0,
        of.1,
        All-set P hs i new
            (same.opened ∙ ap (λ g. g.opened) is ∙ was.0, same.book ∙ ap (λ g. g.book) is ∙ was.1) of.2,
      )

  -- the last of these is taken out
  pub fewer_queue : (hs rest : List (Generations T)) (last : Option (Generations T)) → hs ≡ rest ++ option_to_list last
      → AreOfOneQueue hs → AreOfOneQueue rest
  fewer_queue hs rest last is of =
      let P : Generations T → Type 0 = λ g. (g.opened ≡ of.0) × (g.book ≡ of.1) in
      (of.0, of.1, (All-pop P hs rest last is of.2).0)

  -- two of these, after calls
  pub two_queue : (hs rest none : List (Generations T)) (x y x' y' : Generations T)
      → hs ≡ rest ++ option_to_list (Some y) → rest ≡ none ++ option_to_list (Some x)
      → IsOfSameQueue x x' → IsOfSameQueue y y' → AreOfOneQueue hs → AreOfOneQueue (x' ∷ y' ∷ [])
  two_queue hs rest none x y x' y' first next same_x same_y of =
      let P : Generations T → Type 0 = λ g. (g.opened ≡ of.0) × (g.book ≡ of.1) in
      let of_y = All-pop P hs rest (Some y) first of.2 in let of_x = All-pop P rest none (Some x) next of_y.0 in (
        of.0,
        of.1,
        All-cons P x' (y' ∷ []) (same_x.opened ∙ of_x.1.0, same_x.book ∙ of_x.1.1)
            (All-cons P y' [] (same_y.opened ∙ of_y.1.0, same_y.book ∙ of_y.1.1) (All-nil P)),
      )
