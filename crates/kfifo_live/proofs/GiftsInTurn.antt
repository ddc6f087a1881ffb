-- The gifts of a longer schedule are of its enqueues, in turn.
use Rattle.std.proofs.Common.{◌≡◌, ℕ, List, [], ◌∷◌, ◌++◌, Option, Some, None, map, refl, sym, ap, ◌∙◌, append_assoc}
use Rattle.std.proofs.lemmas.List.{append-nil, append_cancel_right, map-append}
use Rattle.kfifo_live.proofs.Types.{Begin, Event}
use Rattle.kfifo_machine.specs.declared.event.Begin.TheVariants as B
use Rattle.kfifo_machine.specs.Runs.{event}
use Rattle.kfifo_live.specs.Hands.{Gifts, InTurn, gift, item_begun, items_begun}

pub items_begun-append : (all more : List Event) → items_begun (all ++ more) ≡ items_begun all ++ items_begun more
items_begun-append [] more = refl
items_begun-append (e ∷ all) more = ap (λ xs. item_begun e.begin ++ xs) (items_begun-append all more)
    ∙ sym (append_assoc (item_begun e.begin) (items_begun all) (items_begun more))

gift_item : {T : Type 0} (begin : Option Begin) (held : List (ℕ × Option T)) → map (λ g. g.0) (gift begin held)
    ≡ item_begun begin
gift_item None held = refl
gift_item (Some (B.Enqueue item start turns)) held = refl
gift_item (Some (B.Dequeue start turns)) held = refl
gift_item (Some B.Tick) held = refl
gift_item (Some B.Seal) held = refl

pub in_turn_on : {T : Type 0} (all : List Event) (gifts : Gifts T) (thread : ℕ) (begin : Option Begin)
    (held : List (ℕ × Option T))
    → InTurn all gifts → InTurn (all ++ event thread begin ∷ []) (gifts ++ gift begin held)
in_turn_on {T} all gifts thread begin held turns =
    map-append (λ (g : ℕ × Option T). g.0) gifts (gift begin held)
    ∙ (λ i. turns i ++ gift_item begin held i)
    ∙ ap (λ xs. items_begun all ++ xs) (sym (append-nil (item_begun begin)))
    ∙ sym (items_begun-append all (event thread begin ∷ []))

-- Up to the event with which an enqueue begins, the gifts before its own are of the enqueues that began before
pub in_turn_before : {T : Type 0} (all : List Event) (gifts : Gifts T) (thread item start turns : ℕ)
    (payload : Option T)
    → InTurn (all ++ event thread (Some (B.Enqueue item start turns)) ∷ []) (gifts ++ (item, payload) ∷ [])
    → InTurn all gifts
in_turn_before {T} all gifts thread item start turns payload is =
    append_cancel_right (map (λ (g : ℕ × Option T). g.0) gifts) (items_begun all) (item ∷ [])
    (sym (map-append (λ (g : ℕ × Option T). g.0) gifts ((item, payload) ∷ [])) ∙ is
    ∙ items_begun-append all (event thread (Some (B.Enqueue item start turns)) ∷ []))
