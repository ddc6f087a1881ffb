-- A complete execution is one call more, and that of an enqueue one item more.
use Rattle.std.proofs.Common.{◌≡◌, ℕ, zero, suc, ◌+◌, ◌-◌, ◌≤◌, List, [], ◌∷◌, ◌++◌, length, filter, is_some, Some}
use Rattle.std.proofs.Common.{refl, ap, ◌∙◌, length-append, append_assoc, arith}
use Rattle.std.specs.List.{filter_map, range_with_len}
use Rattle.std.proofs.lemmas.List.Elements.{filter-append, filter_map-append}
use Rattle.kfifo_words.specs.declared.shape.Shape.{Shape}
use Rattle.kfifo_model.specs.declared.calls.Answer.{Answer}
use Rattle.kfifo_machine.specs.declared.event.Begin.{Begin}
use Rattle.kfifo_machine.specs.declared.event.Begin.TheVariants.{Enqueue}
use Rattle.kfifo_machine.specs.declared.event.Event.{Event}
use Rattle.kfifo_machine.specs.Runs.{AllGoOn, CompleteExecution, event, own}
use Rattle.kfifo_machine.proofs.Schedules.{own-append}
use Rattle.bench_calls.specs.Calls.{calls, item_of, items_put}

begun : List Event → List Event
begun events = filter (λ e. is_some e.begin) events

put : List Event → List ℕ
put events = filter_map (λ (e : Event). item_of e.begin) events

none_begun : (events : List Event) → AllGoOn events → begun events ≡ []
unfolding begun
none_begun [] h = refl
none_begun (e ∷ es) h = rw h.0 (none_begun es h.1)

none_put : (events : List Event) → AllGoOn events → put events ≡ []
unfolding put
none_put [] h = refl
none_put (e ∷ es) h = rw h.0 (none_put es h.1)

-- the own events after a complete execution: that which begins the call, and events that begin nothing
own_after : (shape : Shape) (threads thread : ℕ) (call : Begin) (answer : Answer) (old new : List Event)
    → (h : CompleteExecution shape threads thread call answer old new)
    → own thread new ≡ own thread old ++ event thread (Some call) ∷ h.one_call.others
own_after shape threads thread call answer old new h =
    ap (own thread) (h.new_is ∙ append_assoc old h.between (h.last ∷ []))
    ∙ own-append thread old (h.between ++ h.last ∷ [])
    ∙ ap (λ es. own thread old ++ es) h.one_call.first

pub one_more : (shape : Shape) (threads thread : ℕ) (call : Begin) (answer : Answer) (old new : List Event)
    → CompleteExecution shape threads thread call answer old new → calls thread new ≡ calls thread old + 1
unfolding begun
one_more shape threads thread call answer old new h =
    ap (λ es. length (begun es)) (own_after shape threads thread call answer old new h)
    ∙ ap length (filter-append (λ (e : Event). is_some e.begin) (own thread old)
    (event thread (Some call) ∷ h.one_call.others))
    ∙ length-append (begun (own thread old)) (begun (event thread (Some call) ∷ h.one_call.others))
    ∙ ap (λ es. calls thread old + length (event thread (Some call) ∷ es))
    (none_begun h.one_call.others h.one_call.go_on)

pub item_more : (shape : Shape) (threads thread item start turns : ℕ) (answer : Answer) (old new : List Event)
    → CompleteExecution shape threads thread (Enqueue item start turns) answer old new
    → items_put thread new ≡ items_put thread old ++ item ∷ []
unfolding put
item_more shape threads thread item start turns answer old new h =
    ap put (own_after shape threads thread (Enqueue item start turns) answer old new h)
    ∙ filter_map-append (λ (e : Event). item_of e.begin) (own thread old)
    (event thread (Some (Enqueue item start turns)) ∷ h.one_call.others)
    ∙ ap (λ items. items_put thread old ++ item ∷ items) (none_put h.one_call.others h.one_call.go_on)

-- one number more
range_more : (a n : ℕ) → range_with_len a n ++ (a + n) ∷ [] ≡ range_with_len a (suc n)
range_more a zero = ap (λ (k : ℕ). k ∷ []) (let e : a + zero ≡ a = omega arith in e)
range_more a (suc n) =
    let e : a + suc n ≡ (a + 1) + n = omega arith in
    ap (λ ks. a ∷ ks) (ap (λ (k : ℕ). range_with_len (a + 1) n ++ k ∷ []) e ∙ range_more (a + 1) n)

pub up_to : (item : ℕ) → 1 ≤ item → range_with_len 1 (item - 1) ++ item ∷ [] ≡ range_with_len 1 ((item + 1) - 1)
up_to item positive =
    ap (λ (k : ℕ). range_with_len 1 (item - 1) ++ k ∷ []) (let e : item ≡ 1 + (item - 1) = omega (arith, positive) in e)
    ∙ range_more 1 (item - 1) ∙ ap (range_with_len 1) (let e : suc (item - 1) ≡ (item + 1) - 1 =
    omega (arith, positive) in e)
