-- Words that were read so far, and their calls.
use Rattle.std.proofs.Common.{◌≡◌, ℕ, ◌+◌, ◌<◌, ◌≤◌, List, [], ◌∷◌, ◌++◌, length, get_or, Bor, arith, sym, subst}
use Rattle.std.proofs.Common.{below_more, All}
use Rattle.std.proofs.lemmas.List.{get_or_default, get_or_push}
use Rattle.std.proofs.Math.ListN.{get_or-append}
use Rattle.kfifo_machine.specs.declared.event.Begin.{Begin}
use Rattle.kfifo_machine.specs.declared.event.Begin.TheVariants.{Enqueue, Dequeue, Tick, Seal}
use Rattle.kfifo_cli_texts.specs.Words.{WritesCall, WritesCalls, IsCall, IsFirstUnread}

module _ (k turns : ℕ) (words : List (Bor (List ℕ))) where
  -- a word that was read with one default is read with any
  at_any : (i : ℕ) (d e : Bor (List ℕ)) (call : Begin) → i < length words
      → WritesCall k turns (get_or words i d).now call
      → WritesCall k turns (get_or words i e).now call
  at_any i d e call inside written = subst (λ w. WritesCall k turns w.now call) (get_or_default words i d e inside)
      written

  -- the words below a place write the calls that stand in their places
  abbrev pub WrittenBelow : List Begin → ℕ → Type 0
  WrittenBelow calls place = (i : ℕ) → i < place → (word : Bor (List ℕ)) (call : Begin)
      → WritesCall k turns (get_or words i word).now (get_or calls i call)

  -- one more word was read, and its call was added
  pub written_more : (calls : List Begin) (place : ℕ) (d : Bor (List ℕ)) (call : Begin) → length calls ≡ place
      → place < length words
      → WrittenBelow calls place → WritesCall k turns (get_or words place d).now call
      → WrittenBelow (calls ++ call ∷ []) (place + 1)
  written_more calls place d call count inside before here = below_more _ _
      (λ i below word e. let lt : i < length calls = omega (arith, count, below) in
      subst (λ x. WritesCall k turns (get_or words i word).now x) (sym (get_or-append calls (call ∷ []) e i lt))
      (before i below word e))
      (λ word e. subst (λ x. WritesCall k turns (get_or words place word).now x)
      (sym (get_or_push calls call e place count))
      (at_any place d word call inside here))

  -- the first word that writes no call, where those before it were read
  pub first_unread : (calls : List Begin) (place : ℕ) (d : Bor (List ℕ)) → Begin → place < length words
      → WrittenBelow calls place
      → ((call : Begin) → WritesCall k turns (get_or words place d).now call → ⊥) → IsFirstUnread k turns words place
  first_unread calls place d some inside before unread = record {
    inside = inside;
    unread = λ word call written. unread call (at_any place word d call inside written);
    before = λ i word below. (get_or calls i some, before i below word some);
  }

-- what a word writes may be called
called : (k turns : ℕ) (word : List ℕ) (call : Begin) → 1 ≤ turns → WritesCall k turns word call → IsCall k call
called k turns word (Enqueue item start rounds) some w =
    (w.0.some_item, w.0.item_fits, w.0.start_fits, omega (arith, some, w.1))
called k turns word (Dequeue start rounds) some w = (w.0.start_fits, omega (arith, some, w.1))
called k turns word Tick some w = w
called k turns word Seal some w = w

-- each call that words write may be made
pub all_called : (k turns : ℕ) (words : List (Bor (List ℕ))) (calls : List Begin) → 1 ≤ turns
    → WritesCalls k turns words calls
    → All (IsCall k) calls
all_called k turns [] calls some w = λ i call inside. absurd (omega (arith, w.count, inside))
all_called k turns (word ∷ words) calls some w =
    λ i call inside. called k turns _ _ some (w.each i word call (omega (arith, w.count, inside)))
