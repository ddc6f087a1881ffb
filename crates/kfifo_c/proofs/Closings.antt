-- What is behind handles, read one after the other, and when a queue may be closed by them.
use Rattle.std.proofs.Common.{◌≡◌, ◌+◌, ◌*◌, ◌<◌, ◌≤◌, ℕ, zero, suc, List, [], ◌∷◌, ◌++◌, Option, Some, None, IfSome}
use Rattle.std.proofs.Common.{MatchOption, All, length, map, take, get_or, refl, sym, ap, subst, ◌∙◌, arith, rules}
use Rattle.std.specs.Prelude.{◌==◌}
use Rattle.std.specs.List.{list_any}
use Rattle.std.proofs.lemmas.List.{length-map, length-append}
use Rattle.std.proofs.lemmas.List.Elements.{All-cons, All-head, All-nil, All-tail}
use Rattle.kfifo_words.specs.declared.shape.Shape.{Shape}
use Rattle.kfifo_words.specs.Words.{head_of}
use Rattle.kfifo_words.specs.Ring.{next_segment, slot_at}
use Rattle.kfifo_live.specs.Pass.{OpenQueue, PassView, IsPassOf, IsComplete, Closes}
use Rattle.kfifo_live.specs.Left.{item_in, slots_left, segments_left, items_left}
use Rattle.kfifo_c.specs.declared.handle.Handle.{Handle}
use Rattle.kfifo_c.specs.Seats.{Seated}
use Rattle.kfifo_c.specs.Behind.{items_in}
use Rattle.kfifo_c.specs.Handles.{items_behind}
use Rattle.kfifo_c.specs.Exports.{passes_in, numbers_in, BeginsWith, HasEach, IsOpenOf, MayClose, OneQueue, AreTheirs}
use Rattle.kfifo_c.proofs.HandleLists.{items, next_behind}

-- the next handle of a list
pub next_items : (hs : List Handle) (os : List (Option Seated)) (i : ℕ) (d : Handle) (o : Option Seated)
    → items_behind hs ≡ os
    → i < length hs → items_in (get_or hs i d).held.value ≡ o
    → take (i + 1) os ≡ take i os ++ o ∷ []
next_items hs os i d o e below is =
    subst (λ (xs : List (Option Seated)). take (i + 1) xs ≡ take i xs ++ o ∷ []) e (next_behind items hs i d o below is)

pub passes_more : (os : List (Option Seated)) (s : Seated) → passes_in (os ++ Some s ∷ []) ≡ passes_in os ++ s.pass ∷ []
passes_more [] s = refl
passes_more (None ∷ os) s = passes_more os s
passes_more (Some x ∷ os) s = ap (λ l. x.pass ∷ l) (passes_more os s)

pub passes_same : (os : List (Option Seated)) → passes_in (os ++ None ∷ []) ≡ passes_in os
passes_same [] = refl
passes_same (None ∷ os) = passes_same os
passes_same (Some x ∷ os) = ap (λ l. x.pass ∷ l) (passes_same os)

pub theirs_more : (os : List (Option Seated)) (o : Option Seated) → AreTheirs os
    → IfSome o (λ s. IsPassOf s.queue s.pass)
    → AreTheirs (os ++ o ∷ [])
theirs_more [] None all is = tt
theirs_more [] (Some s) all is = (is, tt)
theirs_more (None ∷ os) o all is = theirs_more os o all is
theirs_more (Some s ∷ os) o all is = (all.0, theirs_more os o all.1 is)

-- the passes of open handles of one queue
pub theirs_of : (q : OpenQueue) (os : List (Option Seated)) → All (IsOpenOf q) os → AreTheirs os
    → All (IsPassOf q) (passes_in os)
theirs_of q [] each all = All-nil (IsPassOf q)
theirs_of q (None ∷ os) each all = absurd (All-head (IsOpenOf q) None os each)
theirs_of q (Some s ∷ os) each all = All-cons (IsPassOf q) s.pass (passes_in os)
    (subst (λ (q' : OpenQueue). IsPassOf q' s.pass) (All-head (IsOpenOf q) (Some s) os each) all.0)
    (theirs_of q os (All-tail (IsOpenOf q) (Some s) os each) all.1)

many_passes : (q : OpenQueue) (os : List (Option Seated)) → All (IsOpenOf q) os → length (passes_in os) ≡ length os
many_passes q [] each = refl
many_passes q (None ∷ os) each = absurd (All-head (IsOpenOf q) None os each)
many_passes q (Some s ∷ os) each = ap suc (many_passes q os (All-tail (IsOpenOf q) (Some s) os each))

few_passes : (os : List (Option Seated)) → length (passes_in os) ≤ length os
few_passes [] = omega arith
few_passes (None ∷ os) = let few = few_passes os in omega arith
few_passes (Some s ∷ os) = let few = few_passes os in omega arith

-- handles of one queue that are as many as their passes are all open
pub all_open : (q : OpenQueue) (os : List (Option Seated)) → All (OneQueue q) os → length (passes_in os) ≡ length os
    → All (IsOpenOf q) os
all_open q [] one many = All-nil (IsOpenOf q)
all_open q (None ∷ os) one many = let few = few_passes os in absurd (omega arith)
all_open q (Some s ∷ os) one many = All-cons (IsOpenOf q) (Some s) os (All-head (OneQueue q) (Some s) os one)
    (all_open q os (All-tail (OneQueue q) (Some s) os one) (omega arith))

-- the first is of the queue of all
pub same_queue : (q first : OpenQueue) (os : List (Option Seated)) → All (OneQueue q) os → BeginsWith first os
    → first ≡ q
same_queue q first [] one begins = absurd begins
same_queue q first (None ∷ os) one begins = absurd begins
same_queue q first (Some s ∷ os) one begins = begins ∙ All-head (OneQueue q) (Some s) os one

-- a test of numbers is one of passes
any_number : (ps : List PassView) (t : ℕ) → list_any (λ n. n == t) (map (λ p. p.thread) ps)
    ≡ list_any (λ p. p.thread == t) ps
any_number [] t = refl
any_number (p ∷ ps) t = search (rules, any_number ps t)

pub complete : (threads : ℕ) (ps : List PassView) → HasEach threads (map (λ p. p.thread) ps) → IsComplete threads ps
complete threads ps has = record {
  count = sym (length-map ps (λ p. p.thread)) ∙ has.count;
  each = λ t below. sym (any_number ps t) ∙ has.each t below;
}

pub has_all : (threads : ℕ) (ps : List PassView) → IsComplete threads ps → HasEach threads (map (λ p. p.thread) ps)
has_all threads ps is = record {
  count = length-map ps (λ p. p.thread) ∙ is.count;
  each = λ t below. any_number ps t ∙ is.each t below;
}

-- no more items are left than there are slots
few_in : (word : ℕ) → length (item_in word) ≤ 1
few_in word = search rules

few_slots : (words : List ℕ) (index count : ℕ) → length (slots_left words index count) ≤ count
few_slots words index zero = omega arith
few_slots words index (suc count) =
    let e = length-append (item_in (get_or words index 0)) (slots_left words (suc index) count) in
    let one = few_in (get_or words index 0) in
    let rest = few_slots words (suc index) count in omega arith

few_segments : (shape : Shape) (words : List ℕ) (segment count : ℕ)
    → length (segments_left shape words segment count) ≤ count * shape.k
few_segments shape words segment zero = omega arith
few_segments shape words segment (suc count) =
    let e = length-append (slots_left words (slot_at shape.k segment 0) shape.k)
    (segments_left shape words (next_segment shape.n segment) count) in
    let one = few_slots words (slot_at shape.k segment 0) shape.k in
    let rest = few_segments shape words (next_segment shape.n segment) count in omega arith

pub few_left : (shape : Shape) (words : List ℕ) → length (items_left shape words) ≤ shape.n * shape.k
few_left shape words = few_segments shape words (head_of (get_or words 0 0)) shape.n

pub numbers_more : (os : List (Option Seated)) (s : Seated) → numbers_in (os ++ Some s ∷ []) ≡ numbers_in os
    ++ s.pass.thread ∷ []
numbers_more [] s = refl
numbers_more (None ∷ os) s = numbers_more os s
numbers_more (Some x ∷ os) s = ap (λ l. x.pass.thread ∷ l) (numbers_more os s)

pub numbers_same : (os : List (Option Seated)) → numbers_in (os ++ None ∷ []) ≡ numbers_in os
numbers_same os = ap (map (λ pass. pass.thread)) (passes_same os)

-- what is behind handles that are all open
pub seats_open : (q : OpenQueue) (os : List (Option Seated)) → All (IsOpenOf q) os → (ss : List Seated)
    × (os ≡ map Some ss)
seats_open q [] each = ([], refl)
seats_open q (None ∷ os) each = absurd (All-head (IsOpenOf q) None os each)
seats_open q (Some s ∷ os) each =
    let rest = seats_open q os (All-tail (IsOpenOf q) (Some s) os each) in (s ∷ rest.0, ap (λ l. Some s ∷ l) rest.1)

pub one_longer : {A : Type 0} (xs : List A) (x : A) → length (xs ++ x ∷ []) ≡ length xs + 1
one_longer xs x = length-append xs (x ∷ [])

-- a queue that is closed by a list of handles is the queue of the first
pub closes_first : (os : List (Option Seated)) (room : ℕ) (q : OpenQueue) → MayClose q os room → BeginsWith q os
closes_first os room q may = begins os may.each_open (let e = may.complete.count in let some =
    may.some_pass in omega arith)
  where
    begins : (xs : List (Option Seated)) → All (IsOpenOf q) xs → 1 ≤ length (passes_in xs) → BeginsWith q xs
    begins [] each few = absurd (omega arith)
    begins (None ∷ xs) each few = absurd (All-head (IsOpenOf q) None xs each)
    begins (Some s ∷ xs) each few = sym (All-head (IsOpenOf q) (Some s) xs each)

-- two queues that begin one list are the same
pub one_first : (os : List (Option Seated)) (q first : OpenQueue) → BeginsWith q os → BeginsWith first os → q ≡ first
one_first [] q first a b = absurd a
one_first (None ∷ os) q first a b = absurd a
one_first (Some s ∷ os) q first a b = a ∙ sym b

-- what a close by these handles says of their numbers
pub closes_numbers : (os : List (Option Seated)) (room : ℕ) (q : OpenQueue) → MayClose q os room
    → HasEach q.opened.threads (numbers_in os)
closes_numbers os room q may = has_all q.opened.threads (passes_in os) may.complete

pub closes_length : (os : List (Option Seated)) (room : ℕ) (q : OpenQueue) → MayClose q os room
    → length (numbers_in os) ≡ length os
closes_length os room q may = length-map (passes_in os) (λ p. p.thread) ∙ many_passes q os may.each_open

begun : (q : OpenQueue) (os : List (Option Seated)) → BeginsWith q os → 1 ≤ length os
begun q [] begins = absurd begins
begun q (o ∷ os) begins = omega arith

-- when a queue may be closed, by what was read of its handles
pub may_close : (os : List (Option Seated)) (room : ℕ) (first q : OpenQueue) → All (OneQueue q) os → BeginsWith first os
    → HasEach first.opened.threads (numbers_in os)
    → length (numbers_in os) ≡ length os → first.opened.shape.n * first.opened.shape.k ≤ room → MayClose first os room
may_close os room first q one begins has many wide =
    let is = same_queue q first os one begins in
    let one' = subst (λ (q' : OpenQueue). All (OneQueue q') os) (sym is) one in
    record {
      some_pass = let e = has.count in let some = begun first os begins in omega arith;
      each_open = all_open first os one' (sym (length-map (passes_in os) (λ p. p.thread)) ∙ many);
      complete = complete first.opened.threads (passes_in os) has;
      room_is = wide;
    }

-- an option that is known
pub match_none : {X : Type 0} (P : Type 0) (Q : X → Type 0) (o : Option X) → MatchOption o P Q → o ≡ None → P
match_none {X} P Q o m e = subst (λ (o' : Option X). MatchOption o' P Q) e m

pub match_some : {X : Type 0} (P : Type 0) (Q : X → Type 0) (o : Option X) (x : X) → MatchOption o P Q → o ≡ Some x
    → Q x
match_some {X} P Q o x m e = subst (λ (o' : Option X). MatchOption o' P Q) e m

-- at most as many items are left as there are slots
pub few_closed : (q : OpenQueue) (ps : List PassView) (items : List ℕ) → Closes q ps items
    → length items ≤ q.opened.shape.n * q.opened.shape.k
few_closed q ps items closes = subst (λ (l : List ℕ). length l ≤ q.opened.shape.n * q.opened.shape.k)
    (sym closes.items_are) (few_left q.opened.shape closes.world.words)

pub closes_theirs : (os : List (Option Seated)) (room : ℕ) (q : OpenQueue) → MayClose q os room → AreTheirs os
    → All (IsPassOf q) (passes_in os)
closes_theirs os room q may theirs = theirs_of q os may.each_open theirs
