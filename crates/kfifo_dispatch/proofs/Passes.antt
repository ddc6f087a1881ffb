-- The passes of an opening.
use Rattle.std.proofs.Common.{◌≡◌, ℕ, zero, suc, List, [], ◌∷◌, All, max, ◌+◌, ◌∙◌, refl, sym, ap, arith, take, drop}
use Rattle.std.proofs.Common.{◌++◌, slice_index_or, Result, Ok, Err, IfOk}
use Rattle.std.proofs.lemmas.List.Elements.{All-cons, All-nil}
use Rattle.kfifo_words.specs.declared.shape.Shape.{Shape}
use Rattle.kfifo_live.specs.Pass.{OpenQueue, IsPassOf}
use Rattle.kfifo_live.specs.Payloads.{PayPassView, new_pay_passes, pay_opening}
use Rattle.kfifo_dispatch.specs.Jobs.{JobView}
use Rattle.kfifo_dispatch.specs.Working.{IsOpened}

all_of : (q : OpenQueue) (first count : ℕ)
    → All (λ (p : PayPassView JobView). IsPassOf q p.pass) (new_pay_passes q first count)
all_of q first zero = All-nil (λ (p : PayPassView JobView). IsPassOf q p.pass)
all_of q first (suc count) = All-cons (λ (p : PayPassView JobView). IsPassOf q p.pass) _
    (new_pay_passes q (suc first) count) (refl, refl) (all_of q (suc first) count)

pub is_opened : (shape : Shape) (workers tasks : ℕ) (q : OpenQueue) (all passes : List (PayPassView JobView))
    (own : PayPassView JobView)
    → q.opened ≡ pay_opening shape (workers + 1) (max tasks 1) → all ≡ new_pay_passes q 0 (workers + 1)
    → own ≡ slice_index_or all 0 own
    → passes ≡ take 0 all ++ drop 1 all → IsOpened shape workers tasks q own passes
is_opened shape workers tasks q all passes own opened all_are own_is passes_are =
    let more : workers + 1 ≡ suc workers = omega arith in
    let all_are' = all_are ∙ ap (new_pay_passes q 0) more in
    let own_is' = own_is ∙ ap (λ (ps : List (PayPassView JobView)). slice_index_or ps 0 own) all_are' in
    let passes_are' = passes_are ∙ ap (λ (ps : List (PayPassView JobView)). take 0 ps ++ drop 1 ps) all_are' in
    record {
      opened = opened;
      own_is = ap (λ (p : PayPassView JobView). p ∷ []) (sym own_is');
      passes_are = passes_are';
      own_of = (
        ap (λ (p : PayPassView JobView). p.pass.table) own_is',
        ap (λ (p : PayPassView JobView). p.pass.opened)
            own_is',
      );
      of = rw passes_are' (all_of q 1 workers);
    }

pub if_ok : {A E : Type 0} {X : Type 0} (r : Result A E) → X → IfOk r (λ _. X)
if_ok (Ok a) x = x
if_ok (Err e) x = tt
