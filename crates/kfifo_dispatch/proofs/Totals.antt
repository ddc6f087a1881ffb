-- What came back of a task is what it comes to.
use Rattle.std.proofs.Common.{◌≡◌, ◌<◌, ◌∙◌, ℕ, List, IfSome, Option, Some, None, length, get_or, sym}
use Rattle.std.proofs.lemmas.List.{get_or_default}
use Rattle.kfifo_dispatch.specs.declared.task.Task.{Task}
use Rattle.kfifo_dispatch.specs.Jobs.{AreTotals, total_at}

pub came_back : (tasks : List Task) (sums : List (Option ℕ)) (place : ℕ) (d found : Option ℕ) → AreTotals tasks sums
    → place < length sums
    → found ≡ get_or sums place d → IfSome found (λ n. n ≡ total_at tasks place)
came_back tasks sums place d None known there is = tt
came_back tasks sums place d (Some n) known there is =
    known.totals place n (get_or_default sums place None d there ∙ sym is)
