-- Whether the number of a task comes again behind it.
use Rattle.std.proofs.Common.{◌≡◌, ◌==◌, ℕ, List, [], ◌∷◌, true, false, subst, arith, length, inl, inr}
use Rattle.std.proofs.lemmas.Bool.{cases_Bool}
use Rattle.std.proofs.lemmas.Map.Keys.{IsDistinct-cons, IsDistinct-head, IsDistinct-tail}
use Rattle.std.specs.List.{AllByRecursion, IsDistinct, list_any}
use Rattle.kfifo_dispatch.specs.declared.task.Task.{Task}
use Rattle.kfifo_dispatch.specs.Tasks.{HasRepeatedId, ids}

again : (id : ℕ) (tasks : List Task) → list_any (λ (t : Task). id == t.id) tasks ≡ true
    → AllByRecursion (λ y. (id == y) ≡ false) (ids tasks) → ⊥
again id [] found apart = cc
again id (task ∷ tasks) found apart = again id tasks (rw apart.0 at found) apart.1

none_again : (id : ℕ) (tasks : List Task) → list_any (λ (t : Task). id == t.id) tasks ≡ false
    → AllByRecursion (λ y. (id == y) ≡ false) (ids tasks)
none_again id [] none = tt
none_again id (task ∷ tasks) none = elim (cases_Bool (id == task.id)) [
  | inl same ↦ absurd (let h = rw same at none in cc)
  | inr apart ↦ (apart, none_again id tasks (rw apart at none))
]

-- the first task's number comes again
pub of_first : (tasks rest : List Task) (first : Task) → tasks ≡ first ∷ rest
    → list_any (λ (t : Task). first.id == t.id) rest ≡ true
    → HasRepeatedId tasks
of_first tasks rest first is found =
    rw is (λ apart. again first.id rest found (IsDistinct-head (λ a b. a == b) first.id (ids rest) apart))

-- a later task's number comes again
pub of_later : (tasks rest : List Task) (first : Task) → tasks ≡ first ∷ rest → HasRepeatedId rest → HasRepeatedId tasks
of_later tasks rest first is repeated =
    rw is (λ apart. repeated (IsDistinct-tail (λ a b. a == b) first.id (ids rest) apart))

-- no number comes again
pub of_none : (tasks rest : List Task) (first : Task) → tasks ≡ first ∷ rest
    → list_any (λ (t : Task). first.id == t.id) rest ≡ false
    → (HasRepeatedId rest → ⊥) → HasRepeatedId tasks → ⊥
of_none tasks rest first is none apart repeated =
    apart (λ distinct. subst HasRepeatedId is repeated
    (IsDistinct-cons (λ a b. a == b) first.id (ids rest) (none_again first.id rest none) distinct))

-- there is no task
pub none_of : (tasks : List Task) → length tasks ≡ 0 → HasRepeatedId tasks → ⊥
unfolding IsDistinct
none_of [] none repeated = repeated tt
none_of (task ∷ tasks) none repeated = absurd (omega (arith, none))
