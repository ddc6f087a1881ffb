-- The search for a legal order: beginnings of orders, by the calls that are done and the items that they left.
use Rattle.std.specs.Prelude.{ℕ, ◌≡◌, ◌+◌, ◌<◌, ◌≤◌, ◌⊎◌, Bool, true, false, List, [], ◌∷◌, ◌++◌, map, length, count_by}
use Rattle.std.specs.Prelude.{slice_index_or, All}
use Rattle.kfifo_model.specs.declared.calls.Call.{Call}
use Rattle.kfifo_model.specs.declared.search.SearchFault.{SearchFault}
use Rattle.kfifo_model.specs.declared.search.SearchFault.TheVariants.{TooLong, Memory}
use Rattle.kfifo_model.specs.Lists.{IsIn}
use Rattle.kfifo_model.specs.declared.effects.Effect.{Effect}
use Rattle.kfifo_model.specs.declared.effects.Effect.TheVariants.{Adds, Takes, FindsNone, Refused, Wrong}
use Rattle.kfifo_model.specs.Relaxed.{IsRun}
use Rattle.kfifo_model.specs.Histories.{call, does, CanStand, IsFinished, Precedes, HasNoRepeats, HasOnlyCalls}
use Rattle.kfifo_model.specs.Histories.{KeepsBefore, IsLegal}
use Rattle.kfifo_model.specs.Reach.{Reach}

-- some order of the history is legal
abbrev pub HasOrder : ℕ → List Call → Type 0
HasOrder k h = (order : List ℕ) × IsLegal k h order

abbrev pub IsSearchFault : List Call → SearchFault → Type 0
IsSearchFault h TooLong = 12 < length h
IsSearchFault h Memory = length h ≤ 12

abbrev pub search_fault_number : SearchFault → ℕ
search_fault_number TooLong = 1
search_fault_number Memory = 2

abbrev pub IsDone : List Bool → ℕ → Type 0
IsDone done n = slice_index_or done n false ≡ true

-- each finished call is done
abbrev pub IsComplete : List Call → List Bool → Type 0
IsComplete h done = (n : ℕ) → IsFinished h n → IsDone done n

-- each call that precedes n is done
abbrev pub IsReady : List Call → List Bool → ℕ → Type 0
IsReady h done n = (m : ℕ) → Precedes h m n → IsDone done m

-- n may come next in an order
pub record IsFree (h : List Call) (done : List Bool) (n : ℕ) : Type 0 where
  pub inside : n < length h
  pub fresh : IsDone done n → ⊥
  pub stands : CanStand (call h n).end (call h n).op
  pub ready : IsReady h done n

-- An order of the calls that are not done.
pub record IsRest (h : List Call) (done : List Bool) (rest : List ℕ) : Type 0 where
  pub distinct : HasNoRepeats rest
  pub calls : HasOnlyCalls h rest
  pub fresh : (n : ℕ) → IsIn n rest → IsDone done n → ⊥
  pub complete : (n : ℕ) → IsFinished h n → IsDone done n ⊎ IsIn n rest
  pub before : KeepsBefore h rest

-- these calls go on as a run
pub record GoesOn (k : ℕ) (h : List Call) (r : Reach) (rest : List ℕ) : Type 0 where
  pub is_rest : IsRest h r.done rest
  pub is_run : IsRun k r.items (map (does h) rest)

-- some legal order goes on so
abbrev pub Extends : ℕ → List Call → Reach → Type 0
Extends k h r = (rest : List ℕ) × GoesOn k h r rest

-- none goes on with n
abbrev pub IsNoNext : ℕ → List Call → Reach → ℕ → Type 0
IsNoNext k h r n = (rest : List ℕ) → GoesOn k h r (n ∷ rest) → ⊥

-- a call that is not done has this effect
abbrev pub IsLeft : List Call → List Bool → Effect → Type 0
IsLeft h done e = (n : ℕ) × (IsDone done n → ⊥) × (does h n ≡ e)

-- a call that is not done takes x, or adds it
abbrev pub IsWanted : List Call → List Bool → ℕ → Type 0
IsWanted h done x = IsLeft h done (Takes x)

abbrev pub IsComing : List Call → List Bool → ℕ → Type 0
IsComing h done x = IsLeft h done (Adds x)

-- the effect is legal in the items and changes nothing
abbrev pub IsIdle : List ℕ → Effect → Type 0
IsIdle items (Adds x) = ⊥
IsIdle items (Takes x) = ⊥
IsIdle [] FindsNone = Unit {0}
IsIdle (x ∷ items) FindsNone = ⊥
IsIdle items Refused = Unit {0}
IsIdle items Wrong = ⊥

-- the same item, or two that no call takes any more
abbrev pub IsAsGood : List Call → List Bool → ℕ → ℕ → Type 0
IsAsGood h done x y = (x ≡ y) ⊎ ((IsWanted h done x → ⊥) × (IsWanted h done y → ⊥))

abbrev pub AreAsGood : List Call → List Bool → List ℕ → List ℕ → Type 0
AreAsGood h done items others =
    (length others ≡ length items) × ((i : ℕ) → i < length items
    → IsAsGood h done (slice_index_or items i 0) (slice_index_or others i 0))

-- how many calls are done
abbrev pub done_count : List Bool → ℕ
done_count done = count_by (λ b. b) done

-- one more call is done
abbrev pub IsFurther : Reach → Reach → Type 0
IsFurther r t = (length t.done ≡ length r.done) × (done_count t.done ≡ done_count r.done + 1)

-- What n leads to, for the orders that go on with it.
pub record LeadsTo (k : ℕ) (h : List Call) (r : Reach) (n : ℕ) (t : Reach) : Type 0 where
  pub further : IsFurther r t
  pub sound : Extends k h t → Extends k h r
  pub complete : (rest : List ℕ) → GoesOn k h r (n ∷ rest) → Extends k h t

-- What was added to a list for a beginning: nothing that goes on where the beginning does not, and so far what makes
-- Done hold.
pub record IsAdded (k : ℕ) (h : List Call) (r : Reach) (before after : List Reach) (Said : Type 0) : Type 0 where
  pub added : List Reach
  pub is : after ≡ before ++ added
  pub further : All (IsFurther r) added
  pub sound : All (λ t. Extends k h t → Extends k h r) added
  pub complete : All (λ t. Extends k h t → ⊥) added → Said

-- these beginnings have so many calls done
abbrev pub IsLevel : List Call → ℕ → List Reach → Type 0
IsLevel h count level = All (λ r. (length r.done ≡ length h) × (done_count r.done ≡ count)) level

-- The beginnings with one more call done.
pub record IsNextLevel (k : ℕ) (h : List Call) (level next : List Reach) : Type 0 where
  pub further : (count : ℕ) → IsLevel h count level → IsLevel h (count + 1) next
  pub sound : All (λ r. Extends k h r → HasOrder k h) level → All (λ t. Extends k h t → HasOrder k h) next
  pub complete : All (λ t. Extends k h t → ⊥) next → All (λ r. Extends k h r → ⊥) level
