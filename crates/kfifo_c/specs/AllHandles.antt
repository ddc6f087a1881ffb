-- All the handles of a queue that does not wear out, of values or of cells.
use Rattle.std.specs.Prelude.{◌≡◌, Option, Some, None, List, [], ◌∷◌, ◌++◌, map, length}
use Rattle.kfifo_renewing.specs.Renewing.{AreOfOneQueue, Generations}

-- the seats behind the open ones of these handles
abbrev pub seats_in : {S : Type 0} → List (Option S) → List S
seats_in [] = []
seats_in (None ∷ handles) = seats_in handles
seats_in (Some seat ∷ handles) = seat ∷ seats_in handles

module _ {T : Type 0} where
  -- these handles are open, and as many as the queue of the last has: that one, and others
  pub record AreAll (handles : List (Option (Generations T))) : Type 0 where
    pub others : List (Generations T)
    pub last : Generations T
    pub each_open : handles ≡ map Some (others ++ last ∷ [])
    pub count : length handles ≡ last.opened.threads

  -- those of these handles that are open are of one queue
  abbrev pub AreSeatsOfOneQueue : List (Option (Generations T)) → Type 0
  AreSeatsOfOneQueue handles = AreOfOneQueue (seats_in handles)
