-- Many calls by one handle, made one after the other, up to the first that is not done.
use Rattle.std.specs.Prelude.{◌≡◌, ◌≢◌, ◌<◌, ◌^◌, ◌≤◌, ◌⊎◌, ℕ, zero, suc, Option, Some, None, List, [], ◌∷◌, All}

module _ {A S : Type 0} where
  -- The calls of these values. So many were done, and the values behind the last call were not tried. None: all were
  -- done. Else the last call came to this
  abbrev pub GivesEach : (ℕ → A → S → S → Type 0) → A → List ℕ → ℕ → Option A → S → S → Type 0
  GivesEach gives done [] count last old new = (count ≡ 0) × (last ≡ None) × (new ≡ old)
  GivesEach gives done (value ∷ values) count last old new = (answer : A) × (mid : S) × gives value answer old mid
      × (((answer ≡ done) × (others : ℕ) × (count ≡ suc others) × GivesEach gives done values others last mid new)
      ⊎ ((answer ≢ done) × (count ≡ 0) × (last ≡ Some answer) × (new ≡ mid)))

  -- So many calls at most. These values came out, in this order. None: as many as there were to be calls. Else the last
  -- call came to this
  abbrev pub TakesEach : (A → S → S → Type 0) → (ℕ → A) → ℕ → List ℕ → Option A → S → S → Type 0
  TakesEach takes got zero values last old new = (values ≡ []) × (last ≡ None) × (new ≡ old)
  TakesEach takes got (suc most) values last old new = (answer : A) × (mid : S) × takes answer old mid
      × (((value : ℕ) × (others : List ℕ) × (answer ≡ got value) × (values ≡ value ∷ others)
      × TakesEach takes got most others last mid new)
      ⊎ (((value : ℕ) → answer ≢ got value) × (values ≡ []) × (last ≡ Some answer) × (new ≡ mid)))

-- each of these is an item
abbrev pub AreItems : List ℕ → Type 0
AreItems items = All (λ item. (1 ≤ item) × (item < 2 ^ 24)) items

module _ {A : Type 0} where
  -- the number of what the last of many calls came to: 0 where all were done, and 6 where none was made
  abbrev pub last_number : (Option A → ℕ) → Option (Option A) → ℕ
  last_number number (Some (Some answer)) = number (Some answer)
  last_number number (Some None) = 0
  last_number number None = 6
