-- What the openings of the queues that are opened by their capacity say: of values, and bare of cells.
use Rattle.std.specs.Prelude.{◌≡◌, ◌<◌, ◌≤◌, ◌⊎◌, ◌↔◌, ℕ, Bool, IsErrOf, List, map, Option, Result, Some}
use Rattle.kfifo_live.specs.Refusals.{IsOutOf}
use Rattle.kfifo_live.specs.declared.fault.OpenFault.TheVariants.{ThreadsOutOfRange, TokensOutOfRange}
use Rattle.kfifo_live.specs.declared.tokens.sizes.Sizes.{Sizes}
use Rattle.kfifo_live.specs.declared.tokens.sizes.SizesFault.{SizesFault}
use Rattle.kfifo_live.specs.declared.tokens.sizes.SizesFault.TheVariants as F
use Rattle.kfifo_renewing.specs.Renewing.{Generations, HasBadGenerations, HasBadReserve, HasBadThreads, HasBadTokens}
use Rattle.kfifo_renewing.specs.Renewing.{OpensFor, generations_for}
use Rattle.kfifo_renewing.specs.declared.fault.RenewFault.{RenewFault}
use Rattle.kfifo_renewing.specs.declared.fault.RenewFault.TheVariants.{GenerationsOutOfRange, Open, ReserveOutOfRange}
use Rattle.kfifo_renewing.specs.declared.queue.Renewals.{Renewals}
use Rattle.kfifo_c.specs.Exports.{open_number}

-- the number of sizes that there are not
abbrev pub sizes_number : SizesFault → ℕ
sizes_number F.ThreadsOutOfRange = 8
sizes_number F.KOutOfRange = 11
sizes_number F.LastOutOfRange = 13
sizes_number (F.CapacityOutOfRange most) = 19

-- and of an opening that was refused
abbrev pub renew_number : RenewFault → ℕ
renew_number (Open fault) = open_number fault
renew_number ReserveOutOfRange = 18
renew_number (GenerationsOutOfRange most) = 6

-- so many threads cannot have so many generations
abbrev pub BadGenerations : ℕ → ℕ → Type 0
BadGenerations threads generations = IsOutOf (generations_for threads) generations

-- an opening with these sizes is refused for what the renewing queue refuses
abbrev pub RefusesBad : {A : Type 0} → Sizes → Renewals → Result A RenewFault → Type 0
RefusesBad s r result = (IsErrOf result ReserveOutOfRange ↔ HasBadReserve s r)
    × (IsErrOf result (Open ThreadsOutOfRange) ↔ HasBadThreads s r)
    × (IsErrOf result (Open TokensOutOfRange) ↔ HasBadTokens s r)
    × ((most : ℕ) → IsErrOf result (GenerationsOutOfRange most) ↔ HasBadGenerations most s r)

-- What an opening returns for so many threads, where there are sizes for its capacity: it is refused where the reserve
-- is not below the greatest version, and then where the generations are out of their range. Else it is refused only
-- where memory is missing
pub record IsAnswer (last reserve threads generations result : ℕ) : Type 0 where
  pub bad_reserve : last ≤ reserve → result ≡ 18
  pub bad_generations : reserve < last → BadGenerations threads generations → result ≡ 6
  pub memory : reserve < last → ¬ BadGenerations threads generations → (result ≡ 0) ⊎ (result ≡ 7)

module _ {T : Type 0} where
  -- a queue for this capacity was opened, and these are its new handles
  pub record OpensAll (bare : Bool) (k capacity last threads : ℕ) (new : List (Option (Generations T))) : Type 0 where
    pub seats : List (Generations T)
    pub opens : OpensFor bare k capacity last threads seats
    pub handles_are : new ≡ map Some seats
