-- Each call's role in the order of its schedule, and its point.
use Rattle.std.specs.Prelude.{ℕ, Bool, true, false, Option, Some, None}
use Rattle.kfifo_linear.specs.Ledger.{Gone, Inside, Ledger, Outside, Standing, Stood, Took}

-- what a call does to the list of the queue
pub data Role : Type 0 where
  -- its item is of this visit, put in this slot
  Puts : (visit index : ℕ) → Role
  -- it gets the item of that call, of this visit
  Gets : (call visit : ℕ) → Role
  -- it finds the list empty, in this visit
  FindsNone : (visit : ℕ) → Role
  -- it changes nothing
  Refused : Role

-- a role and a place
pub record Spot : Type 0 where
  pub role : Role
  pub point : ℕ

abbrev pub spot_if : Bool → Spot → Option Spot
spot_if true spot = Some spot
spot_if false spot = None

abbrev pub refused_at : Option ℕ → Option Spot
refused_at None = None
refused_at (Some last) = Some (record { role = Refused; point = last })

abbrev pub spot_of : Ledger → ℕ → Standing → Option Spot
spot_of l c Outside = refused_at (l.last c)
spot_of l c (Inside i) = spot_if (l.settled i) (record { role = Puts (l.visit i) i; point = l.point i })
spot_of l c (Gone i v p) = Some (record { role = Puts v i; point = p })
spot_of l c (Took o v p) = Some (record { role = Gets o v; point = p })
spot_of l c (Stood v p) = Some (record { role = FindsNone v; point = p })

-- the role and place of a call, where it stands in the order
unfoldable pub spot : Ledger → ℕ → Option Spot
spot l c = spot_of l c (l.standing c)
