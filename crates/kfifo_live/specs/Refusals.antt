-- What an opening refuses: a number of threads, then one of tokens or of stamped calls, that is out of its range.
use Rattle.std.specs.Prelude.{◌≡◌, ◌<◌, ◌≤◌, ◌⊎◌, ◌↔◌, ℕ, Result, IsErrOf}
use Rattle.kfifo_model.specs.declared.calls.TheConstants.{MAX_THREADS}
use Rattle.kfifo_live.specs.declared.fault.OpenFault.{OpenFault}
use Rattle.kfifo_live.specs.declared.fault.OpenFault.TheVariants.{ThreadsOutOfRange, TokensOutOfRange, CallsOutOfRange}
use Rattle.kfifo_live.specs.declared.payload.opening.TheConstants.{MAX_TOKENS}
use Rattle.kfifo_live.specs.declared.stamped.TheConstants.{MAX_STAMPED_CALLS}

-- the number is not 1 to the greatest one
abbrev pub IsOutOf : ℕ → ℕ → Type 0
IsOutOf most number = (number ≡ 0) ⊎ (most < number)

module _ {Q : Type 0} where
  -- ThreadsOutOfRange comes exactly where the number of threads is out of its range
  abbrev pub RefusesThreads : ℕ → Result Q OpenFault → Type 0
  RefusesThreads threads result = IsErrOf result ThreadsOutOfRange ↔ IsOutOf MAX_THREADS threads

  -- TokensOutOfRange comes exactly where the number of threads is in its range, and that of tokens is not
  abbrev pub RefusesTokens : ℕ → ℕ → Result Q OpenFault → Type 0
  RefusesTokens threads tokens result = IsErrOf result TokensOutOfRange
      ↔ ((1 ≤ threads) × (threads ≤ MAX_THREADS) × IsOutOf MAX_TOKENS tokens)

  -- and CallsOutOfRange where that of stamped calls is not
  abbrev pub RefusesCalls : ℕ → ℕ → Result Q OpenFault → Type 0
  RefusesCalls threads calls result = IsErrOf result CallsOutOfRange
      ↔ ((1 ≤ threads) × (threads ≤ MAX_THREADS) × IsOutOf MAX_STAMPED_CALLS calls)
