-- The sizes of a queue of tokens that is opened by how many items it is to hold.
use Rattle.std.specs.Prelude.{◌<◌, ◌≤◌, if◌then◌else◌, not, ℕ, ◌+◌, ◌-◌, ◌*◌, ◌/◌, max, min}
use Rattle.std.specs.Prelude.{Option, Some, None}
use Rattle.std.specs.Int.{div_ceil}
use Rattle.kfifo_words.specs.declared.shape.TheConstants.{MAX_K, MAX_SEGMENTS}
use Rattle.kfifo_model.specs.declared.calls.TheConstants.{MAX_THREADS}
use Rattle.kfifo_words.specs.declared.word.TheConstants.{MAX_VERSION}
use Rattle.kfifo_words.specs.Sizes.{within}
use Rattle.kfifo_live.specs.declared.payload.opening.TheConstants.{MOST_TOKENS}
use Rattle.kfifo_live.specs.declared.tokens.sizes.TheConstants.{SPARE_TOKENS}
use Rattle.kfifo_live.specs.declared.tokens.sizes.Sizes.{Sizes}
use Rattle.kfifo_live.specs.declared.tokens.sizes.SizesFault.{SizesFault}
use Rattle.kfifo_live.specs.declared.tokens.sizes.SizesFault.TheVariants as F

-- how many tokens each of so many threads opens with: its part of the capacity, and SPARE_TOKENS
abbrev pub tokens_for : ℕ → ℕ → ℕ
tokens_for capacity threads = div_ceil capacity threads + SPARE_TOKENS

-- how many segments of k slots a ring for so many tokens has: twice as many slots as tokens where MAX_SEGMENTS allow
-- it, and two segments more than hold the tokens in any case
abbrev pub segments_for : ℕ → ℕ → ℕ
segments_for tokens k = max (div_ceil tokens k + 2) (min MAX_SEGMENTS (div_ceil (2 * tokens) k))

-- the greatest capacity: of MAX_SEGMENTS two are not for tokens, and of the tokens SPARE_TOKENS are each thread's
abbrev pub greatest_capacity : ℕ → ℕ → ℕ
greatest_capacity k threads = threads * ((MAX_SEGMENTS - 2) * k / threads - SPARE_TOKENS)

-- the first size that is out of its range
abbrev pub sizes_fault : ℕ → ℕ → ℕ → ℕ → Option SizesFault
sizes_fault k capacity threads last =
    if not (within 1 MAX_THREADS threads) then Some F.ThreadsOutOfRange
    else if not (within 1 MAX_K k) then Some F.KOutOfRange
    else if not (within 2 MAX_VERSION last) then Some F.LastOutOfRange
    else if not (within 1 (greatest_capacity k threads) capacity)
    then Some (F.CapacityOutOfRange (greatest_capacity k threads))
    else None

-- Whatever its threads keep of their spare tokens, so many tokens are left. The ring has two segments more than hold
-- all tokens
pub record HasRoom (capacity : ℕ) (s : Sizes) : Type 0 where
  pub enough : capacity + s.threads * SPARE_TOKENS ≤ s.threads * s.tokens
  pub few_more : s.threads * s.tokens < capacity + s.threads * (SPARE_TOKENS + 1)
  pub at_most : s.threads * s.tokens ≤ MOST_TOKENS
  pub slots : s.threads * s.tokens + 2 * s.shape.k ≤ s.shape.n * s.shape.k
