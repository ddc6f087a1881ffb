-- The sizes for a capacity: there are tokens enough, and segments enough for them.
use Rattle.std.proofs.Common.{◌≡◌, ℕ, suc, ◌+◌, ◌-◌, ◌*◌, ◌/◌, ◌<◌, ◌≤◌, Some, arith, mul-le-mul_right, suc-mul}
use Rattle.std.proofs.Math.Nat.{div-mul-le_self, mul-add, mul_comm, add-mul}
use Rattle.std.proofs.lemmas.Grind.{div_ceil_times}
use Rattle.std.specs.Int.{div_ceil}
use Rattle.kfifo_words.specs.declared.fault.ShapeFault.{ShapeFault}
use Rattle.kfifo_words.specs.Sizes.{fault_of}
use Rattle.kfifo_live.specs.Capacities.{greatest_capacity, segments_for, tokens_for}

-- the least number of parts of this size that hold so much
pub least_up : (a b q : ℕ) → 0 < b → a ≤ q * b → div_ceil a b ≤ q
least_up a b q some fits = up (div_ceil a b) (div_ceil_times a b some).1
  where
    up : (d : ℕ) → d * b < a + b → d ≤ q
    up d less = bounded d q (λ above.
        let more = mul-le-mul_right b above in
        let one = suc-mul q b in
        omega (arith, more, one, less, fits))
      where
        bounded : (d q : ℕ) → (suc q ≤ d → ⊥) → d ≤ q
        bounded d q none = grind (arith, none)

-- so many tokens each fit, in all, into all segments but two
pub few_tokens : (k capacity threads : ℕ) → 1 ≤ threads → 1 ≤ capacity → capacity ≤ greatest_capacity k threads
    → threads * tokens_for capacity threads ≤ 1022 * k
few_tokens k capacity threads some_threads some within =
    let q = 1022 * k / threads in
    let all = div-mul-le_self (1022 * k) threads in
    let swapped = mul_comm threads (q - 32) in
    let up = least_up capacity threads (q - 32) some_threads (let e : capacity ≤ (q - 32) * threads =
    omega (arith, within, swapped) in e) in
    let over = more q within in
    let each : tokens_for capacity threads ≤ q = omega (arith, up, over) in
    let product = mul-le-mul_right threads each in
    let order = mul_comm threads (tokens_for capacity threads) in
    omega (arith, product, order, all)
  where
    more : (q : ℕ) → capacity ≤ threads * (q - 32) → 32 ≤ q
    more q fits = grind (arith, fits, some)

pub enough_tokens : (capacity threads : ℕ) → 1 ≤ threads
    → (capacity + threads * 32 ≤ threads * tokens_for capacity threads)
    × (threads * tokens_for capacity threads < capacity + threads * 33)
enough_tokens capacity threads some =
    let times = div_ceil_times capacity threads some in
    let spread = mul-add threads (div_ceil capacity threads) 32 in
    let order = mul_comm threads (div_ceil capacity threads) in
    let one = mul-add threads 32 1 in
    (omega (arith, times, spread, order), omega (arith, times, spread, order, one))

pub few_segments : (tokens k : ℕ) → 1 ≤ k → tokens ≤ 1022 * k
    → (2 ≤ segments_for tokens k) × (segments_for tokens k ≤ 1024) × (tokens + 2 * k ≤ segments_for tokens k * k)
few_segments tokens k some fits =
    let up = least_up tokens k 1022 some fits in
    let times = div_ceil_times tokens k some in
    let n = segments_for tokens k in
    let least : div_ceil tokens k + 2 ≤ n = omega arith in
    let product = mul-le-mul_right k least in
    let spread = add-mul (div_ceil tokens k) 2 k in
    (omega arith, omega (arith, up), omega (arith, product, spread, times))

-- a shape of these sizes is not refused
pub no_fault : (k n last : ℕ) (f : ShapeFault) → 1 ≤ k → k ≤ 64 → 2 ≤ n → n ≤ 1024 → 2 ≤ last → last ≤ 1099511627775
    → fault_of k n last k ≡ Some f → ⊥
no_fault k n last f some few some_n few_n some_last few_last refused =
    grind (arith, some, few, some_n, few_n, some_last, few_last, refused)
