-- The shape is in its range, and there is room.
use Rattle.std.proofs.Common.{◌≡◌, ℕ, ◌≤◌, ◌<◌, ◌*◌, ◌+◌, ap, arith, subst, sym, ◌∙◌}
use Rattle.kfifo_live.specs.Capacities.{greatest_capacity, segments_for, tokens_for}
use Rattle.kfifo_live.proofs.Capacities.{enough_tokens, few_segments, few_tokens, no_fault}
use Rattle.kfifo_live.proofs.tokens.sizes.Sizes.for_capacity.Goals as goal

pub unreachable-requires : goal.unreachable-requires
unreachable-requires c =
    let some_threads : 1 ≤ c.args.threads = grind (arith, c.if-threads-eq0.false) in
    let some_slots : 1 ≤ c.args.k = grind (arith, c.if-k-eq0.false) in
    let some : 1 ≤ c.args.capacity = grind (arith, c.if-capacity-eq0.false) in
    let within : c.args.capacity ≤ greatest_capacity c.args.k c.args.threads =
    grind (arith, c.if-capacity-greatest.false, c.greatest_for-greatest.ensures) in
    let few = few_tokens c.args.k c.args.capacity c.args.threads some_threads some within in
    let segments = few_segments (c.args.threads * tokens_for c.args.capacity c.args.threads) c.args.k some_slots few in
    let tokens : c.div_ceil-tokens.result + 32 ≡ tokens_for c.args.capacity c.args.threads =
    ap (λ d. d + 32) c.div_ceil-tokens.ensures in
    let n : c.segments_of-segments.result ≡ segments_for (c.args.threads * tokens_for c.args.capacity c.args.threads)
    c.args.k =
    c.segments_of-segments.ensures ∙ ap (λ t. segments_for (c.args.threads * t) c.args.k) tokens in
    let few_slots : c.args.k ≤ 64 = grind (arith, c.if-k-gt-MAX_K.false) in
    let some_last : 2 ≤ c.args.last = grind (arith, c.if-last-lt2.false) in
    let few_last : c.args.last ≤ 1099511627775 = grind (arith, c.if-last-gt-MAX_VERSION.false) in
    no_fault c.args.k c.segments_of-segments.result c.args.last c.in_default.field-0 some_slots few_slots
    (subst (λ x. 2 ≤ x) (sym n) segments.0) (subst (λ x. x ≤ 1024) (sym n) segments.1) some_last few_last
    c.in_default.ensures

pub returns-clause-room : goal.returns-clause-room
returns-clause-room c =
    let some_threads : 1 ≤ c.args.threads = grind (arith, c.if-threads-eq0.false) in
    let some_slots : 1 ≤ c.args.k = grind (arith, c.if-k-eq0.false) in
    let some : 1 ≤ c.args.capacity = grind (arith, c.if-capacity-eq0.false) in
    let within : c.args.capacity ≤ greatest_capacity c.args.k c.args.threads =
    grind (arith, c.if-capacity-greatest.false, c.greatest_for-greatest.ensures) in
    let few = few_tokens c.args.k c.args.capacity c.args.threads some_threads some within in
    let segments = few_segments (c.args.threads * tokens_for c.args.capacity c.args.threads) c.args.k some_slots few in
    let tokens : c.div_ceil-tokens.result + 32 ≡ tokens_for c.args.capacity c.args.threads =
    ap (λ d. d + 32) c.div_ceil-tokens.ensures in
    let n : c.segments_of-segments.result ≡ segments_for (c.args.threads * tokens_for c.args.capacity c.args.threads)
    c.args.k =
    c.segments_of-segments.ensures ∙ ap (λ t. segments_for (c.args.threads * t) c.args.k) tokens in
    let few_slots : c.args.k ≤ 64 = grind (arith, c.if-k-gt-MAX_K.false) in
    let enough = enough_tokens c.args.capacity c.args.threads some_threads in
    let at_most : c.args.threads * tokens_for c.args.capacity c.args.threads ≤ 65536 = omega (arith, few, few_slots) in
    let shape = c.in-Ok.ensures in
    record {
      enough = subst (λ t. c.args.capacity + c.args.threads * 32 ≤ c.args.threads * t) (sym tokens) enough.0;
      few_more = subst (λ t. c.args.threads * t < c.args.capacity + c.args.threads * 33) (sym tokens) enough.1;
      at_most = subst (λ t. c.args.threads * t ≤ 65536) (sym tokens) at_most;
      slots = subst (λ (x : ℕ × ℕ × ℕ). c.args.threads * x.0 + 2 * x.1 ≤ x.2 * x.1)
          (λ i. (sym tokens i, sym shape.0 i, sym (shape.1 ∙ n) i)) segments.2;
    }
