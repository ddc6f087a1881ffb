use Rattle.std.proofs.Common.{◌≡◌, ◌≤◌, ◌<◌, ◌*◌, ℕ, length, map, sym, ap, subst, ◌∙◌, arith, true≢false, vec_len}
use Rattle.std.proofs.lemmas.List.{length-map}
use Rattle.kfifo_live.specs.Pass.{OpenQueue}
use Rattle.kfifo_c.specs.Behind.{items_in}
use Rattle.kfifo_c.specs.Handles.{behind, items_behind}
use Rattle.kfifo_c.specs.Exports.{numbers_in, HasEach}
use Rattle.kfifo_c.proofs.Closings.{closes_first, one_first, closes_numbers, closes_length, may_close, match_none}
use Rattle.kfifo_c.proofs.Closings.{match_some}
use Rattle.kfifo_c.proofs.closing.ready.Goals as goal

pub returns-in_default-clause-may : goal.returns-in_default-clause-may
returns-in_default-clause-may c = λ m. match_none _ _ c.in_ok-queue.field-0 c.in_ok-queue.ensures.first c.in_default.is
    (m.0, closes_first (items_behind c.args.handles.now) c.args.room m.0 m.1)

pub returns-then-room-n-clause-may : goal.returns-then-room-n-clause-may
returns-then-room-n-clause-may c = λ m.
    let first = match_some _ _ c.in_ok-queue.field-0 (c.in-Some.queue, c.in-Some.threads) c.in_ok-queue.ensures.first
    c.in-Some.is in
    let is : m.0 ≡ c.in-Some.queue.value = one_first (items_behind c.args.handles.now) m.0 c.in-Some.queue.value
    (closes_first (items_behind c.args.handles.now) c.args.room m.0 m.1) first.0 in
    let shape = c.shape-shape.ensures ∙ ap (λ q. q.opened.shape) c.deref.ensures in
    let wide = subst (λ (q : OpenQueue). q.opened.shape.n * q.opened.shape.k ≤ c.args.room) is m.1.room_is in
    let narrow = subst (λ n. c.args.room < n * c.k.result) (c.n.ensures ∙ ap (λ s. s.n) shape) c.if-room-n.true in
    let narrow' = subst (λ k. c.args.room < c.in-Some.queue.value.opened.shape.n * k)
    (c.k.ensures ∙ ap (λ s. s.k) shape) narrow in
    omega arith

pub returns-then-len-handles-clause-may : goal.returns-then-len-handles-clause-may
returns-then-len-handles-clause-may c = λ m.
    let os = items_behind c.args.handles.now in
    let found = c.in_ok-numbers.ensures.numbers ∙ ap numbers_in (ap (map items_in) c.first_queue.ensures.same) in
    let same = c.in_ok-numbers.ensures.same ∙ c.first_queue.ensures.same in
    let v : vec_len c.in_ok-numbers.numbers ≡ length c.in_ok-numbers.numbers.items = omega arith in
    c.if-len-handles.true (c.len.ensures ∙ v ∙ ap length found ∙ closes_length os c.args.room m.0 m.1
    ∙ ap length (sym (ap (map items_in) same)) ∙ length-map (behind c.numbers.new.handles) items_in
    ∙ length-map c.numbers.new.handles (λ handle. handle.held.value))

pub returns-then-not-has_each-clause-may : goal.returns-then-not-has_each-clause-may
returns-then-not-has_each-clause-may c = λ m.
    let os = items_behind c.args.handles.now in
    let first = match_some _ _ c.in_ok-queue.field-0 (c.in-Some.queue, c.in-Some.threads) c.in_ok-queue.ensures.first
    c.in-Some.is in
    let is : m.0 ≡ c.in-Some.queue.value = one_first os m.0 c.in-Some.queue.value (closes_first os c.args.room m.0 m.1)
    first.0 in
    let has : HasEach c.in-Some.threads (numbers_in os) =
    subst (λ (t : ℕ). HasEach t (numbers_in os)) (ap (λ (q : OpenQueue). q.opened.threads) is ∙ sym first.1)
    (closes_numbers os c.args.room m.0 m.1) in
    let found = c.as_slice.ensures.value ∙ c.in_ok-numbers.ensures.numbers
    ∙ ap numbers_in (ap (map items_in) c.first_queue.ensures.same) in
    absurd (true≢false (sym (c.has_each.ensures.1 (subst (HasEach c.in-Some.threads) (sym found) has))
    ∙ c.if-not-has_each.true))

pub returns-clause-may : goal.returns-clause-may
returns-clause-may c =
    let os = items_behind c.args.handles.now in
    let first = match_some _ _ c.in_ok-queue.field-0 (c.in-Some.queue, c.in-Some.threads) c.in_ok-queue.ensures.first
    c.in-Some.is in
    let found = c.in_ok-numbers.ensures.numbers ∙ ap numbers_in (ap (map items_in) c.first_queue.ensures.same) in
    let same = c.in_ok-numbers.ensures.same ∙ c.first_queue.ensures.same in
    let v : vec_len c.in_ok-numbers.numbers ≡ length c.in_ok-numbers.numbers.items = omega arith in
    let shape = c.shape-shape.ensures ∙ ap (λ q. q.opened.shape) c.deref.ensures in
    let wide = subst (λ n. n * c.k.result ≤ c.args.room) (c.n.ensures ∙ ap (λ s. s.n) shape) c.if-room-n.false in
    let has = subst (HasEach c.in-Some.threads) (c.as_slice.ensures.value ∙ found)
    (c.has_each.ensures.0 c.if-not-has_each.false) in
    may_close os c.args.room c.in-Some.queue.value c.requires.0 c.requires.1 first.0
    (subst (λ t. HasEach t (numbers_in os)) first.1 has)
    (ap length (sym found) ∙ sym v ∙ sym c.len.ensures ∙ c.if-len-handles.false
    ∙ sym (length-map c.numbers.new.handles (λ handle. handle.held.value))
    ∙ sym (length-map (behind c.numbers.new.handles) items_in)
    ∙ ap length (ap (map items_in) same))
    (subst (λ k. c.in-Some.queue.value.opened.shape.n * k ≤ c.args.room) (c.k.ensures ∙ ap (λ s. s.k) shape) wide)
