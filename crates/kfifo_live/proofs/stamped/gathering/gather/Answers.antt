-- The logs of a closed queue are a history with a legal order.
use Rattle.std.proofs.Common.{◌≡◌, ℕ, ◌≤◌, All, List, ◌∙◌, ap, sym, subst, rules}
use Rattle.std.specs.List.Sorted.{IsNonDecreasingBy}
use Rattle.std.proofs.lemmas.List.Elements.{All-map}
use Rattle.std.proofs.lemmas.List.Sorted.{IsNonDecreasingBy-from_sort_by_key}
use Rattle.kfifo_live.proofs.Types.{Call}
use Rattle.kfifo_machine.proofs.Calls.{no_fault}
use Rattle.kfifo_live.specs.Pass.{Closes, IsComplete, IsPassOf, PassView, OpenQueue}
use Rattle.kfifo_live.specs.Stamps.{Gathers, Logged, passes_of}
use Rattle.kfifo_live.proofs.Records.{gathered, gathered_history}
use Rattle.kfifo_live.proofs.stamped.gathering.gather.Goals as goal

pub unreachable-requires-in-Err : goal.unreachable-requires-in-Err
unreachable-requires-in-Err c =
    let q = c.args.queue in
    let threads : c.queue-2.inside.threads ≡ q.opened.threads =
    ap (λ (q : OpenQueue). q.opened.threads) (c.queue-2.view_is ∙ c.queue.view_is) in
    let complete : IsComplete q.opened.threads (passes_of c.args.passes.items) =
    subst (λ (x : ℕ × List Logged). IsComplete x.0 (passes_of x.1)) (λ i. (threads i, c.as_slice.ensures.value i))
    (c.are_complete.ensures.0 c.if-not-are_complete.false) in
    let few : q.opened.threads ≤ 64 = subst (λ (n : ℕ). n ≤ 64) threads c.queue-2.invariant.4 in
    let sorted : IsNonDecreasingBy (λ (x : Call). x.first) c.sort_by_key.new.self.items =
    IsNonDecreasingBy-from_sort_by_key (λ (x : Call). x.first) _ c.in_ok-sort_by_key.ensures.sorted
    (λ a r q k. search rules) in
    let closed : Closes q c.in_ok-calls.plain.items c.in-Ok._items.items =
    subst (λ (x : OpenQueue). Closes x c.in_ok-calls.plain.items c.in-Ok._items.items) c.queue.view_is
    c.in-Ok.ensures.ok in
    no_fault c.sort_by_key.new.self.items c.in-Err._fault
    (gathered_history q c.args.passes.items c.in_ok-calls.calls.items c.sort_by_key.new.self.items
    c.in_ok-calls.plain.items
    c.in-Ok._items.items few c.in_ok-calls.ensures.passes c.in_ok-calls.ensures.logs c.in_ok-calls.ensures.are_logs
    c.requires complete
    closed c.sort_by_key.ensures.permutation sorted)
    c.in-Err.ensures

pub returns-clause-ok : goal.returns-clause-ok
returns-clause-ok c =
    let q = c.args.queue in
    let threads : c.queue-2.inside.threads ≡ q.opened.threads =
    ap (λ (q : OpenQueue). q.opened.threads) (c.queue-2.view_is ∙ c.queue.view_is) in
    let complete : IsComplete q.opened.threads (passes_of c.args.passes.items) =
    subst (λ (x : ℕ × List Logged). IsComplete x.0 (passes_of x.1)) (λ i. (threads i, c.as_slice.ensures.value i))
    (c.are_complete.ensures.0 c.if-not-are_complete.false) in
    let few : q.opened.threads ≤ 64 = subst (λ (n : ℕ). n ≤ 64) threads c.queue-2.invariant.4 in
    let sorted : IsNonDecreasingBy (λ (x : Call). x.first) c.sort_by_key.new.self.items =
    IsNonDecreasingBy-from_sort_by_key (λ (x : Call). x.first) _ c.in_ok-sort_by_key.ensures.sorted
    (λ a r q k. search rules) in
    let closed : Closes q c.in_ok-calls.plain.items c.in-Ok._items.items =
    subst (λ (x : OpenQueue). Closes x c.in_ok-calls.plain.items c.in-Ok._items.items) c.queue.view_is
    c.in-Ok.ensures.ok in
    let all : Gathers q.opened c.args.passes.items c.sort_by_key.new.self.items =
    gathered q c.args.passes.items c.in_ok-calls.calls.items c.sort_by_key.new.self.items c.in_ok-calls.plain.items
    c.in-Ok._items.items few
    c.in_ok-calls.ensures.passes c.in_ok-calls.ensures.logs c.in_ok-calls.ensures.are_logs c.requires complete closed
    c.sort_by_key.ensures.permutation sorted in
    subst (Gathers q.opened c.args.passes.items) (sym c.in-Ok-new.ensures.0) all

pub close-requires : goal.close-requires
close-requires c =
    let q = c.args.queue in
    subst (λ (x : OpenQueue × List PassView). All (IsPassOf x.0) x.1)
    (λ i. (sym c.queue.view_is i, sym c.in_ok-calls.ensures.passes i))
    (All-map (IsPassOf q) (λ (p : Logged). p.pass) c.args.passes.items c.requires)
