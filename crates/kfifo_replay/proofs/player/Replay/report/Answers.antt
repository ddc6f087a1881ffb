-- The order is legal, so it has ranks; and the report is that of the picks.
use Rattle.std.proofs.Common.{◌≡◌, ℕ, List, length, sym, ◌∙◌, ap, subst, arith}
use Rattle.kfifo_replay.proofs.Types.{Shape}
use Rattle.kfifo_model.specs.declared.calls.Call.{Call}
use Rattle.kfifo_model.specs.Histories.{IsLegal}
use Rattle.kfifo_model.specs.Measures.{IsRankFault}
use Rattle.kfifo_model.specs.Ranks.{ranks_of}
use Rattle.kfifo_machine.specs.Calls.{history_of}
use Rattle.kfifo_linear.specs.Order.{order_of}
use Rattle.kfifo_replay.specs.Player.{Player, StandsFor}
use Rattle.kfifo_replay.specs.Reports.{greatest, unfinished_in}
use Rattle.kfifo_replay.specs.contracts.player.Replay.{the_view}
use Rattle.kfifo_replay.proofs.Reporting.{order_is, is_legal, few_in_order, history_same}
use Rattle.kfifo_replay.proofs.player.Replay.report.Goals as goal

pub unreachable-requires : goal.unreachable-requires
unreachable-requires c =
    let i = c.self.invariant in
    let p : Player = the_view c.self.inside in
    let order : c.as_slice.result.now ≡ order_of i.shape (length i.scripts) i.stands.events =
    c.as_slice.ensures.value ∙ order_is i.shape i.scripts i.picks p i.stands c.in_ok-order.order.items
    c.in_ok-order.ensures in
    let history : c.in_ok-history.history ≡ history_of i.shape (length i.scripts) i.stands.events =
    history_same i.shape i.scripts i.picks p i.stands c.in_ok-history.history
    (c.in_ok-history.ensures.history i.shape i.scripts i.picks
    (subst (StandsFor i.shape i.scripts i.picks) c.self.view_is i.stands)) in
    let k : c.k.result ≡ i.shape.k = c.k.ensures ∙ ap (λ (x : Shape). x.k) i.stands.shape_is in
    let refused : IsLegal c.k.result c.in_ok-history.history c.as_slice.result.now → ⊥ =
    subst (IsRankFault c.k.result c.in_ok-history.history c.as_slice.result.now) c.in-Err-NotLegal.field-0-is
    c.in-Err-NotLegal.ensures.ranks in
    refused (same_legal (sym k) (sym history) (sym order) (is_legal i.shape i.scripts i.picks p i.stands))
  where
    same_legal : {k l : ℕ} {h g : List Call} {o q : List ℕ} → k ≡ l → h ≡ g → o ≡ q → IsLegal k h o → IsLegal l g q
    same_legal {k} {l} {h} {g} {o} {q} ks hs os is =
        subst (IsLegal l g) os (subst (λ (x : List Call). IsLegal l x o) hs (subst (λ n. IsLegal n h o) ks is))

pub count_unfinished-requires-clause-few : goal.count_unfinished-requires-clause-few
count_unfinished-requires-clause-few c =
    let i = c.self.invariant in
    let order : c.in_ok-order.order.items ≡ order_of i.shape (length i.scripts) i.stands.events =
    order_is i.shape i.scripts i.picks (the_view c.self.inside) i.stands c.in_ok-order.order.items
    c.in_ok-order.ensures in
    let size : length c.as_slice-2.result.now ≡ length (order_of i.shape (length i.scripts) i.stands.events) =
    ap (λ (l : List ℕ). length l) (c.as_slice-2.ensures.value ∙ order) in
    omega (arith, size, few_in_order i.shape i.scripts i.picks (the_view c.self.inside) i.stands)

pub returns-clause-report : goal.returns-clause-report
returns-clause-report c shape scripts picks stands =
    let s : StandsFor shape scripts picks (the_view c.self.inside) =
    subst (StandsFor shape scripts picks) (sym c.self.view_is) stands in
    let order : c.in_ok-order.order.items ≡ order_of shape (length scripts) s.events =
    order_is shape scripts picks (the_view c.self.inside) s c.in_ok-order.order.items c.in_ok-order.ensures in
    let history : c.in_ok-history.history ≡ history_of shape (length scripts) s.events =
    history_same shape scripts picks (the_view c.self.inside) s c.in_ok-history.history
    (c.in_ok-history.ensures.history shape scripts picks stands) in
    let k : c.k.result ≡ shape.k = c.k.ensures ∙ ap (λ (x : Shape). x.k) s.shape_is in
    record {
      events = s.events;
      made = s.made;
      reports = record {
        steps = c.steps.ensures ∙ s.follows.steps;
        order = order;
        worst_rank = c.greatest_of-worst_rank.ensures
            ∙ ap greatest (c.as_slice-in-Ok.ensures.value ∙ c.in-Ok.ensures.ranks.1)
            ∙ ap (λ n. greatest (ranks_of n c.in_ok-history.history c.as_slice.result.now)) k
            ∙ ap (λ (h : List Call). greatest (ranks_of shape.k h c.as_slice.result.now)) history
            ∙ ap (λ (o : List ℕ). greatest (ranks_of shape.k (history_of shape (length scripts) s.events) o))
            (c.as_slice.ensures.value ∙ order);
        rollbacks = s.rollbacks;
        completed = c.count_unfinished.ensures
            ∙ ap (λ (h : List Call). unfinished_in h c.as_slice-2.result.now) (c.calls.ensures.calls ∙ history)
            ∙ ap (unfinished_in (history_of shape (length scripts) s.events)) (c.as_slice-2.ensures.value ∙ order);
      };
    }
