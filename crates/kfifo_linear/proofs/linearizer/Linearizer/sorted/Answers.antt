-- The sorted points are those of the calls in order.
use Rattle.std.proofs.Common.{length, map, sym, ap, ◌∙◌, subst}
use Rattle.std.specs.List.Sorted.{IsPermutation}
use Rattle.kfifo_linear.specs.Notes.{points_below}
use Rattle.kfifo_linear.specs.Following.{Follower, Follows, follower}
use Rattle.kfifo_linear.specs.Order.{ledger_after_all, order_of, point}
use Rattle.kfifo_linear.proofs.Sorting.{numbers, order_is, points_follow}
use Rattle.kfifo_linear.proofs.linearizer.Linearizer.sorted.Goals as goal

pub returns-clause-calls : goal.returns-clause-calls
returns-clause-calls c threads room events h few =
    let f : Follower = follower c.self.inside.state.shape c.self.inside.state.world c.self.inside.notes in
    let moved : IsPermutation (points_below f.notes (length f.notes.calls)) c.sort_unstable.new.self.items =
    subst (λ ps. IsPermutation ps c.sort_unstable.new.self.items) c.in_ok-points.ensures
    c.sort_unstable.ensures.permutation in
    order_is f threads room events c.sort_unstable.new.self.items
    (subst (Follows threads room events) (sym c.self.view_is) h) few moved
    c.sort_unstable.ensures.sorted
    ∙ ap (λ (g : Follower). order_of g.shape threads events) c.self.view_is

pub returns-clause-points : goal.returns-clause-points
returns-clause-points c threads room events h =
    let f : Follower = follower c.self.inside.state.shape c.self.inside.state.world c.self.inside.notes in
    let moved : IsPermutation (points_below f.notes (length f.notes.calls)) c.sort_unstable.new.self.items =
    subst (λ ps. IsPermutation ps c.sort_unstable.new.self.items) c.in_ok-points.ensures
    c.sort_unstable.ensures.permutation in
    points_follow f threads room events c.sort_unstable.new.self.items
    (subst (Follows threads room events) (sym c.self.view_is) h) moved
    c.sort_unstable.ensures.sorted
    ∙ ap (λ (g : Follower). map (point (ledger_after_all g.shape threads events))
    (numbers c.sort_unstable.new.self.items)) c.self.view_is
