-- Every schedule has a legal order.
use Rattle.std.proofs.Common.{◌≡◌, ℕ, ◌+◌, ◌≤◌, List, length, Option, Some, None, refl, sym, ap, ◌∙◌, subst, arith}
use Rattle.std.proofs.lemmas.List.{length-replicate}
use Rattle.kfifo_linear.proofs.Types.{End, Event, Shape}
use Rattle.kfifo_model.specs.declared.calls.Op.{Op}
use Rattle.kfifo_model.specs.declared.calls.Op.TheVariants as O
use Rattle.kfifo_model.specs.declared.effects.Effect.TheVariants.{Adds}
use Rattle.kfifo_model.specs.Histories.{call, effect_at, HasEnd}
use Rattle.kfifo_model.specs.Measures.{EndsDone}
use Rattle.kfifo_machine.specs.Machine.{World, opening, after, place_of, word_at}
use Rattle.kfifo_machine.specs.Calls.{history_of, log_of}
use Rattle.kfifo_machine.specs.Calls as log
use Rattle.kfifo_machine.proofs.Calls.{history_is}
use Rattle.kfifo_linear.specs.Ledger.{blank}
use Rattle.kfifo_linear.specs.Points.{IsByPoint}
use Rattle.kfifo_linear.specs.Order.{ledger_after_all, marks_of, order_of}
use Rattle.kfifo_linear.specs.Headline.{HasLegalOrder, FewOvertake, FewCertainlyOvertake, PointsHold, LawsHold}
use Rattle.kfifo_linear.specs.Headline.{PutsInVisit, OneOrder}
use Rattle.kfifo_linear.proofs.Laws.{laws_from}
use Rattle.kfifo_linear.proofs.Once.{one_by_point}
use Rattle.kfifo_linear.proofs.Checked.{checks, put_in_visit}
use Rattle.kfifo_linear.proofs.Base.{opening_size, get_or_replicate}
use Rattle.kfifo_linear.proofs.Invariance.{inv_opening, invariant}
use Rattle.kfifo_linear.proofs.Facts.{facts_after}
use Rattle.kfifo_linear.proofs.Agrees.{Agrees, InvAt, agree_all}
use Rattle.kfifo_linear.proofs.Marks.{points_fit, stands_fit, points_below, none_at_end, put_of, visit_is}
use Rattle.kfifo_linear.proofs.Orders.{is_by_point, legal_by_point}
use Rattle.kfifo_linear.proofs.Bounds.{overtaken_in_order, certainly_overtaken_below}

-- at the opening the ledger and the log are blank
agree_opening : (threads : ℕ) → Agrees (log.blank threads) blank 0
unfolding blank
agree_opening threads = record {
  count = refl;
  now = refl;
  each = λ c less. absurd (omega arith);
  none = λ c above. (refl, refl);
  latest = λ t. get_or_replicate threads t 0;
}

known_opening : (shape : Shape) (threads : ℕ) → length (log.blank threads).latest
    ≡ length (opening shape threads).places
unfolding opening
known_opening shape threads = length-replicate threads 0 ∙ sym (length-replicate threads None)

inv_at_opening : (shape : Shape) (threads : ℕ) → InvAt shape (opening shape threads) blank
inv_at_opening shape threads = record { size = opening_size shape threads; holds = inv_opening shape threads }

-- after every schedule the ledger tells what the history does
pub agreed : (shape : Shape) (threads : ℕ) (events : List Event) (here : World) → after shape threads events ≡ Some here
    → Agrees (log_of shape threads events) (ledger_after_all shape threads events) (length events)
agreed shape threads events here is =
    let all = agree_all shape (opening shape threads) here events (log.blank threads) blank 0
    (inv_at_opening shape threads)
    (agree_opening threads) (known_opening shape threads) is in
    let z : 0 + length events ≡ length events = omega arith in
    subst (λ n. Agrees (log_of shape threads events) (ledger_after_all shape threads events) n) z all

-- a finished enqueue answered Done
done_finished : (op : Op) (end : Option End) → EndsDone op end → HasEnd end × ((x : ℕ) × (effect_at op end ≡ Adds x))
done_finished (O.Enqueue x) (Some end) done =
    (tt, (x, ap (λ a. effect_at (O.Enqueue x) (Some (record { last = end.last; answer = a }))) done))
done_finished (O.Enqueue x) None done = absurd done
done_finished O.Dequeue end done = absurd done

module _ (shape : Shape) (threads : ℕ) (few : threads ≤ 64) where
  pub points_hold : PointsHold shape threads
  points_hold events here is =
      let inv = invariant shape threads events here is in
      let facts = facts_after shape threads events here is in
      let same = agreed shape threads events here is in
      let good = history_is shape threads events here few is in (
        points_fit shape (word_at here) (place_of here) (log_of shape threads events)
            (ledger_after_all shape threads events) (length events) inv facts same good,
        stands_fit shape (word_at here) (place_of here) (log_of shape threads events)
            (ledger_after_all shape threads events) (length events) inv facts same good,
      )

  -- the order is by point
  by_points : (events : List Event) (here : World) → after shape threads events ≡ Some here
      → IsByPoint (marks_of shape (ledger_after_all shape threads events)) (order_of shape threads events)
  by_points events here is =
      is_by_point (history_of shape threads events) (marks_of shape (ledger_after_all shape threads events))
      (ledger_after_all shape threads events).now (points_hold events here is).1
      (points_below shape (ledger_after_all shape threads events) (facts_after shape threads events here is))

  pub has_legal_order : HasLegalOrder shape threads
  has_legal_order events here is =
      let hold = points_hold events here is in
      legal_by_point shape.k (history_of shape threads events) (marks_of shape (ledger_after_all shape threads events))
      (order_of shape threads events) hold.0 hold.1 (by_points events here is)

  pub few_overtake : FewOvertake shape threads
  few_overtake events here is distinct c x within adds =
      overtaken_in_order shape.k (history_of shape threads events)
      (marks_of shape (ledger_after_all shape threads events))
      (order_of shape threads events) c x (points_hold events here is).0 (by_points events here is) distinct within adds

  pub few_certainly : FewCertainlyOvertake shape threads
  few_certainly events here is c done distinct =
      let hold = points_hold events here is in
      let d = done_finished (call (history_of shape threads events) c).op (call (history_of shape threads events) c).end
      done in
      certainly_overtaken_below shape.k (history_of shape threads events)
      (marks_of shape (ledger_after_all shape threads events)) c d.1.0
      hold.0 hold.1 distinct.0 d.0 d.1.1

  pub laws_hold : LawsHold shape threads
  laws_hold events here is =
      let hold = points_hold events here is in
      laws_from shape.k (history_of shape threads events) (marks_of shape (ledger_after_all shape threads events))
      hold.0 hold.1
      (none_at_end shape (word_at here) (place_of here) (log_of shape threads events)
      (ledger_after_all shape threads events)
      (length events) (invariant shape threads events here is) (facts_after shape threads events here is)
      (agreed shape threads events here is) (history_is shape threads events here few is))

  pub puts_in_visit : PutsInVisit shape threads
  puts_in_visit events here is c a =
      let w = word_at here in
      let p = place_of here in
      let log = log_of shape threads events in
      let l = ledger_after_all shape threads events in
      let inv = invariant shape threads events here is in
      let facts = facts_after shape threads events here is in
      let same = agreed shape threads events here is in
      let good = history_is shape threads events here few is in
      let put = put_of shape w p log l (length events) inv facts same good c a.1 a.0 a.2 in
      let visit = visit_is shape w p log l (length events) inv facts same good c put.visit put.index put.point
      put.stands in
      let low = put_in_visit shape w p l c put.visit put.index put.point (checks shape threads events here is)
      put.stands in
      rw visit low

  pub one_order : OneOrder shape threads
  one_order events here is list sorted = one_by_point (marks_of shape (ledger_after_all shape threads events)) list
      (order_of shape threads events) sorted (by_points events here is)
