-- What a replay reports of its picks.
use Rattle.std.proofs.Common.{◌≡◌, ℕ, ◌<◌, ◌≤◌, List, length, sym, ◌∙◌, ap, subst, inl, inr, arith}
use Rattle.std.proofs.lemmas.Bool.{cases_lt}
use Rattle.std.proofs.lemmas.List.{get_or_past}
use Rattle.kfifo_replay.proofs.Types.{Begin, Event, Shape}
use Rattle.kfifo_model.specs.declared.calls.Call.{Call}
use Rattle.kfifo_model.specs.Lists.{IsIn}
use Rattle.kfifo_model.specs.Histories.{call, no_call, CanStand, HasOnlyCalls, IsLegal}
use Rattle.kfifo_model.proofs.Lists.{each_at, at_most}
use Rattle.kfifo_machine.specs.Calls.{history_of}
use Rattle.kfifo_machine.proofs.Schedules.{Some-injective}
use Rattle.kfifo_linear.specs.Order.{order_of}
use Rattle.kfifo_linear.specs.Following.{Follows}
use Rattle.kfifo_linear.proofs.Schedule.{has_legal_order}
use Rattle.kfifo_replay.specs.Scripts.{calls_in}
use Rattle.kfifo_replay.specs.Player.{Player, StandsFor}
use Rattle.kfifo_replay.specs.Reports.{IsHistoryOf}
use Rattle.kfifo_replay.proofs.Picking.{reached_by, within_replay}
use Rattle.kfifo_replay.proofs.Opening.{few_calls}

-- a number in an order is that of a call
number_within : (h : List Call) (order : List ℕ) (n : ℕ) → HasOnlyCalls h order → IsIn n order → n < length h
number_within h order n only is =
    elim (cases_lt n (length h)) [
      | inl within ↦ within
      | inr past ↦ absurd (subst (λ (c : Call). CanStand c.end c.op) (get_or_past h n no_call past)
          (each_at (λ c. CanStand (call h c).end (call h c).op) n order only is))
    ]

module _ (shape : Shape) (scripts : List (List Begin)) (picks : List ℕ) (p : Player)
    (s : StandsFor shape scripts picks p) where
  -- the order that the linearizer names
  pub order_is : (order : List ℕ)
      → ((threads room : ℕ) (events : List Event) → Follows threads room events p.follower → threads ≤ 64
      → order ≡ order_of p.follower.shape threads events)
      → order ≡ order_of shape (length scripts) s.events
  order_is order says = says (length scripts) (calls_in scripts) s.events s.follows s.are_scripts.few
      ∙ ap (λ (x : Shape). order_of x (length scripts) s.events) s.follower_shape

  -- it is legal
  pub is_legal : IsLegal shape.k (history_of shape (length scripts) s.events) (order_of shape (length scripts) s.events)
  is_legal = has_legal_order shape (length scripts) s.are_scripts.few s.events p.follower.world
      (reached_by shape scripts picks p s)

  -- and has no more calls than the scripts
  pub few_in_order : length (order_of shape (length scripts) s.events) ≤ 4096
  few_in_order =
      let w = within_replay shape scripts picks p s in
      let all : length (order_of shape (length scripts) s.events) ≤ length
      (history_of shape (length scripts) s.events) =
      at_most (length (history_of shape (length scripts) s.events)) (order_of shape (length scripts) s.events)
      is_legal.is_order.distinct
      (λ n is. number_within (history_of shape (length scripts) s.events) (order_of shape (length scripts) s.events) n
      is_legal.is_order.calls is) in
      omega (arith, all, w.known, w.calls, few_calls shape scripts s.are_scripts)

  -- the calls of the schedule that the picks make
  pub history_same : (h : List Call) → IsHistoryOf shape scripts picks h
      → h ≡ history_of shape (length scripts) s.events
  history_same h is = is.is
      ∙ ap (history_of shape (length scripts)) (Some-injective is.events s.events (sym is.made ∙ s.made))
