-- The laws of the calls in an order, from the facts about their points.
use Rattle.std.proofs.Common.{◌≡◌, ℕ, ◌≤◌, true, List, Some, sym, ap, ◌∙◌, subst, inl, inr, arith}
use Rattle.std.proofs.lemmas.Bool.{cases_lt}
use Rattle.kfifo_linear.proofs.Types.{Call, End}
use Rattle.kfifo_model.specs.declared.effects.Effect.TheVariants.{FindsNone}
use Rattle.kfifo_model.specs.Histories.{call, does, HasEnd}
use Rattle.kfifo_linear.specs.Points.{Marks, PointsFit, StandsFit, IsNoLater}
use Rattle.kfifo_linear.specs.Headline.{OrderLaws}

module _ (k : ℕ) (h : List Call) (m : Marks) (f : PointsFit k (does h) m) (s : StandsFit h m) where
  -- a finished call stands, with its point no later than its last step
  ended_stands : (c : ℕ) (end : End) → (call h c).end ≡ Some end → m.stands c ≡ true
  ended_stands c end is = s.finished_stand c (subst HasEnd (sym is) tt)

  in_time : (c : ℕ) (end : End) → (call h c).end ≡ Some end → m.point c ≤ end.last
  in_time c end is = subst (IsNoLater (m.point c)) is (s.point_to c (ended_stands c end is))

  pub laws_from : ((e : ℕ) (end : End) → does h e ≡ FindsNone → (call h e).end ≡ Some end → m.point e ≡ end.last)
      → OrderLaws h m
  laws_from at_end =
      record {
        one_each = f.slots_differ;
        left_first = λ g x end is at. omega (
          arith,
          f.beyond g x (ended_stands g end at) is,
          f.tail_rises (m.point g) end.last (in_time g end at),
        );
        reached = λ c x end is at. omega (
          arith,
          f.added c x (ended_stands c end at) is,
          f.tail_rises (m.point c) end.last (in_time c end at),
        );
        head_stays = λ c p a none. elim (cases_lt (m.visit c) (m.head p)) [
          | inl lt ↦ let t = f.left_behind c p a lt in absurd (none t.0 t.1)
          | inr le ↦ le
        ];
        point_from = s.point_from;
        point_to = s.point_to;
        empty_point = at_end;
        empty_ends = λ e end is at.
            let p : m.point e ≡ end.last = at_end e end is at in
            ap m.head (sym p) ∙ f.empty_ends e (ended_stands e end at) is ∙ ap m.tail p;
        empty_visit = λ e c end is at a same.
            let p : m.point e ≡ end.last = at_end e end is at in
            elim (cases_lt end.last (m.point c)) [
              | inl lt ↦ lt
              | inr le ↦ absurd (f.empty_visit e c (ended_stands e end at) is a (omega arith)
                  (same ∙ ap m.head (sym p)))
            ];
      }
