-- One pick more at each turn, and one more is refused at the end.
use Rattle.std.proofs.Common.{◌≡◌, ℕ, ◌+◌, List, [], ◌∷◌, ◌++◌, replicate, refl, sym, ◌∙◌, ap, subst}
use Rattle.std.proofs.lemmas.List.{append-nil, append_assoc, replicate_more}
use Rattle.kfifo_replay.specs.Player.{StandsFor}
use Rattle.kfifo_replay.proofs.player.Replay.go_to_end.Goals as goal

pub loop-init : goal.loop-init
loop-init c = record {
  most = refl;
  count = 0;
  stands = λ shape scripts earlier stands.
      subst (λ (xs : List ℕ). StandsFor shape scripts xs c.args.self.now) (sym (append-nil earlier)) stands;
}

pub loop-preserved : goal.loop-preserved
loop-preserved c =
    let count : ℕ = c.loop.invariant.count in record {
      most = c.pick.ensures.most ∙ c.loop.invariant.most;
      count = count + 1;
      stands = λ shape scripts earlier stands.
          let more : (earlier ++ replicate count c.args.thread) ++ c.args.thread ∷ [] ≡ earlier
          ++ replicate (count + 1) c.args.thread =
          append_assoc earlier (replicate count c.args.thread) (c.args.thread ∷ [])
          ∙ ap (λ (xs : List ℕ). earlier ++ xs) (replicate_more count c.args.thread) in
          subst (λ (xs : List ℕ). StandsFor shape scripts xs c.pick.new.self) more
          (c.pick.ensures.made c.loop-test.true shape scripts (earlier ++ replicate count c.args.thread)
          (c.loop.invariant.stands shape scripts earlier stands));
    }

pub returns-clause-ended : goal.returns-clause-ended
returns-clause-ended c shape scripts earlier stands =
    let count : ℕ = c.loop.invariant.count in
    let now = c.loop.invariant.stands shape scripts earlier stands in (
      replicate count c.args.thread,
      record {
        count = count;
        picks = refl;
        ended =
            c.pick.ensures.refused c.loop-test.false shape scripts (earlier ++ replicate count c.args.thread) now;
      },
      subst (StandsFor shape scripts (earlier ++ replicate count c.args.thread))
          (sym (c.pick.ensures.unchanged c.loop-test.false)) now,
    )
