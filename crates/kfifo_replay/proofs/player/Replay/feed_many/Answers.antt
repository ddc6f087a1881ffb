-- The pick that is refused is the next one of the list with so many of it.
use Rattle.std.proofs.Common.{◌≡◌, ℕ, List, ◌++◌, take, replicate, get_or, refl, sym, subst, arith}
use Rattle.std.proofs.lemmas.List.{take-replicate, get_or-replicate, length-replicate}
use Rattle.kfifo_replay.specs.Player.{StandsFor, IsRefused, StopsAt}
use Rattle.kfifo_replay.proofs.player.Replay.feed_many.Goals as goal

pub returns-then-not-pick-clause-refused : goal.returns-then-not-pick-clause-refused
returns-then-not-pick-clause-refused c shape scripts earlier stands =
    let now : StandsFor shape scripts (earlier ++ replicate c.loop-place.place c.args.pick) c.loop-place.self =
    c.loop-place.invariant.stands shape scripts earlier stands in
    let before : replicate c.loop-place.place c.args.pick
    ≡ take c.loop-place.place (replicate c.args.count c.args.pick) =
    sym (take-replicate c.loop-place.place c.args.count c.args.pick (omega (arith, c.loop-place-test.true))) in
    let next : c.args.pick ≡ get_or (replicate c.args.count c.args.pick) c.loop-place.place 0 =
    sym (get_or-replicate c.args.count c.loop-place.place c.args.pick 0 c.loop-place-test.true) in
    let refused : IsRefused shape scripts (earlier ++ replicate c.loop-place.place c.args.pick) c.args.pick =
    c.pick.ensures.refused c.if-not-pick.true shape scripts (earlier ++ replicate c.loop-place.place c.args.pick) now in
    let same : c.loop-place.self ≡ c.pick.new.self = sym (c.pick.ensures.unchanged c.if-not-pick.true) in
    let stops : StopsAt shape scripts earlier (replicate c.args.count c.args.pick) c.loop-place.place c.pick.new.self =
    record {
      within = let size = length-replicate c.args.count c.args.pick in omega (arith, size, c.loop-place-test.true);
      refused = subst (λ (xs : List ℕ). IsRefused shape scripts (earlier ++ xs)
          (get_or (replicate c.args.count c.args.pick) c.loop-place.place 0)) before
          (subst (IsRefused shape scripts (earlier ++ replicate c.loop-place.place c.args.pick)) next refused);
      stands = subst (λ (xs : List ℕ). StandsFor shape scripts (earlier ++ xs) c.pick.new.self) before
          (subst (StandsFor shape scripts (earlier ++ replicate c.loop-place.place c.args.pick)) same now);
    } in
    (c.loop-place.place, refl, stops)
