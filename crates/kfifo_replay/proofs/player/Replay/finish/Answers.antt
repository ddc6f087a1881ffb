-- One thread more goes to the end of its script, unless it is the stopped one.
use Rattle.std.proofs.Common.{◌≡◌, ℕ, suc, ◌+◌, List, [], ◌++◌, length, refl, sym, ◌∙◌, ap, subst, inl, inr, arith, Vec}
use Rattle.std.proofs.Common.{Global}
use Rattle.std.proofs.lemmas.List.{append-nil, append_assoc, length-map}
use Rattle.kfifo_replay.proofs.Types.{Begin, Shape}
use Rattle.kfifo_replay.specs.Player.{Player, StandsFor}
use Rattle.kfifo_replay.specs.Finishing.{Finishes, Finished, Ended, GoesUnless}
use Rattle.kfifo_replay.specs.contracts.player.Replay.{the_view}
use Rattle.kfifo_replay.proofs.player.Replay.finish.Goals.{then-thread-stopped, else-thread-stopped}
use Rattle.kfifo_replay.proofs.player.Replay.finish.Goals as goal

-- one thread more
finished_more : (stopped : ℕ) (shape : Shape) (scripts : List (List Begin)) (thread : ℕ) (earlier before own : List ℕ)
    (p : Player)
    → Finishes stopped shape scripts thread earlier before
    → GoesUnless stopped shape scripts thread (earlier ++ before) own
    → StandsFor shape scripts ((earlier ++ before) ++ own) p
    → Finished stopped shape scripts (thread + 1) earlier p
finished_more stopped shape scripts thread earlier before own p fin goes stands =
    let next : suc thread ≡ thread + 1 = omega arith in
    subst (λ t. Finished stopped shape scripts t earlier p) next (
      before ++ own,
      (before, own, refl, fin, goes),
      subst (λ (xs : List ℕ). StandsFor shape scripts xs p) (append_assoc earlier before own) stands,
    )

pub loop-thread-preserved : goal.loop-thread-preserved
loop-thread-preserved c = record {
  most = elim c.if-thread-stopped.branch [
    | then-thread-stopped w ↦
        ap (λ (p : Player). p.trace.most) w.self-is ∙ w.go_to_end.ensures.most ∙ c.loop-thread.invariant.most
    | else-thread-stopped w ↦ ap (λ (p : Player). p.trace.most) w.self-is ∙ c.loop-thread.invariant.most
  ];
  finished = λ shape scripts earlier stands.
      let was : Finished c.args.stopped shape scripts c.loop-thread.thread earlier c.loop-thread.self =
      c.loop-thread.invariant.finished shape scripts earlier stands in
      elim c.if-thread-stopped.branch [
        | then-thread-stopped w ↦
            let gone : Ended shape scripts c.loop-thread.thread (earlier ++ was.0) w.go_to_end.new.self =
            w.go_to_end.ensures.ended shape scripts (earlier ++ was.0) was.2 in
            subst (Finished c.args.stopped shape scripts (c.loop-thread.thread + 1) earlier) (sym w.self-is)
            (finished_more c.args.stopped shape scripts c.loop-thread.thread earlier was.0 gone.0 w.go_to_end.new.self
            was.1
            (inr (w.if-thread-stopped.true, gone.1)) gone.2)
        | else-thread-stopped w ↦
            subst (Finished c.args.stopped shape scripts (c.loop-thread.thread + 1) earlier) (sym w.self-is)
            (finished_more c.args.stopped shape scripts c.loop-thread.thread earlier was.0 [] c.loop-thread.self was.1
            (inl (w.if-thread-stopped.false, refl))
            (subst (λ (xs : List ℕ). StandsFor shape scripts xs c.loop-thread.self)
            (sym (append-nil (earlier ++ was.0))) was.2))
      ];
}

pub returns-clause-finished : goal.returns-clause-finished
returns-clause-finished c shape scripts earlier stands =
    let all : length (the_view c.self.inside).scripts ≡ length scripts =
    ap (λ (p : Player). length p.scripts) c.self.view_is
    ∙ ap (λ (xs : List (List Begin)). length xs) stands.scripts_are in
    let own : length (the_view c.self.inside).scripts ≡ length c.self.inside.scripts.items =
    length-map c.self.inside.scripts.items (λ (script : Vec Begin Global). script.items) in
    let end : c.loop-thread.thread ≡ length scripts =
    omega (
      arith,
      all,
      own,
      c.self.inside.scripts.ok,
      c.len-threads.ensures,
      c.loop-thread-test.false,
      c.loop-thread.auto.thread-end,
    ) in
    subst (λ t. Finished c.args.stopped shape scripts t earlier c.loop-thread.self) end
    (c.loop-thread.invariant.finished shape scripts earlier stands)
