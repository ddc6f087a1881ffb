use Rattle.std.proofs.Common.{inr, map, refl, subst}
use Rattle.std.proofs.lemmas.List.{get_or_default, map_push}
use Rattle.kfifo_cli_texts.specs.Scripts.{WritesScript}
use Rattle.kfifo_cli_texts.proofs.Each.{read_more}
use Rattle.kfifo_cli_texts.proofs.words.read_scripts.Goals as goal

pub returns-in-None-clause-fault : goal.returns-in-None-clause-fault
returns-in-None-clause-fault c = let none = rw c.in-None.is at c.in_ok-read.ensures in inr (
  c.loop-index.index,
  refl,
  record {
    inside = c.loop-index-test.true;
    unread = λ word script written. none script
        (subst (λ w. WritesScript c.args.k c.args.turns w.now script)
        (get_or_default c.args.texts.now c.loop-index.index word _ c.loop-index-test.true) written);
    before = (map (λ script. script.items) c.loop-index.scripts.items, c.loop-index.invariant);
  },
)

pub loop-index-preserved : goal.loop-index-preserved
loop-index-preserved c = let read = rw c.in-Some.is at c.in_ok-read.ensures in
    rw (
      c.in_ok-push-in-Some.ensures.items,
      map_push (λ script. script.items) c.loop-index.scripts.items
          c.in-Some.script,
    )
    (read_more (WritesScript c.args.k c.args.turns) (λ t. t) c.args.texts.now c.loop-index.index _
    (map (λ script. script.items) c.loop-index.scripts.items) c.in-Some.script.items
    c.loop-index-test.true c.loop-index.invariant read)
