use Rattle.std.proofs.Common.{refl, sym, ◌∙◌, ap}
use Rattle.std.proofs.lemmas.Bool.{false≢true}
use Rattle.kfifo_model.specs.Histories.{effect_of}
use Rattle.kfifo_model.proofs.Checking.{read}
use Rattle.kfifo_verdict.proofs.EmptyWhileLeft.{left_on, left_whole, left_broken}
use Rattle.kfifo_verdict.proofs.left.has_items_left.Goals as goal

pub returns-then-far-n : goal.returns-then-far-n
returns-then-far-n c =
    let t = c.loop-empty-test.ensures.0 refl in (
      λ q. absurd (false≢true q),
      λ has. absurd (left_broken c.args.calls.now c.args.far.now c.args.empty c.loop-empty.n c.requires.history
          c.requires.far t.0 t.1 c.if-far-n.true c.loop-empty.invariant has),
    )

pub loop-empty-preserved : goal.loop-empty-preserved
loop-empty-preserved c =
    let t = c.loop-empty-test.ensures.0 refl in
    left_on c.args.calls.now c.args.far.now c.args.empty c.loop-empty.n c.requires.far t.0 c.if-far-n.false
    c.loop-empty.invariant

pub returns : goal.returns
returns c =
    let h = c.args.calls.now in
    let e = c.args.empty in
    let finds = ap effect_of (sym (read h e _ c.requires.inside)) ∙ sym c.in-FindsNone.ensures in (
      λ _. left_whole h e c.loop-empty.n c.requires.history c.requires.inside finds c.loop-empty.invariant
          (λ t. false≢true (c.loop-empty-test.ensures.1 t)),
      λ _. refl,
    )
