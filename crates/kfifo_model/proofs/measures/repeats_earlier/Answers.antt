use Rattle.std.proofs.Common.{◌<◌, arith, length, get_or, sym, subst, None}
use Rattle.kfifo_model.specs.declared.calls.Op.TheVariants.{Enqueue}
use Rattle.std.proofs.lemmas.Bool.{false≢true}
use Rattle.kfifo_model.specs.Histories.{does, effect_of}
use Rattle.kfifo_model.specs.Measures.{SharesItem}
use Rattle.kfifo_model.proofs.Types.{Call}
use Rattle.kfifo_model.proofs.Checking.{read}
use Rattle.kfifo_model.proofs.Measuring.{no_more}
use Rattle.kfifo_model.proofs.measures.repeats_earlier.Goals as goal

pub loop-j-preserved : goal.loop-j-preserved
loop-j-preserved c =
    let lt : c.loop-j.j < length c.args.calls.now = omega arith in
    let P : Call → Type 0 = λ w. SharesItem (does c.args.calls.now c.args.n) (effect_of w) in
    let Q : Call → Type 0 = λ w. SharesItem (effect_of w)
    (effect_of (get_or c.args.calls.now c.loop-j.j (record { thread = 0; op = Enqueue 0; first = 0; end = None }))) in
    no_more (λ j. SharesItem (does c.args.calls.now c.args.n) (does c.args.calls.now j)) c.loop-j.j c.loop-j.invariant
    (λ s. false≢true (c.if-shares_item.ensures.1
    (subst Q (sym (read c.args.calls.now c.args.n (record {
      thread = 0;
      op = Enqueue 0;
      first = 0;
      end = None;
    }) c.requires))
    (subst P (sym (read c.args.calls.now c.loop-j.j (record {
      thread = 0;
      op = Enqueue 0;
      first = 0;
      end = None;
    }) lt)) s))))

pub returns : goal.returns
returns c = (
  λ f. absurd (false≢true f),
  λ r. absurd (c.loop-j.invariant r.0 (let lt : r.0 < c.args.n =
      r.1 in omega arith) r.2),
)
