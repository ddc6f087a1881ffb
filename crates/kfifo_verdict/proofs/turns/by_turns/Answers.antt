use Rattle.std.proofs.Common.{ℕ, List, sym, ◌∙◌, ap, subst}
use Rattle.std.proofs.lemmas.Result.{IfOk-weaker}
use Rattle.kfifo_verdict.specs.Plain.{IsByTurns}
use Rattle.kfifo_verdict.proofs.Queueing.{numbers, sorted_by_turns}
use Rattle.kfifo_verdict.proofs.turns.by_turns.Goals as goal

pub returns : goal.returns
returns c =
    let ts = c.args.turns.now in
    let sorted = c.sort_nearly.new.triples.items in
    let is = sorted_by_turns ts c.in_ok-numbered.numbered.items sorted c.in_ok-numbered.ensures
    c.sort_nearly.ensures.permutation
    c.sort_nearly.ensures.sorted in
    let P : List ℕ → Type 0 = λ w. IsByTurns ts w in
    IfOk-weaker c.calls_of.result _ _ (λ order e. subst P (sym (e ∙ ap numbers c.as_slice.ensures.value)) is)
    c.calls_of.ensures
