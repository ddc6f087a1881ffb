use Rattle.std.proofs.Common.{ℕ, ◌<◌, length, sym, ◌∙◌, ap, subst, arith}
use Rattle.std.proofs.lemmas.List.{get_or_default}
use Rattle.kfifo_verdict.proofs.Types.{Call}
use Rattle.kfifo_model.proofs.Checking.{read}
use Rattle.kfifo_verdict.specs.Evidence.{Gets, IsSingle}
use Rattle.kfifo_verdict.specs.Finding.{IsStart, no_presence}
use Rattle.kfifo_verdict.proofs.Bounding.{own_found, own_none, own_other}
use Rattle.kfifo_verdict.proofs.Telling.{got_inside}
use Rattle.kfifo_verdict.proofs.bound.own_end.Goals as goal
use Rattle.kfifo_verdict.proofs.bound.own_end.Goals.{then-get-calls+in-Some+else-put-q, then-get-calls+in_default}
use Rattle.kfifo_verdict.proofs.bound.own_end.Goals.{else-get-calls}

pub returns-then-put-q : goal.returns-then-put-q
returns-then-put-q c =
    let h = c.args.calls.now in
    let get = c.index.result.now.gone in
    let found = c.in-Some.ensures in
    let S : ℕ → Type 0 = λ w. IsSingle h found.0 w in
    let B : Call → Type 0 = λ w. IsStart h w.end c.first_after.result in
    own_found h found.0 c.args.q get c.first_after.result (subst S c.if-put-q.true found.1) found.2
    (subst B (read h get _ c.if-get-calls.true) c.first_after.ensures)

pub returns : goal.returns
returns c =
    let h = c.args.calls.now in
    let q = c.args.q in
    let ps = c.args.items.now.presences.items in
    let inside = c.requires.inside in
    let many = c.requires.items.presences.0 in
    let here : q < length ps = omega (arith, inside, many) in
    let at = ap (λ w. w.gone) (c.index.ensures ∙ get_or_default ps q _ no_presence here) in
    own_none h ps q c.requires.items.presences inside (λ x single there.
    let G : ℕ → Type 0 = λ w. Gets h x w in
    let got = subst G (sym at) there in
    elim c.if-get-calls.branch [
      | then-get-calls+in-Some+else-put-q w ↦ own_other h q w.in-Some.put c.index.result.now.gone w.in-Some.ensures
          w.if-put-q.false x single got
      | then-get-calls+in_default w ↦ (rw w.in_default.is at w.single_put.ensures) x q single got
      | else-get-calls w
          ↦ (let lt = got_inside h x c.index.result.now.gone got in let le =
          w.if-get-calls.false in absurd (omega (arith, lt, le)))
    ])
