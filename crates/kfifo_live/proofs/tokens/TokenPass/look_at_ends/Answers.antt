-- A look is no event, and leaves the pass as it was.
use Rattle.std.proofs.Common.{◌∙◌, ap, subst, sym}
use Rattle.kfifo_words.specs.declared.ends.TheConstants.{ENDS_INDEX}
use Rattle.kfifo_live.proofs.Types.{View}
use Rattle.kfifo_live.specs.Pass.{Finds, pass_view}
use Rattle.kfifo_live.specs.Payloads.{PayPassView, pay_pass_view}
use Rattle.kfifo_live.specs.Seals.{KeepsTokens}
use Rattle.kfifo_live.proofs.Passes.{finds}
use Rattle.kfifo_live.proofs.TokenMoves.{pass_of_hand}
use Rattle.kfifo_live.proofs.PaySeals.{looked_hand, looked_keeps}
use Rattle.kfifo_live.proofs.TokenCalls.{token_pass}
use Rattle.kfifo_live.proofs.tokens.TokenPass.look_at_ends.Goals as goal

pub invariant_of-self : goal.invariant_of-self
invariant_of-self g c = token_pass c.self.invariant
    (looked_hand c.self.invariant.0 c.observe.ensures.same.1 c.observe.ensures.looks)
    (ap (λ (v : View g.row.T.Denot). v.opened) c.observe.ensures.looks.afterwards)

pub returns : goal.returns
returns g c =
    let was = c.self.view_is in
    let thread = c.self.inside.thread in
    let now = c.observe.new.seat in
    let looks = c.observe.ensures.looks in
    record {
      same = (
        c.observe.ensures.same.0 ∙ ap (λ (k : PayPassView g.row.T.Denot). k.pass.table) was,
        ap (λ (v : View g.row.T.Denot). v.opened) looks.afterwards
            ∙ ap (λ (k : PayPassView g.row.T.Denot). k.pass.opened) was,
        ap (λ (k : PayPassView g.row.T.Denot). k.pass.thread) was,
      );
      finds =
          subst (λ (k : PayPassView g.row.T.Denot). Finds k.pass (pass_view now.table_id thread now.me.0) ENDS_INDEX
          c.of_bits.result) was
          (subst (λ w. Finds (pass_view c.self.inside.seat.table_id thread c.self.inside.seat.me.0)
          (pass_view now.table_id thread now.me.0)
          ENDS_INDEX w) (sym c.of_bits.ensures)
          (finds _ _ thread ENDS_INDEX c.observe.result c.self.inside.seat.me now.me (pass_of_hand c.self.invariant.0)
          looks));
      keeps = subst (λ (k : PayPassView g.row.T.Denot). KeepsTokens k (pay_pass_view now.table_id thread now.me.0)) was
          (looked_keeps c.self.invariant.0 c.observe.ensures.same.1 looks _ _);
    }
