-- A try to seal leaves the pass in no call, with its tokens.
use Rattle.std.proofs.Common.{◌∙◌, ap, refl, subst, sym}
use Rattle.kfifo_live.proofs.Types.{View}
use Rattle.kfifo_live.specs.Schedule.{seen_of}
use Rattle.kfifo_live.specs.Payloads.{PayPassView, pay_pass_view}
use Rattle.kfifo_live.specs.Seals.{FailsToSeal, KeepsTokens, SealsFrom, WasSeen}
use Rattle.kfifo_live.proofs.Passes.{pass_thread, promised}
use Rattle.kfifo_live.proofs.TokenMoves.{pay_hand, pay_pass}
use Rattle.kfifo_live.proofs.PaySeals.{sealed_hand, sealed_keeps, sealed_opened}
use Rattle.kfifo_live.proofs.payload.PayPass.seal_from.Goals as goal

pub seal_ends-requires-clause-seen : goal.seal_ends-requires-clause-seen
seal_ends-requires-clause-seen g c =
    subst (λ (k : PayPassView g.row.T.Denot). WasSeen k.pass.opened c.args.ends k.pass.seen) (sym c.self.view_is)
    c.requires.seen

pub invariant_of-self : goal.invariant_of-self
invariant_of-self g c =
    let e = c.seal_ends.ensures in
    let h = pay_hand c.self.invariant in
    let fits = e.in_turn c.self.invariant.in_turn in
    pay_pass c.self.invariant (sealed_hand h e.same.1 e.gifts.0 e.idle e.gifts.1 fits)
    (sealed_opened h e.same.1 e.gifts.0 e.idle e.gifts.1 fits) refl refl

pub returns : goal.returns
returns g c =
    let e = c.seal_ends.ensures in
    let was = c.self.view_is in
    let me = c.self.inside.seat.me in
    let view = pay_pass_view c.seal_ends.new.seat.table_id c.self.inside.thread c.seal_ends.new.seat.me.0 in
    let now = seen_of c.seal_ends.new.seat.me.0 in
    let mine = pass_thread _ me c.self.invariant.pass in
    record {
      same = (
        e.same.0 ∙ ap (λ (k : PayPassView g.row.T.Denot). k.pass.table) was,
        ap (λ (v : View g.row.T.Denot). v.opened) e.gifts.1 ∙ ap (λ (k : PayPassView g.row.T.Denot). k.pass.opened) was,
        ap (λ (k : PayPassView g.row.T.Denot). k.pass.thread) was,
      );
      sealed = λ won. subst (λ (k : PayPassView g.row.T.Denot). SealsFrom k.pass.opened k.pass.thread c.args.ends
          k.pass.seen now) was
          (subst (λ t. SealsFrom me.0.opened t c.args.ends (seen_of me.0) now) mine (e.sealed won));
      «open» = λ lost. subst (λ (k : PayPassView g.row.T.Denot). FailsToSeal k.pass.opened k.pass.thread c.args.ends
          k.pass.seen now) was
          (subst (λ t. FailsToSeal me.0.opened t c.args.ends (seen_of me.0) now) mine (e.«open» lost));
      keeps = subst (λ (k : PayPassView g.row.T.Denot). KeepsTokens k view) was
          (sealed_keeps (pay_hand c.self.invariant) e.same.1 e.gifts.0 e.idle e.gifts.1
          (e.in_turn c.self.invariant.in_turn) _ _);
      promise = promised _ c.seal_ends.new.seat.me (invariant_of-self g c).pass;
    }
