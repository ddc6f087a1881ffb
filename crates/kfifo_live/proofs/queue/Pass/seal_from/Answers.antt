-- A try to seal leaves the pass in no call.
use Rattle.std.proofs.Common.{◌∙◌, ap, subst, sym}
use Rattle.kfifo_live.proofs.Types.{View}
use Rattle.kfifo_live.specs.Schedule.{seen_of}
use Rattle.kfifo_live.specs.Pass.{PassView}
use Rattle.kfifo_live.specs.Seals.{FailsToSeal, SealsFrom, WasSeen}
use Rattle.kfifo_live.proofs.Passes.{pass_thread, promised}
use Rattle.kfifo_live.proofs.Sealed.{pass_on}
use Rattle.kfifo_live.proofs.queue.Pass.seal_from.Goals as goal

pub seal_ends-requires-clause-seen : goal.seal_ends-requires-clause-seen
seal_ends-requires-clause-seen c =
    subst (λ (k : PassView). WasSeen k.opened c.args.ends k.seen) (sym c.self.view_is) c.requires.seen

pub invariant_of-self : goal.invariant_of-self
invariant_of-self c = pass_on _ _ c.self.inside.seat.me c.seal_ends.new.seat.me c.self.invariant
    c.seal_ends.ensures.same.1 c.seal_ends.ensures.idle c.seal_ends.ensures.gifts.1

pub returns : goal.returns
returns c =
    let was = c.self.view_is in
    let me = c.self.inside.seat.me in
    let now = seen_of c.seal_ends.new.seat.me.0 in
    let mine = pass_thread _ me c.self.invariant in
    record {
      same = (
        c.seal_ends.ensures.same.0 ∙ ap (λ (k : PassView). k.table) was,
        ap (λ (v : View (Unit {0})). v.opened) c.seal_ends.ensures.gifts.1 ∙ ap (λ (k : PassView). k.opened) was,
        ap (λ (k : PassView). k.thread) was,
      );
      sealed = λ won. subst (λ (k : PassView). SealsFrom k.opened k.thread c.args.ends k.seen now) was
          (subst (λ t. SealsFrom me.0.opened t c.args.ends (seen_of me.0) now) mine (c.seal_ends.ensures.sealed won));
      «open» = λ lost. subst (λ (k : PassView). FailsToSeal k.opened k.thread c.args.ends k.seen now) was
          (subst (λ t. FailsToSeal me.0.opened t c.args.ends (seen_of me.0) now) mine
          (c.seal_ends.ensures.«open» lost));
      promise = promised _ c.seal_ends.new.seat.me (invariant_of-self c);
    }
