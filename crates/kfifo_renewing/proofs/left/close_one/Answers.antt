-- The queue is closed by the handles of all threads, that of this part last.
use Rattle.std.proofs.Common.{[], ◌∷◌, ◌++◌, All, map, sym, ap, ◌∙◌, subst}
use Rattle.std.proofs.lemmas.List.Elements.{All-map, All-push}
use Rattle.kfifo_live.specs.Pass.{Closes, IsPassOf}
use Rattle.kfifo_live.specs.Payloads.{PayPassView}
use Rattle.kfifo_live.specs.declared.view.Opening.{Opening}
use Rattle.kfifo_pool.specs.Pooled.{Pooled, passes_in}
use Rattle.kfifo_renewing.proofs.Endings.{closed-by}
use Rattle.kfifo_renewing.proofs.left.close_one.Goals as goal

pub close-requires : goal.close-requires
close-requires c =
    let T = Unit {0} in
    let e = c.in_ok-queue.field-0 in
    let of = c.in_ok-queue.ensures.of in
    All-map (IsPassOf e.queue) (λ (p : PayPassView T). p.pass) (map (λ (h : Pooled T). h.held.pass)
    c.push.new.self.items)
    (All-map (λ (p : PayPassView T). IsPassOf e.queue p.pass) (λ (h : Pooled T). h.held.pass) c.push.new.self.items
    (subst (All (λ (h : Pooled T). IsPassOf e.queue h.held.pass.pass)) (sym c.in-Ok.ensures.items)
    (All-push (λ (h : Pooled T). IsPassOf e.queue h.held.pass.pass) e.others.items e.handle of.1 of.0)))

pub returns : goal.returns
returns c log handles own =
    let T = Unit {0} in
    let e = c.in_ok-queue.field-0 in
    let are = c.in_ok-queue.ensures in record {
      queue = e.queue;
      others = e.others.items;
      by = closed-by log handles e.queue c.args.joined e.handle e.others.items c.args.theirs.items
          c.args.sizes.now.threads
          are.handle are.of.0 are.others (ap (λ (o : Opening). o.threads) c.requires.opened) are.theirs own;
      tokens = c.in_ok-tokens.tokens.items;
      closes = subst (λ hs. Closes e.queue (passes_in {T = T} hs) c.in_ok-tokens.tokens.items)
          (c.in-Ok.ensures.items ∙ ap (λ (p : Pooled T). e.others.items ++ p ∷ []) are.handle)
          c.in_ok-tokens.ensures.ok;
      cells_are = c.in_ok-left.ensures;
    }
