-- The newest generation is one more.
use Rattle.std.proofs.Common.{◌≡◌, ◌≤◌, ◌+◌, ◌*◌, length, ap, sym, ◌∙◌, subst}
use Rattle.kfifo_live.specs.Pass.{OpenQueue}
use Rattle.kfifo_live.specs.declared.view.Opening.{Opening}
use Rattle.kfifo_renewing.specs.Joining.{PartView, held_in}
use Rattle.kfifo_renewing.specs.Renewing.{Generations, HeldIn, Numbered, all_of, opening_in, slots_of}
use Rattle.kfifo_renewing.proofs.Counting.{counts-more, length-more}
use Rattle.kfifo_renewing.proofs.handle.RenewingHandle.count_all.Goals as goal

pub returns : goal.returns
returns g c =
    let T = g.row.T.Denot in
    let s = c.self.inside in
    let i = c.self.invariant.0 in
    let o = opening_in s.shared.value in
    let opened : c.queue.result.now.opened ≡ o =
    ap (λ (q : OpenQueue). q.opened) (c.queue.ensures ∙ ap (λ (v : Numbered). v.queue) c.deref.ensures) ∙ sym i.of.1
    ∙ i.newest_opened.0 in
    let newest : HeldIn T = record { handle = s.newest.handle; number = s.generation.value.number } in
    let sum : c.saturating_add.result ≤ (length s.older.items + 1) * slots_of o =
    counts-more c.saturating_add.result c.count.result c.len.result 18446744073709551615 (length s.older.items)
    (slots_of o)
    c.saturating_add.ensures (c.count.ensures o (λ k d inside. (i.older_opened k d inside).0))
    (subst (λ (q : Opening). c.len.result ≤ slots_of q) opened c.len.ensures) in
    subst (λ (v : Generations T). c.saturating_add.result ≤ length (all_of v) * slots_of v.opened) c.self.view_is
    (subst (λ n. c.saturating_add.result ≤ n * slots_of o)
    (sym (length-more (λ (p : PartView T). held_in p) s.older.items newest)) sum)
