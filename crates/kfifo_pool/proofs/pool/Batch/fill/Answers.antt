-- One token more.
use Rattle.std.proofs.Common.{◌≤◌, ◌++◌, ◌∷◌, [], append_assoc, ap, reverse, subst, sym, ◌∙◌}
use Rattle.std.proofs.lemmas.List.{reverse-append}
use Rattle.kfifo_pool.specs.declared.pool.TheConstants.{BATCH}
use Rattle.kfifo_pool.proofs.pool.Batch.fill.Goals as goal

pub loop-self-preserved : goal.loop-self-preserved
loop-self-preserved g c =
    let token = c.in-Some.token in let so_far = c.loop-self.invariant in let list = c.args.self.now in
    record {
      room = subst (λ room. BATCH ≤ room) (sym c.push_reserved.ensures.capacity) so_far.room;
      moved = token ∷ so_far.moved;
      tokens = so_far.tokens ∙ ap (λ l. l ++ so_far.moved) c.in-Some.ensures.items
          ∙ append_assoc c.pop.new.self.items (token ∷ []) so_far.moved;
      list = c.push_reserved.ensures.items ∙ ap (λ l. l ++ token ∷ []) so_far.list
          ∙ append_assoc list (reverse so_far.moved) (token ∷ [])
          ∙ ap (λ l. list ++ l) (sym (reverse-append (token ∷ []) so_far.moved));
    }
