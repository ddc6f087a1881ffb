use Rattle.std.proofs.Common.{rules, ◌≡◌, ◌+◌, ◌++◌, ◌∷◌, [], Some, take, map, reverse, sym, ap, subst, ◌∙◌, arith}
use Rattle.std.proofs.lemmas.List.{take_more_set}
use Rattle.std.proofs.lemmas.List.Elements.{All-push}
use Rattle.std.specs.List.{All}
use Rattle.kfifo_c.specs.Fields.{AreNew}
use Rattle.kfifo_c.specs.Handles.{behind, fields_of}
use Rattle.kfifo_c.proofs.HandleLists.{put_more}
use Rattle.kfifo_c.proofs.handles.put_all.Goals.{in-Some, in_default}
use Rattle.kfifo_c.proofs.handles.put_all.Goals as goal

pub loop-handle-preserved : goal.loop-handle-preserved
loop-handle-preserved g c =
    let hs = c.loop-handle.handles in let i = c.loop-handle.handle-index in let left = c.pop.new.self.items in
    let kind = g.S.Seating.behind in let own = g.S.Seating.KIND in
    elim c.match-pop.branch [
      | in-Some w ↦
          let items : c.loop-handle.seats.items ≡ left ++ w.in-Some.seat ∷ [] = search rules in record {
            left = search rules;
            put = ap (λ l. behind (take (i + 1) l) ++ map (λ s. Some (kind s))
                (reverse (map (λ seat. seat.value) left))) w.handles-is
                ∙ put_more kind (λ seat. seat.value) hs i w.of.result left w.in-Some.seat _ (omega arith)
                w.of.ensures.seat
                (ap (λ l. behind (take i hs) ++ map (λ s. Some (kind s)) (reverse (map (λ seat. seat.value) l)))
                (sym items)
                ∙ c.loop-handle.invariant.put);
            fields = subst (λ l. All (λ handle. AreNew c.args.address own c.args.size c.args.alignment
                (fields_of handle)) (take (i + 1) l)) (sym w.handles-is)
                (subst (All (λ handle. AreNew c.args.address own c.args.size c.args.alignment (fields_of handle)))
                (sym (take_more_set hs i w.of.result (omega arith)))
                (All-push (λ handle. AreNew c.args.address own c.args.size c.args.alignment (fields_of handle))
                (take i hs) w.of.result c.loop-handle.invariant.fields
                w.of.ensures.fields));
          }
      | in_default w ↦ record { left = search rules; put = search rules; fields = search rules }
    ]
