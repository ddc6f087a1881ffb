use Rattle.std.proofs.Common.{◌≡◌, Some, ◌++◌, ◌∷◌, [], map, reverse, sym, ap, ◌∙◌}
use Rattle.std.proofs.lemmas.List.{append_assoc}
use Rattle.std.proofs.lemmas.List.Elements.{All-pop}
use Rattle.kfifo_c.proofs.Passes.{reverse_mapped}
use Rattle.kfifo_c.proofs.value_queue.opening.seat_all.Goals as goal

pub new-requires : goal.new-requires
new-requires c =
    (All-pop (λ h. (c.args.shape ≡ h.opened.shape) × (c.args.threads ≡ h.opened.threads)) _ _ (Some c.in-Some.handle)
    c.in-Some.ensures.items
    c.loop-handle.invariant.sizes).1

pub loop-handle-preserved : goal.loop-handle-preserved
loop-handle-preserved c =
    let rest = c.pop.new.self.items in
    let seat : c.in_ok-seat.seat.value ≡ c.in-Some.handle = c.in_ok-seat.ensures.ok ∙ c.new.ensures in
    let made = reverse (map (λ s. s.value) c.loop-handle.seats.items) in
    record {
      sizes = (All-pop (λ h. (c.args.shape ≡ h.opened.shape) × (c.args.threads ≡ h.opened.threads)) _ _
          (Some c.in-Some.handle) c.in-Some.ensures.items c.loop-handle.invariant.sizes).0;
      made = ap (λ l. rest ++ reverse (map (λ s. s.value) l)) c.in_ok-push.ensures.items
          ∙ ap (λ l. rest ++ l) (reverse_mapped (λ s. s.value) c.loop-handle.seats.items c.in_ok-seat.seat)
          ∙ ap (λ s. rest ++ s ∷ made) seat
          ∙ sym (append_assoc rest (c.in-Some.handle ∷ []) made)
          ∙ ap (λ l. l ++ made) (sym c.in-Some.ensures.items)
          ∙ c.loop-handle.invariant.made;
    }
