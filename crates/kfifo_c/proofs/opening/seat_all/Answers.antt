use Rattle.std.proofs.Common.{◌≡◌, Some, List, ◌++◌, ◌∷◌, map, reverse, subst, sym, ap, ◌∙◌}
use Rattle.std.proofs.lemmas.List.Elements.{All-pop}
use Rattle.kfifo_c.specs.Seats.{Seated, seated, IsOpenPassOf}
use Rattle.kfifo_c.specs.Exports.{seats_of}
use Rattle.kfifo_c.proofs.Passes.{moved, reverse_mapped}
use Rattle.kfifo_c.proofs.opening.seat_all.Goals as goal

pub new-requires-in-Some : goal.new-requires-in-Some
new-requires-in-Some c =
    let of = All-pop (IsOpenPassOf c.in_ok-shared.shared.value) _ _ (Some c.in-Some.pass) c.in-Some.ensures.items
    c.loop-pass.invariant.all_of in
    record {
      of = subst (λ q. IsOpenPassOf q c.in-Some.pass) (sym c.in_ok-queue.ensures) of.1;
      threads = c.requires.threads
          ∙ ap (λ q. q.opened.threads) (sym c.in_ok-shared.ensures.ok ∙ sym c.in_ok-queue.ensures);
    }

pub loop-pass-preserved : goal.loop-pass-preserved
loop-pass-preserved c =
    let q = c.in_ok-shared.shared.value in
    let seat : c.in_ok-seat.seat.value ≡ seated q c.in-Some.pass =
    c.in_ok-seat.ensures.ok ∙ c.new-in-Some.ensures ∙ ap (λ q'. seated q' c.in-Some.pass) c.in_ok-queue.ensures in
    record {
      all_of = (All-pop (IsOpenPassOf q) _ _ (Some c.in-Some.pass) c.in-Some.ensures.items
          c.loop-pass.invariant.all_of).0;
      made = ap (λ l. seats_of q c.pop.new.self.items ++ reverse (map (λ s. s.value) l)) c.in_ok-push.ensures.items
          ∙ ap (λ (l : List Seated). seats_of q c.pop.new.self.items ++ l)
          (reverse_mapped (λ s. s.value) c.loop-pass.seats.items c.in_ok-seat.seat)
          ∙ ap (λ (s : Seated). seats_of q c.pop.new.self.items
          ++ (s ∷ reverse (map (λ s'. s'.value) c.loop-pass.seats.items))) seat
          ∙ moved (seated q) c.pop.new.self.items c.in-Some.pass _
          ∙ ap (λ l. seats_of q l ++ reverse (map (λ s. s.value) c.loop-pass.seats.items)) (sym c.in-Some.ensures.items)
          ∙ c.loop-pass.invariant.made;
    }
