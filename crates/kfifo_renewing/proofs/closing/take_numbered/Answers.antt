-- One part more is sorted.
use Rattle.std.proofs.Common.{◌≡◌, ◌==◌, ◌++◌, true, false, [], ◌∷◌, ap, append_assoc, arith, refl, sym, ◌∙◌}
use Rattle.std.proofs.lemmas.List.{append-nil, nil_from_length}
use Rattle.std.proofs.lemmas.Bool.Decides.{nat_tests}
use Rattle.kfifo_renewing.proofs.Endings.{handles_at, others_than, sorted-else, sorted-here}
use Rattle.kfifo_renewing.proofs.closing.take_numbered.Goals as goal

pub loop-part-preserved-then-number : goal.loop-part-preserved-then-number
loop-part-preserved-then-number g c =
    let i = c.loop-part.invariant.so_far in
    let n = c.args.number in
    let part = c.in-Some.part in
    let test : (part.number == n) ≡ true = grind (arith, nat_tests, c.number.ensures) in
    let next = sorted-here n i.0 part test in record {
      number = refl;
      so_far = (
        i.0 ++ part ∷ [],
        i.1 ∙ ap (λ l. i.0 ++ l) c.in-Some.ensures.steps.0
            ∙ sym (append_assoc i.0 (part ∷ []) c.next.new.self.rest.items),
        c.in_ok-push.ensures.items ∙ ap (λ l. l ++ c.into_handle.result ∷ []) i.2
            ∙ ap (λ h. handles_at n i.0 ++ h ∷ []) c.into_handle.ensures ∙ sym next.0,
        i.3 ∙ sym next.1,
      );
    }

pub loop-part-preserved : goal.loop-part-preserved
loop-part-preserved g c =
    let i = c.loop-part.invariant.so_far in
    let n = c.args.number in
    let part = c.in-Some.part in
    let test : (part.number == n) ≡ false = grind (arith, nat_tests, c.number.ensures) in
    let next = sorted-else n i.0 part test in record {
      number = refl;
      so_far = (
        i.0 ++ part ∷ [],
        i.1 ∙ ap (λ l. i.0 ++ l) c.in-Some.ensures.steps.0
            ∙ sym (append_assoc i.0 (part ∷ []) c.next.new.self.rest.items),
        i.2 ∙ sym next.0,
        c.in_ok-push-2.ensures.items ∙ ap (λ l. l ++ part ∷ []) i.3 ∙ sym next.1,
      );
    }

pub returns-clause-taken : goal.returns-clause-taken
returns-clause-taken g c =
    let i = c.loop-part.invariant.so_far in
    let over = nil_from_length c.loop-part.part-iterator.rest.items
    (omega (arith, c.in-None.ensures.steps.0, c.loop-part.part-iterator.rest.ok.0)) in
    i.2 ∙ ap (handles_at c.args.number) (sym (i.1 ∙ ap (λ l. i.0 ++ l) over ∙ append-nil i.0))

pub returns-clause-rest : goal.returns-clause-rest
returns-clause-rest g c =
    let i = c.loop-part.invariant.so_far in
    let over = nil_from_length c.loop-part.part-iterator.rest.items
    (omega (arith, c.in-None.ensures.steps.0, c.loop-part.part-iterator.rest.ok.0)) in
    i.3 ∙ ap (others_than c.args.number) (sym (i.1 ∙ ap (λ l. i.0 ++ l) over ∙ append-nil i.0))
