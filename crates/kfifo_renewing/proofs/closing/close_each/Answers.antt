-- One generation more is closed.
use Rattle.std.proofs.Common.{false, List, [], ◌∷◌, ◌++◌, append_assoc, arith, refl, sym, ap, ◌∙◌, subst}
use Rattle.std.proofs.lemmas.List.{append-nil, map-append, nil_from_length}
use Rattle.kfifo_renewing.specs.Joining.{PartView, held_by, held_in}
use Rattle.kfifo_renewing.specs.Renewing.{ClosesEach, HaveEnded, HeldIn, opening_with}
use Rattle.kfifo_renewing.proofs.Endings.{all-ended, closes-more, left-among, left-beside, left-first, left-more}
use Rattle.kfifo_renewing.proofs.closing.close_each.Goals as goal

pub loop-joined-init : goal.loop-joined-init
loop-joined-init g c =
    let is = c.into_iter-joined-iterator.ensures.into_iter_gives.0 in record {
      same = refl;
      done = [];
      rest = left-first (opening_with false c.args.gathered.sizes) c.args.gathered.theirs.least
          c.args.gathered.all.items _ c.args.gathered.theirs.parts.items is c.requires.opened c.requires.parts;
      left = (sym is, λ log handles have. c.new-left.ensures.items);
    }

pub close_one-requires-clause-theirs : goal.close_one-requires-clause-theirs
close_one-requires-clause-theirs g c =
    let i = c.loop-joined.invariant in
    left-beside (opening_with false c.args.gathered.sizes) c.args.gathered.theirs.parts.items c.loop-joined.theirs.least
    c.number.result i.done c.loop-joined.joined-iterator.rest.items c.next.new.self.rest.items
    c.loop-joined.theirs.parts.items
    c.in-Some.joined c.in-Some.ensures.steps.0 c.number.ensures i.rest c.in_ok-here.here.items
    c.in_ok-here.ensures.taken

pub loop-joined-preserved : goal.loop-joined-preserved
loop-joined-preserved g c =
    let T = g.row.T.Denot in
    let i = c.loop-joined.invariant in
    let o = opening_with false c.args.gathered.sizes in
    let all = c.args.gathered.theirs.parts.items in
    let least = c.loop-joined.theirs.least in
    let n = c.number.result in
    let rest = c.loop-joined.joined-iterator.rest.items in
    let more = c.next.new.self.rest.items in
    let theirs = c.loop-joined.theirs.parts.items in
    let here = c.in-Some.joined in
    let next = c.in-Some.ensures.steps.0 in
    let taken = c.in_ok-here.ensures in
    let done = i.done in
    record {
      same = i.same;
      done = done ++ here ∷ [];
      rest = left-more o all least n done rest more theirs here next c.number.ensures i.rest c.take.new.self.least
          c.take.new.self.parts.items taken.least.0 taken.least.1 taken.rest;
      left = (
        i.left.0 ∙ ap (λ l. done ++ l) next ∙ sym (append_assoc done (here ∷ []) more),
        λ log handles have.
            let own = left-among o all least n done rest more theirs here next c.number.ensures i.rest
            c.in_ok-here.here.items log handles taken.taken taken.least.0 have in
            subst (λ (hs : List (HeldIn T)). ClosesEach log handles hs c.append.new.self.items)
            (sym (map-append (λ (p : PartView T). held_in p) done (here ∷ [])))
            (subst (ClosesEach log handles (held_by done ++ held_in here ∷ [])) (sym c.in_ok-append.ensures.items)
            (closes-more log handles (held_by done) c.loop-joined.left.items (held_in here)
            c.in_ok-values.values.items (i.left.1 log handles have)
            (c.in_ok-values.ensures log handles own))),
      );
    }

pub returns : goal.returns
returns g c log handles have =
    let i = c.loop-joined.invariant in
    let over = nil_from_length c.loop-joined.joined-iterator.rest.items
    (omega (arith, c.in-None.ensures.steps.0, c.loop-joined.joined-iterator.rest.ok.0)) in
    let all = i.left.0 ∙ ap (λ l. i.done ++ l) over ∙ append-nil i.done in
    subst (λ (ps : List (PartView g.row.T.Denot)). ClosesEach log handles (held_by ps) c.loop-joined.left.items
    × HaveEnded log handles (held_by ps)) (sym all) (
      i.left.1 log handles have,
      all-ended log handles c.args.gathered.theirs.parts.items c.loop-joined.theirs.parts.items i.done have i.rest.each
          c.in_ok-end.ensures,
    )
