-- The first of the generations is asked, and where it has no such cell, the others.
use Rattle.std.proofs.Common.{◌∷◌, All, List, ap, drop, inl, inr, refl, rules, subst, sym, true, ◌∙◌}
use Rattle.kfifo_live.specs.declared.payload.Given.TheVariants as G
use Rattle.kfifo_renewing.specs.Cells.{CallsCell, CallsFirst}
use Rattle.kfifo_renewing.specs.Joining.{AreSameParts, HasNoCell, IsSamePart, PartView, held_by, held_in}
use Rattle.kfifo_renewing.proofs.Joining.{same-refl}
use Rattle.kfifo_renewing.proofs.NoCells.{all-from-ahead, all-from-behind, finds-none}
use Rattle.kfifo_renewing.proofs.Parts.{bare_rest}
use Rattle.kfifo_renewing.proofs.older.+call_first.Goals as goal

pub returns-in-NoToken-clause-same : goal.returns-in-NoToken-clause-same
returns-in-NoToken-clause-same t c =
    let after = c.stop_giving.new.self in
    let same : IsSamePart {T = Unit {0}} c.in-Some.first.now after =
    subst (λ (p : PartView (Unit {0})). IsSamePart c.in-Some.first.now p) (sym c.stop_giving.ensures)
    c.call_here-answer.ensures.same in
    subst (λ l. AreSameParts {T = Unit {0}} l (after ∷ c.call_first.new.parts)) (sym c.in-Some.ensures.cases.0)
    (after, c.call_first.new.parts, refl, same, c.call_first.ensures.same)

pub returns-in-NoToken-clause-calls : goal.returns-in-NoToken-clause-calls
returns-in-NoToken-clause-calls t c =
    let after = c.stop_giving.new.self in
    let called : CallsCell {T = Unit {0}} c.args.call (G.NoToken tt) c.in-Some.first.now.handle after.handle =
    subst (λ (p : PartView (Unit {0})). CallsCell c.args.call (G.NoToken tt) c.in-Some.first.now.handle p.handle)
    (sym c.stop_giving.ensures) c.in-NoToken.ensures.calls in
    subst (λ (l : List (PartView (Unit {0}))). CallsFirst c.args.call c.call_first.result (held_by l)
    (held_by (after ∷ c.call_first.new.parts)))
    (sym c.in-Some.ensures.cases.0) (
      held_in after,
      held_by c.call_first.new.parts,
      refl,
      ap (λ (p : PartView (Unit {0})). p.number) c.stop_giving.ensures ∙ c.call_here-answer.ensures.same.0,
      inl (called, c.call_first.ensures.calls),
    )

pub returns-in_default-answer : goal.returns-in_default-answer
returns-in_default-answer t c =
    let after = c.stop_giving.new.self in
    let rest = c.in-Some.rest.now in
    let same : IsSamePart {T = Unit {0}} c.in-Some.first.now after =
    subst (λ (p : PartView (Unit {0})). IsSamePart c.in-Some.first.now p) (sym c.stop_giving.ensures)
    c.call_here-answer.ensures.same in
    let called : CallsCell {T = Unit {0}} c.args.call c.call_here-answer.result c.in-Some.first.now.handle
    after.handle =
    subst (λ (p : PartView (Unit {0})). CallsCell c.args.call c.call_here-answer.result c.in-Some.first.now.handle
    p.handle)
    (sym c.stop_giving.ensures) c.call_here-answer.ensures.calls in record {
      same = subst (λ l. AreSameParts {T = Unit {0}} l (after ∷ rest)) (sym c.in-Some.ensures.cases.0)
          (after, rest, refl, same, same-refl rest);
      calls = subst
          (λ (l : List (PartView (Unit {0}))). CallsFirst c.args.call c.call_here-answer.result (held_by l)
          (held_by (after ∷ rest)))
          (sym c.in-Some.ensures.cases.0) (
            held_in after,
            held_by rest,
            refl,
            ap (λ (p : PartView (Unit {0})). p.number) c.stop_giving.ensures ∙ c.call_here-answer.ensures.same.0,
            inr (search rules, called, refl),
          );
      none = all-from-ahead HasNoCell after rest c.args.with_cells c.if-with_cells-eq0.false
          (all-from-behind HasNoCell c.in-Some.first.now rest c.args.parts.now c.args.with_cells
          c.in-Some.ensures.cases.0
          c.if-with_cells-eq0.false c.requires.none);
    }

pub returns-in-NoToken-clause-none : goal.returns-in-NoToken-clause-none
returns-in-NoToken-clause-none t c =
    all-from-ahead HasNoCell c.stop_giving.new.self c.call_first.new.parts c.args.with_cells c.if-with_cells-eq0.false
    c.call_first.ensures.none

pub returns-then-with_cells-eq0-clause-calls : goal.returns-then-with_cells-eq0-clause-calls
returns-then-with_cells-eq0-clause-calls t c =
    finds-none c.args.call c.args.parts.now (subst (λ n. All HasNoCell (drop n c.args.parts.now))
    c.if-with_cells-eq0.true c.requires.none)

pub returns-then-with_cells-eq0-clause-same : goal.returns-then-with_cells-eq0-clause-same
returns-then-with_cells-eq0-clause-same t c = same-refl c.args.parts.now

pub call_first-requires : goal.call_first-requires
call_first-requires t c =
    let bare = bare_rest true c.args.parts.now c.in-Some.rest.now c.in-Some.first.now c.in-Some.ensures.cases.0
    c.requires.bare in
    let none = all-from-behind HasNoCell c.in-Some.first.now c.in-Some.rest.now c.args.parts.now c.args.with_cells
    c.in-Some.ensures.cases.0 c.if-with_cells-eq0.false c.requires.none in
    search (rules, bare, none)
