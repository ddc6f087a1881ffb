-- One generation more is entered. At the end each place was looked at.
use Rattle.std.proofs.Common.{◌<◌, ◌⊎◌, All, List, [], ◌∷◌, ◌++◌, ap, arith, refl, sym, ◌∙◌, subst}
use Rattle.std.proofs.lemmas.List.Elements.{All-push}
use Rattle.kfifo_renewing.specs.History.{IsGone}
use Rattle.kfifo_renewing.specs.Joining.{HasNumber, IsPart, IsPartOf, IsUnused, PartView}
use Rattle.kfifo_renewing.proofs.Histories.{prefix-trans, was-later}
use Rattle.kfifo_renewing.proofs.Joining.{parts-later}
use Rattle.kfifo_renewing.proofs.handle.RenewingHandle.enter_below.Goals as goal

pub returns-in_default-clause-parts : goal.returns-in_default-clause-parts
returns-in_default-clause-parts g c =
    let first = c.loop.history.log in
    let mid = c.next_after.new.history.log in
    let log = c.has_no_other.new.history.log in
    parts-later first log c.loop.between.items (prefix-trans first mid log c.next_after.ensures.later.1
    c.has_no_other.ensures.later.1)
    c.loop.invariant.parts

pub returns-in_default-clause-all : goal.returns-in_default-clause-all
returns-in_default-clause-all g c none n above below was =
    let T = g.row.T.Denot in
    let first = c.args.history.now.log in
    let mid = c.next_after.new.history.log in
    let more = prefix-trans first c.loop.history.log mid c.loop.invariant.more c.next_after.ensures.later.1 in
    subst (λ (l : List (PartView T)). IsGone c.has_no_other.new.history.log n ⊎ HasNumber l n) c.as_slice.ensures.value
    (c.has_no_other.ensures.others none n (omega (arith, above, c.number.ensures)) below
    (was-later first mid n more was))

pub loop-preserved-in_default-enter : goal.loop-preserved-in_default-enter
loop-preserved-in_default-enter g c =
    let i = c.loop.invariant in
    let first = c.loop.history.log in
    let mid = c.next_after.new.history.log in
    let log = c.enter.new.history.log in
    let more = prefix-trans first mid log c.next_after.ensures.later.1 c.enter.ensures.later.1 in record {
      self = refl;
      end = refl;
      book = c.enter.ensures.later.0 ∙ c.next_after.ensures.later.0 ∙ i.book;
      more = prefix-trans c.args.history.now.log first log i.more more;
      opened = i.opened;
      parts = parts-later first log c.loop.between.items more i.parts;
      below = i.below;
      from = i.from;
      unused = i.unused;
    }

pub returns-in_default-reserve-clause-later : goal.returns-in_default-reserve-clause-later
returns-in_default-reserve-clause-later g c =
    let i = c.loop.invariant in
    let first = c.loop.history.log in
    let mid = c.next_after.new.history.log in
    let log = c.enter.new.history.log in (
      c.enter.ensures.later.0 ∙ c.next_after.ensures.later.0 ∙ i.book,
      prefix-trans c.args.history.now.log first log i.more (prefix-trans first mid log c.next_after.ensures.later.1
          c.enter.ensures.later.1),
    )

pub returns-in_default-reserve-clause-opened : goal.returns-in_default-reserve-clause-opened
returns-in_default-reserve-clause-opened g c =
    subst (All (IsPartOf {T = g.row.T.Denot} c.args.self.now.opened c.args.self.now.book))
    (sym c.reserve.ensures.items) c.loop.invariant.opened

pub returns-in_default-reserve-clause-parts : goal.returns-in_default-reserve-clause-parts
returns-in_default-reserve-clause-parts g c =
    let T = g.row.T.Denot in
    let first = c.loop.history.log in
    let log = c.enter.new.history.log in
    let more = prefix-trans first c.next_after.new.history.log log c.next_after.ensures.later.1
    c.enter.ensures.later.1 in
    subst (All (IsPart {T = T} log)) (sym c.reserve.ensures.items)
    (parts-later first log c.loop.between.items more c.loop.invariant.parts)

pub returns-in_default-reserve-clause-below : goal.returns-in_default-reserve-clause-below
returns-in_default-reserve-clause-below g c =
    subst (All (λ (p : PartView g.row.T.Denot). p.number < c.args.end)) (sym c.reserve.ensures.items)
    c.loop.invariant.below

pub returns-in_default-reserve-clause-unused : goal.returns-in_default-reserve-clause-unused
returns-in_default-reserve-clause-unused g c =
    subst (All (IsUnused {T = g.row.T.Denot} c.args.self.now.thread c.args.self.now.number))
    (sym c.reserve.ensures.items) c.loop.invariant.unused

pub loop-preserved : goal.loop-preserved
loop-preserved g c =
    let T = g.row.T.Denot in
    let i = c.loop.invariant in
    let first = c.loop.history.log in
    let mid = c.next_after.new.history.log in
    let log = c.enter.new.history.log in
    let joined = c.in-Some-enter.joined in
    let entered = c.in-Some-enter.ensures in
    let above = c.in-Some.ensures.between.1 in
    let more = prefix-trans first mid log c.next_after.ensures.later.1 c.enter.ensures.later.1 in
    let each : (P : PartView T → Type 0) → All P c.loop.between.items → P joined
    → All P c.push_reserved.new.self.items = λ P before this.
    subst (All P) (sym (c.push_reserved.ensures.items ∙ ap (λ l. l ++ joined ∷ []) c.reserve.ensures.items))
    (All-push P c.loop.between.items joined before this) in record {
      self = refl;
      end = refl;
      book = c.enter.ensures.later.0 ∙ c.next_after.ensures.later.0 ∙ i.book;
      more = prefix-trans c.args.history.now.log first log i.more more;
      opened = each (IsPartOf c.args.self.now.opened c.args.self.now.book) i.opened entered.of.0;
      parts = each (IsPart log) (parts-later first log c.loop.between.items more i.parts) entered.part.2;
      below = each (λ (p : PartView T). p.number < c.args.end) i.below
          (omega (arith, entered.part.1, c.in-Some.ensures.between.2));
      from = let low = i.from in omega (arith, low, above);
      unused = each (IsUnused c.args.self.now.thread c.args.self.now.number) i.unused (
        let low =
            i.from in omega (arith, low, above, entered.part.1),
        entered.part.3,
      );
    }

pub has_no_other-requires-clause-newest : goal.has_no_other-requires-clause-newest
has_no_other-requires-clause-newest g c =
    let first = c.args.history.now.log in
    let mid = c.next_after.new.history.log in
    was-later first mid c.args.end
    (prefix-trans first c.loop.history.log mid c.loop.invariant.more c.next_after.ensures.later.1) c.requires.newest
