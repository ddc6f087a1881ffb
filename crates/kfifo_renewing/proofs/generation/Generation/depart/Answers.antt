-- More of the history was seen, or as much as before.
use Rattle.std.proofs.Common.{[], ap, sym, ◌∙◌, subst}
use Rattle.std.proofs.lemmas.List.{append-nil}
use mathlib.Core.List.{IsPrefix}
use Rattle.kfifo_renewing.specs.Joining.{MayLeave}
use Rattle.kfifo_renewing.proofs.Histories.{prefix-trans}
use Rattle.kfifo_renewing.proofs.Leavers.{may-later}
use Rattle.kfifo_renewing.proofs.generation.Generation.depart.Goals as goal
use Rattle.kfifo_renewing.proofs.generation.Generation.depart.Goals.{in-None, in-None-2, in-Some}

pub begin-requires-clause-may : goal.begin-requires-clause-may
begin-requires-clause-may g c =
    let new = c.retire.new.history in
    subst (λ b. MayLeave new.book new.log b c.args.part) c.if-is_sealed.true
    (may-later c.args.history.now.book new.book c.args.history.now.log new.log c.args.is_sealed c.args.part
    c.retire.ensures.later.0 c.retire.ensures.later.1 c.retire.ensures.risen c.requires.may)

pub returns-clause-later : goal.returns-clause-later
returns-clause-later g c =
    let old = c.args.history.now.log in
    elim c.match-before.branch [
      | in-Some w ↦ (
        ap (λ h. h.book) w.history-is ∙ w.join-departed.ensures.later.0,
        subst (IsPrefix old) (sym (ap (λ h. h.log) w.history-is)) w.join-departed.ensures.later.1,
      )
      | in-None w ↦ (
        ap (λ h. h.book) w.history-is ∙ w.begin.ensures.later.0 ∙ w.retire.ensures.later.0,
        subst (IsPrefix old) (sym (ap (λ h. h.log) w.history-is))
            (prefix-trans old w.retire.new.history.log w.begin.new.history.log w.retire.ensures.later.1
            w.begin.ensures.later.1),
      )
      | in-None-2 w ↦ (
        ap (λ h. h.book) w.history-is,
        subst (IsPrefix old) (sym (ap (λ h. h.log) w.history-is)) ([], append-nil old),
      )
    ]
