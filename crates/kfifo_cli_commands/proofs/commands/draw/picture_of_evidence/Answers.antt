use Rattle.std.proofs.Common.{◌≡◌, ◌∙◌, ℕ, true, List, MatchResult, None, Option, Some, rules, subst, sym}
use Rattle.kfifo_verdict.specs.Judging.{HasNoEvidence}
use Rattle.kfifo_verdict.specs.declared.verdicts.Evidence.{Evidence}
use Rattle.kfifo_cli_texts.specs.Faults.{picture_fault}
use Rattle.kfifo_judge.specs.Reasons.{named_by}
use Rattle.kfifo_cli_commands.specs.Cuts.{IsPartOf}
use Rattle.kfifo_cli_commands.specs.Pictures.{HasFew, IsNotDrawn, IsPictureOf, IsSought}
use Rattle.kfifo_cli_commands.proofs.Picturing.{found_refused, none_refused}
use Rattle.kfifo_cli_commands.proofs.commands.draw.picture_of_evidence.Goals.{in-Ok, in-Err}
use Rattle.kfifo_cli_commands.proofs.commands.draw.picture_of_evidence.Goals as goal

pub returns-in_err-text : goal.returns-in_err-text
returns-in_err-text c =
    let found = c.in-Some.found in
    let part = c.part_of-part-2.result in
    let sought : IsSought true c.args.k c.args.history.now (Some found) =
    subst (λ (o : Option Evidence). IsSought true c.args.k c.args.history.now o)
    c.in-Some.is c.in_ok-found.ensures.first in
    let cut_to : IsPartOf (Some (named_by c.args.history.now found)) c.args.cut part =
    subst (λ (calls : List ℕ). IsPartOf (Some calls) c.args.cut part)
    (c.as_slice-2.ensures.value ∙ c.in_ok-named.ensures) c.part_of-part-2.ensures in
    let refused : IsNotDrawn c.args.k true c.args.cut c.args.history.now c.args.logged.now
    (picture_fault c.in_err-text.field-0.0) =
    found_refused c.args.k c.args.cut c.args.history.now c.args.logged.now part found c.in_err-text.field-0.0 sought
    cut_to
    c.in_err-text.ensures in
    search (rules, refused)

pub returns : goal.returns
returns c =
    let found = c.in-Some.found in
    let part = c.part_of-part-2.result in
    let sought : IsSought true c.args.k c.args.history.now (Some found) =
    subst (λ (o : Option Evidence). IsSought true c.args.k c.args.history.now o)
    c.in-Some.is c.in_ok-found.ensures.first in
    let cut_to : IsPartOf (Some (named_by c.args.history.now found)) c.args.cut part =
    subst (λ (calls : List ℕ). IsPartOf (Some calls) c.args.cut part)
    (c.as_slice-2.ensures.value ∙ c.in_ok-named.ensures) c.part_of-part-2.ensures in
    record { found = Some found; sought = sought; part = part; cut_to = cut_to; drawn = c.in_ok-text.ensures }

pub returns-in_default : goal.returns-in_default
returns-in_default c =
    let k = c.args.k in
    let cut = c.args.cut in
    let h = c.args.history.now in
    let logged = c.args.logged.now in
    let part = c.part_of-part.result in
    let none : HasNoEvidence k h =
    subst (λ (o : Option Evidence). IsSought true k h o) c.in_default.is c.in_ok-found.ensures.first in
    elim c.match-marked.branch [
      | in-Ok w ↦ subst (λ r. MatchResult r (λ _. IsPictureOf HasFew k true cut h logged)
          (IsNotDrawn k true cut h logged)) (sym w.result-is)
          (record {
            found = None;
            sought = none;
            part = part;
            cut_to = c.part_of-part.ensures;
            drawn = w.in-Ok.ensures;
          })
      | in-Err w ↦
          subst (λ r. MatchResult r (λ _. IsPictureOf HasFew k true cut h logged) (IsNotDrawn k true cut h logged))
          (sym w.result-is)
          (none_refused k cut h logged part w.in-Err.fault w.fault_without_evidence.result none c.part_of-part.ensures
          w.in-Err.ensures w.fault_without_evidence.ensures.memory w.fault_without_evidence.ensures.lacks
          w.fault_without_evidence.ensures.many)
    ]
