-- The greatest length.
use Rattle.std.proofs.Common.{◌≡◌, ◌∙◌, List, length, max, sym, rules, Vec, Global}
use Rattle.std.specs.List.{fold}
use Rattle.std.proofs.lemmas.List.Folds.{fold-map}
use Rattle.kfifo_machine.specs.declared.event.Begin.{Begin}
use Rattle.kfifo_record.proofs.running.count_longest.Goals as goal

pub returns : goal.returns
returns c =
    let h : c.fold.result ≡ fold (λ a (script : Vec Begin Global). max a (length script.items)) 0 c.args.scripts.now =
    search rules in
    h ∙ sym (fold-map (λ a (script : List Begin). max a (length script)) (λ (script : Vec Begin Global). script.items) 0
    c.args.scripts.now)
