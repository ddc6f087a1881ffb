use Rattle.std.proofs.Common.{ℕ, ◌≡◌, ◌++◌, ◌∙◌, List, OnOk, ap, append_assoc, codes, decimal, length, string_bytes}
use Rattle.kfifo_verdict.specs.Remainder.{items_left}
use Rattle.kfifo_model.specs.RecordTexts.{line}
use Rattle.kfifo_judge.proofs.Texts.{on_ok}
use Rattle.kfifo_judge.proofs.judgement.push_counts.Goals as goal

pub returns : goal.returns
returns c =
    let h = c.args.history.now in
    let old = string_bytes c.args.text.now in
    let called : List ℕ = codes "calls " ++ decimal (length h) in
    let left : List ℕ = line (codes ", items left " ++ decimal (items_left h)) in
    let first : string_bytes c.write.new.self ≡ old ++ called =
    rw c.calls.ensures.calls at c.in_ok-write.ensures.bytes in
    let second : OnOk c.push_left.result (string_bytes c.push_left.new.text ≡ string_bytes c.write.new.self ++ left) =
    rw c.requires at c.push_left.ensures in
    on_ok c.push_left.result (string_bytes c.push_left.new.text) (string_bytes c.write.new.self ++ left)
    (old ++ (called ++ left))
    (ap (λ t. t ++ left) first ∙ append_assoc old called left) second
