use Rattle.std.proofs.Common.{ℕ, ◌≡◌, ◌++◌, ◌∙◌, List, OnOk, ap, append_assoc, codes, string_bytes}
use Rattle.kfifo_verdict.specs.Naming.{call_in}
use Rattle.kfifo_judge.specs.Headlines.{items_text}
use Rattle.kfifo_judge.specs.Reasons.{got_item}
use Rattle.kfifo_judge.proofs.Texts.{on_ok}
use Rattle.kfifo_judge.proofs.headlines.push_headline.Goals as goal

pub returns-in_ok-push_str-in-NotEmpty : goal.returns-in_ok-push_str-in-NotEmpty
returns-in_ok-push_str-in-NotEmpty c =
    let old = string_bytes c.args.text.now in
    let held : List ℕ = codes "a get found nothing, while the queue held " in
    let items : List ℕ = items_text c.args.logged.now c.args.history.now c.in-NotEmpty.puts.items (codes "") in
    let first : string_bytes c.push_str.new.self ≡ old ++ held = c.in_ok-push_str-in-NotEmpty.ensures.bytes in
    let now = string_bytes c.push_items.new.text in
    let before : List ℕ = string_bytes c.push_str.new.self ++ items in
    let second : OnOk c.push_items.result (now ≡ before) = rw c.as_slice.ensures.value at c.push_items.ensures in
    rw (c.in-NotEmpty.is) (on_ok c.push_items.result now before (old ++ (held ++ items))
    (ap (λ t. t ++ items) first ∙ append_assoc old held items) second)

pub returns-in-TooYoung : goal.returns-in-TooYoung
returns-in-TooYoung c =
    let got : c.item_got-item.result ≡ got_item c.args.logged.now c.args.history.now c.in-TooYoung.get =
    c.item_got-item.ensures
    ∙ ap (got_item c.args.logged.now c.args.history.now) (c.call.ensures ∙ ap call_in c.in-TooYoung.is) in
    rw (c.in-TooYoung.is, ← got, ← c.as_slice-in-TooYoung.ensures.value) c.push_older.ensures

pub returns-in-OlderLeft : goal.returns-in-OlderLeft
returns-in-OlderLeft c =
    let got : c.item_got-item.result ≡ got_item c.args.logged.now c.args.history.now c.in-OlderLeft.get =
    c.item_got-item.ensures
    ∙ ap (got_item c.args.logged.now c.args.history.now) (c.call.ensures ∙ ap call_in c.in-OlderLeft.is) in
    rw (c.in-OlderLeft.is, ← got, ← c.as_slice-in-OlderLeft.ensures.value) c.push_older-in-OlderLeft.ensures
