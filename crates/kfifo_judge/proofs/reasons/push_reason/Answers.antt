use Rattle.std.proofs.Common.{◌≡◌, ◌∙◌, ap}
use Rattle.kfifo_verdict.specs.Naming.{call_in}
use Rattle.kfifo_judge.specs.Reasons.{got_item}
use Rattle.kfifo_judge.proofs.reasons.push_reason.Goals as goal

pub returns-in-NeverPut : goal.returns-in-NeverPut
returns-in-NeverPut c =
    let call : c.call-call.result ≡ c.in-NeverPut.field-0 = c.call-call.ensures ∙ ap call_in c.in-NeverPut.is in
    let got : c.item_got-item.result ≡ got_item c.args.logged.now c.args.history.now c.in-NeverPut.field-0 =
    c.item_got-item.ensures ∙ ap (got_item c.args.logged.now c.args.history.now) call in
    rw (c.in-NeverPut.is, ← got, ← call) c.write.ensures.bytes

pub returns-in-TakenTwice : goal.returns-in-TakenTwice
returns-in-TakenTwice c =
    let call : c.call-call.result ≡ c.in-TakenTwice.field-0 = c.call-call.ensures ∙ ap call_in c.in-TakenTwice.is in
    let got : c.item_got-item.result ≡ got_item c.args.logged.now c.args.history.now c.in-TakenTwice.field-0 =
    c.item_got-item.ensures ∙ ap (got_item c.args.logged.now c.args.history.now) call in
    rw (c.in-TakenTwice.is, ← got, ← call) c.write-in-TakenTwice.ensures.bytes

pub returns-in-TakenTooSoon : goal.returns-in-TakenTooSoon
returns-in-TakenTooSoon c =
    let call : c.call-call.result ≡ c.in-TakenTooSoon.field-0 = c.call-call.ensures ∙ ap call_in c.in-TakenTooSoon.is in
    let got : c.item_got-item.result ≡ got_item c.args.logged.now c.args.history.now c.in-TakenTooSoon.field-0 =
    c.item_got-item.ensures ∙ ap (got_item c.args.logged.now c.args.history.now) call in
    rw (c.in-TakenTooSoon.is, ← got, ← call) c.write-in-TakenTooSoon.ensures.bytes
