use Rattle.std.proofs.Common.{ℕ, ◌≡◌, List, length, rules, subst}
use Rattle.kfifo_model.specs.declared.calls.Call.{Call}
use Rattle.kfifo_draw.specs.Drawing.{AreFew, CountsThose, IsInPart}
use Rattle.kfifo_draw.proofs.picture.draw.Goals as goal

pub returns-then-count_drawn-gt-MAX_DRAWN : goal.returns-then-count_drawn-gt-MAX_DRAWN
returns-then-count_drawn-gt-MAX_DRAWN c =
    let counted =
    subst (λ (h : List Call). CountsThose (IsInPart h c.args.drawing.now.logged.now c.args.drawing.now.part)
    (length h)
    c.count_drawn.result) c.calls-calls.ensures.calls c.count_drawn.ensures in
    (c.count_drawn.result, counted, c.if-count_drawn-gt-MAX_DRAWN.true)

pub returns-in_err-text : goal.returns-in_err-text
returns-in_err-text c =
    let counted =
    subst (λ (h : List Call). CountsThose (IsInPart h c.args.drawing.now.logged.now c.args.drawing.now.part)
    (length h)
    c.count_drawn.result) c.calls-calls.ensures.calls c.count_drawn.ensures in
    let few : AreFew (IsInPart c.args.history.now c.args.drawing.now.logged.now c.args.drawing.now.part)
    (length c.args.history.now) =
    (c.count_drawn.result, counted, c.if-count_drawn-gt-MAX_DRAWN.false) in
    search (rules, few)

pub returns : goal.returns
returns c =
    let counted =
    subst (λ (h : List Call). CountsThose (IsInPart h c.args.drawing.now.logged.now c.args.drawing.now.part)
    (length h)
    c.count_drawn.result) c.calls-calls.ensures.calls c.count_drawn.ensures in
    (c.count_drawn.result, counted, c.if-count_drawn-gt-MAX_DRAWN.false)
