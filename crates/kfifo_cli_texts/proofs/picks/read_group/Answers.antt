use Rattle.std.proofs.Common.{arith}
use Rattle.std.proofs.lemmas.Str.Pattern.{split_parts}
use Rattle.kfifo_cli_texts.proofs.Groups.{bare_group, cut_group}
use Rattle.kfifo_cli_texts.proofs.picks.read_group.Goals as goal

pub returns-in_err-thread-in-Some : goal.returns-in_err-thread-in-Some
returns-in_err-thread-in-Some c =
    let parts = split_parts 120 c.args.text.now c.split_once.result c.split_once.ensures.cases (omega arith) in
    let here = rw c.in-Some.is at parts in
    rw c.from_residual.ensures (λ group written.
    c.in_err-thread-in-Some.ensures group.thread (omega arith) written.thread_fits
    (cut_group c.args.text.now c.in-Some.name.now c.in-Some.often.now group here.1 here.0 written).0)

pub returns-in_err-count-in-Some : goal.returns-in_err-count-in-Some
returns-in_err-count-in-Some c =
    let parts = split_parts 120 c.args.text.now c.split_once.result c.split_once.ensures.cases (omega arith) in
    let here = rw c.in-Some.is at parts in
    rw c.from_residual-in_err-count-in-Some.ensures (λ group written.
    c.in_err-count-in-Some.ensures group.count written.some written.count_fits
    (cut_group c.args.text.now c.in-Some.name.now c.in-Some.often.now group here.1 here.0 written).1)

pub returns-in_err-thread-in-None : goal.returns-in_err-thread-in-None
returns-in_err-thread-in-None c =
    let parts = split_parts 120 c.args.text.now c.split_once.result c.split_once.ensures.cases (omega arith) in
    let here = rw c.in-None.is at parts in
    rw c.from_residual-in_err-thread-in-None.ensures (λ group written.
    c.in_err-thread-in-None.ensures group.thread (omega arith) written.thread_fits
    (bare_group c.args.text.now group here written))
