-- A word is cut at its first colon, and what is behind it at the next; each part writes a number, or the word no task.
use Rattle.std.proofs.Common.{arith}
use Rattle.std.proofs.lemmas.Str.Pattern.{split_parts}
use Rattle.kfifo_cli_texts.proofs.TaskWords.{no_colon, no_id, no_left, no_sum, one_colon}
use Rattle.kfifo_cli_texts.proofs.tasks.read_task.Goals as goal

pub returns-in_err-id : goal.returns-in_err-id
returns-in_err-id c =
    let parts = split_parts 58 c.args.word.now c.split_once.result c.split_once.ensures.cases (omega arith) in
    let here = rw c.in_err-id.was at parts in
    rw c.from_residual.ensures (no_colon c.args.word.now here)

pub returns-in_err-left : goal.returns-in_err-left
returns-in_err-left c =
    let parts = split_parts 58 c.args.word.now c.split_once.result c.split_once.ensures.cases (omega arith) in
    let here = rw c.in_ok-id.was at parts in
    let parts-2 = split_parts 58 c.in_ok-id.rest.now c.split_once-2.result c.split_once-2.ensures.cases (omega arith) in
    let none = rw c.in_err-left.was at parts-2 in
    rw c.from_residual-in_err-left.ensures (one_colon c.args.word.now c.in_ok-id.id.now c.in_ok-id.rest.now here.0
    here.1 none)

pub returns-in_err-id-2 : goal.returns-in_err-id-2
returns-in_err-id-2 c =
    let parts = split_parts 58 c.args.word.now c.split_once.result c.split_once.ensures.cases (omega arith) in
    let here = rw c.in_ok-id.was at parts in
    let parts-2 = split_parts 58 c.in_ok-id.rest.now c.split_once-2.result c.split_once-2.ensures.cases (omega arith) in
    let next = rw c.in_ok-left.was at parts-2 in
    rw c.from_residual-in_err-id-2.ensures (no_id c.args.word.now c.in_ok-id.id.now c.in_ok-id.rest.now here.0 here.1
    c.in_ok-left.left.now c.in_ok-left.sum.now next.0 next.1 c.in_err-id-2.ensures)

pub returns-in_err-left-2 : goal.returns-in_err-left-2
returns-in_err-left-2 c =
    let parts = split_parts 58 c.args.word.now c.split_once.result c.split_once.ensures.cases (omega arith) in
    let here = rw c.in_ok-id.was at parts in
    let parts-2 = split_parts 58 c.in_ok-id.rest.now c.split_once-2.result c.split_once-2.ensures.cases (omega arith) in
    let next = rw c.in_ok-left.was at parts-2 in
    rw c.from_residual-in_err-left-2.ensures (no_left c.args.word.now c.in_ok-id.id.now c.in_ok-id.rest.now here.0
    here.1
    c.in_ok-left.left.now c.in_ok-left.sum.now next.0 next.1 c.in_err-left-2.ensures)

pub returns-in_err-sum : goal.returns-in_err-sum
returns-in_err-sum c =
    let parts = split_parts 58 c.args.word.now c.split_once.result c.split_once.ensures.cases (omega arith) in
    let here = rw c.in_ok-id.was at parts in
    let parts-2 = split_parts 58 c.in_ok-id.rest.now c.split_once-2.result c.split_once-2.ensures.cases (omega arith) in
    let next = rw c.in_ok-left.was at parts-2 in
    rw c.from_residual-in_err-sum.ensures (no_sum c.args.word.now c.in_ok-id.id.now c.in_ok-id.rest.now here.0 here.1
    c.in_ok-left.left.now c.in_ok-left.sum.now next.0 next.1 c.in_err-sum.ensures)
