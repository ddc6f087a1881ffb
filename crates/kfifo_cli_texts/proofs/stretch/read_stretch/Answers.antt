-- A text is cut at its first hyphen; each part writes a number, or the text no stretch.
use Rattle.std.proofs.Common.{arith}
use Rattle.std.proofs.lemmas.Str.Pattern.{split_parts}
use Rattle.kfifo_cli_texts.proofs.StretchWords.{no_first, no_hyphen, no_last, no_rise}
use Rattle.kfifo_cli_texts.proofs.stretch.read_stretch.Goals as goal

pub returns-in_err-before : goal.returns-in_err-before
returns-in_err-before c =
    let parts = split_parts 45 c.args.text.now c.split_once.result c.split_once.ensures.cases (omega arith) in
    let here = rw c.in_err-before.was at parts in
    rw c.from_residual.ensures (no_hyphen c.args.text.now here)

pub returns-in_err-first : goal.returns-in_err-first
returns-in_err-first c =
    let parts = split_parts 45 c.args.text.now c.split_once.result c.split_once.ensures.cases (omega arith) in
    let here = rw c.in_ok-before.was at parts in
    rw c.from_residual-in_err-first.ensures
    (no_first c.args.text.now c.in_ok-before.before.now c.in_ok-before.behind.now here.0 here.1
    c.in_err-first.ensures)

pub returns-in_err-last : goal.returns-in_err-last
returns-in_err-last c =
    let parts = split_parts 45 c.args.text.now c.split_once.result c.split_once.ensures.cases (omega arith) in
    let here = rw c.in_ok-before.was at parts in
    rw c.from_residual-in_err-last.ensures (no_last c.args.text.now c.in_ok-before.before.now c.in_ok-before.behind.now
    here.0 here.1
    c.in_err-last.ensures)

pub returns-then-last-first : goal.returns-then-last-first
returns-then-last-first c =
    let parts = split_parts 45 c.args.text.now c.split_once.result c.split_once.ensures.cases (omega arith) in
    let here = rw c.in_ok-before.was at parts in
    no_rise c.args.text.now c.in_ok-before.before.now c.in_ok-before.behind.now here.0 here.1
    c.in_ok-first.first c.in_ok-last.last c.in_ok-first.ensures c.in_ok-last.ensures c.if-last-first.true

pub returns : goal.returns
returns c =
    let parts = split_parts 45 c.args.text.now c.split_once.result c.split_once.ensures.cases (omega arith) in
    let here = rw c.in_ok-before.was at parts in
    record {
      first = c.in_ok-before.before.now;
      last = c.in_ok-before.behind.now;
      split = here.0;
      first_written = c.in_ok-first.ensures;
      last_written = c.in_ok-last.ensures;
      rises = c.if-last-first.false;
    }
