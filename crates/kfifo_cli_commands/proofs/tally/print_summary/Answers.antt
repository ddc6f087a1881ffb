use Rattle.std.proofs.Common.{◌≡◌, ◌++◌, List, ℕ, codes, false, flat_map, rules, subst}
use Rattle.std.specs.Prelude.{MatchBool, OnErr, OnOk, Result}
use Rattle.kfifo_cli_texts.proofs.Writings.{first_of_two, it_broke, it_wrote, second_of_two, writes_more}
use Rattle.kfifo_cli_texts.specs.Printing.{Breaks, Writes}
use Rattle.kfifo_cli_commands.specs.Tallies.{counted}
use Rattle.kfifo_cli_commands.proofs.Counts.{ended_by, ended_well}
use Rattle.kfifo_cli_commands.proofs.tally.print_summary.Goals as goal

pub returns-then-not-write_counts-clause-err : goal.returns-then-not-write_counts-clause-err
returns-then-not-write_counts-clause-err g c =
    let C = g.W.Write.contents in
    let a = c.args.output.now in
    let b = c.write_counts.new.output in
    subst (λ (text : List ℕ). Breaks C a text b) (c.counts_of-counts.ensures c.if-options.false)
    (first_of_two C a b (flat_map counted c.counts_of-counts.result) (codes "\n")
    (it_broke C c.write_counts.result a b _ c.if-not-write_counts.true c.write_counts.ensures))

pub returns-clause-ok : goal.returns-clause-ok
returns-clause-ok g c =
    let C = g.W.Write.contents in
    let a = c.args.output.now in
    let b = c.write_counts.new.output in
    ended_well C a b c.print.new.self (flat_map counted c.counts_of-counts.result) (codes "\n") _
    (c.counts_of-counts.ensures c.if-options.false)
    (it_wrote C c.write_counts.result a b _ c.if-not-write_counts.false c.write_counts.ensures) c.print.result
    c.print.ensures.ok

pub returns-clause-err : goal.returns-clause-err
returns-clause-err g c =
    let C = g.W.Write.contents in
    let a = c.args.output.now in
    let b = c.write_counts.new.output in
    ended_by C a b c.print.new.self (flat_map counted c.counts_of-counts.result) (codes "\n") _
    (c.counts_of-counts.ensures c.if-options.false)
    (it_wrote C c.write_counts.result a b _ c.if-not-write_counts.false c.write_counts.ensures) c.print.result
    c.print.ensures.err
