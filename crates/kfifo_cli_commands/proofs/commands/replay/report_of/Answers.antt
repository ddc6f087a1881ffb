use Rattle.kfifo_cli_commands.proofs.commands.replay.report_of.Goals as goal

pub returns-clause-ok : goal.returns-clause-ok
returns-clause-ok c shape scripts picks stands =
    let points = c.in_ok-push_points.ensures.ok shape scripts picks stands in
    record {
      report = c.in_ok-report.report;
      reported = c.in_ok-report.ensures.report shape scripts picks stands;
      middle = points.0;
      points_line = points.1;
      text_is = rw (c.in_ok-push_last.ensures, points.2, c.in_ok-push_first.ensures, c.new-text.ensures.bytes);
    }
