use Rattle.std.proofs.Common.{◌≤◌, length, arith}
use Rattle.tv_reports.proofs.IntegerSections.{one_more, all_rows, small_more, small_all}
use Rattle.tv_reports.proofs.gv.put_classes.Goals as goal

pub loop-k-preserved : goal.loop-k-preserved
loop-k-preserved c =
    let put = c.in_ok-put_class.ensures in
    record {
      text = one_more c.args.report.now.series.heights c.args.report.now.integers.integers c.args.report.now.series.rows _ _ _ c.loop-k.k put.0 put.1 c.loop-k.invariant.text put.2;
      small = small_more c.args.report.now.series.heights c.args.report.now.integers.integers c.args.report.now.series.rows c.loop-k.k put.0 put.1 c.loop-k.invariant.small put.3;
    }

pub returns : goal.returns
returns c =
    let count = c.len-k-end.ensures in let end = c.loop-k-test.false in
    let all : length c.args.report.now.series.rows ≤ c.loop-k.k = omega arith in
    record {
      text = all_rows c.args.report.now.series.heights c.args.report.now.integers.integers c.args.report.now.series.rows _ _ c.loop-k.k all c.loop-k.invariant.text;
      small = small_all c.args.report.now.series.heights c.args.report.now.integers.integers c.args.report.now.series.rows c.loop-k.k all c.loop-k.invariant.small;
    }
