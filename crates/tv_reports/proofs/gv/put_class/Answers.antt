use Rattle.tv_spec_series.specs.Families.{row}
use Rattle.tv_reports.proofs.IntegerSections.{entry_told, small_row}
use Rattle.tv_reports.proofs.gv.put_class.Goals as goal

pub returns-in_ok-put_entry : goal.returns-in_ok-put_entry
returns-in_ok-put_entry c =
    let v = c.in-Some.entry.class.now in let s = c.in-Some.entry.series.now in let report = c.args.report.now in
    (row v s, c.in-Some.ensures.row, entry_told _ _ report.integers.heights report.series.heights report.integers.integers c.in-Some.entry.degree v s c.of.result.now c.known.ensures.kept c.in-Some.ensures.degree c.of.ensures.value c.in_ok-put_entry.ensures.text, small_row report.integers.heights report.series.heights v s report.integers.integers c.of.result.now c.known.ensures.kept c.of.ensures.value c.in_ok-put_entry.ensures.small)
