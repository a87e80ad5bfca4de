use Rattle.std.proofs.Common.{◌≡◌, ◌++◌, take}
use Rattle.std.specs.Prelude.{string_bytes}
use Rattle.std.specs.List.{flat_map}
use Rattle.tv_reports.proofs.IntegerSections.{row_text, AreSmallRows}
use Rattle.tv_reports.proofs.gv.put_classes.Given as goal

abbrev pub invariant-loop-k : goal.invariant-loop-k
invariant-loop-k l = record {
  text : string_bytes l.text ≡ string_bytes l.initial.text ++ flat_map (row_text l.report.series.heights l.report.integers.integers) (take l.k l.report.series.rows);
  small : AreSmallRows l.report.series.heights l.report.integers.integers (take l.k l.report.series.rows);
}
