use Rattle.std.proofs.Common.{◌≡◌, drop}
use Rattle.tv_spec_series.specs.Families.{entries_before}
use Rattle.tv_report_reader.proofs.checks.entries_before.Given as goal

abbrev pub invariant-loop-k : goal.invariant-loop-k
invariant-loop-k l = entries_before (drop l.k l.first) (drop l.k l.second) ≡ entries_before l.first l.second
