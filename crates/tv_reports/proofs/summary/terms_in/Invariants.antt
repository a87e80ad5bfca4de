use Rattle.std.proofs.Common.{◌≡◌, ◌≤◌, ◌+◌, ◌*◌, ◌^◌, drop}
use Rattle.tv_spec_reports.specs.Summaries.{terms_in}
use Rattle.tv_reports.proofs.summary.terms_in.Given as goal

abbrev pub invariant-loop-section : goal.invariant-loop-section
invariant-loop-section l = record {
  count : l.count + terms_in (drop l.section-index l.sections) ≡ terms_in l.sections;
  bound : l.count ≤ l.section-index * 2 ^ 63;
}
