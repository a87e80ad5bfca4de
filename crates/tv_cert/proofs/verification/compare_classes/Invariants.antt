use Rattle.tv_cert.specs.Plans.{IsComputedTo, AgreeTo}
use Rattle.tv_cert.proofs.verification.compare_classes.Given as goal

abbrev pub invariant-loop-k : goal.invariant-loop-k
invariant-loop-k l = record {
  computed : IsComputedTo l.report.series l.report.integers l.slope l.classes l.k l.lines.items;
  agree : AgreeTo l.report.series l.report.integers.integers l.classes l.k;
}
