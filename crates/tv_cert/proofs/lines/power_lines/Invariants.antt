use Rattle.tv_cert.proofs.PowerLines.{ArePowerLinesTo}
use Rattle.tv_cert.proofs.lines.power_lines.Given as goal

abbrev pub invariant-loop-k : goal.invariant-loop-k
invariant-loop-k l = ArePowerLinesTo l.report.series l.report.integers l.slope l.k l.lines.items
