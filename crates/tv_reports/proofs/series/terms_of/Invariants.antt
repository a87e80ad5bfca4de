use Rattle.tv_reports.proofs.Sections.{AreKept}
use Rattle.tv_reports.proofs.series.terms_of.Given as goal

abbrev pub invariant-loop-n : goal.invariant-loop-n
invariant-loop-n l = AreKept l.series l.n l.terms.items
