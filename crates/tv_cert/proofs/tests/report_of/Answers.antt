use Rattle.tv_cert.proofs.TestReports.{tested-checkable}
use Rattle.tv_cert.proofs.tests.report_of.Goals as goal

pub returns : goal.returns
returns c = record { checkable = rw (c.in_ok-series.ensures.value, c.in_ok-integers.ensures.value) (tested-checkable _ _) }
