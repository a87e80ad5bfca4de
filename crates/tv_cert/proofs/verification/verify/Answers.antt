use Rattle.tv_cert.proofs.Planned.{wide-at-once, planned}
use Rattle.tv_cert.proofs.verification.verify.Goals as goal

pub compare_classes-requires : goal.compare_classes-requires
compare_classes-requires c = record {
  plan = rw c.deref.ensures.value (planned c.args.report.now.series c.args.report.now.integers c.requires.checkable
      c.known-2.ensures.kept c.known.ensures.family c.in_default.ensures.value c.slope-slope.result c.slope-slope.ensures.slope
      c.in_ok-classes.classes.items c.in_ok-classes.ensures.closed c.in_ok-classes.ensures.listed);
}

pub returns-in-Some-clause-fault : goal.returns-in-Some-clause-fault
returns-in-Some-clause-fault c =
    rw c.in_ok-copy.ensures.value (wide-at-once c.args.report.now.series c.args.report.now.integers c.requires.checkable
    c.known-2.ensures.kept c.in-Some.class.now c.in-Some.ensures.value)
