use Rattle.std.proofs.Common.{ap, ◌∙◌}
use Rattle.tv_cert.specs.Powers.{values_size}
use Rattle.tv_class_parts.specs.ReadClasses.{ReadClass}
use Rattle.tv_cert.proofs.PowerLines.{number-class, values-low, base-room, powers-wide, fault-below, fault-is, line-is}
use Rattle.tv_cert.proofs.lines.power_line.Goals as goal

pub degree_in-degree-requires-clause-class : goal.degree_in-degree-requires-clause-class
degree_in-degree-requires-clause-class c =
    rw c.class_number-class.ensures.class (number-class c.args.report.now.series c.args.report.now.integers c.args.slope
    c.args.classes.now c.requires.plan c.args.k c.requires.within)

pub class_powers-requires-clause-genera : goal.class_powers-requires-clause-genera
class_powers-requires-clause-genera c =
    rw c.of.ensures.value (values-low c.args.report.now.series c.args.report.now.integers c.args.slope c.args.classes.now
    c.requires.plan c.class_number-class.result.now (rw c.class_number-class.ensures.class (number-class c.args.report.now.series
    c.args.report.now.integers c.args.slope c.args.classes.now c.requires.plan c.args.k c.requires.within))
    c.degree_in-degree.result c.base_of-base.result c.degree_in-degree.ensures.value c.base_of-base.ensures.value)

pub class_powers-requires-clause-room : goal.class_powers-requires-clause-room
class_powers-requires-clause-room c =
    rw c.last_weight-last.ensures.value (base-room c.args.report.now.series c.args.report.now.integers c.args.slope c.args.classes.now
    c.requires.plan c.class_number-class.result.now (rw c.class_number-class.ensures.class (number-class c.args.report.now.series
    c.args.report.now.integers c.args.slope c.args.classes.now c.requires.plan c.args.k c.requires.within))
    c.degree_in-degree.result c.base_of-base.result c.degree_in-degree.ensures.value c.base_of-base.ensures.value)

pub returns-in_ok-copy-in-Ok-clause-powers : goal.returns-in_ok-copy-in-Ok-clause-powers
returns-in_ok-copy-in-Ok-clause-powers c =
    line-is c.args.report.now.series c.args.report.now.integers c.args.slope c.args.classes.now
    c.requires.plan c.class_number-class.result.now (rw c.class_number-class.ensures.class (number-class c.args.report.now.series
    c.args.report.now.integers c.args.slope c.args.classes.now c.requires.plan c.args.k c.requires.within))
    c.degree_in-degree.result c.base_of-base.result c.degree_in-degree.ensures.value c.base_of-base.ensures.value
    c.new-in-Ok.result c.in-Ok.powers.items
    (ap (λ (l : ReadClass). l.class) c.new-in-Ok.ensures.value ∙ c.in_ok-copy-in-Ok.ensures.value)
    (ap (λ (l : ReadClass). l.degree) c.new-in-Ok.ensures.value)
    (rw (c.last_weight-last.ensures.value, c.of.ensures.value) at c.in-Ok.ensures.value)
    (rw c.new-in-Ok.ensures.value (rw c.deref.ensures.value at c.in_ok-gathered-in-Ok.ensures.powers))
    (rw c.new-in-Ok.ensures.value c.in_ok-gathered-in-Ok.ensures.once)

pub fault_at-requires-clause-weight : goal.fault_at-requires-clause-weight
fault_at-requires-clause-weight c =
    fault-below c.args.report.now.series c.args.report.now.integers c.args.slope c.args.classes.now
    c.requires.plan c.class_number-class.result.now (rw c.class_number-class.ensures.class (number-class c.args.report.now.series
    c.args.report.now.integers c.args.slope c.args.classes.now c.requires.plan c.args.k c.requires.within))
    c.degree_in-degree.result c.base_of-base.result c.degree_in-degree.ensures.value c.base_of-base.ensures.value
    (values_size c.base_of-base.result c.of.result.now) c.in-Err.fault
    (rw c.last_weight-last.ensures.value at c.in-Err.ensures.wide)

pub returns-in_ok-copy-in-Err-clause-fault : goal.returns-in_ok-copy-in-Err-clause-fault
returns-in_ok-copy-in-Err-clause-fault c =
    fault-is c.args.report.now.series c.args.report.now.integers c.args.slope c.args.classes.now
    c.requires.plan c.class_number-class.result.now (rw c.class_number-class.ensures.class (number-class c.args.report.now.series
    c.args.report.now.integers c.args.slope c.args.classes.now c.requires.plan c.args.k c.requires.within))
    c.degree_in-degree.result c.base_of-base.result c.degree_in-degree.ensures.value c.base_of-base.ensures.value
    (values_size c.base_of-base.result c.of.result.now)
    (λ t h wide. powers-wide c.args.report.now.series c.args.report.now.integers c.args.slope c.args.classes.now
    c.requires.plan c.class_number-class.result.now (rw c.class_number-class.ensures.class (number-class c.args.report.now.series
    c.args.report.now.integers c.args.slope c.args.classes.now c.requires.plan c.args.k c.requires.within))
    c.degree_in-degree.result c.base_of-base.result c.degree_in-degree.ensures.value c.base_of-base.ensures.value t h
    (rw c.of.ensures.value at wide)) c.in-Err.fault _
    (rw c.last_weight-last.ensures.value at c.in-Err.ensures.wide) (rw c.in_ok-copy-in-Err.ensures.value at c.fault_at.ensures.value)
