use Rattle.std.proofs.Common.{ap, length, ◌+◌, ◌∙◌}
use Rattle.tv_gv.proofs.Reading.{given-is, class-positive, last-class, values-count, read-next, weight-below, fault-is}
use Rattle.tv_gv.proofs.class.next_line.Goals as goal

pub read_class-requires : goal.read_class-requires
read_class-requires g c =
    rw c.requires.0 (given-is c.args.reduced.now c.args.slope c.args.classes.now c.args.k c.args.integers.now c.args.lines.now c.index-classes-k.result
    c.degree_in-degree.result c.base_of-base.result c.requires.1.0 c.requires.1.1.0 c.requires.1.1.1.0
    c.index-classes-k.is c.requires.1.1.1.1 c.degree_in-degree.ensures.value c.base_of-base.ensures.value
    _ c.deref.result.now (ap (λ x. x + c.base_of-base.result + 1) c.last_exponent.ensures.value)
    (rw c.deref.ensures.value (rw c.last_weight-last.ensures.value at c.in_ok-series.ensures.value)))

pub put_values-requires-clause-positive : goal.put_values-requires-clause-positive
put_values-requires-clause-positive g c =
    class-positive c.args.reduced.now c.args.slope c.args.classes.now c.args.k c.args.integers.now c.args.lines.now c.index-classes-k.result
    c.degree_in-degree.result c.base_of-base.result c.requires.1.0 c.requires.1.1.0 c.requires.1.1.1.0
    c.index-classes-k.is c.requires.1.1.1.1 c.degree_in-degree.ensures.value c.base_of-base.ensures.value

pub put_values-requires-clause-last : goal.put_values-requires-clause-last
put_values-requires-clause-last g c =
    last-class c.args.reduced.now c.args.slope c.args.classes.now c.args.k c.args.integers.now c.args.lines.now c.index-classes-k.result
    c.degree_in-degree.result c.base_of-base.result c.requires.1.0 c.requires.1.1.0 c.requires.1.1.1.0
    c.index-classes-k.is c.requires.1.1.1.1 c.degree_in-degree.ensures.value c.base_of-base.ensures.value

pub put_values-requires-clause-count : goal.put_values-requires-clause-count
put_values-requires-clause-count g c =
    ap length c.deref-in-Ok.ensures.value ∙ values-count c.args.reduced.now c.args.slope c.args.classes.now c.args.k c.args.integers.now c.args.lines.now c.index-classes-k.result
    c.degree_in-degree.result c.base_of-base.result c.requires.1.0 c.requires.1.1.0 c.requires.1.1.1.0
    c.index-classes-k.is c.requires.1.1.1.1 c.degree_in-degree.ensures.value c.base_of-base.ensures.value
    c.in-Ok.read.line c.in-Ok.read.values.items (rw c.requires.0 at c.in-Ok.ensures.value)

pub returns-in-Ok-clause-way : goal.returns-in-Ok-clause-way
returns-in-Ok-clause-way g c =
    read-next c.args.reduced.now c.args.slope c.args.classes.now c.args.k c.args.integers.now c.args.lines.now c.index-classes-k.result
    c.degree_in-degree.result c.base_of-base.result c.requires.1.0 c.requires.1.1.0 c.requires.1.1.1.0
    c.index-classes-k.is c.requires.1.1.1.1 c.degree_in-degree.ensures.value c.base_of-base.ensures.value
    c.in-Ok.read.line c.in-Ok.read.values.items (rw c.requires.0 at c.in-Ok.ensures.value) c.put_values.new.integers
    (rw c.deref-in-Ok.ensures.value at c.in_ok-put_values-in-Ok.ensures.value)

pub fault_at-requires-clause-weight : goal.fault_at-requires-clause-weight
fault_at-requires-clause-weight g c =
    weight-below c.args.reduced.now c.args.slope c.args.classes.now c.args.k c.args.integers.now c.args.lines.now c.index-classes-k.result
    c.degree_in-degree.result c.base_of-base.result c.requires.1.0 c.requires.1.1.0 c.requires.1.1.1.0
    c.index-classes-k.is c.requires.1.1.1.1 c.degree_in-degree.ensures.value c.base_of-base.ensures.value
    c.in-Err.fault (rw c.requires.0 at c.in-Err.ensures.fault)

pub returns-clause-fault : goal.returns-clause-fault
returns-clause-fault g c =
    fault-is c.args.reduced.now c.args.slope c.args.classes.now c.args.k c.args.integers.now c.args.lines.now c.index-classes-k.result
    c.degree_in-degree.result c.base_of-base.result c.requires.1.0 c.requires.1.1.0 c.requires.1.1.1.0
    c.index-classes-k.is c.requires.1.1.1.1 c.degree_in-degree.ensures.value c.base_of-base.ensures.value
    c.in-Err.fault c.fault_at.result (rw c.requires.0 at c.in-Err.ensures.fault)
    (rw c.in_ok-copy-in-Err.ensures.value at c.fault_at.ensures.value)
