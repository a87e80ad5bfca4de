use Rattle.tv_class_parts.proofs.Ways.{table-lengths, table-parts, degree-up, parts-exact, fault-of-parts, fault-on, read-on}
use Rattle.tv_class_parts.proofs.read.read_class.Goals as goal

pub product_of-requires-clause-lines : goal.product_of-requires-clause-lines
product_of-requires-clause-lines g c =
    rw c.entries.ensures.value
    (table-lengths g.way c.args.class.now c.args.base c.args.degree c.args.end c.args.lines.now c.args.series.now c.requires)

pub product_of-requires-clause-some : goal.product_of-requires-clause-some
product_of-requires-clause-some g c =
    rw c.entries.ensures.value
    (table-parts g.way c.args.class.now c.args.base c.args.degree c.args.end c.args.lines.now c.args.series.now c.requires)

pub product_of-requires-clause-positive : goal.product_of-requires-clause-positive
product_of-requires-clause-positive g c =
    degree-up g.way c.args.class.now c.args.base c.args.degree c.args.end c.args.lines.now c.args.series.now c.requires

pub product_of-requires-clause-exact : goal.product_of-requires-clause-exact
product_of-requires-clause-exact g c =
    rw c.entries.ensures.value
    (parts-exact g.way c.args.class.now c.args.base c.args.degree c.args.end c.args.lines.now c.args.series.now c.requires)

pub returns-in-Ok-class_numbers-clause-value : goal.returns-in-Ok-class_numbers-clause-value
returns-in-Ok-class_numbers-clause-value g c =
    read-on g.way c.args.class.now c.args.base c.args.degree c.args.end c.args.lines.now c.args.series.now c.requires
    c.in-Ok.product.items (rw c.entries.ensures.value at c.in-Ok.ensures.value)
    c.in-Ok-class_numbers.numbers.values.items c.in-Ok-class_numbers.numbers.row.items c.in-Ok-class_numbers.numbers.powers.items
    c.new.result (rw c.deref.ensures.value at c.in-Ok-class_numbers.ensures.value)
    (rw c.in_ok-copy-in-Ok-class_numbers.ensures.value at c.new.ensures.value)

pub returns-in-Ok-clause-fault : goal.returns-in-Ok-clause-fault
returns-in-Ok-clause-fault g c =
    fault-on g.way c.args.class.now c.args.base c.args.degree c.args.end c.args.lines.now c.args.series.now c.requires
    c.in-Ok.product.items (rw c.entries.ensures.value at c.in-Ok.ensures.value) c.in-Err-class_numbers.fault
    (rw c.deref.ensures.value at c.in-Err-class_numbers.ensures.fault)

pub returns-clause-fault : goal.returns-clause-fault
returns-clause-fault g c =
    rw c.fault_of_row.ensures.value
    (fault-of-parts g.way c.args.class.now c.args.base c.args.degree c.args.end c.args.lines.now c.args.series.now c.requires
    c.in-Err.fault (rw c.entries.ensures.value at c.in-Err.ensures.wide))
