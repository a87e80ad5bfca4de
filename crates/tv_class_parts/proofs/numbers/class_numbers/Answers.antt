use Rattle.std.proofs.Common.{length}
use Rattle.tv_ring.specs.Whole.{wholes}
use Rattle.tv_ring.specs.Sums.{at}
use Rattle.tv_class_parts.proofs.NumbersRead.{fault-of-product}
use Rattle.tv_class_parts.proofs.numbers.class_numbers.Goals as goal

pub returns-in-Err-product_row-clause-fault : goal.returns-in-Err-product_row-clause-fault
returns-in-Err-product_row-clause-fault c =
    rw c.fault_of_row.ensures.value
    (fault-of-product c.args.base c.args.end (length c.args.product.now) (at wholes c.args.series.now)
    (at wholes c.args.product.now)
    c.in-Ok.reading.powers.items c.in-Ok.ensures.value.gathered c.in-Err-product_row.fault
    (rw c.deref.ensures.value at c.in-Err-product_row.ensures.wide))
