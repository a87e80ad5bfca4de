use Rattle.std.proofs.Common.{w64, arith}
use Rattle.std.proofs.lemmas.Int.{ints, to_z-of_z}
use Rattle.tv_assigned_series.proofs.Entries.{product-bound}
use Rattle.tv_assigned_series.proofs.class.product.Goals as goal

pub returns-clause-bound : goal.returns-clause-bound
returns-clause-bound c = rw (to_z-of_z w64 c.args.entry c.ranges.entry) (product-bound c.args.size c.from.result c.args.entry (omega (arith, ints)) (omega arith) (omega (arith, ints)))
