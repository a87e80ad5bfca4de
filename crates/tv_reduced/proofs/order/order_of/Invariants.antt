use Rattle.std.proofs.Common.{take}
use Rattle.tv_reduced.specs.Orders.{IsOrder}
use Rattle.tv_reduced.proofs.order.order_of.Given as goal

abbrev pub invariant-loop-k : goal.invariant-loop-k
invariant-loop-k g l = IsOrder l.n (take l.k l.family.rows) l.order
