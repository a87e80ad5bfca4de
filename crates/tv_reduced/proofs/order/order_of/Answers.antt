use Rattle.std.proofs.Common.{◌≡◌, to_z, of_z, w64, arith}
use Rattle.std.specs.Int.{int_max}
use Rattle.std.proofs.lemmas.Int.{ints, clamps}
use Rattle.tv_reduced.proofs.Orders.{order_next, order_all}
use Rattle.tv_reduced.proofs.order.order_of.Goals as goal

pub loop-k-preserved : goal.loop-k-preserved
loop-k-preserved g c =
    let e : to_z w64 (of_z w64 c.max-order.result) ≡ int_max (to_z w64 c.loop-k.order-bits) c.distance.result = let is = c.max-order.ensures.value in omega (arith, ints, clamps) in
    order_next (to_z w64 (of_z w64 c.args.n)) (to_z w64 c.loop-k.order-bits) c.distance.result (to_z w64 (of_z w64 c.max-order.result)) c.args.family.now.rows c.loop-k.k (let k = c.len-k-end.ensures.value in omega arith) c.loop-k.invariant c.distance.ensures.value e

pub returns : goal.returns
returns g c = order_all c.args.n (to_z w64 (of_z w64 c.args.n)) (to_z w64 c.loop-k.order-bits) c.args.family.now.rows c.loop-k.k (omega (arith, ints)) (let k = c.len-k-end.ensures.value in omega arith) c.loop-k.invariant
