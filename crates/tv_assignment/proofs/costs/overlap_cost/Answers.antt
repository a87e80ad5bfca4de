use Rattle.std.proofs.Common.{arith}
use Rattle.std.proofs.lemmas.Int.{ints}
use Rattle.tv_assignment.proofs.Bounded.{overlap_cost-small, extent-small}
use Rattle.tv_assignment.proofs.costs.overlap_cost.Goals as goal

pub returns-clause-bound : goal.returns-clause-bound
returns-clause-bound c =
    let few = overlap_cost-small c.args.legs.now (extent-small c.args.legs.now c.known.ensures.along_x c.known.ensures.along_y c.known.ensures.along_z) in
    omega (arith, ints)
