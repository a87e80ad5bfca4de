use Rattle.std.proofs.Common.{◌≤◌, ◌*◌, arith}
use Rattle.std.specs.Prelude.{unsigned_abs}
use Rattle.tv_partition.specs.Rows.{size}
use Rattle.tv_assignment.proofs.Bounded.{edge_cost-small, read_small, read_cells}
use Rattle.tv_assignment.proofs.costs.edge_cost.Goals as goal

pub returns-clause-bound : goal.returns-clause-bound
returns-clause-bound c =
    let rows = c.args.diagram.now in let small = c.known.ensures in
    let a = read_small c.normals-a.result.0 (omega (arith, c.normals-a.ensures.first_small)) in
    let b = read_small c.normals-a.result.1 (omega (arith, c.normals-a.ensures.second_small)) in
    let cost : unsigned_abs c.edge_cost.result ≤ size rows * 48001 =
    rw (c.edge_cost.ensures, a, b) (edge_cost-small rows c.normals-a.result.0 c.normals-a.result.1 small c.normals-a.ensures.first_small c.normals-a.ensures.second_small) in
    read_cells c.edge_cost.result (size rows) 48001 cost small.1 (omega arith)
