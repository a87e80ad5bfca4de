use Rattle.std.proofs.Common.{rules, ap, ◌∙◌, length, w64, FitsSigned, arith}
use Rattle.std.proofs.lemmas.Int.{to_z-of_z}
use Rattle.tv_lattice.proofs.Sums.{small-fits, entry-fits}
use Rattle.tv_degrees.proofs.Entries.{edge_class-by}
use Rattle.tv_degrees.proofs.Heights.{edge_degree-heights}
use Rattle.tv_degrees.proofs.degrees.degree_of.Goals as goal

pub returns : goal.returns
returns c =
    let fits : FitsSigned w64 c.sum_of.result = search rules in
    let ratio = to_z-of_z w64 c.edge_ratio-ratio.result (small-fits c.edge_ratio-ratio.result (omega arith)) in
    let first = rw (ratio, c.edge_ratio-ratio.ensures.value) at c.normal_a.ensures.value in
    let second = rw (ratio, c.edge_ratio-ratio.ensures.value) at c.normal_b.ensures.value in
    let class = edge_class-by c.args.web.now c.args.edge c.normal_a.result c.normal_b.result (length c.points.result.now) first second (ap length c.points.ensures.value) in
    let sum = rw (to_z-of_z w64 c.normal_a.result (entry-fits c.normal_a.result c.normal_a.ensures.limit), to_z-of_z w64 c.normal_b.result (entry-fits c.normal_b.result c.normal_b.ensures.limit), class) at c.sum_of.ensures in
    rw (to_z-of_z w64 c.sum_of.result fits) (sum ∙ edge_degree-heights c.args.web.now c.args.heights.now c.args.edge)
