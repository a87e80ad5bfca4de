use Rattle.std.proofs.Common.{rules, w64, FitsSigned, arith}
use Rattle.std.proofs.lemmas.Int.{to_z-of_z}
use Rattle.tv_lattice.proofs.Sums.{small-fits}
use Rattle.tv_laws_edges.proofs.Rules.{edge_rule}
use Rattle.tv_degrees.proofs.relation.relation.Goals as goal

pub returns : goal.returns
returns c =
    let ratio = to_z-of_z w64 c.ratio-r.result (small-fits c.ratio-r.result (omega arith)) in
    let fits : FitsSigned w64 c.two_less.result = search rules in
    let two_less = rw (ratio, c.ratio-r.ensures.value) at c.two_less.ensures in
    rw (to_z-of_z w64 c.two_less.result fits, ratio, two_less, c.ratio-r.ensures.value) (edge_rule c.args.a c.args.b c.args.c c.args.d c.requires)
