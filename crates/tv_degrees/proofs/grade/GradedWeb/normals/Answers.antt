use Rattle.std.proofs.Common.{ℤ, w64, subst, sym, arith}
use Rattle.std.proofs.lemmas.Int.{to_z-of_z}
use Rattle.tv_lattice.proofs.Sums.{small-fits, entry-fits}
use Rattle.tv_degrees.specs.Edges.{edge_at, IsNormalDegree}
use Rattle.tv_degrees.proofs.Bounds.{rule_at, normal_a-small, normal_b-small}
use Rattle.tv_degrees.proofs.grade.GradedWeb.normals.Goals as goal

pub returns-clause-first_small : goal.returns-clause-first_small
returns-clause-first_small c =
    let w = c.args.self.now in
    let small = normal_a-small w (edge_at w c.args.e) c.known.ensures.coordinates (rule_at w c.args.e c.requires c.known.ensures.rule) in
    let value = rw (to_z-of_z w64 c.ratio-ratio.result (small-fits c.ratio-ratio.result (omega arith)), c.ratio-ratio.ensures.value) at c.normal_a.ensures.value in
    rw (to_z-of_z w64 c.normal_a.result (entry-fits c.normal_a.result c.normal_a.ensures.limit)) (subst (λ (z : ℤ). IsNormalDegree z) (sym value) small)

pub returns-clause-second_small : goal.returns-clause-second_small
returns-clause-second_small c =
    let w = c.args.self.now in
    let small = normal_b-small w (edge_at w c.args.e) c.known.ensures.coordinates (rule_at w c.args.e c.requires c.known.ensures.rule) in
    let value = rw (to_z-of_z w64 c.ratio-ratio.result (small-fits c.ratio-ratio.result (omega arith)), c.ratio-ratio.ensures.value) at c.normal_b.ensures.value in
    rw (to_z-of_z w64 c.normal_b.result (entry-fits c.normal_b.result c.normal_b.ensures.limit)) (subst (λ (z : ℤ). IsNormalDegree z) (sym value) small)
