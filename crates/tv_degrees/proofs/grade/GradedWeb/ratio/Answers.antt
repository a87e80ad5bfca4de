use Rattle.std.proofs.Common.{List, sym, ap, ◌∙◌, get_or, w64, arith}
use Rattle.std.proofs.lemmas.Int.{to_z-of_z}
use Rattle.tv_spec_plane.specs.declared.records.CompactEdge.{CompactEdge}
use Rattle.tv_spec_plane.specs.Web.{Web, edge_ratio, no_edge}
use Rattle.tv_lattice.proofs.Sums.{small-fits}
use Rattle.tv_degrees.specs.Edges.{edge_at}
use Rattle.tv_degrees.proofs.Heights.{edge_ratio-heights}
use Rattle.tv_degrees.proofs.grade.GradedWeb.ratio.Goals as goal

pub returns-clause-value : goal.returns-clause-value
returns-clause-value c =
    let w = c.args.self.now in let edge = edge_at c.args.self.now c.args.e in
    rw (to_z-of_z w64 c.edge_ratio.result (small-fits c.edge_ratio.result (omega arith))) (c.edge_ratio.ensures.value
    ∙ ap (λ (es : List CompactEdge). edge_ratio c.web.result.now (get_or es c.args.e no_edge)) c.compact.ensures.value
    ∙ sym (edge_ratio-heights c.web.result.now w.heights edge)
    ∙ ap (λ (v : Web). edge_ratio v edge) c.web.ensures.value)
