use Rattle.std.proofs.Common.{◌∙◌, sym}
use Rattle.tv_triangulation.proofs.SegmentTests.{list_any-among, among-list_any}
use Rattle.tv_triangulation.proofs.edges.contains.Goals as goal

pub returns : goal.returns
returns c =
    let s = c.args.s in let xs = c.args.segments.now in
    (λ h. list_any-among s xs (sym c.has.ensures ∙ h), λ among. c.has.ensures ∙ among-list_any s xs among)
