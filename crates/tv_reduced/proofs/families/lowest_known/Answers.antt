use Rattle.std.proofs.Common.{◌≤◌, length, ap, arith}
use Rattle.tv_spec_plane.specs.Web.{Web}
use Rattle.tv_reduced.proofs.LowestBound.{lowest-bound}
use Rattle.tv_reduced.proofs.families.lowest_known.Goals as goal

pub returns : goal.returns
returns c =
    let same = ap (λ (w : Web). length w.triangles) c.web.ensures.value in
    let listed = ap length c.triangles-few.ensures.value in
    let few : length c.args.web.now.triangles ≤ 128 = let bound = c.triangles-few.ensures.few in omega arith in
    lowest-bound c.args.web.now c.args.d c.known.ensures.coordinates c.known.ensures.rule c.known.ensures.graded few c.requires
