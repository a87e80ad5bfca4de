use Rattle.std.proofs.Common.{◌≡◌, ◌≢◌, length, ap, subst, arith}
use Rattle.tv_spec_plane.specs.Web.{Web}
use Rattle.tv_lattice.specs.Limits.{IsWithinLimits}
use Rattle.tv_acceptance.proofs.Sound.{sound_or_low, unsound_heights}
use Rattle.tv_acceptance.proofs.acceptance.with_heights.Goals as goal

pub returns-then-len : goal.returns-then-len
returns-then-len c =
    let limits : IsWithinLimits c.args.file = subst IsWithinLimits c.file.view_is c.file.invariant in
    let heights : length c.file.inside.heights.items ≡ length c.args.file.heights = ap (λ (w : Web). length w.heights) c.file.view_is in
    let points : length c.file.inside.points.items ≡ length c.args.file.points = ap (λ (w : Web). length w.points) c.file.view_is in
    let again : c.len-then-len.result ≡ length c.args.file.heights = omega (arith, c.file.inside.heights.ok) in
    let other : length c.args.file.heights ≢ length c.args.file.points = λ e. c.if-len.true (omega (arith, c.file.inside.heights.ok, c.file.inside.points.ok)) in
    unsound_heights c.args.file c.args.triangulation c.len-then-len.result limits c.requires again other

pub returns : goal.returns
returns c =
    let limits : IsWithinLimits c.args.file = subst IsWithinLimits c.file.view_is c.file.invariant in
    let heights : length c.file.inside.heights.items ≡ length c.args.file.heights = ap (λ (w : Web). length w.heights) c.file.view_is in
    let points : length c.file.inside.points.items ≡ length c.args.file.points = ap (λ (w : Web). length w.points) c.file.view_is in
    let same : length c.args.file.heights ≡ length c.args.file.points = omega (arith, c.file.inside.heights.ok, c.file.inside.points.ok) in
    sound_or_low c.args.file c.args.triangulation c.file.inside.heights.items c.graded.result limits c.requires same (ap (λ (w : Web). w.heights) c.file.view_is) c.graded.ensures
