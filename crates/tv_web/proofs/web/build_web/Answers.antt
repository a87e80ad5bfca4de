use Rattle.std.proofs.Common.{◌≡◌, ◌≤◌, List, sym, subst, ap, ◌∙◌, length, map, arith}
use Rattle.tv_spec_plane.specs.declared.records.Triple.{Triple}
use Rattle.tv_spec_plane.specs.Plane.{Point}
use Rattle.tv_web.specs.Edges.{gathered, compact_row, outer_row}
use Rattle.tv_web.specs.Corners.{corner_in}
use Rattle.tv_web.specs.Built.{bare_web, IsRuled}
use Rattle.tv_web.proofs.Lists.{compact-is, outer-is, corners-is, compact-few, outer-few}
use Rattle.tv_web.proofs.Ruled.{triangulated-ruled}
use Rattle.tv_web.proofs.web.build_web.Goals as goal

pub corners_of-requires-clause-few_compact : goal.corners_of-requires-clause-few_compact
corners_of-requires-clause-few_compact c =
    let few : c.len.result ≤ 64 = omega (arith, c.known.ensures.few.points, ap length c.into_parts-points.ensures.points) in
    omega (arith, compact-few c.deref.result.now c.len.result few, ap length c.in_ok-compact.ensures.compact, ap length c.deref-3.ensures.value)

pub corners_of-requires-clause-few_outer : goal.corners_of-requires-clause-few_outer
corners_of-requires-clause-few_outer c =
    let few : c.len.result ≤ 64 = omega (arith, c.known.ensures.few.points, ap length c.into_parts-points.ensures.points) in
    omega (arith, outer-few c.deref.result.now c.len.result few, ap length c.in_ok-compact.ensures.outer, ap length c.deref-4.ensures.value)

pub invariant_of-result : goal.invariant_of-result
invariant_of-result c =
    let ps = c.into_parts-points.result.0.items in let ts = c.into_parts-points.result.1.items in
    let points = c.into_parts-points.ensures.points in let triangles = c.into_parts-points.ensures.triangles in
    let few_points : length ps ≤ 64 = omega (arith, c.known.ensures.few.points, ap length points) in
    let few_triangles : length ts ≤ 128 = omega (arith, c.known.ensures.few.triangles, ap length triangles) in
    let number : c.len.result ≡ length ps = omega arith in
    let compact = c.in_ok-compact.ensures.compact ∙ (ap (λ us. gathered (compact_row us c.len.result) 0 c.len.result) c.deref.ensures.value ∙ compact-is ps ts c.len.result number) in
    let outer = c.in_ok-compact.ensures.outer ∙ (ap (λ us. gathered (outer_row us c.len.result) 0 c.len.result) c.deref.ensures.value ∙ outer-is ps ts c.len.result number) in
    let corners = corners-is (bare_web ps ts) c.deref-3.result.now c.deref-4.result.now (c.deref-3.ensures.value ∙ compact) (c.deref-4.ensures.value ∙ outer) in
    let ruled = triangulated-ruled c.args.triangulation c.known.ensures.coordinates c.known.ensures.matched c.known.ensures.tiles in (
      record {
        few_points = few_points;
        few_triangles = few_triangles;
        few_compact = omega (arith, compact-few c.deref.result.now c.len.result (omega arith), ap length c.in_ok-compact.ensures.compact);
        few_outer = omega (arith, outer-few c.deref.result.now c.len.result (omega arith), ap length c.in_ok-compact.ensures.outer);
        compact_is = compact;
        outer_is = outer;
        corners_is = c.in_ok-corners.ensures ∙ (ap (map (corner_in c.deref-3.result.now c.deref-4.result.now)) c.deref-2.ensures.value ∙ corners);
      },
      subst (λ (us : List Triple). IsRuled (bare_web ps us)) (sym triangles) (subst (λ (qs : List Point). IsRuled (bare_web qs c.args.triangulation.triangles)) (sym points) ruled),
    )
