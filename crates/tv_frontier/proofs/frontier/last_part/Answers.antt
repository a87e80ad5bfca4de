use Rattle.std.proofs.Common.{◌≡◌, [], refl, sym, ap, subst, ◌∙◌, length, arith, w64, to_z, of_z}
use Rattle.std.proofs.lemmas.Int.{ints}
use Rattle.tv_spec_plane.specs.Web.{Web}
use Rattle.tv_spec_boxes.specs.Assignments.{no_legs}
use Rattle.tv_spec_series.specs.Families.{Family}
use Rattle.tv_spec_series.specs.Full.{IsFull}
use Rattle.tv_frontier.specs.Signs.{signed_family}
use Rattle.tv_frontier.specs.Rows.{IsPart}
use Rattle.std.specs.Prelude.{ℤ}
use Rattle.tv_frontier.specs.Bounds.{uptos, AllReach}
use Rattle.tv_frontier.proofs.Bounded.{reach-at}
use Rattle.tv_frontier.proofs.Next.{only-part, layer-read}
use Rattle.tv_frontier.proofs.WithSigns.{low-enough, full-family}
use Rattle.tv_frontier.proofs.frontier.last_part.Goals as goal

pub signed_part-requires-clause-heights : goal.signed_part-requires-clause-heights
signed_part-requires-clause-heights g c =
    let all : length c.triangles.result.now ≡ length c.args.web.now.triangles = ap length (c.triangles.ensures.value ∙ ap (λ (w : Web). w.triangles) c.web.ensures.value) in
    let part : IsPart g.C.Ring.IsValue g.C.Ring.ring c.args.web.now c.args.d (to_z w64 (of_z w64 c.args.n)) (length c.args.web.now.triangles) [] c.index.result.now =
    only-part g.C.Ring.ring c.args.web.now c.args.d (to_z w64 (of_z w64 c.args.n)) (length c.triangles.result.now) c.in_ok-layer.layer.keys.items c.in_ok-layer.layer.parts.items c.index.result.now all c.in_ok-layer.ensures.layer c.index.ensures in
    part.shape.heights

pub signed_part-requires-clause-low : goal.signed_part-requires-clause-low
signed_part-requires-clause-low g c =
    let all : length c.triangles.result.now ≡ length c.args.web.now.triangles = ap length (c.triangles.ensures.value ∙ ap (λ (w : Web). w.triangles) c.web.ensures.value) in
    let part : IsPart g.C.Ring.IsValue g.C.Ring.ring c.args.web.now c.args.d (to_z w64 (of_z w64 c.args.n)) (length c.args.web.now.triangles) [] c.index.result.now =
    only-part g.C.Ring.ring c.args.web.now c.args.d (to_z w64 (of_z w64 c.args.n)) (length c.triangles.result.now) c.in_ok-layer.layer.keys.items c.in_ok-layer.layer.parts.items c.index.result.now all c.in_ok-layer.ensures.layer c.index.ensures in
    low-enough g.C.Ring.ring c.args.web.now c.args.d (to_z w64 (of_z w64 c.args.n)) c.in_ok-floor.floor c.in_ok-floor.upto (length c.args.web.now.triangles) [] c.index.result.now c.in_ok-floor.ensures part

pub returns-clause-full : goal.returns-clause-full
returns-clause-full g c =
    let all : length c.triangles.result.now ≡ length c.args.web.now.triangles = ap length (c.triangles.ensures.value ∙ ap (λ (w : Web). w.triangles) c.web.ensures.value) in
    let read : to_z w64 (of_z w64 c.args.n) ≡ c.args.n = (let o = c.requires.order in omega (arith, ints)) in
    let part : IsPart g.C.Ring.IsValue g.C.Ring.ring c.args.web.now c.args.d c.args.n (length c.args.web.now.triangles) [] c.index.result.now =
    only-part g.C.Ring.ring c.args.web.now c.args.d c.args.n (length c.triangles.result.now) c.in_ok-layer.layer.keys.items c.in_ok-layer.layer.parts.items c.index.result.now all (layer-read g.C.Ring.ring c.args.web.now c.args.d (to_z w64 (of_z w64 c.args.n)) c.args.n (length c.triangles.result.now) (length c.triangles.result.now) c.in_ok-layer.layer.keys.items c.in_ok-layer.layer.parts.items read refl c.in_ok-layer.ensures.layer) c.index.ensures in
    let reach = reach-at c.args.n c.in_ok-layer.layer.parts.items 0 c.index.result.now (subst (λ (z : ℤ). AllReach z (uptos c.in_ok-layer.layer.parts.items)) read c.in_ok-layer.ensures.reach) (let e = c.len.ensures in let h = c.if-len-eq0.false in omega arith) c.index.ensures in
    let is : c.in_ok-family.family ≡ signed_family g.C.Ring.ring c.args.web.now.points c.args.n c.index.result.now = (c.in_ok-family.ensures.value ∙ ap (λ m. signed_family g.C.Ring.ring c.args.web.now.points m c.index.result.now) read) in
    subst (λ (z : Family _). IsFull g.C.Ring.ring c.args.web.now (no_legs c.args.web.now) c.args.d c.args.n z) (sym is)
    (full-family g.met.C.Ring.laws c.args.web.now c.args.d c.args.n c.index.result.now c.known.ensures.graded c.known.ensures.rule part reach)
