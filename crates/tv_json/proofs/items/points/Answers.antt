use Rattle.std.proofs.Common.{◌≡◌, ◌+◌, ◌∙◌, List, ap, subst, sym, take, Some}
use Rattle.std.specs.List.{AllByRecursion}
use Rattle.serde_json.specs.Find.{as_array}
use Rattle.serde_json.specs.View.{view, items_view}
use Rattle.tv_spec_plane.specs.declared.records.RawPoint.{RawPoint}
use Rattle.tv_lattice.proofs.Each.{each_push}
use Rattle.tv_spec_text.specs.Files.{PointFits}
use Rattle.tv_spec_json.specs.Files.{point_value, items}
use Rattle.tv_json.proofs.Arrays.{other_item, items-more, whole-array}
use Rattle.tv_json.proofs.items.points.Goals as goal

pub returns-in-None : goal.returns-in-None
returns-in-None c =
    let read : Some (items_view c.deref-item-items.result.now) ≡ as_array (view c.args.value.now) = ap (λ vs. Some (items_view vs)) c.deref-item-items.ensures.value ∙ c.in-Some.ensures in
    other_item point_value PointFits (view c.args.value.now) c.deref-item-items.result.now c.loop-item.item-index c.item-item.result read c.loop-item-test.true (λ p h e. c.in-None.ensures p h (subst (λ v. view v ≡ point_value p) (sym c.item-item.is) e))

pub loop-item-preserved : goal.loop-item-preserved
loop-item-preserved c =
    let p = c.in-Some-point.p in
    let here = c.in-Some-point.ensures in
    let seen = subst (λ v. view v ≡ point_value p) c.item-item.is here.1 in
    subst (λ (ps : List RawPoint). AllByRecursion PointFits ps × (items_view (take (c.loop-item.item-index + 1) c.deref-item-items.result.now) ≡ items point_value ps)) (sym c.in_ok-push-in-Some-point.ensures.items) (
      each_push PointFits _ p c.loop-item.invariant.0 here.0,
      items-more point_value c.deref-item-items.result.now c.loop-item.points.items c.loop-item.item-index _ p c.loop-item.invariant.1 c.loop-item-test.true seen,
    )

pub returns : goal.returns
returns c =
    let read : Some (items_view c.deref-item-items.result.now) ≡ as_array (view c.args.value.now) = ap (λ vs. Some (items_view vs)) c.deref-item-items.ensures.value ∙ c.in-Some.ensures in
    (c.loop-item.invariant.0, whole-array point_value (view c.args.value.now) c.deref-item-items.result.now c.loop-item.points.items c.loop-item.item-index read c.loop-item-test.false c.loop-item.invariant.1)
