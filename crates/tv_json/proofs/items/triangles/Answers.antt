use Rattle.std.proofs.Common.{◌≡◌, ◌+◌, ◌∙◌, List, ap, subst, sym, take, Some}
use Rattle.std.specs.List.{AllByRecursion}
use Rattle.serde_json.specs.Find.{as_array}
use Rattle.serde_json.specs.View.{view, items_view}
use Rattle.tv_spec_plane.specs.declared.records.Triple.{Triple}
use Rattle.tv_lattice.proofs.Each.{each_push}
use Rattle.tv_spec_text.specs.Files.{TriangleFits}
use Rattle.tv_spec_json.specs.Files.{triangle_value, items}
use Rattle.tv_json.proofs.Arrays.{other_item, items-more, whole-array}
use Rattle.tv_json.proofs.items.triangles.Goals as goal

pub returns-in-None : goal.returns-in-None
returns-in-None c =
    let read : Some (items_view c.deref-item-items.result.now) ≡ as_array (view c.args.value.now) = ap (λ vs. Some (items_view vs)) c.deref-item-items.ensures.value ∙ c.in-Some.ensures in
    other_item triangle_value TriangleFits (view c.args.value.now) c.deref-item-items.result.now c.loop-item.item-index c.item-item.result read c.loop-item-test.true (λ t h e. c.in-None.ensures t h (subst (λ v. view v ≡ triangle_value t) (sym c.item-item.is) e))

pub loop-item-preserved : goal.loop-item-preserved
loop-item-preserved c =
    let t = c.in-Some-triangle.t in
    let here = c.in-Some-triangle.ensures in
    let seen = subst (λ v. view v ≡ triangle_value t) c.item-item.is here.1 in
    subst (λ (ts : List Triple). AllByRecursion TriangleFits ts × (items_view (take (c.loop-item.item-index + 1) c.deref-item-items.result.now) ≡ items triangle_value ts)) (sym c.in_ok-push-in-Some-triangle.ensures.items) (
      each_push TriangleFits _ t c.loop-item.invariant.0 here.0,
      items-more triangle_value c.deref-item-items.result.now c.loop-item.triangles.items c.loop-item.item-index _ t c.loop-item.invariant.1 c.loop-item-test.true seen,
    )

pub returns : goal.returns
returns c =
    let read : Some (items_view c.deref-item-items.result.now) ≡ as_array (view c.args.value.now) = ap (λ vs. Some (items_view vs)) c.deref-item-items.ensures.value ∙ c.in-Some.ensures in
    (c.loop-item.invariant.0, whole-array triangle_value (view c.args.value.now) c.deref-item-items.result.now c.loop-item.triangles.items c.loop-item.item-index read c.loop-item-test.false c.loop-item.invariant.1)
