use Rattle.std.proofs.Common.{◌≡◌, take}
use Rattle.std.specs.List.{AllByRecursion}
use Rattle.serde_json.specs.View.{items_view}
use Rattle.tv_spec_text.specs.Files.{TriangleFits}
use Rattle.tv_spec_json.specs.Files.{triangle_value, items}
use Rattle.tv_json.proofs.items.triangles.Given as goal

abbrev pub invariant-loop-item : goal.invariant-loop-item
invariant-loop-item l = AllByRecursion TriangleFits l.triangles.items × (items_view (take l.item-index l.item-items) ≡ items triangle_value l.triangles.items)
