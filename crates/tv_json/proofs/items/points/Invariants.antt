use Rattle.std.proofs.Common.{◌≡◌, take}
use Rattle.std.specs.List.{AllByRecursion}
use Rattle.serde_json.specs.View.{items_view}
use Rattle.tv_spec_text.specs.Files.{PointFits}
use Rattle.tv_spec_json.specs.Files.{point_value, items}
use Rattle.tv_json.proofs.items.points.Given as goal

abbrev pub invariant-loop-item : goal.invariant-loop-item
invariant-loop-item l = AllByRecursion PointFits l.points.items × (items_view (take l.item-index l.item-items) ≡ items point_value l.points.items)
