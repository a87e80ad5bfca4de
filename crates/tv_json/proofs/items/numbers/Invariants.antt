use Rattle.std.proofs.Common.{◌≡◌, take}
use Rattle.std.specs.List.{AllByRecursion}
use Rattle.serde_json.specs.View.{items_view}
use Rattle.tv_spec_text.specs.Lines.{IsNumber}
use Rattle.tv_spec_json.specs.Files.{whole, items}
use Rattle.tv_json.proofs.items.numbers.Given as goal

abbrev pub invariant-loop-item : goal.invariant-loop-item
invariant-loop-item l = AllByRecursion IsNumber l.numbers.items × (items_view (take l.item-index l.item-items) ≡ items whole l.numbers.items)
