use Rattle.std.proofs.Common.{◌≡◌, drop}
use Rattle.tv_recurrence.specs.Products.{class_after}
use Rattle.tv_class_parts.specs.ReadClasses.{find_row}
use Rattle.tv_class_parts.proofs.lookup.row_after.Given as goal

abbrev pub invariant-loop-line : goal.invariant-loop-line
invariant-loop-line l =
    let v = class_after l.times l.class l.part in find_row v l.lines ≡ find_row v (drop l.line-index l.lines)
