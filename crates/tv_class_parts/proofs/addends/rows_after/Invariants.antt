use Rattle.std.proofs.Common.{◌≡◌, map}
use Rattle.tv_class_parts.specs.ReadClasses.{part_rows}
use Rattle.tv_class_parts.proofs.addends.rows_after.Given as goal

abbrev pub invariant-loop-times : goal.invariant-loop-times
invariant-loop-times l = map (λ row. row.now) l.rows.items ≡ part_rows l.lines l.class l.part l.times
