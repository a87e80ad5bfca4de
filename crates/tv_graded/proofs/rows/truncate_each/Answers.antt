use Rattle.std.proofs.Common.{◌<◌, length, sym, ap, ◌∙◌, arith, w64, to_z, of_z, add-one}
use Rattle.tv_spec_series.specs.Families.{cut_row}
use Rattle.tv_graded.proofs.Mapped.{mapped_next}
use Rattle.tv_graded.proofs.rows.truncate_each.Goals as goal

pub loop-row-preserved : goal.loop-row-preserved
loop-row-preserved g c =
    let rows = c.args.rows.now in let i = c.loop-row.row-index in
    let within : i < length rows = omega arith in
    rw (c.loop-row.invariant, add-one) (mapped_next (cut_row (to_z w64 (of_z w64 c.args.upto))) rows i c.row-item.result c.truncate.new.self within (rw c.loop-row.invariant at c.row-item.is) (c.truncate.ensures.value ∙ ap (cut_row (to_z w64 (of_z w64 c.args.upto))) (sym c.row-item.is)))
