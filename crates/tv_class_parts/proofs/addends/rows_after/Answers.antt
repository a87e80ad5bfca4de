use Rattle.std.proofs.Common.{◌≡◌, ◌+◌, suc, ap, ◌∙◌, arith}
use Rattle.tv_recurrence.specs.Products.{class_after}
use Rattle.tv_class_parts.specs.ReadClasses.{find_row}
use Rattle.tv_class_parts.proofs.Lookups.{rows-none, rows-more}
use Rattle.tv_class_parts.proofs.addends.rows_after.Goals as goal

pub loop-times-init : goal.loop-times-init
loop-times-init c =
    rows-none (λ row. row.now) (λ j. find_row (class_after (suc j) c.args.class.now c.args.part.now) c.args.lines.now)
    c.new-rows.result.items c.new-rows.ensures.items

pub loop-times-preserved : goal.loop-times-preserved
loop-times-preserved c =
    let n = c.loop-times.times in
    let one : n + 1 ≡ suc n = omega arith in
    rows-more (λ row. row.now) (λ j. find_row (class_after (suc j) c.args.class.now c.args.part.now) c.args.lines.now) n
    c.loop-times.rows.items _ c.row_after.result c.loop-times.invariant c.in_ok-push.ensures.items
    (c.row_after.ensures.value ∙ ap (λ k. find_row (class_after k c.args.class.now c.args.part.now) c.args.lines.now) one)
