use Rattle.std.proofs.Common.{◌≡◌, true, sym, ◌∙◌}
use Rattle.tv_recurrence.specs.Products.{class_after}
use Rattle.tv_class_parts.proofs.Lookups.{found-here, found-later}
use Rattle.tv_class_parts.proofs.lookup.row_after.Goals as goal

pub returns-then-is_after : goal.returns-then-is_after
returns-then-is_after c =
    let v = class_after c.args.times c.args.class.now c.args.part.now in
    record {
      value =
          c.row.ensures.value ∙ found-here v c.args.lines.now c.loop-line.line-index c.line-item.result c.line-item.is
          c.loop-line-test.true c.loop-line.invariant (sym c.class.ensures.value ∙ c.is_after.ensures.value.0 c.if-is_after.true);
    }

pub loop-line-preserved : goal.loop-line-preserved
loop-line-preserved c =
    let v = class_after c.args.times c.args.class.now c.args.part.now in
    found-later v c.args.lines.now c.loop-line.line-index c.line-item.result c.line-item.is c.loop-line-test.true
    c.loop-line.invariant
    (λ e. let on : c.is_after.result ≡ true = c.is_after.ensures.value.1 (c.class.ensures.value ∙ e) in
    let off = c.if-is_after.false in cc)
