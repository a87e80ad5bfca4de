use Rattle.std.proofs.Common.{◌∙◌, ap, ◌∷◌, [], ◌++◌}
use Rattle.tv_partition.proofs.Flip.{flip-next}
use Rattle.tv_partition.proofs.shape.flipped.Goals as goal

pub loop-j-preserved : goal.loop-j-preserved
loop-j-preserved c =
    flip-next c.args.rows.now c.push.new.self.items c.loop-j.columns.items _ c.loop-j.j c.row-j-end.result c.loop-j-test.true
    (c.in_ok-push.ensures.items ∙ ap (λ n. c.loop-j.columns.items ++ n ∷ []) c.column.ensures.value) c.loop-j.invariant
