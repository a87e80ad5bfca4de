use Rattle.std.proofs.Common.{sym, ◌∙◌, arith}
use Rattle.tv_images.proofs.Rows.{rows-ended}
use Rattle.tv_images.proofs.order.rows_before.Goals as goal

pub returns : goal.returns
returns c = sym (rows-ended c.args.first.now c.args.second.now c.loop-i.i (omega arith) (omega arith) c.loop-i.invariant.1) ∙ c.loop-i.invariant.0
