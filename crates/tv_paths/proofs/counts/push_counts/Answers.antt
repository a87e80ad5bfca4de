use Rattle.tv_paths.proofs.Entries.{row-start, row-next}
use Rattle.tv_paths.proofs.counts.push_counts.Goals as goal

pub loop-cost-init : goal.loop-cost-init
loop-cost-init g c = row-start g.C.Ring.ring c.args.slice.now c.args.row.now c.args.all.now.items

pub loop-cost-preserved : goal.loop-cost-preserved
loop-cost-preserved g c = row-next g.C.Ring.ring c.args.slice.now c.args.row.now c.loop-cost.cost c.push_count.new.all.items c.loop-cost.all.items c.args.all.now.items c.in_ok-push_count.ensures.value c.loop-cost.invariant
