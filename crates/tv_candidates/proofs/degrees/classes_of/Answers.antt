use Rattle.tv_candidates.proofs.Adding.{classes-listed}
use Rattle.tv_candidates.proofs.degrees.classes_of.Goals as goal

pub loop-entry-init : goal.loop-entry-init
loop-entry-init c = record {
  can = tt;
  finite = tt;
  whole = rw (c.new-found.ensures.items, c.into_iter-entry-iterator.ensures.into_iter_gives, c.iter-entry-items.ensures.value)
      (classes-listed c.args.family.now.heights c.args.family.now.rows);
}
