use Rattle.tv_gv.specs.Progress.{way_at, IsReadTo}
use Rattle.tv_gv.proofs.extraction.read_classes.Given as goal

abbrev pub ghost-next_line : goal.ghost-next_line
ghost-next_line a = way_at a.reduced.now a.slope a.classes.now a.k a.integers.now.integers

abbrev pub invariant-loop-k : goal.invariant-loop-k
invariant-loop-k l = IsReadTo l.reduced l.slope l.classes l.k l.integers l.lines.items
