use Rattle.std.proofs.Common.{w64, arith}
use Rattle.std.proofs.lemmas.Int.{to_z-of_z}
use Rattle.tv_lattice.proofs.Sums.{small-fits, entry-fits}
use Rattle.tv_class_assignments.proofs.Less.{less-next, less-end}
use Rattle.tv_class_assignments.proofs.remaining.less.Goals as goal

pub loop-k-preserved : goal.loop-k-preserved
loop-k-preserved c =
    let entry = to_z-of_z w64 c.entry_at.result (entry-fits c.entry_at.result c.entry_at.ensures.limit) in
    let value = rw (entry, c.entry_at.ensures.value) at c.less_at.ensures.value in
    let fits = small-fits c.less_at.result (omega arith) in
    let pushed = rw (to_z-of_z w64 c.less_at.result fits, value) at c.in_ok-push.ensures.items in
    less-next c.args.size c.args.class.now c.args.entries.now c.loop-k.k c.loop-k.rest.items c.push.new.self.items _ (omega arith) c.loop-k-test.true pushed c.loop-k.invariant

pub returns : goal.returns
returns c = less-end c.args.size c.args.class.now c.args.entries.now c.loop-k.k c.loop-k.rest.items _ (omega arith) c.loop-k.invariant
