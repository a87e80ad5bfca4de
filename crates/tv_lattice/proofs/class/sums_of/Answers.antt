use Rattle.std.proofs.Common.{◌++◌, w64, ◌∙◌, ap, arith}
use Rattle.std.proofs.lemmas.Int.{to_z-of_z}
use Rattle.tv_lattice.proofs.Sums.{sums_from, sums_from-first, sums_from-next, sums_from-end, small-fits, entry-fits}
use Rattle.tv_lattice.proofs.class.sums_of.Goals as goal

pub loop-k-init : goal.loop-k-init
loop-k-init c = ap (λ done. done ++ sums_from c.args.first.now c.args.second.now 0) c.new-sums.ensures.items ∙ sums_from-first c.args.first.now c.args.second.now

pub loop-k-preserved : goal.loop-k-preserved
loop-k-preserved c =
    let first = to_z-of_z w64 c.entry_at.result (entry-fits c.entry_at.result c.entry_at.ensures.limit) in
    let second = to_z-of_z w64 c.entry_at-in-loop-k.result (entry-fits c.entry_at-in-loop-k.result c.entry_at-in-loop-k.ensures.limit) in
    let value = rw (first, second, c.entry_at.ensures.value, c.entry_at-in-loop-k.ensures.value) at c.sum.ensures.value in
    let fits = small-fits c.sum.result (omega arith) in
    let pushed = rw (to_z-of_z w64 c.sum.result fits, value) at c.in_ok-push.ensures.items in
    sums_from-next c.args.first.now c.args.second.now c.loop-k.k c.loop-k.sums.items c.push.new.self.items _ c.loop-k-test.true (omega arith) pushed c.loop-k.invariant

pub returns : goal.returns
returns c = sums_from-end c.args.first.now c.args.second.now c.loop-k.k _ _ c.loop-k-test.false (omega arith) c.loop-k.invariant
