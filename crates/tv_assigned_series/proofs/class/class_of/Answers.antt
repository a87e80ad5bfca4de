use Rattle.std.proofs.Common.{◌∙◌, length, ap, w64, arith}
use Rattle.std.proofs.lemmas.Int.{to_z-of_z}
use Rattle.tv_lattice.proofs.Sums.{small-fits}
use Rattle.tv_assigned_series.proofs.Entries.{written-next, written-last, written-entries}
use Rattle.tv_assigned_series.proofs.class.class_of.Goals as goal

pub loop-k-preserved : goal.loop-k-preserved
loop-k-preserved c =
    let pushed = rw (to_z-of_z w64 c.entry_of.result (small-fits c.entry_of.result (omega (arith, c.entry_of.ensures.bound)))) at c.in_ok-push.ensures.items in
    let same = ap length c.heights-k-end.ensures.value in let each = c.heights-k-end.ensures.one_each.one_each in
    written-next c.args.web.now c.args.assignment.now c.loop-k.k c.loop-k.entries.items c.push.new.self.items c.entry_of.result (omega arith) c.entry_of.ensures.value c.entry_of.ensures.bound pushed c.loop-k.invariant

pub new-requires : goal.new-requires
new-requires c =
    let same = ap length c.heights-k-end.ensures.value in let each = c.heights-k-end.ensures.one_each.one_each in
    written-entries c.args.web.now c.args.assignment.now c.loop-k.k c.loop-k.entries.items c.heights-k-end.ensures.one_each.few (omega arith) c.loop-k.invariant

pub returns : goal.returns
returns c =
    let same = ap length c.heights-k-end.ensures.value in let each = c.heights-k-end.ensures.one_each.one_each in
    c.new.ensures ∙ written-last c.args.web.now c.args.assignment.now c.loop-k.k c.loop-k.entries.items (omega arith) c.loop-k.invariant
