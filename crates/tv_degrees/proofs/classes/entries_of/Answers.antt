use Rattle.std.proofs.Common.{ℤ, w64, subst, ◌∙◌}
use Rattle.std.proofs.lemmas.Int.{to_z-of_z}
use Rattle.tv_lattice.specs.Classes.{IsEntry}
use Rattle.tv_lattice.proofs.Sums.{entry-fits}
use Rattle.tv_degrees.proofs.Entries.{entries_first, entries_next, entries_last}
use Rattle.tv_degrees.proofs.classes.entries_of.Goals as goal

pub loop-k-init : goal.loop-k-init
loop-k-init c = entries_first c.args.edge _ _ c.args.count _ c.new-entries.ensures.items

pub loop-k-preserved : goal.loop-k-preserved
loop-k-preserved c =
    let fits = entry-fits c.entry.result c.entry.ensures.limit in
    let pushed = rw (to_z-of_z w64 c.entry.result fits, c.entry.ensures.value) at c.in_ok-push.ensures.items in
    entries_next c.args.edge _ _ c.loop-k.k c.args.count c.loop-k.entries.items c.push.new.self.items c.loop-k-test.true (subst (λ (z : ℤ). IsEntry z) c.entry.ensures.value c.entry.ensures.limit) pushed c.loop-k.invariant

pub returns : goal.returns
returns c = rw (to_z-of_z w64 c.args.a c.ranges.a, to_z-of_z w64 c.args.b c.ranges.b) at (c.new.ensures ∙ entries_last c.args.edge _ _ c.loop-k.k c.args.count c.loop-k.entries.items c.loop-k-test.false c.loop-k.invariant)
