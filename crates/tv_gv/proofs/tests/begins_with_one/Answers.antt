use Rattle.std.proofs.Common.{refl, ◌∙◌, pos}
use Rattle.tv_gv.proofs.TestFamilies.{zero-first}
use Rattle.tv_gv.proofs.tests.begins_with_one.Goals as goal

pub returns-then-is_small-clause-unit : goal.returns-then-is_small-clause-unit
returns-then-is_small-clause-unit c =
    let f = c.args.family.now in
    λ holds. zero-first f.heights f.top f.upto f.rows c.in-Some.entry.class.now c.in-Some.entry.series.now
    c.known.ensures.family.rows c.in-Some.ensures.row (rw c.entries.ensures.value at c.if-is_small.ensures.small refl) (pos 0) ∙
    c.is_one.ensures.unit holds

pub returns-then-is_small-clause-none : goal.returns-then-is_small-clause-none
returns-then-is_small-clause-none c =
    let f = c.args.family.now in
    λ holds n other. zero-first f.heights f.top f.upto f.rows c.in-Some.entry.class.now c.in-Some.entry.series.now
    c.known.ensures.family.rows c.in-Some.ensures.row (rw c.entries.ensures.value at c.if-is_small.ensures.small refl) n ∙
    c.is_one.ensures.none holds n other
