use Rattle.std.proofs.Common.{pos, ◌-ℤ◌, w64, arith}
use Rattle.std.proofs.lemmas.Int.{ints, to_z-of_z}
use Rattle.tv_lattice.proofs.Sums.{small-fits}
use Rattle.tv_ring.specs.Whole.{wholes}
use Rattle.tv_spec_series.specs.Families.{coefficient}
use Rattle.tv_class_integers.proofs.RowSteps.{row-more}
use Rattle.tv_gv.proofs.series.row_of.Goals as goal

pub loop-weight-preserved : goal.loop-weight-preserved
loop-weight-preserved c =
    let e = pos c.loop-weight.weight -ℤ pos c.args.base in
    let fits = to_z-of_z w64 e (small-fits e (omega (arith, ints))) in
    row-more (λ t. coefficient wholes c.args.series.now (pos t -ℤ pos c.args.base)) c.loop-weight.weight _ _ _
    c.loop-weight.invariant c.in_ok-push.ensures.items
    (rw (c.exponent_of.ensures.value, fits) at c.coefficient_at.ensures.value)
