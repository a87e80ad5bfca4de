use Rattle.std.proofs.Common.{◌∙◌, ap, sym, w64}
use Rattle.std.proofs.lemmas.Int.{to_z-of_z}
use Rattle.tv_ring.specs.Residue.{residues}
use Rattle.tv_laws_series.proofs.Coefficients.{coefficient_below, coefficient_at, coefficient_beyond}
use Rattle.tv_spec_series.specs.Families.{coefficient}
use Rattle.tv_reports.proofs.residues.remainder_at.Goals as goal

pub returns-in-Is : goal.returns-in-Is
returns-in-Is g c =
    let told = c.in-Is.ensures.told in
    c.get.ensures.value ∙ told.2 ∙ sym (coefficient_at (residues g.row.M) c.args.series.now _ told.0) ∙ ap (coefficient (residues g.row.M) c.args.series.now) (to_z-of_z w64 c.args.n c.ranges.n)

pub returns-in-Zero : goal.returns-in-Zero
returns-in-Zero g c =
    sym (coefficient_below (residues g.row.M) c.args.series.now _ c.in-Zero.ensures.told.0) ∙ ap (coefficient (residues g.row.M) c.args.series.now) (to_z-of_z w64 c.args.n c.ranges.n)

pub returns-in-Beyond : goal.returns-in-Beyond
returns-in-Beyond g c =
    sym (coefficient_beyond (residues g.row.M) c.args.series.now _ c.in-Beyond.ensures.told) ∙ ap (coefficient (residues g.row.M) c.args.series.now) (to_z-of_z w64 c.args.n c.ranges.n)
