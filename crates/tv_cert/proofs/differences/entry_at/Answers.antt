use Rattle.std.proofs.Common.{◌*ℤ◌, unsigned_abs, w64, ap, ◌∙◌}
use Rattle.std.proofs.lemmas.Int.{to_z-of_z}
use Rattle.tv_ring.specs.Whole.{wholes}
use Rattle.tv_laws_series.proofs.Listed.{at_read}
use Rattle.tv_spec_katz.specs.Binomials.{power_sign}
use Rattle.tv_cert.proofs.differences.entry_at.Goals as goal

pub returns : goal.returns
returns c =
    let read = at_read wholes c.args.row.now c.args.weight c.index-row-weight.result c.index-row-weight.is c.requires.within in
    let exponent = to_z-of_z w64 c.args.exponent c.ranges.exponent in
    let size = rw exponent at c.unsigned_abs.ensures.value in
    record {
      value =
          c.signed.ensures.value ∙
          (ap (λ m. power_sign m *ℤ c.index-row-weight.result) size ∙ ap (λ x. power_sign (unsigned_abs c.args.exponent) *ℤ x) read);
    }
