use Rattle.std.proofs.Common.{w64, sym, ◌∙◌}
use Rattle.std.proofs.lemmas.Int.{to_z-of_z}
use Rattle.tv_ring.specs.Whole.{wholes}
use Rattle.tv_laurent.specs.declared.coefficient.Coefficient.TheVariants.{Is}
use Rattle.tv_graded.proofs.Told.{coefficient_told}
use Rattle.tv_candidates.proofs.Depths.{told_none}
use Rattle.tv_cert.proofs.differences.coefficient_at.Goals as goal

pub returns-in-Is : goal.returns-in-Is
returns-in-Is c =
    let exponent = to_z-of_z w64 c.args.exponent c.ranges.exponent in
    let told = rw exponent at c.in-Is.ensures.told in
    record { value = sym (coefficient_told wholes c.args.series.now c.args.exponent (Is c.in-Is.whole) told) }

pub returns-in_default : goal.returns-in_default
returns-in_default c =
    let exponent = to_z-of_z w64 c.args.exponent c.ranges.exponent in
    let told = rw exponent at c.coefficient.ensures.told in
    record {
      value =
          c.whole.ensures.value ∙
          sym (told_none c.args.series.now c.args.exponent c.coefficient.result told c.in_default.not-Is);
    }
