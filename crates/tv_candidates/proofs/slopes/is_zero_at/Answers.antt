use Rattle.std.proofs.Common.{◌≡◌, refl, w64, sym, ◌∙◌, arith}
use Rattle.std.proofs.lemmas.Int.{ints, to_z-of_z}
use Rattle.std.proofs.lemmas.Bool.Decides.{nat_tests}
use Rattle.tv_ring.specs.Whole.{wholes}
use Rattle.tv_spec_series.specs.Families.{coefficient}
use Rattle.tv_laurent.specs.declared.coefficient.Coefficient.TheVariants.{Is}
use Rattle.tv_graded.proofs.Told.{coefficient_told}
use Rattle.tv_candidates.proofs.Depths.{told_none}
use Rattle.tv_candidates.proofs.slopes.is_zero_at.Goals as goal

pub returns-in-Is : goal.returns-in-Is
returns-in-Is c =
    let exponent = to_z-of_z w64 c.args.exponent c.ranges.exponent in
    let told = rw exponent at c.in-Is.ensures.told in
    let same : coefficient wholes c.args.series.now c.args.exponent ≡ c.get.result =
    coefficient_told wholes c.args.series.now c.args.exponent (Is c.in-Is.whole) told ∙ sym c.get.ensures.value in
    rw same (record { value = (λ t. grind (arith, ints, nat_tests), λ z. grind (arith, ints, nat_tests)) })

pub returns-in_default : goal.returns-in_default
returns-in_default c =
    let exponent = to_z-of_z w64 c.args.exponent c.ranges.exponent in
    let told = rw exponent at c.coefficient.ensures.told in
    record { value = (λ t. told_none c.args.series.now c.args.exponent c.coefficient.result told c.in_default.not-Is, λ z. refl) }
