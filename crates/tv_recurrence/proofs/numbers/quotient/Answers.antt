use Rattle.std.proofs.Common.{◌∙◌, ◌≡◌, ◌*ℤ◌, ap, arith, pos, int_div, FitsSigned}
use Rattle.std.specs.Int.{w128}
use Rattle.std.proofs.lemmas.Int.{ints, quot_is, quot_fits, fits_signed_from_abs}
use Rattle.tv_recurrence.proofs.ExactQuotients.{quotient-exact}
use Rattle.tv_recurrence.proofs.numbers.quotient.Goals as goal

pub returns : goal.returns
returns c =
    let a = c.get.result in let d = c.args.divisor in
    let fits : FitsSigned w128 a = fits_signed_from_abs w128 a (omega (arith, c.get.ensures.range)) in
    let fits_too : FitsSigned w128 (pos d) = fits_signed_from_abs w128 (pos d) (omega (arith, c.ranges.divisor.fits)) in
    let q : c.in-Some.quotient ≡ int_div a (pos d) =
    c.in-Some.ensures.value ∙
    quot_is w128 a (pos d) fits fits_too (quot_fits w128 a (pos d) fits (omega (arith, ints))) in
    record {
      value = ap (λ z. pos d *ℤ z) q ∙
          (rw c.get.ensures.value (quotient-exact d c.args.number c.requires.positive c.requires.exact));
    }
