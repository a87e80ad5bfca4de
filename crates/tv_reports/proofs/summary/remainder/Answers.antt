use Rattle.std.proofs.Common.{◌≡◌, arith}
use Rattle.std.specs.Prelude.{pos}
use Rattle.std.specs.Int.{w128, int_rem_euclid}
use Rattle.std.proofs.lemmas.Int.{ints, to_z-of_z, fits_signed_from_abs}
use Rattle.tv_reports.proofs.Remainders.{euclid_remainder}
use Rattle.tv_reports.proofs.summary.remainder.Goals as goal

pub returns : goal.returns
returns c =
    let value : c.rem_euclid.result ≡ int_rem_euclid c.args.coefficient (pos 1000000007) = rw (to_z-of_z w128 c.args.coefficient c.ranges.coefficient) at c.rem_euclid.ensures.value in
    let low = c.rem_euclid.ensures.lower_bound in
    let high = c.rem_euclid.ensures.upper_bound in
    rw (to_z-of_z w128 c.rem_euclid.result (fits_signed_from_abs w128 c.rem_euclid.result (omega (arith, ints)))) (euclid_remainder c.args.coefficient c.rem_euclid.result value)
