use Rattle.std.proofs.Common.{rules, refl, pos, ◌+ℤ◌, ◌-ℤ◌, unsigned_abs, w64, SFits, to_z, arith}
use Rattle.std.proofs.lemmas.Int.{ints, to_z-of_z}
use Rattle.tv_lattice.proofs.Sums.{small-fits}
use Rattle.tv_ring.specs.Whole.{wholes}
use Rattle.tv_laws_series.specs.Terms.{upto}
use Rattle.tv_laws_series.proofs.Coefficients.{coefficient_below}
use Rattle.tv_candidates.proofs.Depths.{nought_next, depth_end, depth_here}
use Rattle.tv_candidates.proofs.slopes.depth_of.Goals as goal

pub loop-exponent-init : goal.loop-exponent-init
loop-exponent-init c =
    let fits : SFits w64 c.low-exponent.result = search rules in
    rw (to_z-of_z w64 c.low-exponent.result fits, c.low-exponent.ensures.value)
    (record { low = omega (arith, ints); none = λ n h. coefficient_below wholes c.args.series.now n h })

pub loop-exponent-preserved : goal.loop-exponent-preserved
loop-exponent-preserved c =
    let e = to_z w64 c.loop-exponent.exponent-bits in
    let fits : SFits w64 c.min-exponent-end.result = search rules in
    let test = rw (to_z-of_z w64 c.min-exponent-end.result fits) at c.loop-exponent-test.true in
    let end = c.min-exponent-end.ensures.other_bound in
    let bound = c.known.ensures.value.bounded.low in
    let low = c.loop-exponent.invariant.low in
    let zero = c.if-not-is_zero_at.ensures.value.0 refl in
    let next = to_z-of_z w64 (e +ℤ pos 1) (small-fits (e +ℤ pos 1) (omega (arith, ints))) in
    rw next (record { low = omega (arith, ints); none = nought_next c.args.series.now e c.loop-exponent.invariant.none zero })

pub returns-then-not-is_zero_at-clause-value : goal.returns-then-not-is_zero_at-clause-value
returns-then-not-is_zero_at-clause-value c =
    let e = to_z w64 c.loop-exponent.exponent-bits in
    let fits : SFits w64 c.min-exponent-end.result = search rules in
    let test = rw (to_z-of_z w64 c.min-exponent-end.result fits) at c.loop-exponent-test.true in
    let end = c.min-exponent-end.ensures.other_bound in
    let bound = c.known.ensures.value.bounded.low in
    let low = c.loop-exponent.invariant.low in
    let opposite = to_z-of_z w64 (pos 0 -ℤ e) (small-fits (pos 0 -ℤ e) (omega (arith, ints))) in
    rw opposite (depth_here c.args.series.now e (unsigned_abs (pos 0 -ℤ e)) (omega (arith, ints)) c.loop-exponent.invariant.none
    (λ none. let same = c.if-not-is_zero_at.ensures.value.1 none in absurd (cc)))

pub returns : goal.returns
returns c =
    let e = to_z w64 c.loop-exponent.exponent-bits in
    let s = c.args.series.now in
    let bounded = c.known.ensures.value.bounded in
    let low = bounded.low in
    let high = bounded.upto in
    let fits : SFits w64 c.upto.result = search rules in
    let fits_end : SFits w64 c.min-exponent-end.result = search rules in
    let upto_is = c.upto.ensures.value in
    let next = to_z-of_z w64 (upto s +ℤ pos 1) (small-fits (upto s +ℤ pos 1) (omega (arith, ints))) in
    let end = rw (to_z-of_z w64 c.upto.result fits, upto_is, next) at c.min-exponent-end.ensures.value in
    let test = rw (to_z-of_z w64 c.min-exponent-end.result fits_end) at c.loop-exponent-test.false in
    record {
      value = depth_end s e c.min-exponent-end.result end (omega (arith, ints)) c.loop-exponent.invariant.none;
      small = omega arith;
    }
