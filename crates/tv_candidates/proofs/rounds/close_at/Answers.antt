use Rattle.std.proofs.Common.{◌≡◌, pos, ◌+ℤ◌, ◌-ℤ◌, ◌<ℤ◌, w64, to_z, arith}
use Rattle.std.proofs.lemmas.Int.{ints, to_z-of_z}
use Rattle.tv_lattice.proofs.Sums.{small-fits}
use Rattle.tv_candidates.proofs.Closed.{small_rows, new_places, round_first, round_small, round_next, round_last}
use Rattle.tv_candidates.proofs.rounds.close_at.Goals as goal

pub add_classes-requires-clause-places : goal.add_classes-requires-clause-places
add_classes-requires-clause-places c =
    let f = c.args.family.now in let closed = c.requires.closed in
    let degree = to_z-of_z w64 c.args.degree c.ranges.degree in
    rw (c.in_ok-classes.ensures.value, degree, closed.heights, closed.top)
    (new_places f c.args.degree (small_rows f c.known.ensures.family c.requires.small))

pub loop-first-init : goal.loop-first-init
loop-first-init c =
    let f = c.args.family.now in
    let degree = to_z-of_z w64 c.args.degree c.ranges.degree in
    let adds = rw (c.in_ok-classes.ensures.value, degree) at c.in_ok-add_classes.ensures.added in
    rw degree (record {
      least = omega (arith, ints);
      most = c.requires.positive;
      round = round_first f c.args.closed.now c.add_classes.new.family c.args.degree (small_rows f c.known.ensures.family c.requires.small)
          c.requires.positive c.requires.closed adds;
    })

pub add_sums_at-requires-clause-small : goal.add_sums_at-requires-clause-small
add_sums_at-requires-clause-small c =
    let degree = to_z-of_z w64 c.args.degree c.ranges.degree in
    let round = rw degree at c.loop-first.invariant.round in
    round_small c.args.family.now c.args.closed.now c.loop-first.closed c.args.degree (to_z w64 c.loop-first.first-bits)
    c.requires.within c.requires.closed round

pub loop-first-preserved : goal.loop-first-preserved
loop-first-preserved c =
    let e = to_z w64 c.loop-first.first-bits in
    let d = c.args.degree in
    let degree = to_z-of_z w64 d c.ranges.degree in
    let invariant = rw degree at c.loop-first.invariant in
    let least = invariant.least in
    let test = rw degree at c.loop-first-test.true in
    let within = c.requires.within in
    let top = c.requires.top in
    let less : e <ℤ d = omega (arith, ints) in
    let next = to_z-of_z w64 (e +ℤ pos 1) (small-fits (e +ℤ pos 1) (omega (arith, ints))) in
    let rest = to_z-of_z w64 (d -ℤ e) (small-fits (d -ℤ e) (omega (arith, ints))) in
    let added = rw (degree, rest) at c.in_ok-add_sums_at.ensures.added in
    rw (next, degree) (record {
      least = omega (arith, ints);
      most = omega (arith, ints);
      round = round_next c.args.family.now c.args.closed.now c.loop-first.closed c.add_sums_at.new.family d e (d -ℤ e)
          (omega (arith, ints)) within c.requires.closed invariant.round added;
    })

pub returns : goal.returns
returns c =
    let e = to_z w64 c.loop-first.first-bits in
    let d = c.args.degree in
    let degree = to_z-of_z w64 d c.ranges.degree in
    let invariant = rw degree at c.loop-first.invariant in
    let most = invariant.most in
    let test = rw degree at c.loop-first-test.false in
    let same : e ≡ d = omega (arith, ints) in
    let round = rw same at invariant.round in
    record { closed = round_last c.args.family.now c.args.closed.now c.loop-first.closed d c.requires.closed round }
