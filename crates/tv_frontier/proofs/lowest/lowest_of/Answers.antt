use Rattle.std.proofs.Common.{◌≡◌, ◌∷◌, ap, subst, length, ◌∙◌, arith, w64, to_z, of_z}
use Rattle.std.specs.Prelude.{Contains}
use Rattle.std.specs.Int.{int_min}
use Rattle.std.specs.List.{AllByRecursion}
use Rattle.std.proofs.lemmas.Int.{ints, to_z-of_z}
use Rattle.tv_lattice.proofs.Sums.{small-fits}
use Rattle.tv_spec_boxes.specs.Assignments.{assignments, no_legs}
use Rattle.tv_spec_boxes.specs.Numbers.{low_of, lowest}
use Rattle.tv_frontier.proofs.Least.{least-first, all-listed, least-bound, least-next, least-last}
use Rattle.tv_frontier.proofs.lowest.lowest_of.Goals as goal

pub loop-coming-init : goal.loop-coming-init
loop-coming-init c = record { least = least-first c.args.web.now c.args.d c.in_ok-coming.coming c.in_ok-coming.ensures; listed = all-listed c.args.web.now c.args.d c.in_ok-coming.coming c.in_ok-coming.ensures; low = omega (arith, ints); bound = omega arith }

pub low_at-requires-clause-listed : goal.low_at-requires-clause-listed
low_at-requires-clause-listed c =
    let next = rw c.in-Some.is at c.in_ok-assignment.ensures.ok in
    let all : AllByRecursion (Contains (assignments c.args.web.now c.args.d)) (c.in-Some.assignment ∷ c.next.new.self) = subst (AllByRecursion (Contains (assignments c.args.web.now c.args.d))) next c.loop-coming.invariant.listed in
    all.0

pub loop-coming-smaller : goal.loop-coming-smaller
loop-coming-smaller c =
    let next = ap length (rw c.in-Some.is at c.in_ok-assignment.ensures.ok) in omega arith

pub loop-coming-preserved : goal.loop-coming-preserved
loop-coming-preserved c =
    let w = c.args.web.now in
    let next = rw c.in-Some.is at c.in_ok-assignment.ensures.ok in
    let all : AllByRecursion (Contains (assignments w c.args.d)) (c.in-Some.assignment ∷ c.next.new.self) = subst (AllByRecursion (Contains (assignments w c.args.d))) next c.loop-coming.invariant.listed in
    let x = c.in_ok-low_at.field-0 in
    let read_x = to_z-of_z w64 x (small-fits x (omega (arith, c.in_ok-low_at.ensures.bound))) in
    let value : c.lesser-least.result ≡ int_min (to_z w64 c.loop-coming.least-bits) x = rw read_x at c.lesser-least.ensures.value in
    let both = least-bound (to_z w64 c.loop-coming.least-bits) x c.lesser-least.result value c.loop-coming.invariant.bound c.in_ok-low_at.ensures.bound c.loop-coming.invariant.low in
    let read = to_z-of_z w64 c.lesser-least.result (small-fits c.lesser-least.result (omega (arith, both.1))) in
    record {
      least = least-next (low_of w (no_legs w)) c.loop-coming.coming c.next.new.self c.in-Some.assignment (to_z w64 c.loop-coming.least-bits) (to_z w64 (of_z w64 c.lesser-least.result)) x (lowest w (no_legs w) c.args.d) next c.in_ok-low_at.ensures.value (read ∙ value) c.loop-coming.invariant.least;
      listed = all.1;
      low = rw read both.0;
      bound = rw read both.1;
    }

pub returns-clause-value : goal.returns-clause-value
returns-clause-value c =
    let ended = rw c.in_default.is at c.in_ok-assignment.ensures.ok in
    least-last (low_of c.args.web.now (no_legs c.args.web.now)) c.loop-coming.coming (to_z w64 c.loop-coming.least-bits) (lowest c.args.web.now (no_legs c.args.web.now) c.args.d) ended.0 c.loop-coming.invariant.low c.loop-coming.invariant.least
