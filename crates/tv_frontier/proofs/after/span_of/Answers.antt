use Rattle.std.proofs.Common.{◌≡◌, arith, w64, to_z, of_z}
use Rattle.std.specs.Prelude.{pos, ◌+ℤ◌, ◌-ℤ◌}
use Rattle.std.specs.Int.{int_min}
use Rattle.std.proofs.lemmas.Int.{ints, clamps}
use Rattle.tv_frontier.proofs.Next.{span-is}
use Rattle.tv_frontier.proofs.after.span_of.Goals as goal

pub returns : goal.returns
returns c =
    let small = c.in_ok-low.ensures.bound in
    let order = c.requires.order in
    let last : to_z w64 (of_z w64 (to_z w64 (of_z w64 c.args.n) -ℤ to_z w64 (of_z w64 c.in_ok-low.low))) ≡ c.args.n -ℤ c.in_ok-low.low = omega (arith, ints) in
    let first : to_z w64 (of_z w64 c.lesser.result) ≡ int_min c.in_ok-low.low (to_z w64 (of_z w64 (to_z w64 (of_z w64 c.args.n) -ℤ to_z w64 (of_z w64 c.in_ok-low.low))) +ℤ pos 1) = (let v = c.lesser.ensures.value in omega (arith, ints, clamps)) in
    span-is c.args.web.now c.args.d c.args.n c.in_ok-low.low (to_z w64 (of_z w64 c.lesser.result)) (to_z w64 (of_z w64 (to_z w64 (of_z w64 c.args.n) -ℤ to_z w64 (of_z w64 c.in_ok-low.low)))) c.requires.degree c.requires.order c.in_ok-low.ensures.value c.in_ok-low.ensures.bound last first
