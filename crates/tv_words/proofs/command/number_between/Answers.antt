use Rattle.std.proofs.Common.{arith, ◌<ℤ◌}
use Rattle.std.proofs.lemmas.Int.{ints}
use Rattle.tv_words.proofs.Between.{other_number_none_between, too_low, too_high}
use Rattle.tv_words.proofs.command.number_between.Goals as goal

pub returns-then-z-low : goal.returns-then-z-low
returns-then-z-low c =
    let below : c.in-Some.z <ℤ c.args.low = omega (arith, ints) in
    other_number_none_between c.args.low c.args.high c.requires.low c.requires.high _ c.in-Some.z c.in-Some.ensures.0 c.in-Some.ensures.1 (too_low c.args.low c.args.high c.in-Some.z below)

pub returns-then-z-high : goal.returns-then-z-high
returns-then-z-high c =
    let above : c.args.high <ℤ c.in-Some.z = omega (arith, ints) in
    other_number_none_between c.args.low c.args.high c.requires.low c.requires.high _ c.in-Some.z c.in-Some.ensures.0 c.in-Some.ensures.1 (too_high c.args.low c.args.high c.in-Some.z above)
