use Rattle.std.proofs.Common.{arith}
use Rattle.std.proofs.lemmas.Int.{ints}
use Rattle.tv_frontier.proofs.Joined.{moved-between, moved-end}
use Rattle.tv_frontier.proofs.joining.moved_low.Goals as goal

pub returns-then-moved-upto-clause-value : goal.returns-then-moved-upto-clause-value
returns-then-moved-upto-clause-value c = moved-between c.args.floor c.args.upto c.args.low c.args.shift _ (omega (arith, ints)) (let h = c.if-moved-floor.false in omega (arith, ints)) (let h = c.if-moved-upto.true in omega (arith, ints))

pub returns-else-moved-upto-clause-value : goal.returns-else-moved-upto-clause-value
returns-else-moved-upto-clause-value c = moved-end c.args.floor c.args.upto c.args.low c.args.shift _ (omega (arith, ints)) (omega (arith, ints)) (let h = c.if-moved-upto.false in omega (arith, ints))
