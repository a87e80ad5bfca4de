use Rattle.std.proofs.Common.{take, reverse, length-take, arith}
use Rattle.std.proofs.lemmas.List.{length-reverse}
use Rattle.tv_gv.proofs.Placed.{last-onto}
use Rattle.tv_gv.proofs.values.put_values.Goals as goal

pub put_value-requires-clause-last : goal.put_value-requires-clause-last
put_value-requires-clause-last c =
    let xs = reverse (take c.loop-k.k c.args.values.now) in
    let count = length-reverse (take c.loop-k.k c.args.values.now) in
    let taken = length-take c.loop-k.k c.args.values.now in
    rw (c.loop-k.invariant.heights, c.loop-k.invariant.integers)
    (last-onto c.args.integers.now.heights c.args.class.now c.args.base xs c.args.integers.now.integers _ (omega arith)
    c.requires.last)
