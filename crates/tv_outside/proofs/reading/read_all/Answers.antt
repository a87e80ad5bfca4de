use Rattle.std.proofs.Common.{arith}
use Rattle.std.proofs.lemmas.List.{length-take}
use Rattle.tv_outside.proofs.ReadSteps.{too_long, no_memory}
use Rattle.tv_outside.proofs.reading.read_all.Goals as goal

pub returns-then-count-limit : goal.returns-then-count-limit
returns-then-count-limit g c =
    let given = c.in-Ok.ensures in
    let asked = length-take c.min-room.result c.reads.buffer in
    too_long _ _ _ _ _ _ c.reads.invariant given.bytes.0 given.counted.call given.counted.kept (omega (arith, asked, given.bound.0, given.bound.1))

pub returns-then-is_err : goal.returns-then-is_err
returns-then-is_err g c =
    let given = c.in-Ok.ensures in
    no_memory _ _ _ _ _ _ c.reads.invariant given.bytes.0 given.counted.call given.counted.kept (omega (arith, given.bound.1))
