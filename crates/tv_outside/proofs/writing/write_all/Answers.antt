use Rattle.std.proofs.Common.{refl, arith}
use Rattle.tv_outside.proofs.WriteSteps.{WritesSoFar-further}
use Rattle.tv_outside.proofs.writing.write_all.Goals as goal

pub writes-preserved : goal.writes-preserved
writes-preserved g c =
    let wrote = c.in_ok-count.ensures in
    WritesSoFar-further _ _ _ _ _ _ _ c.writes.invariant refl wrote.bytes wrote.bound (omega arith) wrote.progress wrote.counted.call wrote.counted.kept
