use Rattle.std.proofs.Common.{arith}
use Rattle.tv_cert.proofs.Genera.{slope-none, slope-more, slope-all}
use Rattle.tv_cert.proofs.slopes.slope.Goals as goal

pub loop-k-init : goal.loop-k-init
loop-k-init c = slope-none c.args.integers.now

pub loop-k-preserved : goal.loop-k-preserved
loop-k-preserved c =
    slope-more c.args.integers.now c.loop-k.k c.loop-k.slope c.slope_number.result c.max-slope.result c.known.ensures.kept
    (omega arith) c.loop-k.invariant c.slope_number.ensures.value c.max-slope.ensures

pub returns : goal.returns
returns c = record {
  slope = slope-all c.args.integers.now c.loop-k.k c.loop-k.slope c.known.ensures.kept (omega arith) c.loop-k.invariant;
}
