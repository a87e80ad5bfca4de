use Rattle.std.proofs.Common.{w64, arith}
use Rattle.std.proofs.lemmas.Int.{ints, to_z-of_z}
use Rattle.tv_candidates.proofs.Depths.{slope-whole}
use Rattle.tv_candidates.proofs.slopes.slope_at.Goals as goal

pub returns : goal.returns
returns c =
    let degree = to_z-of_z w64 c.args.degree c.ranges.degree in
    let test = rw degree at c.if-degree-lt1.false in
    rw degree (record {
      value = λ k. slope-whole c.args.series.now c.depth_of.result k c.args.degree c.depth_of.ensures.value (omega (arith, ints));
    })
