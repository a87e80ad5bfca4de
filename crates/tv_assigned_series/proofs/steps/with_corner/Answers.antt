use Rattle.std.proofs.Common.{◌∙◌}
use Rattle.tv_assigned_series.proofs.Faults.{wide-series}
use Rattle.tv_assigned_series.proofs.Fronts.{product-within, product-reaches, product-is, product-wide}
use Rattle.tv_assigned_series.proofs.steps.with_corner.Goals as goal

pub mul-requires-clause-upto : goal.mul-requires-clause-upto
mul-requires-clause-upto g c =
    let s = c.requires in
    product-within g.met.C.Ring.laws g.met.C.Ring.sizes s.front s.boxes s.series.0 s.corner c.args.product.now c.args.corner.now s.series.1 s.product s.series.2 s.few

pub mul-requires-clause-reaches : goal.mul-requires-clause-reaches
mul-requires-clause-reaches g c =
    let s = c.requires in
    product-reaches g.met.C.Ring.laws g.met.C.Ring.sizes s.front s.boxes s.series.0 s.corner c.args.product.now c.args.corner.now s.series.1 s.product s.series.2

pub returns-in-Ok-clause-value : goal.returns-in-Ok-clause-value
returns-in-Ok-clause-value g c front corner k product series =
    c.in-Ok.ensures.value
    ∙ product-is g.met.C.Ring.laws g.met.C.Ring.sizes front k series.0 corner c.args.product.now c.args.corner.now series.1 product series.2

pub returns-in-Err-clause-wide : goal.returns-in-Err-clause-wide
returns-in-Err-clause-wide g c h front corner k product series =
    wide-series c.in-Err.fault c.without_exponent.result c.without_exponent.ensures.value c.in-Err.ensures.wide (λ n wide. product-wide g.met.C.Ring.laws g.met.C.Ring.sizes front k series.0 corner c.args.product.now c.args.corner.now series.1 product series.2 n wide) h
