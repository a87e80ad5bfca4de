use Rattle.std.proofs.Common.{Err, ap}
use Rattle.tv_glue.specs.Asked.{IsWideAt}
use Rattle.tv_assigned_series.proofs.FamilyTold.{ring-told}
use Rattle.tv_glue.proofs.prepare.compute.Goals as goal

pub returns-in_ok-copy-in-Err-clause-wide : goal.returns-in_ok-copy-in-Err-clause-wide
returns-in_ok-copy-in-Err-clause-wide g c =
    rw c.of_ring.ensures.value (ring-told (IsWideAt g.C.Ring.ring c.args.legs.now c.args.most.now) c.in-Err.fault c.in_ok-copy-in-Err.field-0 (λ e. (c.in_ok-copy-in-Err.ensures.value, c.in-Err.ensures.wide (ap Err e))))
