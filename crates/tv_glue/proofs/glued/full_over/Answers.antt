use Rattle.std.proofs.Common.{w64, ap, length, arith}
use Rattle.std.proofs.lemmas.Int.{to_z-of_z}
use Rattle.std.proofs.lemmas.Result.{err_from_is_err_and}
use Rattle.tv_glue.specs.Asked.{IsTooManyOf}
use Rattle.tv_assigned_series.specs.FamilyFaults.{IsCrowded}
use Rattle.tv_assigned_series.proofs.FamilyTold.{on-wide}
use Rattle.tv_glue.proofs.Adding.{too-many-crowded, none-added, one-next, one-added, all-added}
use Rattle.tv_glue.proofs.glued.full_over.Goals as goal

pub loop-coming-init : goal.loop-coming-init
loop-coming-init g c = none-added g.C.Ring.ring c.args.web.now c.args.d _ c.in_ok-coming.coming c.in_ok-family.family c.in_ok-coming.ensures c.in_ok-family.ensures

pub loop-coming-smaller : goal.loop-coming-smaller
loop-coming-smaller g c =
    let next = ap length (rw c.in-Some.is at c.in_ok-assignment.ensures.ok) in omega arith

pub add-requires-clause-next : goal.add-requires-clause-next
add-requires-clause-next g c =
    let next = rw c.in-Some.is at c.in_ok-assignment.ensures.ok in
    one-next g.C.Ring.ring c.args.web.now c.args.d _ c.loop-coming.coming c.next.new.self c.in-Some.assignment c.loop-coming.family next c.loop-coming.invariant

pub loop-coming-preserved : goal.loop-coming-preserved
loop-coming-preserved g c =
    let next = rw c.in-Some.is at c.in_ok-assignment.ensures.ok in
    one-added g.C.Ring.ring c.args.web.now c.args.d _ c.loop-coming.coming c.next.new.self c.in-Some.assignment c.loop-coming.family c.add.new.family next c.in_ok-add.ensures.glued c.loop-coming.invariant

pub returns-in_err-prepare-clause-wide : goal.returns-in_err-prepare-clause-wide
returns-in_err-prepare-clause-wide g c =
    let p = err_from_is_err_and c.from_residual.result c.from_residual.ensures.1 in
    rw (p.1, p.2) (on-wide (IsTooManyOf g.C.Ring.ring c.args.web.now c.args.d c.args.n) (IsCrowded g.C.Ring.ring c.args.web.now c.args.d c.args.n) c.in_err-prepare.field-0.0 (λ v many. too-many-crowded g.C.Ring.ring c.args.web.now c.args.d c.args.n v c.known.ensures.graded many) (rw (to_z-of_z w64 c.args.n c.ranges.n) at c.in_err-prepare.ensures.wide))

pub returns-clause-full : goal.returns-clause-full
returns-clause-full g c =
    let ended = rw c.in_default.is at c.in_ok-assignment.ensures.ok in
    all-added g.C.Ring.ring c.args.web.now c.args.d c.args.n c.loop-coming.coming c.loop-coming.family ended.0 c.known.ensures.graded c.known-2.ensures.family (rw (to_z-of_z w64 c.args.n c.ranges.n) at c.loop-coming.invariant)
