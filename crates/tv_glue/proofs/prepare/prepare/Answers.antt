use Rattle.std.proofs.Common.{sym, w64, arith}
use Rattle.std.proofs.lemmas.Int.{to_z-of_z}
use Rattle.std.proofs.lemmas.Result.{err_from_is_err_and}
use Rattle.tv_glue.specs.Asked.{IsWideAt, IsTooManyOf}
use Rattle.tv_glue.proofs.Asking.{entry-asked, wide-by}
use Rattle.tv_assigned_series.proofs.FamilyTold.{on-wide}
use Rattle.tv_glue.proofs.Prepared.{kept-all}
use Rattle.tv_glue.proofs.prepare.prepare.Goals as goal

pub compute-requires : goal.compute-requires
compute-requires g c =
    let here = entry-asked c.args.web.now c.args.d c.args.n c.in_ok-found.found.entries c.loop-i.i c.in-Some.legs.now c.in-Some.most.now (sym c.in-Some.ensures.entry) (rw (to_z-of_z w64 c.args.n c.ranges.n) at c.in_ok-found.ensures.asked) in here.few

pub returns-in_err-compute-clause-wide : goal.returns-in_err-compute-clause-wide
returns-in_err-compute-clause-wide g c =
    let here = entry-asked c.args.web.now c.args.d c.args.n c.in_ok-found.found.entries c.loop-i.i c.in-Some.legs.now c.in-Some.most.now (sym c.in-Some.ensures.entry) (rw (to_z-of_z w64 c.args.n c.ranges.n) at c.in_ok-found.ensures.asked) in
    let p = err_from_is_err_and c.from_residual-in_err-compute.result c.from_residual-in_err-compute.ensures.1 in
    rw (p.1, p.2) (on-wide (IsWideAt g.C.Ring.ring c.in-Some.legs.now c.in-Some.most.now) (IsTooManyOf g.C.Ring.ring c.args.web.now c.args.d c.args.n) c.in_err-compute.field-0.0 (λ v wide. wide-by c.args.web.now c.args.d c.args.n g.C.Ring.ring c.in-Some.legs.now c.in-Some.most.now v here wide) c.in_err-compute.ensures.wide)

pub returns-clause-kept : goal.returns-clause-kept
returns-clause-kept g c = kept-all g.C.Ring.ring c.args.web.now c.args.d c.args.n c.in_ok-found.found.entries c.loop-i.corners (rw (to_z-of_z w64 c.args.n c.ranges.n) at c.in_ok-found.ensures.all) (λ j h. c.loop-i.invariant j (omega (arith, h, c.loop-i-test.false, c.len-i-end.ensures.len)))
