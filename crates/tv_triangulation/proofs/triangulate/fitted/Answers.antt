use Rattle.tv_triangulation.proofs.Matching.{misfit-fault, fits-triangulated}
use Rattle.tv_triangulation.proofs.triangulate.fitted.Goals as goal

pub returns-in-Some-first_misfit : goal.returns-in-Some-first_misfit
returns-in-Some-first_misfit c =
    let ps = c.args.points.now in let ts = c.args.triangles.now in let hull = c.args.hull.now in
    let misfit = rw (c.deref-2.ensures.value, c.in_ok-turned.ensures) at c.in-Some-first_misfit.ensures in
    rw c.refused-in-Some-first_misfit.ensures (misfit-fault ps hull c.requires.hull ts c.requires.spread c.requires.listed c.in_default.ensures c.in-Some-first_misfit.fault misfit)

pub new-requires-clause-triangulated : goal.new-requires-clause-triangulated
new-requires-clause-triangulated c =
    let ps = c.args.points.now in let ts = c.args.triangles.now in let hull = c.args.hull.now in
    let fits = rw (c.deref-2.ensures.value, c.in_ok-turned.ensures) at c.in_default-first_misfit.ensures in
    rw (c.in_ok-points.ensures.items, c.in_ok-turned.ensures) (fits-triangulated ps hull ts c.requires.hull c.requires.spread c.requires.listed c.in_default.ensures fits)
