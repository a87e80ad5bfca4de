use Rattle.tv_triangulation.proofs.Tilings.{triangulated-tiles}
use Rattle.tv_triangulation.proofs.triangulation.Triangulation.known.Goals as goal

pub returns : goal.returns
returns c =
    let mesh = c.self.invariant.0 in
    let small = rw c.deref.ensures.value at c.known.ensures in
    rw (← c.self.view_is) (record { matched = mesh; tiles = triangulated-tiles (record { points = c.self.inside.points.items; triangles = c.self.inside.triangles.items }) small mesh; few = c.self.invariant.1; coordinates = small })
