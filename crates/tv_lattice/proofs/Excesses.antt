-- A file passes at most one limit first, and none where it is within the limits.
use Rattle.std.proofs.Common.{◌≡◌, pos, sym, ◌∙◌, ap, arith}
use Rattle.tv_spec_plane.specs.Web.{Web}
use Rattle.tv_lattice.specs.declared.fault.Excess.{Excess}
use Rattle.tv_lattice.specs.declared.fault.Excess.TheVariants.{Points, Triangles, Coordinate, Height}
use Rattle.tv_lattice.specs.Limits.{HasCoordinates, IsHeight, IsWithinLimits}
use Rattle.tv_lattice.specs.Excesses.{IsExcess}
use Rattle.tv_lemmas.proofs.Members.{all-at}
use Rattle.tv_lattice.proofs.Each.{first_unique}

pub IsExcess-unique : (w : Web) (e f : Excess) → IsExcess w e → IsExcess w f → e ≡ f
IsExcess-unique w (Points m) (Points n) x y = ap Points (x.0 ∙ sym y.0)
IsExcess-unique w (Points m) (Triangles n) x y = absurd (omega (arith, x.0, x.1, y.0))
IsExcess-unique w (Points m) (Coordinate n) x y = absurd (omega (arith, x.0, x.1, y.0.0))
IsExcess-unique w (Points m) (Height n) x y = absurd (omega (arith, x.0, x.1, y.0.0))
IsExcess-unique w (Triangles m) (Points n) x y = absurd (omega (arith, x.0, y.0, y.1))
IsExcess-unique w (Triangles m) (Triangles n) x y = ap Triangles (x.1 ∙ sym y.1)
IsExcess-unique w (Triangles m) (Coordinate n) x y = absurd (omega (arith, x.1, x.2, y.0.1))
IsExcess-unique w (Triangles m) (Height n) x y = absurd (omega (arith, x.1, x.2, y.0.1))
IsExcess-unique w (Coordinate m) (Points n) x y = absurd (omega (arith, x.0.0, y.0, y.1))
IsExcess-unique w (Coordinate m) (Triangles n) x y = absurd (omega (arith, x.0.1, y.1, y.2))
IsExcess-unique w (Coordinate m) (Coordinate n) x y = ap Coordinate (first_unique HasCoordinates w.points m n _ x.1.0 y.1.0 x.1.1 y.1.1 x.1.2 y.1.2)
IsExcess-unique w (Coordinate m) (Height n) x y = absurd (x.1.2 (all-at HasCoordinates w.points _ y.1 m x.1.0))
IsExcess-unique w (Height m) (Points n) x y = absurd (omega (arith, x.0.0, y.0, y.1))
IsExcess-unique w (Height m) (Triangles n) x y = absurd (omega (arith, x.0.1, y.1, y.2))
IsExcess-unique w (Height m) (Coordinate n) x y = absurd (y.1.2 (all-at HasCoordinates w.points _ x.1 n y.1.0))
IsExcess-unique w (Height m) (Height n) x y = ap Height (first_unique IsHeight w.heights m n (pos 0) x.2.0 y.2.0 x.2.1 y.2.1 x.2.2 y.2.2)

pub IsExcess-none : (w : Web) (e : Excess) → IsWithinLimits w → IsExcess w e → ⊥
IsExcess-none w (Points m) within x = omega (arith, x.0, x.1, within.points)
IsExcess-none w (Triangles m) within x = omega (arith, x.1, x.2, within.triangles)
IsExcess-none w (Coordinate m) within x = x.1.2 (all-at HasCoordinates w.points _ within.coordinates m x.1.0)
IsExcess-none w (Height m) within x = x.2.2 (all-at IsHeight w.heights (pos 0) within.sizes m x.2.0)
