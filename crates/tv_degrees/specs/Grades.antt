-- Webs with heights under which every compact edge has a positive degree.
--
-- IsLow w e f   == f names the edge and its degree, which is at most 0, or is want of memory
-- IsFirstLow w k a b z == edge number k is the first of a degree of at most 0: its points are a and b, its degree z
-- IsDegreeFault w f == f names the first compact edge of a degree of at most 0, or is want of memory
-- AreGrades w es vs zs == the lists are the classes and the degrees of the edges, and each degree is at least 1
-- IsPushed w e vs zs us ys == class and degree of the edge, which is at least 1, are added at the ends of vs and zs
-- IsHeighted w  == as many points as a file may list, or fewer, and a height within its limit for each
use Rattle.std.specs.Prelude.{◌≡◌, ◌<◌, ◌≤◌, ℕ, ℤ, pos, ◌<ℤ◌, ◌≤ℤ◌, List, [], ◌∷◌, ◌++◌, length, map, take, ⊤}
use Rattle.std.specs.List.{AllByRecursion}
use Rattle.tv_spec_plane.specs.declared.records.CompactEdge.{CompactEdge}
use Rattle.tv_spec_plane.specs.Web.{Web, compact, edge_class, edge_degree}
use Rattle.tv_spec_plane.specs.declared.limits.TheConstants.{MOST_POINTS}
use Rattle.tv_spec_plane.specs.Graded.{HasDegree}
use Rattle.tv_lattice.specs.Limits.{IsHeight}
use Rattle.tv_degrees.specs.declared.fault.DegreeFault.{DegreeFault}
use Rattle.tv_degrees.specs.declared.fault.DegreeFault.TheVariants.{Degree, Memory}
use Rattle.tv_degrees.specs.Edges.{edge_at}

abbrev pub IsLow : Web → CompactEdge → DegreeFault → Type 0
IsLow w e (Degree a b z) = (a ≡ e.a) × (b ≡ e.b) × (z ≡ edge_degree w e) × (z ≤ℤ pos 0)
IsLow w e Memory = ⊤

pub record IsFirstLow (w : Web) (k a b : ℕ) (z : ℤ) : Type 0 where
  pub listed : k < length (compact w)
  pub before : AllByRecursion (HasDegree w) (take k (compact w))
  pub first : a ≡ (edge_at w k).a
  pub second : b ≡ (edge_at w k).b
  pub degree : z ≡ edge_degree w (edge_at w k)
  pub low : z ≤ℤ pos 0

abbrev pub IsDegreeFault : Web → DegreeFault → Type 0
IsDegreeFault w (Degree a b z) = (k : ℕ) × IsFirstLow w k a b z
IsDegreeFault w Memory = ⊤

pub record AreGrades (w : Web) (es : List CompactEdge) (vs : List (List ℤ)) (zs : List ℤ) : Type 0 where
  pub classes : vs ≡ map (edge_class w) es
  pub degrees : zs ≡ map (edge_degree w) es
  pub graded : AllByRecursion (HasDegree w) es

pub record IsPushed (w : Web) (e : CompactEdge) (vs : List (List ℤ)) (zs : List ℤ) (us : List (List ℤ)) (ys : List ℤ) : Type 0 where
  pub classes : us ≡ vs ++ edge_class w e ∷ []
  pub degrees : ys ≡ zs ++ edge_degree w e ∷ []
  pub positive : HasDegree w e

pub record IsHeighted (w : Web) : Type 0 where
  pub few : length w.points ≤ MOST_POINTS
  pub one_each : length w.heights ≡ length w.points
  pub small : AllByRecursion IsHeight w.heights
