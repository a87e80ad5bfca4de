-- What is tabled of a web and a degree.
--
-- AreSizes sizes    == they are 0, 1, 2, .. in order (of tv_assignment)
-- IsPast w p k      == no compact edge from number k on has an entry at point p
-- AreLast w last    == from the number that is listed for a point on, no compact edge has an entry there
-- AreTables w ns ks   == both, with a number for each point
-- IsStuck last v k  == a point that no edge from number k on touches has an entry in v
use Rattle.std.specs.Prelude.{◌≡◌, ◌≢◌, ℕ, ◌<◌, ◌≤◌, ℤ, pos, List, length, slice_index_or}
use Rattle.tv_spec_plane.specs.Web.{Web, compact, edge_class}
use Rattle.tv_degrees.specs.Edges.{edge_at}
pub use Rattle.tv_assignment.specs.Listing.{AreSizes}

abbrev pub IsPast : Web → ℕ → ℕ → Type 0
IsPast w p k =
    (i : ℕ) → k ≤ i → i < length (compact w) → slice_index_or (edge_class w (edge_at w i)) p (pos 0) ≡ pos 0

abbrev pub AreLast : Web → List ℕ → Type 0
AreLast w last = (p : ℕ) → p < length last → IsPast w p (slice_index_or last p 0)

pub record AreTables (w : Web) (ns ks : List ℕ) : Type 0 where
  pub sizes : AreSizes ns
  pub last : AreLast w ks
  pub one_each : length ks ≡ length w.points

pub record IsStuck (last : List ℕ) (v : List ℤ) (k : ℕ) : Type 0 where
  pub point : ℕ
  pub listed : point < length last
  pub past : slice_index_or last point 0 ≤ k
  pub owed : slice_index_or v point (pos 0) ≢ pos 0
