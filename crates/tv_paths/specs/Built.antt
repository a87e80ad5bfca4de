-- The tables of all diagonals of a corner.
--
-- Built            == the legs of the corner and the greatest number of boxes
-- diagonal_counts r legs k far i == the entries of diagonal number i, counted from -far on
-- IsBuilt r legs k far rows == far is the last diagonal on which a box can stand, and the rows are the entries of those from
--                     -far to far
-- nearest far t    == the nearest diagonal from -far to far
use Rattle.std.specs.Prelude.{◌≡◌, ℕ, ◌+◌, ◌*◌, ◌<◌, ◌^◌, ℤ, pos, neg_ℤ, ◌-ℤ◌, cond, int_lt, List}
use Rattle.tv_ring.specs.Operations.{Operations}
use Rattle.tv_laws_series.specs.Terms.{listed}
use Rattle.tv_cells.specs.declared.legs.Legs.{Legs}
use Rattle.tv_cells.specs.Extras.{extent}
use Rattle.tv_paths.specs.declared.counts.PathCount.{PathCount}
use Rattle.tv_paths.specs.Counts.{path_counts}

pub record Built : Type 0 where
  pub legs : Legs
  pub k : ℕ

abbrev pub diagonal_counts : {A : Type 0} → Operations A → Legs → ℕ → ℕ → ℕ → List (PathCount A)
diagonal_counts r legs k far i = path_counts r legs k (pos i -ℤ pos far)

pub record IsBuilt {A : Type 0} (r : Operations A) (legs : Legs) (k far : ℕ) (rows : List (List (PathCount A))) : Type 0 where
  pub few : k < 2 ^ 29
  pub end : far ≡ k + extent legs
  pub diagonals : rows ≡ listed (diagonal_counts r legs k far) (2 * far + 1)

abbrev pub nearest : ℕ → ℤ → ℤ
nearest far t = cond (int_lt t (neg_ℤ (pos far))) (neg_ℤ (pos far)) (cond (int_lt (pos far) t) (pos far) t)
