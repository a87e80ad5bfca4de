-- The rows of a family as they are gone through.
--
-- with_degree hs x    == the row with the degree of its class
-- IsListing hs rows   == the heights are within their limits, and each row's class has an entry for each
use Rattle.std.specs.Prelude.{ℤ, List, length}
use Rattle.std.specs.List.{AllByRecursion}
use Rattle.tv_lattice.specs.Limits.{IsHeight}
use Rattle.tv_spec_plane.specs.Web.{degree_of}
use Rattle.tv_spec_series.specs.Families.{Row}
use Rattle.tv_graded.specs.Places.{HaveEntries}

abbrev pub with_degree : {A : Type 0} → List ℤ → Row A → Row A × ℤ
with_degree hs x = (x, degree_of hs x.class)

pub record IsListing {A : Type 0} (hs : List ℤ) (rows : List (Row A)) : Type 0 where
  pub heights : AllByRecursion IsHeight hs
  pub entries : HaveEntries (length hs) rows
