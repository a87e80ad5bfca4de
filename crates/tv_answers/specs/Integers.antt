-- Where the integers of the reduced series of a web are refused.
--
-- IsMajorantBeyond w d n v m == the majorant of the reduced series in degrees through d and exponents through n, and of their
--                              integers, is beyond 2^127 - 1 at the class v and the exponent m
-- IsFirstDifference w d n v m series product == v and m are the first class of degree at most d and its first exponent through n
--                              at which Katz's product over the integers of the reduced series and these series differ: there
--                              these are their values, and both are printable
use Rattle.std.specs.Prelude.{◌≡◌, ℕ, ◌-◌, ◌^◌, ◌<◌, ℤ, List}
use Rattle.tv_ring.specs.Whole.{wholes}
use Rattle.tv_spec_plane.specs.Web.{Web}
use Rattle.tv_spec_boxes.specs.Assignments.{no_legs}
use Rattle.tv_spec_series.specs.Families.{Family, coefficient_of}
use Rattle.tv_spec_series.specs.ReducedFamilies.{IsReducedFamily}
use Rattle.tv_spec_katz.specs.Katz.{Integer, katz}
use Rattle.tv_spec_katz.specs.Integers.{IsMismatch}
use Rattle.tv_spec_katz.specs.Relations.{AreIntegers}
use Rattle.tv_spec_katz.specs.Majorant.{majorant}
use Rattle.tv_spec_text.specs.Reports.{IsPrintable}

pub record IsMajorantBeyond (w : Web) (d : ℕ) (upto : ℤ) (v : List ℤ) (m : ℤ) : Type 0 where
  pub family : Family ℤ
  pub reduced : IsReducedFamily wholes w (no_legs w) d upto family
  pub integers : List Integer
  pub are : AreIntegers d family integers
  pub beyond : 2 ^ 127 - 1 < majorant d upto family integers v m

pub record IsFirstDifference (w : Web) (d : ℕ) (upto : ℤ) (v : List ℤ) (m series product : ℤ) : Type 0 where
  pub family : Family ℤ
  pub reduced : IsReducedFamily wholes w (no_legs w) d upto family
  pub integers : List Integer
  pub are : AreIntegers d family integers
  pub mismatch : IsMismatch d upto family integers v m
  pub family_has : series ≡ coefficient_of wholes family v m
  pub product_has : product ≡ katz family.heights integers v m
  pub series_small : IsPrintable series
  pub product_small : IsPrintable product
