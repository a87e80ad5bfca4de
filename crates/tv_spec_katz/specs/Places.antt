-- The places of coefficients in a family of series: a class with its degree, and an exponent.
--
-- Place              == degree, class and exponent; the degree is carried along, so that what is left of it computes
-- place hs v n       == the place of the class v at the exponent n; the heights give its degree
-- difference p x     == p - x: what is left of the place p when the place x is taken off
-- difference_by k p x == p - k x: the same, taken off k times
-- is_zero_class v    == all entries are 0
-- unit p             == 1 at class zero, degree 0 and exponent 0, else 0
use Rattle.std.specs.Prelude.{ℕ, zero, suc, ℤ, pos, ◌-ℤ◌, List, [], ◌∷◌, Bool, true, ◌&&◌, if◌then◌else◌}
use Rattle.std.specs.Ordering.{int_eq}
use Rattle.tv_spec_plane.specs.Web.{degree_of}
pub use Rattle.tv_spec_boxes.specs.Assignments.{class_difference}

pub record Place : Type 0 where
  pub degree : ℤ
  pub class : List ℤ
  pub exponent : ℤ

abbrev pub place : List ℤ → List ℤ → ℤ → Place
place hs v n = record { degree = degree_of hs v; class = v; exponent = n }

abbrev pub difference : Place → Place → Place
difference p x = record {
  degree = p.degree -ℤ x.degree;
  class = class_difference p.class x.class;
  exponent = p.exponent -ℤ x.exponent;
}

unfoldable pub difference_by : ℕ → Place → Place → Place
difference_by zero p x = p
difference_by (suc k) p x = difference_by k (difference p x) x

abbrev pub is_zero_class : List ℤ → Bool
is_zero_class [] = true
is_zero_class (x ∷ v) = int_eq x (pos 0) && is_zero_class v

unfoldable pub unit : Place → ℤ
unit p = if int_eq p.degree (pos 0) && (is_zero_class p.class && int_eq p.exponent (pos 0)) then pos 1 else pos 0
