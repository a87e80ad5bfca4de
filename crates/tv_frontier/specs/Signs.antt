-- Series and families with the sign of class and exponent at each coefficient, and cut.
--
-- by_sign r z x            == x where z is 1, else its negative
-- signed_at r ps v s low i == the coefficient of the series at low + i, with the sign of the class v and that exponent
-- signed_terms r ps n v s  == the series of these coefficients through n, from its low on, or beyond n
-- signed_row r ps n x      == the row with its series so
-- signed_family r ps n f   == the family with each row so, known through n
use Rattle.std.specs.Prelude.{ℕ, ℤ, pos, ◌+ℤ◌, List, map, cond}
use Rattle.std.specs.Int.{int_min}
use Rattle.std.specs.Ordering.{int_eq}
use Rattle.tv_ring.specs.Operations.{Operations}
use Rattle.tv_laws_series.specs.Terms.{Terms, terms, above, listed}
use Rattle.tv_spec_plane.specs.Plane.{Point}
use Rattle.tv_spec_plane.specs.Web.{class_sign}
use Rattle.tv_spec_series.specs.Families.{Row, Family, row, coefficient}

abbrev pub by_sign : {A : Type 0} → Operations A → ℤ → A → A
by_sign r z x = cond (int_eq z (pos 1)) x (r.neg x)

unfoldable pub signed_at : {A : Type 0} → Operations A → List Point → List ℤ → Terms A → ℤ → ℕ → A
signed_at r ps v s low i = by_sign r (class_sign ps v (low +ℤ pos i)) (coefficient r s (low +ℤ pos i))

abbrev pub signed_terms : {A : Type 0} → Operations A → List Point → ℤ → List ℤ → Terms A → Terms A
signed_terms r ps n v s =
    terms (int_min s.low (n +ℤ pos 1)) (listed (signed_at r ps v s (int_min s.low (n +ℤ pos 1))) (above (int_min s.low (n +ℤ pos 1)) (n +ℤ pos 1)))

abbrev pub signed_row : {A : Type 0} → Operations A → List Point → ℤ → Row A → Row A
signed_row r ps n x = row x.class (signed_terms r ps n x.class x.series)

abbrev pub signed_family : {A : Type 0} → Operations A → List Point → ℤ → Family A → Family A
signed_family r ps n f = record { heights = f.heights; top = f.top; upto = n; rows = map (signed_row r ps n) f.rows }
