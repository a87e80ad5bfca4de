-- The numbers that bound each step of the integers.
--
-- rounded_up a d      == a / d, rounded up, for d at least 1
-- slope_of hs i       == the least c from 0 on with genus - 1 at most c times the degree, which is at least 1
-- greatest_slope hs is == c: the least from 0 on with that, for each integer of the list other than 0
-- without_sign f      == the factor (1 - X)^e as (1 - X)^(-|e|), whose coefficients are all at least 0
-- absolute_product hs is v n == A: Katz's product with each factor without sign, and each power of y counted without sign
-- counted f N v n     == |the coefficient of v at n|, and 0 beyond N
-- majorant_end D N f is == N + c D
-- is_counted_class D hs v == v has an entry for each height and a degree from 0 to D
-- has_majorant D N f is v n == so is v, and n is at most N + c D
-- bound_at N f is v n == |the coefficient of v at n| + 2 * degree * A
-- majorant D N f is v n == that; 0 where v at n has no majorant
use Rattle.std.specs.Prelude.{ℕ, ◌+◌, ◌-◌, ◌*◌, ◌/◌, ℤ, pos, neg_ℤ, ◌+ℤ◌, max, unsigned_abs, int_le, List, [], ◌∷◌, map, length, Bool, nat_eq, cond, if◌then◌else◌, ◌&&◌}
use Rattle.std.specs.Ordering.{int_eq}
use Rattle.tv_ring.specs.Whole.{wholes}
use Rattle.tv_lemmas.specs.Naturals.{as_natural}
use Rattle.tv_spec_plane.specs.Web.{degree_of}
use Rattle.tv_spec_series.specs.Families.{Family, coefficient_of}
use Rattle.tv_spec_katz.specs.Places.{place}
use Rattle.tv_spec_katz.specs.Product.{Factor, product}
use Rattle.tv_spec_katz.specs.Katz.{Integer, factors, factor_bound}

abbrev pub rounded_up : ℕ → ℕ → ℕ
rounded_up a d = (a + (d - 1)) / d

abbrev pub slope_of : List ℤ → Integer → ℕ
slope_of hs i = rounded_up (i.genus - 1) (as_natural (degree_of hs i.class))

abbrev pub greatest_slope : List ℤ → List Integer → ℕ
greatest_slope hs [] = 0
greatest_slope hs (i ∷ is) = if int_eq i.value (pos 0) then greatest_slope hs is else max (slope_of hs i) (greatest_slope hs is)

abbrev pub without_sign : Factor → Factor
without_sign f = record { at = f.at; power = neg_ℤ (pos (unsigned_abs f.power)) }

unfoldable pub absolute_product : List ℤ → List Integer → List ℤ → ℤ → ℤ
absolute_product hs is v n = product (map without_sign (factors hs (factor_bound hs is v n) is)) (place hs v n)

abbrev pub counted : Family ℤ → ℤ → List ℤ → ℤ → ℕ
counted f N v n = cond (int_le n N) (unsigned_abs (coefficient_of wholes f v n)) 0

abbrev pub majorant_end : ℕ → ℤ → Family ℤ → List Integer → ℤ
majorant_end D N f is = N +ℤ pos (greatest_slope f.heights is * D)

abbrev pub is_counted_class : ℕ → List ℤ → List ℤ → Bool
is_counted_class D hs v = nat_eq (length v) (length hs) && (int_le (pos 0) (degree_of hs v) && int_le (degree_of hs v) (pos D))

abbrev pub has_majorant : ℕ → ℤ → Family ℤ → List Integer → List ℤ → ℤ → Bool
has_majorant D N f is v n = is_counted_class D f.heights v && int_le n (majorant_end D N f is)

abbrev pub bound_at : ℤ → Family ℤ → List Integer → List ℤ → ℤ → ℕ
bound_at N f is v n = counted f N v n + (2 * as_natural (degree_of f.heights v)) * unsigned_abs (absolute_product f.heights is v n)

unfoldable pub majorant : ℕ → ℤ → Family ℤ → List Integer → List ℤ → ℤ → ℕ
majorant D N f is v n = cond (has_majorant D N f is v n) (bound_at N f is v n) 0
