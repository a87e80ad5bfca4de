-- The majorant over all integers bounds what is computed on the way to those of one class.
--
-- sum-first         a sum of terms of at least 0 is at least the first one
-- product-front     more factors without sign make the product greater
-- absolute-more     so do more integers
-- bound_is_majorant  so is what degree times the product without signs bounds
-- size_is_majorant  the law
use Rattle.std.specs.Prelude.{◌≡◌, ◌⊎◌, ℕ, zero, suc, ◌+◌, ◌*◌, ◌<◌, ◌≤◌, ℤ, pos, negsuc, neg_ℤ, ◌+ℤ◌, ◌-ℤ◌, ◌*ℤ◌, ◌≤ℤ◌, ◌<ℤ◌, unsigned_abs, int_le, nat_eq, true, false, List, [], ◌∷◌, ◌++◌, length, map}
use Rattle.std.specs.List.{AllByRecursion}
use Rattle.std.proofs.Common.{refl, sym, ap, arith, ◌∙◌, inl, inr}
use Rattle.std.proofs.Math.IntN.{*ℤ-zero}
use Rattle.std.proofs.lemmas.Int.{ints, by_lt_z}
use Rattle.std.proofs.lemmas.List.{map-append}
use Rattle.std.proofs.lemmas.Bool.Decides.{nat_tests}
use Rattle.tv_ring.specs.Operations.{limit}
use Rattle.tv_ring.specs.Whole.{wholes}
use Rattle.tv_lemmas.specs.Naturals.{as_natural}
use Rattle.tv_lemmas.proofs.Naturals.{as_natural-is, as_natural-above}
use Rattle.tv_lemmas.proofs.Multiplied.{one-mul}
use Rattle.tv_lemmas.proofs.Signs.{mul-nonneg-nonneg}
use Rattle.tv_spec_plane.specs.Web.{degree_of}
use Rattle.tv_lemmas.proofs.Integers.{mul-sub}
use Rattle.tv_spec_series.specs.Families.{Family, coefficient_of}
use Rattle.tv_spec_katz.specs.Binomials.{choose, binomial, power_sign, power_at, sum_below}
use Rattle.tv_spec_katz.specs.Places.{Place, place, difference_by}
use Rattle.tv_spec_katz.specs.Product.{Factor, times, product}
use Rattle.tv_spec_katz.specs.Katz.{Integer, factors_by, factors, katz}
use Rattle.tv_spec_katz.specs.Majorant.{without_sign, absolute_product, counted, majorant_end, is_counted_class, has_majorant, bound_at, majorant}
use Rattle.tv_laws_katz.specs.Weights.{weight, IsWithinSlope}
use Rattle.tv_laws_katz.proofs.LargerBound.{product-absolute}
use Rattle.tv_laws_katz.proofs.Powers.{power_at-zero, power_at-negsuc, power_sign-size}
use Rattle.tv_laws_katz.proofs.TermSizes.{size_of_product, size_of_katz, power-up, product-up}
use Rattle.tv_laws_integers.specs.Closed.{IsClassTo}
use Rattle.tv_laws_integers.proofs.Slopes.{slopes-least}
use Rattle.tv_recurrence.specs.KatzParts.{katz_by_weight}
use Rattle.tv_recurrence.specs.Products.{exponent_at}
use Rattle.tv_class_integers.specs.Readings.{readings, power_size, size_at}
use Rattle.tv_class_integers.specs.NextClasses.{series_by_weight, class_readings, read_onto, IsNextClass, IsLastOf, SizeIsMajorant}
use Rattle.tv_class_integers.proofs.FirstOrder.{first_order_sizes}
use Rattle.tv_class_integers.proofs.NextClass.{at-base, slopes}
use Rattle.tv_class_integers.proofs.Readings.{length-readings}
use Rattle.tv_lemmas.proofs.Tests.{eq-on, most-true}

sum-first : (F : ℕ → ℤ) (m : ℕ) → ((k : ℕ) → pos 0 ≤ℤ F k) → F 0 ≤ℤ sum_below F (suc m)
unfolding sum_below
sum-first F zero up = omega (arith, ints)
sum-first F (suc m) up = omega (arith, ints, sum-first F m up, up (suc m))

module _ (f : Factor) (fs : List Factor) (p : Place) where
  abbrev term : ℕ → ℤ
  term k = power_at (without_sign f).power k *ℤ product (map without_sign fs) (difference_by k p f.at)

  term-up : (k : ℕ) → pos 0 ≤ℤ term k
  term-up k = mul-nonneg-nonneg _ _ (power-up (unsigned_abs f.power) k) (product-up fs (difference_by k p f.at))

  term-first : term 0 ≡ product (map without_sign fs) p
  unfolding difference_by
  term-first = ap (λ z. z *ℤ product (map without_sign fs) p) (power_at-zero (without_sign f).power) ∙
      one-mul (product (map without_sign fs) p)

  terms : product (map without_sign (f ∷ fs)) p ≡ sum_below term (suc (as_natural p.degree))
  unfolding product times
  terms = refl

  product-more : product (map without_sign fs) p ≤ℤ product (map without_sign (f ∷ fs)) p
  product-more = omega (arith, ints, term-first, terms, sum-first term (as_natural p.degree) term-up)

pub product-front : (fs gs : List Factor) (p : Place) → product (map without_sign gs) p ≤ℤ product (map without_sign (fs ++ gs)) p
product-front [] gs p = omega (arith, ints)
product-front (f ∷ fs) gs p = omega (arith, ints, product-front fs gs p, product-more f (fs ++ gs) p)

pub absolute-more : (hs : List ℤ) (w : ℕ) (more is : List Integer) (v : List ℤ) (n : ℤ) →
    AllByRecursion (IsWithinSlope hs w) (more ++ is) →
    absolute_product hs is v n ≤ℤ absolute_product hs (more ++ is) v n
absolute-more hs w [] is v n slope = omega (arith, ints)
absolute-more hs w (i ∷ more) is v n slope =
    let J = as_natural (weight w (place hs v n)) in
    let room = as_natural-above (weight w (place hs v n)) in
    let first = product-absolute hs w (i ∷ (more ++ is)) v n J slope room in
    let second = product-absolute hs w (more ++ is) v n J slope.1 room in
    let step = product-front (factors_by hs i.genus J i) (factors hs J (more ++ is)) (place hs v n) in
    omega (arith, ints, absolute-more hs w more is v n slope.1, first, second, step)

above_false : (a b : ℤ) → b <ℤ a → int_le a b ≡ false
above_false a b h = grind (arith, ints)

pub counts : (D : ℕ) (hs v : List ℤ) → IsClassTo D hs v → is_counted_class D hs v ≡ true
counts D hs v class =
    let up = class.positive.degree in
    let entries : nat_eq (length v) (length hs) ≡ true = eq-on (length v) (length hs) class.positive.entries in
    let least : int_le (pos 0) (degree_of hs v) ≡ true = most-true (pos 0) (degree_of hs v) (omega (arith, ints)) in
    rw (entries, least) (most-true (degree_of hs v) (pos D) class.within)

pub majorant-is : (D : ℕ) (N : ℤ) (f : Family ℤ) (js : List Integer) (v : List ℤ) (n : ℤ) → IsClassTo D f.heights v →
    n ≤ℤ majorant_end D N f js → majorant D N f js v n ≡ bound_at N f js v n
unfolding majorant
majorant-is D N f js v n class h =
    let count = counts D f.heights v class in
    let ends : int_le n (majorant_end D N f js) ≡ true = most-true n (majorant_end D N f js) h in
    rw (count, ends) refl

counted-is : (f : Family ℤ) (N : ℤ) (v : List ℤ) (n : ℤ) → (N <ℤ n → coefficient_of wholes f v n ≡ pos 0) →
    unsigned_abs (coefficient_of wholes f v n) ≡ counted f N v n
counted-is f N v n known = by_lt_z N n
    (λ past. let off = above_false n N past in rw off (ap unsigned_abs (known past)))
    (λ near. let on = most-true n N near in rw on refl)

twice-least : (d a : ℕ) → 1 ≤ d → a ≤ (2 * d) * a
twice-least zero a h = absurd (omega arith)
twice-least (suc d) a h = omega arith

pub size_is_majorant : SizeIsMajorant
size_is_majorant D N f w read is v base more t next last far wide =
    let hs = f.heights in let n = exponent_at hs w v t in
    let all = read_onto f w base is v in let final = more ++ all in
    let numbers = class_readings f w base is v in
    let here = at-base D f w read is v base next in
    let within = slopes-least D hs w final last.ordered (omega (arith, last.slope)) in
    let count = length-readings base (series_by_weight f w v) (katz_by_weight hs w is v) (base + 2) in
    let sizes = first_order_sizes hs w v base is numbers t here (slopes D f w read is v base next) (omega arith) in
    let later = absolute-more hs w more all v n within in
    let first = size_of_katz hs is v n in
    let sign = power_sign-size (unsigned_abs n) (katz hs is v n) in
    let A = unsigned_abs (absolute_product hs final v n) in
    let up = next.class.positive.degree in
    let d = as_natural (degree_of hs v) in
    let positive : 1 ≤ d = omega (arith, ints, as_natural-is (degree_of hs v) (omega (arith, ints))) in
    let place = next.place in
    let slope : N +ℤ pos (w * D) ≡ majorant_end D N f final = ap (λ c. N +ℤ pos (c * D)) (sym last.slope) in
    let ends : n ≤ℤ majorant_end D N f final = omega (arith, ints) in
    rw (majorant-is D N f final v n next.class ends)
    (omega (arith, ints, counted-is f N v n (last.known n), twice-least d A positive))

pub scale-most : (d a : ℕ) (z : ℤ) → z ≤ℤ pos a → (pos d *ℤ z) ≤ℤ pos (d * a)
scale-most d a z h =
    let up : pos 0 ≤ℤ (pos d *ℤ (pos a -ℤ z)) = mul-nonneg-nonneg (pos d) (pos a -ℤ z) (omega (arith, ints)) (omega
    (arith, ints)) in
    omega (arith, ints, mul-sub (pos d) (pos a) z)

pub twice-scaled : (d a : ℕ) → d * a ≤ (2 * d) * a
twice-scaled d a = omega arith

-- a number that degree times the product without signs bounds
pub bound_is_majorant : (D : ℕ) (N : ℤ) (f : Family ℤ) (w : ℕ) (read : List (List ℤ)) (is : List Integer) (v : List ℤ) (base : ℕ)
    (more : List Integer) (t x : ℕ) → IsNextClass D f w read is v base → IsLastOf D N f w is v base more →
    pos t ≤ℤ (N +ℤ pos (w * D)) → pos x ≤ℤ (degree_of f.heights v *ℤ absolute_product f.heights is v
    (exponent_at f.heights w v t)) →
    limit < x → limit < majorant D N f (more ++ read_onto f w base is v) v (exponent_at f.heights w v t)
bound_is_majorant D N f w read is v base more t x next last far bound wide =
    let hs = f.heights in let n = exponent_at hs w v t in
    let all = read_onto f w base is v in let final = more ++ all in
    let numbers = class_readings f w base is v in
    let here = at-base D f w read is v base next in
    let within = slopes-least D hs w final last.ordered (omega (arith, last.slope)) in
    let count = length-readings base (series_by_weight f w v) (katz_by_weight hs w is v) (base + 2) in
    let sizes = first_order_sizes hs w v base is numbers t here (slopes D f w read is v base next) (omega arith) in
    let later = absolute-more hs w more all v n within in
    let A = unsigned_abs (absolute_product hs final v n) in
    let up = next.class.positive.degree in
    let d = as_natural (degree_of hs v) in
    let degree = as_natural-is (degree_of hs v) (omega (arith, ints)) in
    let least : absolute_product hs is v n ≤ℤ pos A = omega (arith, ints) in
    let scaled : pos x ≤ℤ (pos d *ℤ absolute_product hs is v n) = rw (← degree) bound in
    let place = next.place in
    let slope : N +ℤ pos (w * D) ≡ majorant_end D N f final = ap (λ c. N +ℤ pos (c * D)) (sym last.slope) in
    let ends : n ≤ℤ majorant_end D N f final = omega (arith, ints) in
    rw (majorant-is D N f final v n next.class ends)
    (omega (arith, ints, scale-most d A (absolute_product hs is v n) least, twice-scaled d A))
