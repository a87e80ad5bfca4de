-- A series is 0 below minus its depth, and the genera so far are at most the depth of their list and 1.
use Rattle.std.proofs.Common.{◌≡◌, suc, ◌≤◌, ℤ, pos, negsuc, neg_ℤ, ◌-ℤ◌, ◌<ℤ◌, List, [], ◌∷◌, Option, Some, None, refl, sym, ◌∙◌, ap, arith}
use Rattle.std.proofs.lemmas.Int.{ints, by_lt_z}
use Rattle.std.proofs.lemmas.Bool.Decides.{Decides-int_eq}
use Rattle.std.specs.List.{AllByRecursion}
use Rattle.std.specs.Ordering.{int_eq}
use Rattle.tv_lemmas.proofs.Members.{all-onto}
use Rattle.tv_ring.specs.Whole.{wholes}
use Rattle.tv_ring.specs.Sums.{at}
use Rattle.tv_laws_series.specs.Terms.{terms, above}
use Rattle.tv_lemmas.specs.Naturals.{as_natural}
use Rattle.tv_laws_series.proofs.Exponents.{above_is}
use Rattle.tv_laws_series.proofs.Coefficients.{coefficient_below, coefficient_at}
use Rattle.tv_laws_series.proofs.NormalForm.{bool_cases, at-nil, at-first, at-next}
use Rattle.tv_spec_series.specs.Families.{Row, Family, coefficient, coefficient_of, series_coefficient, find}
use Rattle.tv_spec_katz.specs.Katz.{Integer}
use Rattle.tv_spec_katz.specs.Integers.{depth_from, series_depth, genus_depth}
use Rattle.tv_lemmas.proofs.Naturals.{as_natural-above}

-- after a first coefficient 0 the series is that of the others
after_nought : (x : ℤ) (xs : List ℤ) (low n : ℤ) → x ≡ pos 0
    → coefficient wholes (terms low (x ∷ xs)) n ≡ coefficient wholes (terms (low -ℤ negsuc 0) xs) n
after_nought x xs low n e = by_lt_z n low
    (λ below. coefficient_below wholes (terms low (x ∷ xs)) n below
    ∙ sym (coefficient_below wholes (terms (low -ℤ negsuc 0) xs) n (omega (arith, ints))))
    (λ from_low. by_lt_z n (low -ℤ negsuc 0)
    (λ first. let here : above low n ≡ 0 = omega (arith, ints, above_is low n) in
    coefficient_at wholes (terms low (x ∷ xs)) n from_low
    ∙ (ap (at wholes (x ∷ xs)) here
    ∙ (at-first wholes x xs ∙ (e ∙ sym (coefficient_below wholes (terms (low -ℤ negsuc 0) xs) n first)))))
    (λ later. let next : above low n ≡ suc (above (low -ℤ negsuc 0) n) = omega
    (arith, ints, above_is low n, above_is (low -ℤ negsuc 0) n) in
    coefficient_at wholes (terms low (x ∷ xs)) n from_low
    ∙ (ap (at wholes (x ∷ xs)) next
    ∙ (at-next wholes x xs (above (low -ℤ negsuc 0) n) ∙ sym (coefficient_at wholes (terms (low -ℤ negsuc 0) xs) n later)))))

below_depth : (xs : List ℤ) (low n : ℤ) → n <ℤ neg_ℤ (pos (depth_from xs low)) → coefficient wholes (terms low xs) n ≡ pos 0
below_depth [] low n h = by_lt_z n low
    (λ below. coefficient_below wholes (terms low []) n below)
    (λ from_low. coefficient_at wholes (terms low []) n from_low ∙ at-nil wholes (above low n))
below_depth (x ∷ xs) low n h = bool_cases (int_eq x (pos 0))
    (λ b. after_nought x xs low n ((Decides-int_eq x (pos 0)).0 b) ∙ below_depth xs (low -ℤ negsuc 0) n (rw b at h))
    (λ b. let least = as_natural-above (pos 0 -ℤ low) in let deep : n <ℤ neg_ℤ (pos (as_natural (pos 0 -ℤ low))) = rw b at h in
    coefficient_below wholes (terms low (x ∷ xs)) n (omega (arith, ints)))

pub below_series : (f : Family ℤ) (v : List ℤ) (n : ℤ) → n <ℤ neg_ℤ (pos (series_depth (find v f.rows)))
    → coefficient_of wholes f v n ≡ pos 0
below_series f v n = found (find v f.rows)
  where
    found : (x : Option (Row ℤ)) → n <ℤ neg_ℤ (pos (series_depth x)) → series_coefficient wholes n x ≡ pos 0
    found None h = refl
    found (Some x) h = below_depth x.series.coefficients x.series.low n h

pub genera_within : (is : List Integer) → AllByRecursion (λ i. i.genus ≤ suc (genus_depth is)) is
genera_within [] = tt
genera_within (i ∷ is) = (
  omega arith,
  all-onto (λ j. j.genus ≤ suc (genus_depth is))
      (λ j. j.genus ≤ suc (genus_depth (i ∷ is))) (λ j h. omega arith) is (genera_within is),
)
