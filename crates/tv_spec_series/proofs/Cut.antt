-- A family that is cut has the classes of the family, and each series is cut.
use Rattle.std.proofs.Common.{◌≡◌, ℤ, ◌≤ℤ◌, List, [], ◌∷◌, map, Option, Some, None, refl, ap}
use Rattle.tv_ring.specs.Operations.{Operations}
use Rattle.tv_laws_series.proofs.NormalForm.{bool_cases}
use Rattle.tv_laws_series.proofs.Coefficients.{coefficient-cut}
use Rattle.tv_spec_boxes.specs.Assignments.{same_vector}
use Rattle.tv_spec_series.specs.Families.{Row, Family, classes, find, cut_row, cut, series_coefficient, coefficient_of}
use Rattle.tv_spec_series.proofs.Rows.{find-nil, find-here, find-next}

pub classes-cut : {A : Type 0} (n : ℤ) (rows : List (Row A)) → classes (map (cut_row n) rows) ≡ classes rows
classes-cut n [] = refl
classes-cut n (x ∷ rows) = ap (λ vs. x.class ∷ vs) (classes-cut n rows)

-- what is found of a class is cut
abbrev pub found_cut : {A : Type 0} → ℤ → Option (Row A) → Option (Row A)
found_cut n None = None
found_cut n (Some x) = Some (cut_row n x)

pub find-cut : {A : Type 0} (n : ℤ) (v : List ℤ) (rows : List (Row A)) → find v (map (cut_row n) rows) ≡ found_cut n (find v rows)
find-cut n v [] = rw (find-nil {A = _} v) refl
find-cut n v (x ∷ rows) = bool_cases (same_vector x.class v)
    (λ e. rw (find-here v (cut_row n x) (map (cut_row n) rows) e, find-here v x rows e) refl)
    (λ e. rw (find-next v (cut_row n x) (map (cut_row n) rows) e, find-next v x rows e) (find-cut n v rows))

series_coefficient-cut : {A : Type 0} (r : Operations A) (n i : ℤ) (found : Option (Row A)) → i ≤ℤ n → series_coefficient r i (found_cut n found) ≡ series_coefficient r i found
series_coefficient-cut r n i None h = refl
series_coefficient-cut r n i (Some x) h = coefficient-cut r n x.series i h

-- the coefficients through the cut stay
pub coefficient_of-cut : {A : Type 0} (r : Operations A) (f : Family A) (n : ℤ) (v : List ℤ) (i : ℤ) → i ≤ℤ n → coefficient_of r (cut n f) v i ≡ coefficient_of r f v i
coefficient_of-cut r f n v i h = rw (find-cut n v f.rows) (series_coefficient-cut r n i (find v f.rows) h)
