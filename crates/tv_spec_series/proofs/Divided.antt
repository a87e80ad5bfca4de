-- A family that is divided has the classes of the family, and each series is divided.
use Rattle.std.proofs.Common.{◌≡◌, ℤ, List, [], ◌∷◌, map, Option, Some, None, refl, ap}
use Rattle.tv_ring.specs.Operations.{Operations}
use Rattle.tv_laws_series.specs.Terms.{Terms}
use Rattle.tv_laws_series.proofs.NormalForm.{bool_cases}
use Rattle.tv_spec_boxes.specs.Assignments.{same_vector}
use Rattle.tv_spec_series.specs.Families.{Row, classes, find, divided_row}
use Rattle.tv_spec_series.proofs.Rows.{find-nil, find-here, find-next}

pub classes-divided : {A : Type 0} (r : Operations A) (z : Terms A) (rows : List (Row A)) → classes (map (divided_row r z) rows) ≡ classes rows
classes-divided r z [] = refl
classes-divided r z (x ∷ rows) = ap (λ vs. x.class ∷ vs) (classes-divided r z rows)

-- what is found of a class is divided
abbrev pub found_divided : {A : Type 0} → Operations A → Terms A → Option (Row A) → Option (Row A)
found_divided r z None = None
found_divided r z (Some x) = Some (divided_row r z x)

pub find-divided : {A : Type 0} (r : Operations A) (z : Terms A) (v : List ℤ) (rows : List (Row A)) → find v (map (divided_row r z) rows) ≡ found_divided r z (find v rows)
find-divided r z v [] = rw (find-nil {A = _} v) refl
find-divided r z v (x ∷ rows) = bool_cases (same_vector x.class v)
    (λ e. rw (find-here v (divided_row r z x) (map (divided_row r z) rows) e, find-here v x rows e) refl)
    (λ e. rw (find-next v (divided_row r z x) (map (divided_row r z) rows) e, find-next v x rows e) (find-divided r z v rows))
