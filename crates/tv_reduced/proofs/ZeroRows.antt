-- A full family in degree 0 has one class, class zero.
use Rattle.std.proofs.Common.{◌≡◌, ◌<◌, sym, ◌∙◌, arith, Some}
use Rattle.std.specs.Prelude.{Contains, ℤ, List, [], ◌∷◌, length, slice_get}
use Rattle.std.specs.List.{AllByRecursion}
use Rattle.tv_ring.specs.Operations.{Operations}
use Rattle.tv_spec_plane.specs.Web.{Web, compact}
use Rattle.tv_spec_boxes.specs.Assignments.{zeros, class_of, assignments, no_legs}
use Rattle.tv_spec_boxes.specs.Classes.{IsClass}
use Rattle.tv_spec_series.specs.Families.{Row, Family, classes}
use Rattle.tv_lemmas.proofs.Members.{all-contains, all-members}
use Rattle.tv_spec_series.specs.Full.{IsFullRow, IsFull}
use Rattle.tv_laws_families.proofs.ZeroClass.{nothing, assignments-none, class_on-nothing}

class_zero : (w : Web) (v : List ℤ) → IsClass w 0 v → v ≡ zeros (length w.points)
class_zero w v is =
    let all : AllByRecursion (λ a. class_of w a ≡ zeros (length w.points)) (assignments w 0) = rw (assignments-none w) (class_on-nothing w (compact w), tt) in
    sym is.same ∙ all-contains (λ a. class_of w a ≡ zeros (length w.points)) (assignments w 0) is.witness all is.listed

-- class zero is there
zero_is_class : (w : Web) → IsClass w 0 (zeros (length w.points))
zero_is_class w = record { witness = nothing (compact w); listed = rw (assignments-none w) (all-members (nothing (compact w) ∷ [])).0; same = class_on-nothing w (compact w) }

some : {A : Type 0} (rows : List (Row A)) (v : List ℤ) → Contains (classes rows) v → 0 < length rows
some [] v h = absurd (all-contains (λ (u : List ℤ). ⊥) [] v tt h)
some (x ∷ rows) v h = omega arith

pub zero_rows : {A : Type 0} (r : Operations A) (w : Web) (n : ℤ) (f : Family A) → IsFull r w (no_legs w) 0 n f → 0 < length f.rows
zero_rows r w n f full = some f.rows (zeros (length w.points)) (full.classes.whole (zeros (length w.points)) (zero_is_class w))

first_of : {A : Type 0} (r : Operations A) (w : Web) (n : ℤ) (rows : List (Row A)) (x : Row A) → AllByRecursion (IsClass w 0) (classes rows) → AllByRecursion (IsFullRow r w (no_legs w) 0 n) rows → slice_get rows 0 ≡ Some x → (x.class ≡ zeros (length w.points)) × IsFullRow r w (no_legs w) 0 n x
first_of r w n [] x is full e = cc
first_of r w n (y ∷ rows) x is full e = let same : y ≡ x = cc in rw (← same) (class_zero w y.class is.0, full.0)

pub zero_first : {A : Type 0} (r : Operations A) (w : Web) (n : ℤ) (f : Family A) (x : Row A) → IsFull r w (no_legs w) 0 n f → slice_get f.rows 0 ≡ Some x → (x.class ≡ zeros (length w.points)) × IsFullRow r w (no_legs w) 0 n x
zero_first r w n f x full e = first_of r w n f.rows x full.classes.each full.rows e
