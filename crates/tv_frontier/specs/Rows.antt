-- What is added to the state of the choice after a corner, class by class.
--
-- after_of w t h g         == the choice after corner t, of h on the pending edges and g on the new ones
-- target w t g u           == the class u with that of the new edges
-- addend_of w d n t h g v  == the joins into class v, as an addend
-- row_addends w d n t h g us == these for the targets of the classes us whose degree is at most d
-- sizes_up front v i       == the sum, over the addends of class v, of the absolute values of their numbers at i
-- HasRoom w d n front      == each such sum is at most the crowd of the class, of degree at most d, through the greatest
--                             exponent kept
-- HasShape w d m f         == the family has the heights of the web, degrees to d and exponents to m
-- IsBound w d n b          == b is at most the greatest exponent kept, and no further below the lowest kept than one
-- IsShaped w d n f         == the family has the heights of the web and degrees to d, and exponents to such a bound
-- Holding IsValue r w d n t k front f == the family holds these addends, and each of its classes is one of the state of k after
--                             t corners
-- KeepsRows IsValue r w d n t h g us f e == whatever f holds, e holds it and the addends of the classes us
-- IsCrowdedBy IsValue r w d n t h g us f v == v is crowded, if f holds some addends and there is room for those of us besides
-- IsPart IsValue r w d n t k f == f has the classes of the state of k after t corners, and its numbers, times one, as far as its
--                             exponents go
use Rattle.std.specs.Prelude.{◌≡◌, Contains, ℕ, suc, ◌+◌, ◌≤◌, ℤ, pos, ◌+ℤ◌, ◌≤ℤ◌, List, [], ◌∷◌, ◌++◌, cond, int_le, unsigned_abs}
use Rattle.std.specs.List.{AllByRecursion}
use Rattle.tv_lemmas.specs.Sums.{plus}
use Rattle.tv_ring.specs.Operations.{Operations}
use Rattle.tv_spec_plane.specs.Web.{Web, compact, degree_of}
use Rattle.tv_spec_boxes.specs.Assignments.{Rows, no_legs, class_of, same_vector}
use Rattle.tv_spec_boxes.specs.Numbers.{crowd}
use Rattle.tv_ring.specs.Sums.{times}
use Rattle.tv_spec_series.specs.Families.{Family, classes, coefficient_of, IsFamily}
use Rattle.tv_spec_partial.specs.Partial.{chosen}
use Rattle.tv_laws_frontier.specs.Frontier.{kept_upto, state_number}
use Rattle.tv_laws_frontier.specs.Steps.{new_part, near_part}
use Rattle.tv_laws_frontier.specs.StateClasses.{HasClass}
use Rattle.tv_assigned_series.specs.FamilyFaults.{IsCrowded}
use Rattle.tv_frontier.specs.Joining.{lowest_kept, join_number}
use Rattle.tv_frontier.specs.Sums.{Addend, StartsAt, Holds}

abbrev pub after_of : Web → ℕ → List Rows → List Rows → List Rows
after_of w t h g = chosen (suc t) (compact w) (near_part w t h g)

abbrev pub target : Web → ℕ → List Rows → List ℤ → List ℤ
target w t g u = plus u (class_of w (new_part w t g))

abbrev pub addend_of : Web → ℕ → ℤ → ℕ → List Rows → List Rows → List ℤ → Addend
addend_of w d n t h g v = record { class = v; number = λ i. pos (join_number w d n t h g v i) }

unfoldable pub row_addends : Web → ℕ → ℤ → ℕ → List Rows → List Rows → List (List ℤ) → List Addend
row_addends w d n t h g [] = []
row_addends w d n t h g (u ∷ us) =
    cond (int_le (degree_of w.heights (target w t g u)) (pos d))
    (addend_of w d n t h g (target w t g u) ∷ row_addends w d n t h g us) (row_addends w d n t h g us)

unfoldable pub sizes_up : List Addend → List ℤ → ℤ → ℕ
sizes_up [] v i = 0
sizes_up (a ∷ front) v i = cond (same_vector a.class v) (unsigned_abs (a.number i)) 0 + sizes_up front v i

abbrev pub HasRoom : Web → ℕ → ℤ → List Addend → Type 0
HasRoom w d n front =
    (v : List ℤ) (i : ℤ) → degree_of w.heights v ≤ℤ pos d → i ≤ℤ kept_upto w (no_legs w) d n →
    sizes_up front v i ≤ crowd w (no_legs w) d n v

pub record HasShape {A : Type 0} (w : Web) (d : ℕ) (m : ℤ) (f : Family A) : Type 0 where
  pub heights : f.heights ≡ w.heights
  pub top : f.top ≡ pos d
  pub upto : f.upto ≡ m

pub record IsBound (w : Web) (d : ℕ) (n b : ℤ) : Type 0 where
  pub first : lowest_kept w d n ≤ℤ (b +ℤ pos 1)
  pub last : b ≤ℤ kept_upto w (no_legs w) d n

pub record IsShaped {A : Type 0} (w : Web) (d : ℕ) (n : ℤ) (f : Family A) : Type 0 where
  pub heights : f.heights ≡ w.heights
  pub top : f.top ≡ pos d
  pub bound : IsBound w d n f.upto

abbrev pub Holding : {A : Type 0} → (A → Type 0) → Operations A → Web → ℕ → ℤ → ℕ → List Rows → List Addend → Family A → Type 0
Holding IsValue r w d n t k front f =
    Holds IsValue r w.heights (pos d) f.upto (lowest_kept w d n) (HasClass w d t k) front f

abbrev pub KeepsRows : {A : Type 0} → (A → Type 0) → Operations A → Web → ℕ → ℤ → ℕ → List Rows → List Rows → List (List ℤ) → Family A → Family A → Type 0
KeepsRows IsValue r w d n t h g us f e =
    (front : List Addend) → Holding IsValue r w d n (suc t) (after_of w t h g) front f →
    Holding IsValue r w d n (suc t) (after_of w t h g) (front ++ row_addends w d n t h g us) e

abbrev pub IsCrowdedBy : {A : Type 0} → (A → Type 0) → Operations A → Web → ℕ → ℤ → ℕ → List Rows → List Rows → List (List ℤ) → Family A → List ℤ → Type 0
IsCrowdedBy IsValue r w d n t h g us f v =
    (front : List Addend) → Holding IsValue r w d n (suc t) (after_of w t h g) front f →
    HasRoom w d n (front ++ row_addends w d n t h g us) → IsCrowded r w d n v

pub record IsPart {A : Type 0} (IsValue : A → Type 0) (r : Operations A) (w : Web) (d : ℕ) (n : ℤ) (t : ℕ) (k : List Rows) (f : Family A) : Type 0 where
  pub shape : IsShaped w d n f
  pub family : IsFamily IsValue r f
  pub each : AllByRecursion (HasClass w d t k) (classes f.rows)
  pub whole : (v : List ℤ) → HasClass w d t k v → Contains (classes f.rows) v
  pub low : AllByRecursion (StartsAt (lowest_kept w d n)) f.rows
  pub numbers : (v : List ℤ) (i : ℤ) → i ≤ℤ f.upto → degree_of w.heights v ≤ℤ pos d →
      coefficient_of r f v i ≡ times r (state_number w (no_legs w) d (kept_upto w (no_legs w) d n) t k v i)
