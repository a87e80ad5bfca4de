-- The classes that assignments have, and their order.
--
-- IsClass w d v       == some assignment of degree at most d has the class v
-- EntriesBefore u v   == at the first entry where the vectors differ, that of u is the lesser
-- IsBefore hs u v     == u has the lesser degree, or the same degree and the lesser entries
-- ClassesRise hs vs   == each class is before the next one
-- AreClasses w d vs   == every class that some assignment of degree at most d has, each once, in order
use Rattle.std.specs.Prelude.{◌≡◌, ◌⊎◌, Contains, ℕ, ℤ, ◌<ℤ◌, List, [], ◌∷◌, ⊤}
use Rattle.std.specs.List.{AllByRecursion}
use Rattle.tv_spec_plane.specs.Web.{Web, degree_of}
use Rattle.tv_spec_boxes.specs.Assignments.{Assignment, assignments, class_of}

pub record IsClass (w : Web) (d : ℕ) (v : List ℤ) : Type 0 where
  pub witness : Assignment
  pub listed : Contains (assignments w d) witness
  pub same : class_of w witness ≡ v

abbrev pub EntriesBefore : List ℤ → List ℤ → Type 0
EntriesBefore (x ∷ u) (y ∷ v) = (x <ℤ y) ⊎ ((x ≡ y) × EntriesBefore u v)
EntriesBefore _ _ = ⊥

abbrev pub IsBefore : List ℤ → List ℤ → List ℤ → Type 0
IsBefore hs u v = (degree_of hs u <ℤ degree_of hs v) ⊎ ((degree_of hs u ≡ degree_of hs v) × EntriesBefore u v)

abbrev pub ClassesRise : List ℤ → List (List ℤ) → Type 0
ClassesRise hs [] = ⊤
ClassesRise hs (u ∷ []) = ⊤
ClassesRise hs (u ∷ v ∷ vs) = IsBefore hs u v × ClassesRise hs (v ∷ vs)

pub record AreClasses (w : Web) (d : ℕ) (vs : List (List ℤ)) : Type 0 where
  pub rises : ClassesRise w.heights vs
  pub each : AllByRecursion (IsClass w d) vs
  pub whole : (v : List ℤ) → IsClass w d v → Contains vs v
