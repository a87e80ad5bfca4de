-- An assignment that is added next.
--
-- IsNextOf r w d n a f == the family f is that of the assignments before a in the list of those of degree at most d
use Rattle.std.specs.Prelude.{◌≡◌, ℕ, ℤ, List, ◌∷◌, ◌++◌}
use Rattle.tv_ring.specs.Operations.{Operations}
use Rattle.tv_spec_plane.specs.Web.{Web}
use Rattle.tv_spec_boxes.specs.Assignments.{Assignment, assignments, no_legs}
use Rattle.tv_spec_series.specs.Families.{Family}
use Rattle.tv_laws_families.specs.Glued.{IsGlued}

pub record IsNextOf {A : Type 0} (r : Operations A) (w : Web) (d : ℕ) (n : ℤ) (a : Assignment) (f : Family A) : Type 0 where
  pub front : List Assignment
  pub later : List Assignment
  pub split : front ++ a ∷ later ≡ assignments w d
  pub glued : IsGlued r w (no_legs w) d n front f
