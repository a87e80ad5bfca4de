-- The slice of the legs alone.
--
-- bare_from legs t d n == the heights of the legs from place d on, n of them, up to the first 0
-- bare legs t          == the slice of the legs alone at t
-- at_start c           == the ways up to it at the first diagonal: one, of cost 0
use Rattle.std.specs.Prelude.{ℕ, zero, suc, ℤ, cond, List, [], ◌∷◌, nat_eq}
use Rattle.tv_cells.specs.declared.legs.Legs.{Legs}
use Rattle.tv_cells.specs.Extras.{extent}
use Rattle.tv_spec_slices.specs.Slices.{Shape, base_at}
use Rattle.tv_spec_slices.specs.Paths.{full_of, shape}

unfoldable pub bare_from : Legs → ℤ → ℕ → ℕ → List ℕ
bare_from legs t d zero = []
bare_from legs t d (suc n) = cond (nat_eq (base_at legs t d) 0) [] (base_at legs t d ∷ bare_from legs t (suc d) n)

unfoldable pub bare : Legs → ℤ → Shape
bare legs t = shape (full_of legs t (extent legs)) (bare_from legs t (full_of legs t (extent legs)) (extent legs))

abbrev pub at_start : ℕ → ℕ
at_start c = cond (nat_eq c 0) 1 0
