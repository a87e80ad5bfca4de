-- What is left of a degree and of a class.
--
-- Left             == a degree, and an entry for each point at which the class is asked for: these are the first points, all of
--                     them where a class is asked for, and none where none is
-- spends l v       == at these points the class v has the entries that are left
-- less n v u       == u less n times v, entry by entry, as far as u goes
-- beside n g v l   == what is left of l beside n cells on an edge of degree g and class v
-- IsWithin d z     == an entry beside which the degree d is left: each cell has taken at most one greatest entry away
-- IsLeft l         == at most the greatest degree, and as many entries as a file may list points, or fewer, each within that
use Rattle.std.specs.Prelude.{ℕ, suc, ◌-◌, ◌*◌, ◌≤◌, ℤ, pos, ◌-ℤ◌, ◌*ℤ◌, Bool, List, [], ◌∷◌, length, take, unsigned_abs}
use Rattle.std.specs.List.{AllByRecursion}
use Rattle.tv_spec_boxes.specs.Assignments.{same_vector}
use Rattle.tv_spec_plane.specs.declared.limits.TheConstants.{GREATEST_DEGREE, GREATEST_ENTRY, MOST_POINTS}

pub record Left : Type 0 where
  pub degree : ℕ
  pub class : List ℤ

abbrev pub spends : Left → List ℤ → Bool
spends l v = same_vector (take (length l.class) v) l.class

abbrev pub less : ℕ → List ℤ → List ℤ → List ℤ
less n [] u = []
less n (x ∷ v) [] = []
less n (x ∷ v) (y ∷ u) = (y -ℤ (pos n *ℤ x)) ∷ less n v u

abbrev pub beside : ℕ → ℕ → List ℤ → Left → Left
beside n g v l = record { degree = l.degree - (n * g); class = less n v l.class }

abbrev pub IsWithin : ℕ → ℤ → Type 0
IsWithin d z = unsigned_abs z ≤ (suc GREATEST_DEGREE - d) * GREATEST_ENTRY

pub record IsLeft (l : Left) : Type 0 where
  pub low : l.degree ≤ GREATEST_DEGREE
  pub few : length l.class ≤ MOST_POINTS
  pub small : AllByRecursion (IsWithin l.degree) l.class
