-- The laws of kept integers.
--
-- SetInFront      == an integer that comes later than all of the list is put in front of it
-- OrderedAreKept  == integers that are in order to a degree are kept ones of at most that degree, and the other way round
use Rattle.std.specs.Prelude.{◌≡◌, ◌↔◌, ℕ, ℤ, pos, ◌≤ℤ◌, List, ◌∷◌}
use Rattle.std.specs.List.{AllByRecursion}
use Rattle.tv_spec_plane.specs.Web.{degree_of}
use Rattle.tv_spec_katz.specs.Katz.{Integer}
use Rattle.tv_spec_katz.specs.Relations.{AreOrdered}
use Rattle.tv_integers.specs.Kept.{AreKept, set_in}

abbrev pub SetInFront : Type 0
SetInFront = (hs : List ℤ) (i : Integer) (is : List Integer) → AreKept hs (i ∷ is) → set_in hs i is ≡ i ∷ is

abbrev pub HasDegreeTo : ℕ → List ℤ → Integer → Type 0
HasDegreeTo D hs i = degree_of hs i.class ≤ℤ pos D

abbrev pub OrderedAreKept : Type 0
OrderedAreKept = (D : ℕ) (hs : List ℤ) (is : List Integer)
    → AreOrdered D hs is ↔ (AreKept hs is × AllByRecursion (HasDegreeTo D hs) is)
