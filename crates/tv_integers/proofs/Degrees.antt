-- Integers in order to a degree are kept ones of at most that degree.
use Rattle.std.proofs.Common.{ℕ, ℤ, List, [], ◌∷◌}
use Rattle.std.specs.List.{AllByRecursion}
use Rattle.tv_spec_katz.specs.Katz.{Integer}
use Rattle.tv_spec_katz.specs.Relations.{AreOrdered}
use Rattle.tv_integers.specs.Kept.{AreKept}
use Rattle.tv_integers.specs.Laws.{HasDegreeTo}

pub kept_from : (D : ℕ) (hs : List ℤ) (is : List Integer) → AreOrdered D hs is → AreKept hs is × AllByRecursion (HasDegreeTo D hs) is
kept_from D hs [] h = (tt, tt)
kept_from D hs (i ∷ is) h = let rest = kept_from D hs is h.1.1 in (((h.0.positive, h.0.value), (h.1.0, rest.0)), (h.0.within, rest.1))

pub ordered_from : (D : ℕ) (hs : List ℤ) (is : List Integer) → AreKept hs is × AllByRecursion (HasDegreeTo D hs) is → AreOrdered D hs is
ordered_from D hs [] k = tt
ordered_from D hs (i ∷ is) k = (record { positive = k.0.0.0; within = k.1.0; value = k.0.0.1 }, (k.0.1.0, ordered_from D hs is (k.0.1.1, k.1.1)))
