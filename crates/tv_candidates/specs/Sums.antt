-- Sums of two classes.
--
-- CanAdd u v      == as many entries in both, and each entry of the sum is within the limit of entries
-- CanAddEach us vs == so it is for each class of the one list with each of the other
-- pair_sums us vs == the sums of each class of the one list with each of the other
use Rattle.std.specs.Prelude.{◌≡◌, ℤ, List, map, length}
use Rattle.std.specs.List.{AllByRecursion, flat_map}
use Rattle.tv_lemmas.specs.Sums.{plus}
use Rattle.tv_lattice.specs.Classes.{IsEntry}

pub record CanAdd (u v : List ℤ) : Type 0 where
  pub same_length : length u ≡ length v
  pub small : AllByRecursion IsEntry (plus u v)

pub record CanAddEach (us vs : List (List ℤ)) : Type 0 where
  pub each : AllByRecursion (λ u. AllByRecursion (CanAdd u) vs) us

abbrev pub pair_sums : List (List ℤ) → List (List ℤ) → List (List ℤ)
pair_sums us vs = flat_map (λ u. map (plus u) vs) us
