-- Series that are kept by legs: the least images of those of their corners.
--
-- same a b           == the legs are found equal
-- IsKept r e         == the entry's series is that of the corner with its legs
-- AreKept r es       == so is each
-- IsPlaceOf r legs k es i == the series at i is that of the corner with these legs, known through k at least
-- Keeps r legs k es  == so is the series under these legs, and there is one
-- KeepsMore r es new == new keeps what es keeps
use Rattle.std.specs.Prelude.{◌≡◌, ℕ, Bool, List, Some, slice_get, IsSomeAnd}
use Rattle.std.specs.List.{AllByRecursion}
use Rattle.std.specs.Map.{lookup, values_of}
use Rattle.tv_ring.specs.Operations.{Operations}
use Rattle.tv_laws_series.specs.Terms.{Terms}
use Rattle.tv_cells.specs.declared.legs.Legs.{Legs}
use Rattle.tv_cells.specs.contracts.legs.LegsPartialEq.TheImpl.{eq-value}
use Rattle.tv_assigned_series.specs.Terms.{IsCornerFrom}

abbrev pub same : Legs → Legs → Bool
same = eq-value.it

abbrev pub IsKept : {A : Type 0} → Operations A → Legs × Terms A → Type 0
IsKept r e = IsCornerFrom r e.0 0 e.1

abbrev pub AreKept : {A : Type 0} → Operations A → List (Legs × Terms A) → Type 0
AreKept r es = AllByRecursion (IsKept r) es

abbrev pub IsPlaceOf : {A : Type 0} → Operations A → Legs → ℕ → List (Legs × Terms A) → ℕ → Type 0
IsPlaceOf {A} r legs k es i = (s : Terms A) × (slice_get (values_of es) i ≡ Some s) × IsCornerFrom r legs k s

abbrev pub Keeps : {A : Type 0} → Operations A → Legs → ℕ → List (Legs × Terms A) → Type 0
Keeps r legs k es = IsSomeAnd (lookup (same legs) es) (IsCornerFrom r legs k)

abbrev pub KeepsMore : {A : Type 0} → Operations A → List (Legs × Terms A) → List (Legs × Terms A) → Type 0
KeepsMore r es new = (legs : Legs) (k : ℕ) → Keeps r legs k es → Keeps r legs k new
