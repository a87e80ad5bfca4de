-- What the sequence of a corner's numbers is.
use Rattle.std.proofs.Common.{◌≡◌, ℕ, suc, refl}
use Rattle.tv_ring.specs.Operations.{Operations, RingLaws}
use Rattle.tv_ring.specs.Sums.{times, AreValues}
use Rattle.tv_ring.proofs.Times.{value_times}
use Rattle.tv_cells.specs.declared.legs.Legs.{Legs}
use Rattle.tv_cells.specs.Extras.{count}
use Rattle.tv_laws_series.specs.Terms.{listed}
use Rattle.tv_slices.specs.Rows.{numbers}
use Rattle.tv_vertex.specs.Corners.{extras_times}

pub extras_times-is : {A : Type 0} (r : Operations A) (legs : Legs) (i : ℕ) → extras_times r legs i ≡ times r (count legs i)
unfolding extras_times
extras_times-is r legs i = refl

pub value_extras : {A : Type 0} {IsValue : A → Type 0} {r : Operations A} → RingLaws IsValue r → (legs : Legs) → AreValues IsValue (extras_times r legs)
unfolding extras_times
value_extras laws legs i = value_times laws (count legs i)

pub numbers-are : {A : Type 0} (r : Operations A) (legs : Legs) (k : ℕ) → numbers r (count legs) (suc k) ≡ listed (extras_times r legs) (suc k)
unfolding numbers extras_times
numbers-are r legs k = refl
