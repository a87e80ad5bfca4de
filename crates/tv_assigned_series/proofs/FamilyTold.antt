-- A fault that is told is Wide only where the fault that it was made of is, and then for the same cause.
use Rattle.std.proofs.Common.{◌≡◌, ℤ, List, refl}
use Rattle.tv_ring.specs.declared.fault.RingFault.{RingFault}
use Rattle.tv_ring.specs.declared.fault.RingFault.TheVariants as ring
use Rattle.tv_laurent.specs.SeriesCalls as laurent
use Rattle.tv_laurent.specs.declared.fault.SeriesFault.{SeriesFault}
use Rattle.tv_laurent.specs.declared.fault.SeriesFault.TheVariants as series
use Rattle.tv_assigned_series.specs.declared.family_fault.GlueFault.{GlueFault}
use Rattle.tv_assigned_series.specs.declared.family_fault.GlueFault.TheVariants.{Wide, Memory}
use Rattle.tv_assigned_series.specs.FamilyFaults.{OnWide, of_ring, of_series}

pub ring-told : (P : List ℤ → Type 0) (fault : RingFault) (v : List ℤ) → (fault ≡ ring.Wide → P v) → OnWide (of_ring fault v) P
ring-told P ring.Wide v wide = wide refl
ring-told P ring.Memory v wide = tt

pub series-told : (Q : ℤ → Type 0) (P : List ℤ → Type 0) (fault : SeriesFault) (v : List ℤ) → laurent.OnWide fault Q → ((i : ℤ) → Q i → P v) → OnWide (of_series fault v) P
series-told Q P (series.Wide i) v wide cause = cause i wide
series-told Q P series.Memory v wide cause = tt

pub on-wide : (P Q : List ℤ → Type 0) (fault : GlueFault) → ((v : List ℤ) → P v → Q v) → OnWide fault P → OnWide fault Q
on-wide P Q (Wide v) more wide = more v wide
on-wide P Q Memory more wide = tt
