-- The exponent that a fault of a series names.
use Rattle.std.proofs.Common.{◌≡◌, ℕ, ◌<◌, ℤ, pos, ◌+ℤ◌, refl}
use Rattle.tv_ring.specs.Operations.{limit}
use Rattle.tv_ring.specs.declared.fault.RingFault.{RingFault}
use Rattle.tv_ring.specs.declared.fault.RingFault.TheVariants as ring
use Rattle.tv_laurent.specs.Faults.{fault_of}
use Rattle.tv_laurent.specs.SeriesCalls.{IsWideAt, OnWide}

-- a fault of a ring at a place is a fault at its exponent
pub on_wide : (fault : RingFault) (m low : ℤ) (count k : ℕ) (size : ℕ → ℕ) → m ≡ low +ℤ pos k → k < count → (fault ≡ ring.Wide → limit < size k) → OnWide (fault_of fault m) (λ n. IsWideAt low n count size)
on_wide ring.Wide m low count k size e within wide = record { place = k; within = within; exponent = e; wide = wide refl }
on_wide ring.Memory m low count k size e within wide = tt
