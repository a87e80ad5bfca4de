-- A ring's fault at an exponent, and without one.
--
--   fault_of fault n                == Wide there where the fault is Wide, else want of memory
--   IsWithoutExponent fault result  == result is Wide where the fault is, else want of memory
use Rattle.std.specs.Prelude.{◌≡◌, ℤ}
use Rattle.tv_ring.specs.declared.fault.RingFault.{RingFault}
use Rattle.tv_ring.specs.declared.fault.RingFault.TheVariants as ring
use Rattle.tv_laurent.specs.declared.fault.SeriesFault.{SeriesFault}
use Rattle.tv_laurent.specs.declared.fault.SeriesFault.TheVariants.{Wide, Memory}

abbrev pub fault_of : RingFault → ℤ → SeriesFault
fault_of ring.Wide n = Wide n
fault_of ring.Memory n = Memory

abbrev pub IsWithoutExponent : SeriesFault → RingFault → Type 0
IsWithoutExponent (Wide n) result = result ≡ ring.Wide
IsWithoutExponent Memory result = result ≡ ring.Memory
