-- A fault that is told is Wide only where the fault that it was made of is, and then for the same cause.
use Rattle.std.proofs.Common.{◌≡◌, ℤ, Err}
use Rattle.std.specs.Result.{IsErrOf}
use Rattle.tv_ring.specs.declared.fault.RingFault.{RingFault}
use Rattle.tv_ring.specs.declared.fault.RingFault.TheVariants as ring
use Rattle.tv_laurent.specs.Faults.{IsWithoutExponent}
use Rattle.tv_laurent.specs.SeriesCalls.{OnWide}
use Rattle.tv_laurent.specs.declared.fault.SeriesFault.{SeriesFault}
use Rattle.tv_laurent.proofs.PolyResults.{wide_without}

pub wide-series : {T : Type 0} {P : ℤ → Type 0} {Q : Type 0} (fault : SeriesFault) (result : RingFault) → IsWithoutExponent fault result → OnWide fault P → ((n : ℤ) → P n → Q) → IsErrOf {T = T} (Err result) ring.Wide → Q
wide-series fault result without wide cause h =
    let is : result ≡ ring.Wide = cc in
    wide_without fault result without wide cause is
