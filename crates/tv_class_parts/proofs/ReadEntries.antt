-- Entries of classes as machine numbers.
--
-- read-entry        an entry is read as it was written
use Rattle.std.specs.Prelude.{◌≡◌, ℤ}
use Rattle.std.specs.Int.{w64}
use Rattle.std.proofs.Common.{arith}
use Rattle.std.proofs.lemmas.Int.{to_z-of_z, fits_signed_from_abs}
use mir.Val.{to_z, of_z}
use Rattle.tv_lattice.specs.Classes.{IsEntry}

pub read-entry : (z : ℤ) → IsEntry z → to_z w64 (of_z w64 z) ≡ z
read-entry z small = to_z-of_z w64 z (fits_signed_from_abs w64 z (omega (arith, small)))
