-- Remainders of whole numbers, and the multiples of one among remainders.
--
-- IsLeastRemainder m n z == n is less than m, and z is n and a whole multiple of m
-- RemainderIsLeast       == so is the remainder, for each m of at least 1
-- TimesOfResidues        == z times one, among the remainders modulo m, is the remainder of z
use Rattle.std.specs.Prelude.{◌≡◌, ◌<◌, ◌≤◌, ℕ, ℤ, pos, ◌+ℤ◌, ◌*ℤ◌}
use Rattle.tv_ring.specs.Sums.{whole_times}
use Rattle.tv_ring.specs.Residue.{modulus, residues}
use Rattle.tv_spec_reports.specs.Residues.{remainder}

pub record IsLeastRemainder (m n : ℕ) (z : ℤ) : Type 0 where
  pub least : n < m
  pub multiple : ℤ
  pub same : z ≡ pos n +ℤ (multiple *ℤ pos m)

abbrev pub RemainderIsLeast : Type 0
RemainderIsLeast = (m : ℕ) (z : ℤ) → 1 ≤ m → IsLeastRemainder m (remainder m z) z

abbrev pub TimesOfResidues : Type 0
TimesOfResidues = (m : ℕ) (z : ℤ) → whole_times (residues m) z ≡ remainder (modulus m) z
