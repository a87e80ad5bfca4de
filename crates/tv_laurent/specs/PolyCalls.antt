-- What the calls of a polynomial compute.
--
--   poly_term r n c      == c times the power n of the variable
--   outward r low f k    == the absolute exponent low + k and the reach of the coefficient there, nought or not
use Rattle.std.specs.Prelude.{ℕ, ◌+◌, ℤ, pos, ◌+ℤ◌, unsigned_abs, [], ◌∷◌}
use Rattle.tv_ring.specs.Operations.{Operations}
use Rattle.tv_laws_series.specs.Terms.{Terms}
use Rattle.tv_laws_series.specs.Polynomials.{normal}

abbrev pub poly_term : {A : Type 0} → Operations A → ℤ → A → Terms A
poly_term r n c = normal r n (c ∷ [])

unfoldable pub outward : {A : Type 0} → Operations A → ℤ → (ℕ → A) → ℕ → ℕ
outward r low f k = unsigned_abs (low +ℤ pos k) + r.reach (f k)
