-- The ring of the remainders modulo a number.
--
--   modulus m          == the number that is computed by: m, or 1 where m is 0
--   IsRemainder m x    == x is a least remainder
--   residues m         == the operations on least remainders; sizes and reaches are 0
use Rattle.std.specs.Prelude.{ℕ, ◌+◌, ◌-◌, ◌*◌, ◌%◌, ◌<◌, max, ◌==◌}
use Rattle.tv_ring.specs.Operations.{Operations}

abbrev pub modulus : ℕ → ℕ
modulus m = max m 1

abbrev pub IsRemainder : ℕ → ℕ → Type 0
IsRemainder m x = x < modulus m

abbrev pub residues : ℕ → Operations ℕ
residues m = record {
  nought = 0;
  unit = 1 % modulus m;
  add = λ x y. (x + y) % modulus m;
  mul = λ x y. (x * y) % modulus m;
  neg = λ x. (modulus m - x) % modulus m;
  is_nought = λ x. x == 0;
  size = λ _. 0;
  reach = λ _. 0;
}
