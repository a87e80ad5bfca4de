-- The ring of the whole numbers.
--
--   is_zero n     == whether a whole number is 0
--   wholes        == the operations on whole numbers; the size is the absolute value, and no exponent is reached
--   IsAny n       == always: each whole number is a value
use Rattle.std.specs.Prelude.{ℤ, pos, ◌+ℤ◌, ◌*ℤ◌, neg_ℤ, unsigned_abs, Bool, ◌==◌}
use Rattle.tv_ring.specs.Operations.{Operations}

abbrev pub is_zero : ℤ → Bool
is_zero n = unsigned_abs n == 0

abbrev pub wholes : Operations ℤ
wholes = record {
  nought = pos 0;
  unit = pos 1;
  add = λ x y. x +ℤ y;
  mul = λ x y. x *ℤ y;
  neg = neg_ℤ;
  is_nought = is_zero;
  size = unsigned_abs;
  reach = λ _. 0;
}

abbrev pub IsAny : ℤ → Type 0
IsAny n = Unit {0}
