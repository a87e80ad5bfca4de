-- The powers of 1 - X that the integers of one class have together, by weight. The exponent 0 of the class has the weight base, and an
-- integer of genus g has its lowest power at the weight base + 1 - g.
--
-- value_power base g t == the power at the weight t of the factors of an integer with this genus and value
-- values_sum base gs t == the sum of these over the integers
-- values_size base gs t == the sum of their sizes
use Rattle.std.specs.Prelude.{ℕ, ◌+◌, ◌-◌, ℤ, pos, ◌+ℤ◌, unsigned_abs, List, [], ◌∷◌}
use Rattle.tv_integers.specs.declared.genus_value.GenusValue.{GenusValue}
use Rattle.tv_class_integers.specs.Powers.{added}

abbrev pub value_power : ℕ → GenusValue → ℕ → ℤ
value_power base g t = added ((base + 1) - g.genus) g.genus g.value t

abbrev pub values_sum : ℕ → List GenusValue → ℕ → ℤ
values_sum base [] t = pos 0
values_sum base (g ∷ gs) t = value_power base g t +ℤ values_sum base gs t

abbrev pub values_size : ℕ → List GenusValue → ℕ → ℕ
values_size base [] t = 0
values_size base (g ∷ gs) t = unsigned_abs (value_power base g t) + values_size base gs t
