-- Printed numbers.
--
-- spaced zs == a space and the number, for each number
use Rattle.std.specs.Prelude.{ℕ, ℤ, List, ◌∷◌}
use Rattle.std.specs.List.{flat_map}
use Rattle.tv_spec_text.specs.Lines.{spelled}

abbrev pub spaced : List ℤ → List ℕ
spaced zs = flat_map (λ z. 32 ∷ spelled z) zs
