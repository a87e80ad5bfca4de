-- Worked values of diagrams.
use Rattle.std.proofs.Common.{arith}
use Rattle.std.specs.Prelude.{◌≡◌, [], ◌∷◌, refl}
use Rattle.tv_partition.specs.Rows.{IsDiagram, flipped, diagrams, diagrams_within}

-- the three diagrams of 3 cells
diagrams_of_three : diagrams 3 ≡ (3 ∷ []) ∷ (2 ∷ 1 ∷ []) ∷ (1 ∷ 1 ∷ 1 ∷ []) ∷ []
unfolding diagrams diagrams_within
diagrams_of_three = refl

-- the hook of rows 3 and 1 has columns 2, 1 and 1
flipped_hook : flipped (3 ∷ 1 ∷ []) ≡ 2 ∷ 1 ∷ 1 ∷ []
flipped_hook = refl

-- rows fall
falling : IsDiagram (2 ∷ 1 ∷ [])
falling = (omega arith, (omega arith, omega arith, tt))

rising : IsDiagram (1 ∷ 2 ∷ []) → ⊥
rising d = let rise = d.1.1 in omega (arith, rise)
