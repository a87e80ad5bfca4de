-- A cell of more than one leg is in the cube of the extent.
use Rattle.std.proofs.Common.{◌≡◌, ℕ, ◌+◌, ◌≤◌, ◌<◌, max, Bool, true, false, List, nat_lt, arith, refl, ◌∙◌}
use Rattle.std.proofs.lemmas.Bool.{and_from, lt-ltb}
use Rattle.tv_partition.specs.Rows.{IsDiagram, has, reach}
use Rattle.tv_partition.proofs.Shapes.{has-below}
use Rattle.tv_cells.specs.Extras.{bit, extent}
use Rattle.tv_cells.specs.Laws.{OverlapsAreInside}
use Rattle.tv_cells.proofs.Cubes.{cube-has}
use Rattle.tv_lemmas.proofs.Naturals.{first-max, second-max, third-max}

both-inside : (rows : List ℕ) (i j n : ℕ) → IsDiagram rows → reach rows ≤ n → has rows i j ≡ true → (i < n) × (j < n)
both-inside rows i j n d l h = less (reach rows) l (has-below rows d i j h)
  where
    less : (r : ℕ) → r ≤ n → (i < r) × (j < r) → (i < n) × (j < n)
    less r l p = (omega (arith, p.0), omega (arith, p.1))

-- two of three legs tell of all three entries
two-legs : (a b c : Bool) (x y z n : ℕ) → (a ≡ true → (y < n) × (z < n)) → (b ≡ true → (x < n) × (z < n)) → (c ≡ true → (x < n) × (y < n)) → 1 < (bit a + bit b) + bit c → (x < n) × (y < n) × (z < n)
two-legs true true c x y z n f g h more = ((g refl).0, (f refl).0, (f refl).1)
two-legs true false true x y z n f g h more = ((h refl).0, (f refl).0, (f refl).1)
two-legs true false false x y z n f g h more = absurd (omega arith)
two-legs false true true x y z n f g h more = ((g refl).0, (h refl).1, (g refl).1)
two-legs false true false x y z n f g h more = absurd (omega arith)
two-legs false false true x y z n f g h more = absurd (omega arith)
two-legs false false false x y z n f g h more = absurd (omega arith)

pub overlaps-are-inside : OverlapsAreInside
overlaps-are-inside legs c d more =
    let inside = two-legs (has legs.along_x c.y c.z) (has legs.along_y c.x c.z) (has legs.along_z c.x c.y) c.x c.y c.z (extent legs)
    (both-inside legs.along_x c.y c.z (extent legs) d.along_x (first-max (reach legs.along_x) (reach legs.along_y) (reach legs.along_z)))
    (both-inside legs.along_y c.x c.z (extent legs) d.along_y (second-max (reach legs.along_x) (reach legs.along_y) (reach legs.along_z)))
    (both-inside legs.along_z c.x c.y (extent legs) d.along_z (third-max (reach legs.along_x) (reach legs.along_y) (reach legs.along_z)))
    more in
    cube-has (extent legs) c
    ∙ and_from (nat_lt c.x (extent legs)) _ (lt-ltb c.x (extent legs) inside.0)
    (and_from (nat_lt c.y (extent legs)) _ (lt-ltb c.y (extent legs) inside.1) (lt-ltb c.z (extent legs) inside.2))
