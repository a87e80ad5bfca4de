-- What is true of the list of all diagrams of a size, and which sets of cells diagrams are, as laws.
--
-- greater a b         == at the first place where they differ a has the greater row, or b has none
-- descends lists      == each of the lists is greater than the next one
-- DiagramsAreAll      == the diagrams of n cells are exactly those in the list
-- DiagramsOnce        == no two places of the list have the same diagram
-- DiagramsDescend     == of two diagrams of the list the greater comes first
-- IsDownClosed cells  == a set of cells that has with a cell the two that are one step lower
-- IsBelow n cells     == both entries of each cell of the set are below n, so that it is finite
-- HasCells rows cells == the cells of the diagram are those of the set
-- DiagramsAreSets     == diagrams are exactly the finite sets of cells closed downwards: each is one, and each is that of
--                        exactly one diagram
use Rattle.std.specs.Prelude.{◌≡◌, ℕ, suc, ◌<◌, Bool, true, false, ◌&&◌, ◌||◌, List, [], ◌∷◌, nat_eq, nat_lt, IsTrue, ◌↔◌}
use Rattle.std.specs.List.{list_any, IsDistinct}
use Rattle.std.specs.Cmp.Lexicographic.{pointwise}
use Rattle.tv_partition.specs.Rows.{IsDiagram, size, has, reach, diagrams}

abbrev pub greater : List ℕ → List ℕ → Bool
greater [] b = false
greater (row ∷ rows) [] = true
greater (row ∷ rows) (other ∷ others) = nat_lt other row || (nat_eq row other && greater rows others)

abbrev pub descends : List (List ℕ) → Bool
descends [] = true
descends (a ∷ []) = true
descends (a ∷ b ∷ lists) = greater a b && descends (b ∷ lists)

abbrev pub DiagramsAreAll : Type 0
DiagramsAreAll = (n : ℕ) (rows : List ℕ) → IsTrue (list_any (pointwise nat_eq rows) (diagrams n)) ↔ (IsDiagram rows × (size rows ≡ n))

abbrev pub DiagramsOnce : Type 0
DiagramsOnce = (n : ℕ) → IsDistinct (pointwise nat_eq) (diagrams n)

abbrev pub DiagramsDescend : Type 0
DiagramsDescend = (n : ℕ) → descends (diagrams n) ≡ true

-- the set of the cells (i, j) that pass
pub record IsDownClosed (cells : ℕ → ℕ → Bool) : Type 0 where
  pub first : (i j : ℕ) → IsTrue (cells (suc i) j) → IsTrue (cells i j)
  pub second : (i j : ℕ) → IsTrue (cells i (suc j)) → IsTrue (cells i j)

abbrev pub IsBelow : ℕ → (ℕ → ℕ → Bool) → Type 0
IsBelow n cells = (i j : ℕ) → IsTrue (cells i j) → (i < n) × (j < n)

abbrev pub HasCells : List ℕ → (ℕ → ℕ → Bool) → Type 0
HasCells rows cells = (i j : ℕ) → has rows i j ≡ cells i j

pub record DiagramsAreSets : Type 0 where
  pub closed : (rows : List ℕ) → IsDiagram rows → IsDownClosed (has rows)
  pub finite : (rows : List ℕ) → IsDiagram rows → IsBelow (reach rows) (has rows)
  pub every : (cells : ℕ → ℕ → Bool) (n : ℕ) → IsDownClosed cells → IsBelow n cells → (rows : List ℕ) × (IsDiagram rows × HasCells rows cells)
  pub once : (a b : List ℕ) → IsDiagram a → IsDiagram b → HasCells a (has b) → a ≡ b
