-- One step of the count: what is counted and what is left make the whole, before a cell is decided and after.
use Rattle.std.proofs.Common.{◌≡◌, ℕ, ◌+◌, ◌-◌, ◌<◌, true, List, [], ◌∷◌, ◌++◌, length, arith, ◌∙◌, ap}
use Rattle.tv_ring.specs.Operations.{Operations}
use Rattle.tv_ring.specs.Sums.{times}
use Rattle.tv_cells.specs.declared.cell.Cell.{Cell}
use Rattle.tv_cells.specs.declared.legs.Legs.{Legs}
use Rattle.tv_cells.specs.Cells.{rises, cube}
use Rattle.tv_cells.specs.Extras.{count, extent}
use Rattle.tv_cells.specs.Cuts.{leaves_gap}
use Rattle.tv_cells.proofs.Rising.{rises-remove}
use Rattle.tv_cells.proofs.Cubes.{cube-rises}
use Rattle.tv_vertex.specs.Rest.{rest}
use Rattle.tv_vertex.proofs.Remaining.{rest-step, rest-none, rest-count, rest-gap}

-- what holds when the cell c is decided, and the cells after it are left
pub record Step (legs : Legs) (now after remaining later : List Cell) (c : Cell) (left total added sum whole : ℕ) : Type 0 where
  pub first : remaining ≡ c ∷ later
  pub some : 0 < left
  pub rising : rises (now ++ remaining) ≡ true
  pub before : total + rest legs now remaining left ≡ whole
  pub taking : added ≡ rest legs (now ++ c ∷ []) later (left - 1)
  pub total_is : sum ≡ total + added
  pub kept : after ≡ now

pub step-sum : (legs : Legs) (now after remaining later : List Cell) (c : Cell) (left total added sum whole : ℕ) → Step legs now after remaining later c left total added sum whole → sum + rest legs after later left ≡ whole
step-sum legs now after remaining later c left total added sum whole s =
    let split = ap (λ cells. rest legs now cells left) s.first ∙ rest-step legs now c later left s.some in
    let same : rest legs after later left ≡ rest legs now later left = ap (λ chosen. rest legs chosen later left) s.kept in
    omega (arith, s.before, s.taking, s.total_is)

pub step-rises : (legs : Legs) (now after remaining later : List Cell) (c : Cell) (left total added sum whole : ℕ) → Step legs now after remaining later c left total added sum whole → rises (after ++ later) ≡ true
step-rises legs now after remaining later c left total added sum whole s =
    rw s.kept (rises-remove c now later (rw s.first at s.rising))

-- where a gap is left nothing more comes
pub step-gap : (legs : Legs) (now after remaining later : List Cell) (c : Cell) (left total added sum whole : ℕ) → Step legs now after remaining later c left total added sum whole → leaves_gap legs after c ≡ true → sum ≡ whole
step-gap legs now after remaining later c left total added sum whole s gap =
    let rising : rises (after ++ c ∷ later) ≡ true = rw s.kept (rw s.first at s.rising) in
    let none = rest-gap legs after c later left rising gap in
    let all = step-sum legs now after remaining later c left total added sum whole s in
    omega arith

-- where no cell is left neither does anything
pub step-end : (legs : Legs) (now remaining : List Cell) (left total whole : ℕ) → length remaining ≡ 0 → 0 < left → total + rest legs now remaining left ≡ whole → total ≡ whole
step-end legs now [] left total whole none some before = let left_none = rest-none legs now left some in omega arith
step-end legs now (c ∷ remaining) left total whole none some before = absurd (omega arith)

pub start-rises : (chosen cells : List Cell) (side : ℕ) → chosen ≡ [] → cells ≡ cube side → rises (chosen ++ cells) ≡ true
start-rises chosen cells side none whole = rw (none, whole) (cube-rises side)

pub start-count : (legs : Legs) (chosen cells : List Cell) (n side : ℕ) → chosen ≡ [] → cells ≡ cube side → side ≡ n + extent legs → rest legs chosen cells n ≡ count legs n
start-count legs chosen cells n side none whole e = rw (none, whole) (rest-count legs n side e)

-- a total that is a multiple of one by what is counted so far, and what is left of the whole
pub record IsSoFar {A : Type 0} (r : Operations A) (total : A) (left whole : ℕ) : Type 0 where
  pub counted : ℕ
  pub is : total ≡ times r counted
  pub sum : counted + left ≡ whole
