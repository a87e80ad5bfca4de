-- The sublists of a rising list of cells, and so the sets of extras of a corner, are in their order.
use Rattle.std.specs.Prelude.{◌≡◌, ℕ, zero, suc, ◌+◌, Bool, true, false, ◌&&◌, List, [], ◌∷◌, map, length}
use Rattle.std.specs.List.{AllByRecursion, IsDistinct}
use Rattle.std.proofs.Common.{arith}
use Rattle.std.proofs.lemmas.Bool.{not_from_true, or_left}
use Rattle.tv_lemmas.proofs.Members.{all-map, all-filter, all-both, all-any}
use Rattle.tv_lemmas.proofs.Distinct.{distinct-append, distinct-map, distinct-filter}
use Rattle.tv_cells.specs.declared.cell.Cell.{Cell}
use Rattle.tv_cells.specs.declared.legs.Legs.{Legs}
use Rattle.tv_cells.specs.Cells.{same, precedes, rises, cube, sublists_of}
use Rattle.tv_cells.specs.Extras.{is_extras, extent}
use Rattle.tv_cells.proofs.Rising.{Before, before_rising, rises-tail, same_itself}
use Rattle.tv_cells.proofs.Sublists.{sublists-before, sublists_of-length}
use Rattle.tv_cells.proofs.Cubes.{cube-rises}
use Rattle.tv_spec_boxes.specs.Configurations.{extras_of}
use Rattle.tv_laws_orders.specs.Orders.{first_differs, set_before}
use Rattle.tv_laws_orders.specs.Laws.{ExtrasInOrder}
use Rattle.tv_laws_orders.proofs.Ordered.{wrong, Ordered, in_order, of_one_number, behind}

abbrev pub earlier : List Cell → List Cell → Bool
earlier = first_differs same precedes

-- what begins by a cell comes before a list of later cells that is not empty
before_one : (c : Cell) (n : ℕ) (s t : List Cell) → Before c t → length t ≡ suc n → wrong earlier (c ∷ s) t ≡ false
before_one c n s [] b e = absurd (omega arith)
before_one c n s (d ∷ t) b e = not_from_true (earlier (c ∷ s) (d ∷ t)) (or_left (precedes c d) (same c d && earlier s t) b.0)

begun_before : (c : Cell) (n : ℕ) (s cells : List Cell) → Before c cells →
    AllByRecursion (λ t. wrong earlier (c ∷ s) t ≡ false) (sublists_of (suc n) cells)
begun_before c n s cells b =
    all-both (Before c) (λ t. length t ≡ suc n) (λ t. wrong earlier (c ∷ s) t ≡ false) (before_one c n s)
    (sublists_of (suc n) cells) (sublists-before c (suc n) cells b) (sublists_of-length (suc n) cells)

pub sublists-ordered : (n : ℕ) (cells : List Cell) → rises cells ≡ true → Ordered earlier (sublists_of n cells)
unfolding sublists_of IsDistinct
sublists-ordered zero cells r = (tt, tt)
sublists-ordered (suc n) [] r = tt
sublists-ordered (suc n) (c ∷ cells) r =
    let after = rises-tail c cells r in
    let without = sublists_of (suc n) cells in
    distinct-append (wrong earlier) (map (λ s. c ∷ s) (sublists_of n cells)) without
    (distinct-map (wrong earlier) (wrong earlier) (λ s. c ∷ s) (behind same precedes same_itself c) (sublists_of n cells)
    (sublists-ordered n cells after))
    (sublists-ordered (suc n) cells after)
    (all-map (λ (s : List Cell). Unit {0}) (λ u. AllByRecursion (λ t. wrong earlier u t ≡ false) without) (λ s. c ∷ s)
    (λ s none. begun_before c n s cells (before_rising c cells r)) (sublists_of n cells)
    (all-any (λ (s : List Cell). Unit {0}) (λ s. tt) (sublists_of n cells)))

pub extras-length : (legs : Legs) (side i : ℕ) → AllByRecursion (λ s. length s ≡ i) (extras_of legs side i)
extras-length legs side i =
    let cells = cube (side + extent legs) in
    let P : List Cell → Type 0 = λ s. length s ≡ i in
    all-filter P P (is_extras legs) (λ s e on. e) (sublists_of i cells) (sublists_of-length i cells)

pub extras-ordered : (legs : Legs) (side i : ℕ) → Ordered set_before (extras_of legs side i)
extras-ordered legs side i =
    let cells = cube (side + extent legs) in
    of_one_number length earlier i (extras_of legs side i) (extras-length legs side i)
    (distinct-filter (wrong earlier) (is_extras legs) (sublists_of i cells) (sublists-ordered i cells (cube-rises (side + extent legs))))

pub extras_in_order : ExtrasInOrder
extras_in_order legs side i = in_order set_before (extras_of legs side i) (extras-ordered legs side i)
