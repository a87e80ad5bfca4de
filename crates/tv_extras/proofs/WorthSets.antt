-- The sets of extras of the cells that are worth it are those of a cube.
use Rattle.std.proofs.Common.{◌≡◌, ℕ, ◌+◌, ◌-◌, ◌*◌, ◌≤◌, ◌<◌, true, List, [], ◌++◌, length, subst, refl, sym, ap, ◌∙◌, arith}
use Rattle.std.specs.Prelude.{filter, nat_le, nat_lt}
use Rattle.std.specs.List.{list_any, list_all}
use Rattle.std.proofs.lemmas.Bool.{or_right}
use Rattle.std.proofs.lemmas.Bool.Decides.{nat_tests}
use Rattle.tv_cells.specs.declared.cell.Cell.{Cell}
use Rattle.tv_cells.specs.declared.legs.Legs.{Legs}
use Rattle.tv_cells.specs.Cells.{same, rises, cube}
use Rattle.tv_cells.specs.Extras.{legs_at, is_extras, AreDiagrams, extent}
use Rattle.tv_cells.specs.Cuts.{extras_after}
use Rattle.tv_cells.proofs.Cubes.{cube-rises}
use Rattle.tv_cells.proofs.Diagonals.{diagonals, cube-diagonals}
use Rattle.tv_cells.proofs.Downward.{members_pass}
use Rattle.tv_laws_counts.proofs.Larger.{larger_cube}
use Rattle.tv_laws_counts.proofs.Rises.{rises-filter}
use Rattle.tv_laws_counts.proofs.Restricted.{restricted}
use Rattle.tv_spec_boxes.specs.Configurations.{extras_of}
use Rattle.tv_extras.specs.Room.{room, is_worth, worth_cells}
use Rattle.tv_extras.proofs.Room.{room-le}
use Rattle.tv_extras.proofs.Writing.{diagonals-done}

pub worth-rises : (legs : Legs) (most : ℕ) → rises (worth_cells legs most) ≡ true
unfolding worth_cells
worth-rises legs most = rises-filter (is_worth legs most) (cube (most + extent legs)) (cube-rises (most + extent legs))

fits : (m n most : ℕ) → m ≤ n → n ≤ most → nat_le m most ≡ true
fits m n most l k = grind (arith, nat_tests)

all_worth : (legs : Legs) (most i : ℕ) → AreDiagrams legs → i ≤ most → (s : List Cell) → length s ≡ i → is_extras legs s ≡ true → list_all (is_worth legs most) s ≡ true
unfolding is_worth
all_worth legs most i diagrams l s e extras =
    members_pass (is_worth legs most) s
    (λ c m. fits (room legs c) (length s) most (room-le legs s c diagrams extras (or_right (nat_lt 0 (legs_at legs c)) (list_any (same c) s) m)) (omega arith))

pub worth-same : (legs : Legs) (most side i : ℕ) → AreDiagrams legs → i ≤ most → i ≤ side → extras_after legs [] (worth_cells legs most) i ≡ extras_of legs side i
unfolding worth_cells
worth-same legs most side i diagrams l k =
    sym (restricted (is_extras legs) (is_worth legs most) i (cube (most + extent legs)) (all_worth legs most i diagrams l))
    ∙ (larger_cube legs i most diagrams l ∙ sym (larger_cube legs i side diagrams k))

pub worth-none : (legs : Legs) (most : ℕ) → most + extent legs ≡ 0 → worth_cells legs most ≡ []
unfolding worth_cells cube
worth-none legs most e = rw e refl

pub worth-done : (legs : Legs) (most side k : ℕ) (now : List Cell) → side ≡ most + extent legs → 0 < side → k ≡ 2 * side - 1 → now ++ filter (is_worth legs most) (diagonals side k ((2 * side - 1) - k)) ≡ filter (is_worth legs most) (diagonals side 0 (2 * side - 1)) → now ≡ worth_cells legs most
unfolding worth_cells
worth-done legs most side k now whole some last e =
    let P : ℕ → Type 0 = λ j. now ++ filter (is_worth legs most) (diagonals side j ((2 * side - 1) - j)) ≡ filter (is_worth legs most) (diagonals side 0 (2 * side - 1)) in
    diagonals-done (is_worth legs most) side (2 * side - 1) now (filter (is_worth legs most) (diagonals side 0 (2 * side - 1))) (subst P last e)
    ∙ (ap (filter (is_worth legs most)) (cube-diagonals side some) ∙ ap (λ n. filter (is_worth legs most) (cube n)) whole)
