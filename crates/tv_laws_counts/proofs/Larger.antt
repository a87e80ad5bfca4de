-- A larger cube has the same sets of extras.
use Rattle.std.proofs.Common.{◌≡◌, ℕ, ◌+◌, ◌≤◌, Bool, true, ◌&&◌, List, length, refl, sym, ap, ◌∙◌, arith}
use Rattle.std.specs.Prelude.{filter, nat_lt}
use Rattle.std.specs.List.{list_all}
use Rattle.std.proofs.lemmas.Bool.Decides.{nat_tests}
use Rattle.tv_cells.specs.declared.cell.Cell.{Cell}
use Rattle.tv_cells.specs.declared.legs.Legs.{Legs}
use Rattle.tv_cells.specs.Cells.{cube, sublists_of}
use Rattle.tv_cells.specs.Extras.{is_extras, AreDiagrams, extent, count}
use Rattle.tv_cells.proofs.Cubes.{cube-rises, cube-has}
use Rattle.tv_cells.proofs.Downward.{members_pass}
use Rattle.tv_laws_counts.specs.Cubes.{IsWithin, LargerCube, LargerCount, NoExtras}
use Rattle.tv_laws_counts.proofs.Reaching.{extras_within}
use Rattle.tv_laws_counts.proofs.Rises.{rises-filter, any-filter, rising_same}
use Rattle.tv_laws_counts.proofs.Restricted.{restricted}

abbrev within : ℕ → Cell → Bool
within n c = nat_lt c.x n && (nat_lt c.y n && nat_lt c.z n)

within_says : (n : ℕ) (c : Cell) → IsWithin n c → within n c ≡ true
within_says n c h = let x = h.x in let y = h.y in let z = h.z in grind (arith, nat_tests)

within-less : (m n : ℕ) (c : Cell) → m ≤ n → within m c ≡ (within n c && within m c)
within-less m n c l = grind (arith, nat_tests)

pub cube-smaller : (m n : ℕ) → m ≤ n → cube m ≡ filter (within m) (cube n)
cube-smaller m n l = rising_same (cube m) (filter (within m) (cube n)) (cube-rises m) (rises-filter (within m) (cube n) (cube-rises n)) (λ c. cube-has m c ∙ (within-less m n c l ∙ sym (any-filter (within m) c (cube n) ∙ ap (λ b. b && within m c) (cube-has n c))))

all_within : (legs : Legs) (i : ℕ) → AreDiagrams legs → (s : List Cell) → length s ≡ i → is_extras legs s ≡ true → list_all (within (i + extent legs)) s ≡ true
all_within legs i diagrams s e extras = members_pass (within (i + extent legs)) s (λ c m. within_says (i + extent legs) c (let P : ℕ → Type 0 = λ n. IsWithin (n + extent legs) c in rw (sym e) (extras_within legs s c diagrams extras m)))

pub larger_cube : LargerCube
larger_cube legs i side diagrams l =
    restricted (is_extras legs) (within (i + extent legs)) i (cube (side + extent legs)) (all_within legs i diagrams)
    ∙ ap (λ cells. filter (is_extras legs) (sublists_of i cells)) (sym (cube-smaller (i + extent legs) (side + extent legs) (omega arith)))

pub larger_count : LargerCount
unfolding count
larger_count legs i side diagrams l = ap length (larger_cube legs i side diagrams l)

pub no_extras : NoExtras
unfolding count sublists_of
no_extras legs = refl
