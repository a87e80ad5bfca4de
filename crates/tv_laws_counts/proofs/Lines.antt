-- Different cells that are all in a list are no more than the list is long.
use Rattle.std.proofs.Common.{◌≡◌, ℕ, zero, suc, ◌<◌, ◌≤◌, Bool, true, false, ◌||◌, List, [], ◌∷◌, length, refl, ap, arith}
use Rattle.std.specs.Prelude.{cond}
use Rattle.std.specs.List.{list_any}
use Rattle.std.proofs.lemmas.Bool.Decides.{nat_tests}
use Rattle.tv_cells.specs.declared.cell.Cell.{Cell}
use Rattle.tv_cells.specs.Cells.{same}

-- the list without the first place of the cell
abbrev remove : Cell → List Cell → List Cell
remove c [] = []
remove c (d ∷ cells) = cond (same c d) cells (d ∷ remove c cells)

remove-length : (c : Cell) (cells : List Cell) → list_any (same c) cells ≡ true → suc (length (remove c cells)) ≡ length cells
remove-length c [] m = cc
remove-length c (d ∷ cells) m = step (same c d) (remove-length c cells) m
  where
    step : (b : Bool) → (list_any (same c) cells ≡ true → suc (length (remove c cells)) ≡ length cells) → (b || list_any (same c) cells) ≡ true → suc (length (cond b cells (d ∷ remove c cells))) ≡ suc (length cells)
    step true rest m = refl
    step false rest m = ap suc (rest m)

differs : (c d e : Cell) → same e c ≡ false → same c d ≡ true → same e d ≡ false
differs c d e p q = grind (arith, nat_tests)

or_last : (a b : Bool) → a ≡ false → (a || b) ≡ true → b ≡ true
or_last true b e h = cc
or_last false b e h = h

remove-keeps : (c e : Cell) (cells : List Cell) → same e c ≡ false → list_any (same e) cells ≡ true → list_any (same e) (remove c cells) ≡ true
remove-keeps c e [] p m = m
remove-keeps c e (d ∷ cells) p m = step (same c d) refl (remove-keeps c e cells p)
  where
    kept : (b : Bool) → (b || list_any (same e) cells) ≡ true → (list_any (same e) cells ≡ true → list_any (same e) (remove c cells) ≡ true) → (b || list_any (same e) (remove c cells)) ≡ true
    kept true h f = refl
    kept false h f = f h

    step : (b : Bool) → same c d ≡ b → (list_any (same e) cells ≡ true → list_any (same e) (remove c cells) ≡ true) → list_any (same e) (cond b cells (d ∷ remove c cells)) ≡ true
    step true q rest = or_last (same e d) (list_any (same e) cells) (differs c d e p q) m
    step false q rest = kept (same e d) m rest

-- f 0, f 1, .., f n are different cells
abbrev pub AreDifferent : (ℕ → Cell) → Type 0
AreDifferent f = (j k : ℕ) → j < k → same (f j) (f k) ≡ false

pub line_length : (f : ℕ → Cell) → AreDifferent f → (n : ℕ) (cells : List Cell) → ((j : ℕ) → j ≤ n → list_any (same (f j)) cells ≡ true) → n < length cells
line_length f different zero cells all = let e = remove-length (f 0) cells (all 0 (omega arith)) in omega arith
line_length f different (suc n) cells all =
    let e = remove-length (f (suc n)) cells (all (suc n) (omega arith)) in
    let rest : n < length (remove (f (suc n)) cells) = line_length f different n (remove (f (suc n)) cells) (λ j h. remove-keeps (f (suc n)) (f j) cells (different j (suc n) (omega arith)) (all j (omega arith))) in
    omega arith
