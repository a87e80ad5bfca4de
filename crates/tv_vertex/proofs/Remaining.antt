-- How the number of choices that are left splits by the first of the cells.
use Rattle.std.proofs.Common.{◌≡◌, ℕ, suc, zero, ◌+◌, ◌-◌, ◌<◌, Bool, true, false, List, [], ◌∷◌, ◌++◌, map, length, arith, refl, sym, ◌∙◌, ap, append_assoc, append-nil, length-append}
use Rattle.std.proofs.lemmas.List.{length-map}
use Rattle.std.proofs.lemmas.List.Elements.{filter-append}
use Rattle.tv_lemmas.proofs.Lists.{filter-map}
use Rattle.std.specs.Prelude.{filter, cond}
use Rattle.tv_cells.specs.declared.cell.Cell.{Cell}
use Rattle.tv_cells.specs.declared.legs.Legs.{Legs}
use Rattle.tv_cells.specs.Cells.{sublists_of, cube, rises}
use Rattle.tv_cells.specs.Extras.{is_extras, count, extent}
use Rattle.tv_cells.specs.Cuts.{enters, leaves_gap}
use Rattle.tv_cells.proofs.Dropped.{after-refused, after-gap}
use Rattle.tv_vertex.specs.Rest.{rest}

one_or_none : (b : Bool) → length {A = List Cell} (cond b ([] ∷ []) []) ≡ cond b 1 0
one_or_none true = refl
one_or_none false = refl

pub rest-done : (legs : Legs) (chosen cells : List Cell) → rest legs chosen cells 0 ≡ cond (is_extras legs chosen) 1 0
unfolding rest sublists_of
rest-done legs chosen cells = rw (append-nil chosen) (one_or_none (is_extras legs chosen))

pub rest-none : (legs : Legs) (chosen : List Cell) (n : ℕ) → 0 < n → rest legs chosen [] n ≡ 0
unfolding rest sublists_of
rest-none legs chosen zero p = absurd (omega arith)
rest-none legs chosen (suc n) p = refl

rest-suc : (legs : Legs) (chosen : List Cell) (c : Cell) (cells : List Cell) (n : ℕ) → rest legs chosen (c ∷ cells) (suc n) ≡ rest legs (chosen ++ c ∷ []) cells n + rest legs chosen cells (suc n)
unfolding rest sublists_of
rest-suc legs chosen c cells n =
    ap length (filter-append (λ s. is_extras legs (chosen ++ s)) (map (λ s. c ∷ s) (sublists_of n cells)) (sublists_of (suc n) cells))
    ∙ (length-append (filter (λ s. is_extras legs (chosen ++ s)) (map (λ s. c ∷ s) (sublists_of n cells))) (filter (λ s. is_extras legs (chosen ++ s)) (sublists_of (suc n) cells))
    ∙ ap (λ k. k + rest legs chosen cells (suc n))
    (ap length (filter-map (λ s. is_extras legs (chosen ++ s)) (λ s. is_extras legs ((chosen ++ c ∷ []) ++ s)) (λ s. c ∷ s) (λ s. ap (is_extras legs) (sym (append_assoc chosen (c ∷ []) s))) (sublists_of n cells))
    ∙ length-map (filter (λ s. is_extras legs ((chosen ++ c ∷ []) ++ s)) (sublists_of n cells)) (λ s. c ∷ s)))

pub rest-step : (legs : Legs) (chosen : List Cell) (c : Cell) (cells : List Cell) (n : ℕ) → 0 < n → rest legs chosen (c ∷ cells) n ≡ rest legs (chosen ++ c ∷ []) cells (n - 1) + rest legs chosen cells n
rest-step legs chosen c cells zero p = absurd (omega arith)
rest-step legs chosen c cells (suc n) p =
    let at : n ≡ suc n - 1 = omega arith in
    rest-suc legs chosen c cells n ∙ ap (λ k. rest legs (chosen ++ c ∷ []) cells k + rest legs chosen cells (suc n)) at

-- with nothing chosen and the cube of that order it is the count
pub rest-count : (legs : Legs) (n side : ℕ) → side ≡ n + extent legs → rest legs [] (cube side) n ≡ count legs n
unfolding rest count
rest-count legs n side e = rw e refl

-- the cuts leave nothing
pub rest-refused : (legs : Legs) (chosen : List Cell) (c : Cell) (cells : List Cell) (n : ℕ) → rises (chosen ++ c ∷ cells) ≡ true → enters legs chosen c ≡ false → rest legs (chosen ++ c ∷ []) cells n ≡ 0
unfolding rest
rest-refused legs chosen c cells n r off = ap length (after-refused legs chosen c cells n r off)

pub rest-gap : (legs : Legs) (chosen : List Cell) (c : Cell) (cells : List Cell) (n : ℕ) → rises (chosen ++ c ∷ cells) ≡ true → leaves_gap legs chosen c ≡ true → rest legs chosen cells n ≡ 0
unfolding rest
rest-gap legs chosen c cells n r gap = ap length (after-gap legs chosen c cells n r gap)

pub ruleset splits = (rest-done, rest-none, rest-step)
