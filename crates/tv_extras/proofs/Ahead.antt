-- How the sets ahead split by the first of the cells, and where none is ahead.
use Rattle.std.proofs.Common.{◌≡◌, ℕ, suc, zero, ◌<◌, Bool, true, false, List, [], ◌∷◌, ◌++◌, map, arith, refl, sym, ◌∙◌, ap, append_assoc, append-nil}
use Rattle.std.specs.Prelude.{cond, filter}
use Rattle.std.proofs.lemmas.List.{map-append, map-id}
use Rattle.std.proofs.lemmas.List.Elements.{filter-append}
use Rattle.tv_lemmas.proofs.Lists.{filter-map}
use Rattle.tv_cells.specs.declared.cell.Cell.{Cell}
use Rattle.tv_cells.specs.declared.legs.Legs.{Legs}
use Rattle.tv_cells.specs.Cells.{sublists_of, rises}
use Rattle.tv_cells.specs.Extras.{is_extras}
use Rattle.tv_cells.specs.Cuts.{extras_after, enters, leaves_gap}
use Rattle.tv_cells.proofs.Dropped.{after-refused, after-gap}
use Rattle.tv_extras.specs.Search.{ahead}

one_or_none : (b : Bool) (chosen : List Cell) → map (λ s. chosen ++ s) (cond b ([] ∷ []) []) ≡ cond b (chosen ∷ []) []
one_or_none true chosen = ap (λ s. s ∷ []) (append-nil chosen)
one_or_none false chosen = refl

pub ahead-all : (legs : Legs) (chosen cells : List Cell) → ahead legs chosen cells 0 ≡ cond (is_extras legs chosen) (chosen ∷ []) []
unfolding ahead sublists_of
ahead-all legs chosen cells = rw (append-nil chosen) (one_or_none (is_extras legs chosen) chosen)

pub ahead-none : (legs : Legs) (chosen : List Cell) (n : ℕ) → 0 < n → ahead legs chosen [] n ≡ []
unfolding ahead sublists_of
ahead-none legs chosen zero p = absurd (omega arith)
ahead-none legs chosen (suc n) p = refl

pub ahead-start : (legs : Legs) (cells : List Cell) (n : ℕ) → ahead legs [] cells n ≡ extras_after legs [] cells n
unfolding ahead
ahead-start legs cells n = map-id (extras_after legs [] cells n)

map-behind : (chosen : List Cell) (c : Cell) (sets : List (List Cell)) → map (λ s. chosen ++ s) (map (λ s. c ∷ s) sets) ≡ map (λ s. (chosen ++ c ∷ []) ++ s) sets
map-behind chosen c [] = refl
map-behind chosen c (s ∷ sets) =
    ap (λ x. x ∷ map (λ s. chosen ++ s) (map (λ s. c ∷ s) sets)) (sym (append_assoc chosen (c ∷ []) s))
    ∙ ap (λ xs. ((chosen ++ c ∷ []) ++ s) ∷ xs) (map-behind chosen c sets)

pub ahead-step : (legs : Legs) (chosen : List Cell) (c : Cell) (cells : List Cell) (n : ℕ) → ahead legs chosen (c ∷ cells) (suc n) ≡ ahead legs (chosen ++ c ∷ []) cells n ++ ahead legs chosen cells (suc n)
unfolding ahead sublists_of
ahead-step legs chosen c cells n =
    ap (map (λ s. chosen ++ s)) (filter-append (λ s. is_extras legs (chosen ++ s)) (map (λ s. c ∷ s) (sublists_of n cells)) (sublists_of (suc n) cells))
    ∙ (map-append (λ s. chosen ++ s) (filter (λ s. is_extras legs (chosen ++ s)) (map (λ s. c ∷ s) (sublists_of n cells))) (filter (λ s. is_extras legs (chosen ++ s)) (sublists_of (suc n) cells))
    ∙ ap (λ sets. sets ++ ahead legs chosen cells (suc n))
    (ap (map (λ s. chosen ++ s)) (filter-map (λ s. is_extras legs (chosen ++ s)) (λ s. is_extras legs ((chosen ++ c ∷ []) ++ s)) (λ s. c ∷ s) (λ s. ap (is_extras legs) (sym (append_assoc chosen (c ∷ []) s))) (sublists_of n cells))
    ∙ map-behind chosen c (filter (λ s. is_extras legs ((chosen ++ c ∷ []) ++ s)) (sublists_of n cells))))

pub ahead-refused : (legs : Legs) (chosen : List Cell) (c : Cell) (cells : List Cell) (n : ℕ) → rises (chosen ++ c ∷ cells) ≡ true → enters legs chosen c ≡ false → ahead legs (chosen ++ c ∷ []) cells n ≡ []
unfolding ahead
ahead-refused legs chosen c cells n r off = ap (map (λ s. (chosen ++ c ∷ []) ++ s)) (after-refused legs chosen c cells n r off)

pub ahead-gap : (legs : Legs) (chosen : List Cell) (c : Cell) (cells : List Cell) (n : ℕ) → rises (chosen ++ c ∷ cells) ≡ true → leaves_gap legs chosen c ≡ true → ahead legs chosen cells n ≡ []
unfolding ahead
ahead-gap legs chosen c cells n r gap = ap (map (λ s. chosen ++ s)) (after-gap legs chosen c cells n r gap)
