-- The sublists of n members have n members and are those of that length among all sublists, and each keeps what all of the
-- cells keep.
use Rattle.std.proofs.Common.{◌≡◌, ℕ, suc, zero, Bool, true, false, ◌&&◌, List, [], ◌∷◌, map, length, nat_eq, arith, refl, ◌∙◌, ap}
use Rattle.std.specs.Prelude.{filter, cond}
use Rattle.std.specs.List.{AllByRecursion}
use Rattle.std.proofs.lemmas.Bool.Decides.{nat_tests}
use Rattle.std.proofs.lemmas.List.Elements.{filter-append}
use Rattle.tv_lemmas.proofs.Lists.{filter-map, filter-none}
use Rattle.tv_lemmas.proofs.Members.{all-append, all-map}
use Rattle.tv_cells.specs.declared.cell.Cell.{Cell}
use Rattle.tv_cells.specs.declared.legs.Legs.{Legs}
use Rattle.tv_cells.specs.Cells.{sublists, sublists_of}
use Rattle.tv_cells.specs.Extras.{is_extras}
use Rattle.tv_cells.proofs.Rising.{Before}

pub sublists_of-length : (n : ℕ) (cells : List Cell) → AllByRecursion (λ s. length s ≡ n) (sublists_of n cells)
unfolding sublists_of
sublists_of-length zero cells = (refl, tt)
sublists_of-length (suc n) [] = tt
sublists_of-length (suc n) (c ∷ cells) =
    all-append (λ s. length s ≡ suc n) (map (λ s. c ∷ s) (sublists_of n cells)) (sublists_of (suc n) cells)
    (all-map (λ (s : List Cell). length s ≡ n) (λ (s : List Cell). length s ≡ suc n) (λ s. c ∷ s) (λ s e. ap suc e) (sublists_of n cells) (sublists_of-length n cells))
    (sublists_of-length (suc n) cells)

filter_and_head : (p q : List Cell → Bool) (x : List Cell) (both passed : List (List Cell)) (b c : Bool) → p x ≡ b → both ≡ filter p passed → cond (b && c) (x ∷ both) both ≡ filter p (cond c (x ∷ passed) passed)
filter_and_head p q x both passed true true e rest = rw e (ap (λ zs. x ∷ zs) rest)
filter_and_head p q x both passed false true e rest = rw e rest
filter_and_head p q x both passed true false e rest = rest
filter_and_head p q x both passed false false e rest = rest

filter-and : (p q : List Cell → Bool) (xs : List (List Cell)) → filter (λ s. p s && q s) xs ≡ filter p (filter q xs)
filter-and p q [] = refl
filter-and p q (x ∷ xs) = filter_and_head p q x (filter (λ s. p s && q s) xs) (filter q xs) (p x) (q x) refl (filter-and p q xs)

pub by_length : (n : ℕ) (cells : List Cell) → filter (λ s. nat_eq (length s) n) (sublists cells) ≡ sublists_of n cells
unfolding sublists sublists_of
by_length zero [] = refl
by_length (suc n) [] = let off : nat_eq 0 (suc n) ≡ false = grind (arith, nat_tests) in rw off refl
by_length zero (c ∷ cells) =
    filter-append (λ s. nat_eq (length s) 0) (map (λ s. c ∷ s) (sublists cells)) (sublists cells)
    ∙ rw (
      filter-map (λ s. nat_eq (length s) 0) (λ s. false) (λ s. c ∷ s) (λ s. grind (arith, nat_tests)) (sublists cells),
      filter-none (λ s. false) (λ s. refl) (sublists cells),
    )
    (by_length zero cells)
by_length (suc n) (c ∷ cells) =
    filter-append (λ s. nat_eq (length s) (suc n)) (map (λ s. c ∷ s) (sublists cells)) (sublists cells)
    ∙ rw (
      filter-map (λ s. nat_eq (length s) (suc n)) (λ s. nat_eq (length s) n) (λ s. c ∷ s) (λ s. grind (arith, nat_tests)) (sublists cells),
      by_length n cells,
      by_length (suc n) cells,
    )
    refl

pub extras_by_length : (legs : Legs) (n : ℕ) (cells : List Cell) → filter (λ s. is_extras legs s && nat_eq (length s) n) (sublists cells) ≡ filter (is_extras legs) (sublists_of n cells)
extras_by_length legs n cells = filter-and (is_extras legs) (λ s. nat_eq (length s) n) (sublists cells) ∙ ap (filter (is_extras legs)) (by_length n cells)

-- a cell before all of the cells is before each sublist of them
pub sublists-before : (c : Cell) (n : ℕ) (cells : List Cell) → Before c cells → AllByRecursion (Before c) (sublists_of n cells)
unfolding sublists_of
sublists-before c zero cells b = (tt, tt)
sublists-before c (suc n) [] b = tt
sublists-before c (suc n) (d ∷ cells) b =
    all-append (Before c) (map (λ s. d ∷ s) (sublists_of n cells)) (sublists_of (suc n) cells)
    (all-map (Before c) (Before c) (λ s. d ∷ s) (λ s e. (b.0, e)) (sublists_of n cells) (sublists-before c n cells b.1))
    (sublists-before c (suc n) cells b.1)
