-- Sublists of n cells that pass a test, where what passes has only cells that pass another: those of the cells that pass.
use Rattle.std.proofs.Common.{◌≡◌, ℕ, zero, suc, Bool, true, false, List, [], ◌∷◌, ◌++◌, map, length, refl, sym, ap, ◌∙◌}
use Rattle.std.specs.Prelude.{cond, filter}
use Rattle.std.specs.List.{list_all}
use Rattle.std.proofs.lemmas.Bool.{and_parts}
use Rattle.std.proofs.lemmas.List.Elements.{filter-append}
use Rattle.tv_lemmas.proofs.Lists.{filter-map, filter-none}
use Rattle.tv_cells.specs.declared.cell.Cell.{Cell}
use Rattle.tv_cells.specs.Cells.{sublists_of}

pub filter-of_length : (p q : List Cell → Bool) (n : ℕ) (cells : List Cell) → ((s : List Cell) → length s ≡ n → p s ≡ q s) → filter p (sublists_of n cells) ≡ filter q (sublists_of n cells)
unfolding sublists_of
filter-of_length p q zero cells same = rw (same [] refl) refl
filter-of_length p q (suc n) [] same = refl
filter-of_length p q (suc n) (c ∷ cells) same =
    filter-append p (map (λ s. c ∷ s) (sublists_of n cells)) (sublists_of (suc n) cells)
    ∙ rw (
      filter-map p (λ s. p (c ∷ s)) (λ s. c ∷ s) (λ s. refl) (sublists_of n cells),
      filter-of_length (λ s. p (c ∷ s)) (λ s. q (c ∷ s)) n cells (λ s e. same (c ∷ s) (ap suc e)),
      filter-of_length p q (suc n) cells same,
    )
    (sym (filter-append q (map (λ s. c ∷ s) (sublists_of n cells)) (sublists_of (suc n) cells) ∙ rw (filter-map q (λ s. q (c ∷ s)) (λ s. c ∷ s) (λ s. refl) (sublists_of n cells)) refl))

-- no sublist with a cell that does not pass
none_with : (p : List Cell → Bool) (q : Cell → Bool) (c : Cell) (n : ℕ) (cells : List Cell) → q c ≡ false → ((s : List Cell) → length s ≡ suc n → p s ≡ true → list_all q s ≡ true) → filter p (map (λ s. c ∷ s) (sublists_of n cells)) ≡ []
none_with p q c n cells off only =
    filter-map p (λ s. p (c ∷ s)) (λ s. c ∷ s) (λ s. refl) (sublists_of n cells)
    ∙ (ap (map (λ s. c ∷ s)) (filter-of_length (λ s. p (c ∷ s)) (λ s. false) n cells (λ s e. never s (p (c ∷ s)) refl e) ∙ filter-none (λ s. false) (λ s. refl) (sublists_of n cells)))
  where
    never : (s : List Cell) (b : Bool) → p (c ∷ s) ≡ b → length s ≡ n → b ≡ false
    never s true h e = absurd (let both = and_parts (q c) (list_all q s) (only (c ∷ s) (ap suc e) h) in let f : false ≡ true = sym off ∙ both.0 in cc)
    never s false h e = refl

pub restricted : (p : List Cell → Bool) (q : Cell → Bool) (n : ℕ) (cells : List Cell) → ((s : List Cell) → length s ≡ n → p s ≡ true → list_all q s ≡ true) → filter p (sublists_of n cells) ≡ filter p (sublists_of n (filter q cells))
unfolding sublists_of
restricted p q zero cells only = refl
restricted p q (suc n) [] only = refl
restricted p q (suc n) (c ∷ cells) only = step (q c) refl (restricted p q (suc n) cells only) (λ on. restricted (λ s. p (c ∷ s)) q n cells (λ s e h. (and_parts (q c) (list_all q s) (only (c ∷ s) (ap suc e) h)).1))
  where
    step : (b : Bool) → q c ≡ b → filter p (sublists_of (suc n) cells) ≡ filter p (sublists_of (suc n) (filter q cells)) → (q c ≡ true → filter (λ s. p (c ∷ s)) (sublists_of n cells) ≡ filter (λ s. p (c ∷ s)) (sublists_of n (filter q cells))) → filter p (map (λ s. c ∷ s) (sublists_of n cells) ++ sublists_of (suc n) cells) ≡ filter p (sublists_of (suc n) (cond b (c ∷ filter q cells) (filter q cells)))
    step true on rest taken =
        filter-append p (map (λ s. c ∷ s) (sublists_of n cells)) (sublists_of (suc n) cells)
        ∙ (rw (
          filter-map p (λ s. p (c ∷ s)) (λ s. c ∷ s) (λ s. refl) (sublists_of n cells),
          taken on,
          rest,
        )
        (sym (filter-append p (map (λ s. c ∷ s) (sublists_of n (filter q cells))) (sublists_of (suc n) (filter q cells)) ∙ rw (filter-map p (λ s. p (c ∷ s)) (λ s. c ∷ s) (λ s. refl) (sublists_of n (filter q cells))) refl)))
    step false off rest taken =
        filter-append p (map (λ s. c ∷ s) (sublists_of n cells)) (sublists_of (suc n) cells)
        ∙ rw (none_with p q c n cells off only) rest
