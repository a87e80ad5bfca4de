-- Texts that are printed piece by piece.
use Rattle.std.proofs.Common.{◌≡◌, ℕ, ℤ, ◌+◌, ◌<◌, ◌≤◌, List, [], ◌∷◌, ◌++◌, length, map, take, get_or, refl, sym, ◌∙◌, ap, append_assoc, append-nil}
use Rattle.std.specs.Prelude.{codes}
use Rattle.std.specs.List.{flat_map, join_with_byte}
use Rattle.std.proofs.lemmas.List.{take_more, take_all, flat_map_more}
use Rattle.std.proofs.lemmas.List.Concat.{flat_map-append}
use Rattle.std.proofs.lemmas.List.Folds.{flat_map-map}
use Rattle.tv_lemmas.proofs.Lists.{flat_map-flat_map}
use Rattle.tv_spec_text.specs.Reports.{Term, Section, term_line, section_lines}
use Rattle.tv_spec_text.specs.Lines.{Word, Line, line_text, spelled}
use Rattle.tv_text.specs.Printed.{spaced}
use Rattle.tv_text.specs.Refusals.{crowd_line, spread_line, majorant_line, differs_line}

pub flat_map-step : {A : Type 0} (f : A → List ℕ) (old now next : List ℕ) (xs : List A) (i : ℕ) (d : A) → i < length xs → now ≡ old ++ flat_map f (take i xs) → next ≡ now ++ f (get_or xs i d) → next ≡ old ++ flat_map f (take (i + 1) xs)
flat_map-step f old now next xs i d h e n =
    n ∙ ap (λ z. z ++ f (get_or xs i d)) e ∙ flat_map_more f old (take i xs) (get_or xs i d) ∙ ap (λ z. old ++ flat_map f z) (sym (take_more xs i d h))

pub join-numbers : (w : Word) (zs : List ℤ) → join_with_byte 32 (w ∷ map spelled zs) ≡ w ++ spaced zs
join-numbers w [] = sym (append-nil w)
join-numbers w (z ∷ zs) = ap (λ t. w ++ (32 ∷ t)) (join-numbers (spelled z) zs)

-- what is written before the numbers, and the numbers
pub line_text-numbers : (old now next : List ℕ) (w : Word) (zs : List ℤ) → now ≡ old ++ w → next ≡ now ++ (spaced zs ++ 10 ∷ []) → next ≡ old ++ line_text (w ∷ map spelled zs)
unfolding line_text
line_text-numbers old now next w zs e n =
    n ∙ ap (λ t. t ++ (spaced zs ++ 10 ∷ [])) e ∙ append_assoc old w (spaced zs ++ 10 ∷ []) ∙ ap (λ t. old ++ t) (sym (append_assoc w (spaced zs) (10 ∷ [])) ∙ ap (λ t. t ++ 10 ∷ []) (sym (join-numbers w zs)))

pub line_text-class : (old now next : List ℕ) (d : ℤ) (zs : List ℤ) → now ≡ old ++ (codes "class" ++ (32 ∷ spelled d)) → next ≡ now ++ (spaced zs ++ 10 ∷ []) → next ≡ old ++ line_text (codes "class" ∷ map spelled (d ∷ zs))
line_text-class old now next d zs e n =
    let whole : next ≡ (old ++ codes "class") ++ (spaced (d ∷ zs) ++ 10 ∷ []) = n ∙ ap (λ t. t ++ (spaced zs ++ 10 ∷ [])) e ∙ simp append_assoc in
    line_text-numbers old (old ++ codes "class") next (codes "class") (d ∷ zs) refl whole

pub line_text-crowd : (old now next : List ℕ) (zs : List ℤ) → now ≡ old ++ codes "refused wide crowd class" → next ≡ now ++ (spaced zs ++ 10 ∷ []) → next ≡ old ++ line_text (crowd_line zs)
unfolding line_text
line_text-crowd old now next zs e n =
    line_text-numbers old now next (codes "refused wide crowd class") zs e n
    ∙ ap (λ t. old ++ (t ++ 10 ∷ [])) (join-numbers (codes "refused wide crowd class") zs ∙ sym (ap (λ t. codes "refused wide crowd " ++ t) (join-numbers (codes "class") zs)))

-- words in front, and the numbers behind them
line_text-front : (old now next front : List ℕ) (line : Line) (zs : List ℤ) → join_with_byte 32 line ≡ front ++ spaced zs → now ≡ old ++ front → next ≡ now ++ (spaced zs ++ 10 ∷ []) → next ≡ old ++ line_text line
unfolding line_text
line_text-front old now next front line zs last e d =
    d ∙ ap (λ t. t ++ (spaced zs ++ 10 ∷ [])) e ∙ append_assoc old front (spaced zs ++ 10 ∷ []) ∙ ap (λ t. old ++ t) (sym (append_assoc front (spaced zs) (10 ∷ [])) ∙ ap (λ t. t ++ 10 ∷ []) (sym last))

pub line_text-spread : (old now next : List ℕ) (n : ℤ) (zs : List ℤ) → now ≡ old ++ (codes "refused wide spread " ++ (spelled n ++ codes " class")) → next ≡ now ++ (spaced zs ++ 10 ∷ []) → next ≡ old ++ line_text (spread_line n zs)
line_text-spread old now next n zs = line_text-front old now next (codes "refused wide spread " ++ (spelled n ++ codes " class")) (spread_line n zs) zs
    (ap (λ t. codes "refused wide spread " ++ (spelled n ++ (32 ∷ t))) (join-numbers (codes "class") zs) ∙ ap (λ t. codes "refused wide spread " ++ t) (sym (append_assoc (spelled n) (codes " class") (spaced zs))))

pub line_text-majorant : (old now next : List ℕ) (n : ℤ) (zs : List ℤ) → now ≡ old ++ (codes "refused wide majorant " ++ (spelled n ++ codes " class")) → next ≡ now ++ (spaced zs ++ 10 ∷ []) → next ≡ old ++ line_text (majorant_line n zs)
line_text-majorant old now next n zs = line_text-front old now next (codes "refused wide majorant " ++ (spelled n ++ codes " class")) (majorant_line n zs) zs
    (ap (λ t. codes "refused wide majorant " ++ (spelled n ++ (32 ∷ t))) (join-numbers (codes "class") zs) ∙ ap (λ t. codes "refused wide majorant " ++ t) (sym (append_assoc (spelled n) (codes " class") (spaced zs))))

differs_front : ℤ → ℤ → ℤ → List ℕ
differs_front n x y = codes "refused differs " ++ (spelled n ++ (codes " " ++ (spelled x ++ (codes " " ++ (spelled y ++ codes " class")))))

join-differs : (n x y : ℤ) (zs : List ℤ) → join_with_byte 32 (differs_line n x y zs) ≡ differs_front n x y ++ spaced zs
unfolding differs_front
join-differs n x y zs =
    ap (λ t. codes "refused differs " ++ (spelled n ++ (32 ∷ (spelled x ++ (32 ∷ (spelled y ++ (32 ∷ t))))))) (join-numbers (codes "class") zs)
    ∙ ap (λ t. codes "refused differs " ++ t) (sym (append_assoc (spelled n) (32 ∷ (spelled x ++ (32 ∷ (spelled y ++ codes " class")))) (spaced zs)
    ∙ ap (λ t. spelled n ++ (32 ∷ t)) (append_assoc (spelled x) (32 ∷ (spelled y ++ codes " class")) (spaced zs)
    ∙ ap (λ t. spelled x ++ (32 ∷ t)) (append_assoc (spelled y) (codes " class") (spaced zs)))))

pub line_text-differs : (old now next : List ℕ) (n x y : ℤ) (zs : List ℤ) → now ≡ old ++ (codes "refused differs " ++ (spelled n ++ (codes " " ++ (spelled x ++ (codes " " ++ (spelled y ++ codes " class")))))) → next ≡ now ++ (spaced zs ++ 10 ∷ []) → next ≡ old ++ line_text (differs_line n x y zs)
unfolding differs_front
line_text-differs old now next n x y zs = line_text-front old now next (differs_front n x y) (differs_line n x y zs) zs (join-differs n x y zs)

pub flat_map-whole : {A : Type 0} (f : A → List ℕ) (old now : List ℕ) (xs : List A) (i : ℕ) → length xs ≤ i → now ≡ old ++ flat_map f (take i xs) → now ≡ old ++ flat_map f xs
flat_map-whole f old now xs i h e = e ∙ ap (λ z. old ++ flat_map f z) (take_all i xs h)

pub terms-whole : (old now : List ℕ) (ts : List Term) (i : ℕ) → length ts ≤ i → now ≡ old ++ flat_map (λ t. line_text (term_line t)) (take i ts) → now ≡ old ++ flat_map line_text (map term_line ts)
terms-whole old now ts i h e = flat_map-whole (λ t. line_text (term_line t)) old now ts i h e ∙ ap (λ z. old ++ z) (sym (flat_map-map line_text term_line ts))

pub sections-whole : (old now : List ℕ) (ss : List Section) (i : ℕ) → length ss ≤ i → now ≡ old ++ flat_map (λ s. flat_map line_text (section_lines s)) (take i ss) → now ≡ old ++ flat_map line_text (flat_map section_lines ss)
sections-whole old now ss i h e = flat_map-whole (λ s. flat_map line_text (section_lines s)) old now ss i h e ∙ ap (λ z. old ++ z) (sym (flat_map-flat_map line_text section_lines ss))

-- the head, the body and the last line
pub flat_map-parts : (head body : List Line) (e : Line) (t u v : List ℕ) → t ≡ flat_map line_text head → u ≡ t ++ flat_map line_text body → v ≡ u ++ line_text e → v ≡ flat_map line_text (head ++ (body ++ (e ∷ [])))
flat_map-parts head body e t u v first second third =
    let last : flat_map line_text (body ++ e ∷ []) ≡ flat_map line_text body ++ line_text e = flat_map-append line_text body (e ∷ []) ∙ ap (λ z. flat_map line_text body ++ z) (append-nil (line_text e)) in
    third ∙ ap (λ z. z ++ line_text e) second ∙ append_assoc t (flat_map line_text body) (line_text e) ∙ ap (λ z. z ++ (flat_map line_text body ++ line_text e)) first
    ∙ ap (λ z. flat_map line_text head ++ z) (sym last) ∙ sym (flat_map-append line_text head (body ++ (e ∷ [])))
