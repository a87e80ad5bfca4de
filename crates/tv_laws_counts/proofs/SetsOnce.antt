-- The sublists of a rising list: each rises, each rising list of its cells is one, and none is there twice.
use Rattle.std.specs.Prelude.{◌≡◌, Contains, ℕ, zero, suc, Bool, true, false, ◌||◌, List, [], ◌∷◌, ◌++◌, map, length}
use Rattle.std.specs.List.{AllByRecursion, IsDistinct, list_any}
use Rattle.std.specs.Cmp.Lexicographic.{pointwise}
use Rattle.std.proofs.Common.{refl, sym, ap, ◌∙◌, inl, inr}
use Rattle.std.proofs.lemmas.Bool.{or_left, or_right, or_cases}
use Rattle.std.proofs.lemmas.List.Elements.{Contains-append_left, Contains-append_right}
use Rattle.tv_lemmas.proofs.Members.{all-append, all-map, all-onto, all-both, all-any, contains-head, contains-map}
use Rattle.tv_lemmas.proofs.Distinct.{distinct-append, distinct-map}
use Rattle.tv_cells.specs.declared.cell.Cell.{Cell}
use Rattle.tv_cells.specs.Cells.{same, precedes, rises, sublists_of}
use Rattle.tv_cells.proofs.Rising.{Before, before_rising, rises-tail, rises-cons, same_itself, precedes_differs}
use Rattle.tv_cells.proofs.Sublists.{sublists-before}
use Rattle.tv_laws_counts.proofs.Rises.{same_cell, behind, not_both}

pub sublists-rise : (n : ℕ) (cells : List Cell) → rises cells ≡ true → AllByRecursion (λ s. rises s ≡ true) (sublists_of n cells)
unfolding sublists_of
sublists-rise zero cells r = (refl, tt)
sublists-rise (suc n) [] r = tt
sublists-rise (suc n) (c ∷ cells) r =
    let after = rises-tail c cells r in
    let begun : AllByRecursion (λ s. rises (c ∷ s) ≡ true) (sublists_of n cells) =
    all-both (Before c) (λ s. rises s ≡ true) (λ s. rises (c ∷ s) ≡ true) (λ s b h. rises-cons c s b h) (sublists_of n cells) (sublists-before c n cells (before_rising c cells r)) (sublists-rise n cells after) in
    all-append (λ s. rises s ≡ true) (map (λ s. c ∷ s) (sublists_of n cells)) (sublists_of (suc n) cells)
    (all-map (λ s. rises (c ∷ s) ≡ true) (λ s. rises s ≡ true) (λ s. c ∷ s) (λ s h. h) (sublists_of n cells) begun) (sublists-rise (suc n) cells after)

-- ---- each rising list of its cells

abbrev AreAmong : List Cell → List Cell → Type 0
AreAmong cells ys = (c : Cell) → list_any (same c) cells ≡ true → list_any (same c) ys ≡ true

-- a member of y ∷ ys that is not y
member-later : (d y : Cell) (ys : List Cell) → (same d y ≡ true → ⊥) → (same d y || list_any (same d) ys) ≡ true → list_any (same d) ys ≡ true
member-later d y ys other m = elim (or_cases (same d y) (list_any (same d) ys) m) [ inl here ↦ absurd (other here) | inr there ↦ there ]

-- where both begin by one cell, the rest of the first is among the rest of the second
rest-among : (c y : Cell) (cells ys : List Cell) → c ≡ y → rises (c ∷ cells) ≡ true → AreAmong (c ∷ cells) (y ∷ ys) → AreAmong cells ys
rest-among c y cells ys e r among d m =
    member-later d y ys (λ here. not_both c d (behind d c cells (before_rising c cells r) m) (let p : precedes c d ≡ true = behind d c cells (before_rising c cells r) m in let is : d ≡ c = same_cell d y here ∙ sym e in ap (λ x. precedes d x) (sym is) ∙ ap (λ x. precedes x d) is ∙ p))
    (among d (or_right (same d c) (list_any (same d) cells) m))

-- where the second begins by another cell, it is not needed
all-among : (c y : Cell) (cells ys : List Cell) → same c y ≡ false → rises (c ∷ cells) ≡ true → rises (y ∷ ys) ≡ true → AreAmong (c ∷ cells) (y ∷ ys) → AreAmong (c ∷ cells) ys
all-among c y cells ys differ r ry among d m =
    member-later d y ys (λ here. elim (or_cases (same d c) (list_any (same d) cells) m) [
      | inl first ↦ (let e : c ≡ y = sym (same_cell d c first) ∙ same_cell d y here in let f : true ≡ false = sym (same_itself c) ∙ (ap (same c) e ∙ differ) in cc)
      | inr later ↦ not_both c y (ap (precedes c) (sym (same_cell d y here)) ∙ behind d c cells (before_rising c cells r) later) (behind c y ys (before_rising y ys ry) first_later)
    ]) (among d m)
  where
    first_later : list_any (same c) ys ≡ true
    first_later = member-later c y ys (λ here. let f : true ≡ false = sym here ∙ differ in cc) (among c (or_left (same c c) (list_any (same c) cells) (same_itself c)))

by_first : (c y : Cell) (cells ys : List Cell) (b : Bool) → same c y ≡ b → (c ≡ y → Contains (sublists_of (length cells) ys) cells) → (same c y ≡ false → Contains (sublists_of (suc (length cells)) ys) (c ∷ cells)) → Contains (map (λ s. y ∷ s) (sublists_of (length cells) ys) ++ sublists_of (suc (length cells)) ys) (c ∷ cells)
by_first c y cells ys true e taken left =
    let is : c ≡ y = same_cell c y e in
    let rest = taken is in
    rw is (Contains-append_left (map (λ s. y ∷ s) (sublists_of (length cells) ys)) (sublists_of (suc (length cells)) ys) (y ∷ cells) (contains-map (λ s. y ∷ s) cells (sublists_of (length cells) ys) rest))
by_first c y cells ys false e taken left = Contains-append_right (map (λ s. y ∷ s) (sublists_of (length cells) ys)) (sublists_of (suc (length cells)) ys) (c ∷ cells) (left e)

pub sublist_listed : (cells ys : List Cell) → rises cells ≡ true → rises ys ≡ true → AreAmong cells ys → Contains (sublists_of (length cells) ys) cells
unfolding sublists_of
sublist_listed [] ys r ry among = contains-head [] [] [] refl
sublist_listed (c ∷ cells) [] r ry among = absurd (let none : false ≡ true = among c (or_left (same c c) (list_any (same c) cells) (same_itself c)) in cc)
sublist_listed (c ∷ cells) (y ∷ ys) r ry among =
    by_first c y cells ys (same c y) refl (λ is. sublist_listed cells ys (rises-tail c cells r) (rises-tail y ys ry) (rest-among c y cells ys is r among))
    (λ differ. sublist_listed (c ∷ cells) ys r (rises-tail y ys ry) (all-among c y cells ys differ r ry among))

-- ---- none twice

begun-apart : (c : Cell) (s t : List Cell) → Before c t → pointwise same (c ∷ s) t ≡ false
begun-apart c s [] b = refl
begun-apart c s (d ∷ t) b = rw (precedes_differs c d b.0) refl

behind-apart : (c : Cell) (s t : List Cell) → pointwise same s t ≡ false → pointwise same (c ∷ s) (c ∷ t) ≡ false
behind-apart c s t differ = rw (same_itself c, differ) refl

pub sublists-once : (n : ℕ) (cells : List Cell) → rises cells ≡ true → IsDistinct (pointwise same) (sublists_of n cells)
unfolding sublists_of IsDistinct
sublists-once zero cells r = (tt, tt)
sublists-once (suc n) [] r = tt
sublists-once (suc n) (c ∷ cells) r =
    let after = rises-tail c cells r in
    let later = sublists-before c (suc n) cells (before_rising c cells r) in
    distinct-append (pointwise same) (map (λ s. c ∷ s) (sublists_of n cells)) (sublists_of (suc n) cells)
    (distinct-map (pointwise same) (pointwise same) (λ s. c ∷ s) (behind-apart c) (sublists_of n cells) (sublists-once n cells after)) (sublists-once (suc n) cells after)
    (all-map (λ (s : List Cell). Unit {0}) (λ u. AllByRecursion (λ t. pointwise same u t ≡ false) (sublists_of (suc n) cells)) (λ s. c ∷ s)
    (λ s none. all-onto (Before c) (λ t. pointwise same (c ∷ s) t ≡ false) (begun-apart c s) (sublists_of (suc n) cells) later) (sublists_of n cells) (all-any (λ (s : List Cell). Unit {0}) (λ s. tt) (sublists_of n cells)))
