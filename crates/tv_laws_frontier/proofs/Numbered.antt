-- Edges that are picked by number are those that are picked from the list.
use Rattle.std.specs.Prelude.{◌≡◌, ℕ, suc, ◌+◌, ◌<◌, List, [], ◌∷◌, map, filter, length, slice_index_or}
use Rattle.std.specs.List.{range_with_len}
use Rattle.std.proofs.Common.{refl, sym, ap, ◌∙◌, arith}
use Rattle.tv_lemmas.proofs.Lists.{filter-map}
use Rattle.tv_spec_plane.specs.Web.{compact, below, no_edge}
use Rattle.tv_laws_frontier.specs.StepLaws.{PickedByNumber}

-- by values at j, j + 1, .. that are those of the list
values : {A : Type 0} (f : ℕ → A) (d : A) (ys : List A) (j : ℕ) → ((k : ℕ) → k < length ys → f (j + k) ≡ slice_index_or ys k d) → map f (range_with_len j (length ys)) ≡ ys
values f d [] j same = refl
values f d (y ∷ ys) j same =
    let none : j + 0 ≡ j = omega arith in
    let first : f j ≡ y = ap f (sym none) ∙ same 0 (omega arith) in
    ap (λ x. x ∷ map f (range_with_len (j + 1) (length ys))) first
    ∙ ap (λ xs. y ∷ xs) (values f d ys (j + 1) (λ k h. let up : (j + 1) + k ≡ j + suc k = omega arith in ap f up ∙ same (suc k) (omega arith)))

pub picked_by_number : PickedByNumber
picked_by_number w p =
    let edge = λ (k : ℕ). slice_index_or (compact w) k no_edge in
    sym (filter-map p (λ k. p (edge k)) edge (λ k. refl) (below (length (compact w))))
    ∙ ap (filter p) (values edge no_edge (compact w) 0 (λ k h. let none : 0 + k ≡ k = omega arith in ap edge none))
