-- Lines of a list, printed one after the other.
use Rattle.std.proofs.Common.{◌≡◌, ℕ, ◌+◌, ◌<◌, ◌≤◌, List, ◌∷◌, ◌++◌, length, map, take, drop, get_or, Some, refl, sym, ◌∙◌, ap, add-one, append_assoc}
use Rattle.std.specs.List.{flat_map, slice_get}
use Rattle.std.proofs.Math.Seq.{drop-cons}
use Rattle.std.proofs.lemmas.List.Concat.{flat_map-append}
use Rattle.std.proofs.lemmas.List.Folds.{flat_map-map}
use Rattle.std.proofs.lemmas.Option.{slice_get_within, get_or_from_slice_get}
use Rattle.tv_lemmas.proofs.Lists.{flat_map-flat_map}
use Rattle.tv_spec_text.specs.Lines.{Line, line_text}
use Rattle.tv_text.proofs.Printing.{flat_map-step, flat_map-whole}

pub lines-whole : {A : Type 0} (f : A → Line) (old now : List ℕ) (xs : List A) (i : ℕ) → length xs ≤ i → now ≡ old ++ flat_map (λ x. line_text (f x)) (take i xs) → now ≡ old ++ flat_map line_text (map f xs)
lines-whole f old now xs i h e = flat_map-whole (λ x. line_text (f x)) old now xs i h e ∙ ap (λ z. old ++ z) (sym (flat_map-map line_text f xs))

-- what is left of a list is its next item, and what is left after that
pub drop_next : {A : Type 0} (xs : List A) (i : ℕ) (x : A) → i < length xs → drop i xs ≡ get_or xs i x ∷ drop (i + 1) xs
drop_next xs i x h = drop-cons xs i x h ∙ rw add-one refl

-- lines, and then lines
pub two_parts : (xs ys : List Line) (old now next : List ℕ) → now ≡ old ++ flat_map line_text xs → next ≡ now ++ flat_map line_text ys → next ≡ old ++ flat_map line_text (xs ++ ys)
two_parts xs ys old now next e n =
    n ∙ ap (λ t. t ++ flat_map line_text ys) e ∙ append_assoc old (flat_map line_text xs) (flat_map line_text ys) ∙ ap (λ t. old ++ t) (sym (flat_map-append line_text xs ys))

-- one piece more, found at its place
pub piece_more : {A : Type 0} (f : A → List ℕ) (xs : List A) (old now next : List ℕ) (k : ℕ) (x : A) → slice_get xs k ≡ Some x → now ≡ old ++ flat_map f (take k xs) → next ≡ now ++ f x → next ≡ old ++ flat_map f (take (k + 1) xs)
piece_more f xs old now next k x found e n =
    flat_map-step f old now next xs k x (slice_get_within xs k x found) e (n ∙ ap (λ y. now ++ f y) (sym (get_or_from_slice_get xs k x x found)))

-- the lines of sections, each made of an item
pub sections-whole : {A B : Type 0} (lines : B → List Line) (section : A → B) (xs : List A) (old now : List ℕ) (k : ℕ) → length xs ≤ k → now ≡ old ++ flat_map (λ x. flat_map line_text (lines (section x))) (take k xs) → now ≡ old ++ flat_map line_text (flat_map lines (map section xs))
sections-whole lines section xs old now k h e =
    flat_map-whole (λ x. flat_map line_text (lines (section x))) old now xs k h e
    ∙ ap (λ t. old ++ t) (sym (flat_map-flat_map line_text (λ x. lines (section x)) xs) ∙ ap (flat_map line_text) (sym (flat_map-map lines section xs)))
