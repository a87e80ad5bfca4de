-- The place of the first line with which no file goes on.
use Rattle.std.proofs.Common.{◌≡◌, ◌≢◌, ℕ, ◌+◌, ◌<◌, ◌≤◌, List, [], ◌∷◌, ◌++◌, length, map, take, get_or, sym, ◌∙◌, ap, subst, arith, append_assoc, add-one, Bool, true, false, cond, lit≤, ◌==◌}
use Rattle.std.proofs.lemmas.List.{take_more, get_or-map, take_all, length-map}
use Rattle.std.proofs.lemmas.List.Splits.{length-slice_split}
use Rattle.std.proofs.lemmas.List.Sums.{count_by-le-length}
use Rattle.std.specs.List.{slice_split}
use Rattle.std.specs.Str.Lines.{lines, lines_of_parts}
use Rattle.tv_spec_text.specs.Places.{Begins, IsPlace}
use Rattle.tv_spec_text.specs.Lines.{Line, words}
use Rattle.tv_spec_text.specs.Files.{IsFile}
use Rattle.tv_spec_plane.specs.Web.{Web}
use Rattle.tv_text.specs.declared.stage.Stage.{Stage}
use Rattle.tv_text.specs.declared.stage.Stage.TheVariants.{Done}
use Rattle.tv_text.specs.Stages.{IsAt}
use Rattle.tv_text.proofs.Reading.{IsAt-begins, IsAt-end}

-- f gives the bytes of an item
pub one_line_more : {A : Type 0} (f : A → List ℕ) (xs : List A) (k : ℕ) (d : A) → k < length xs → take (k + 1) (map words (map f xs)) ≡ take k (map words (map f xs)) ++ words (f (get_or xs k d)) ∷ []
one_line_more f xs k d h =
    let l : k < length (map f xs) = simp length-map (omega arith) in
    let m : k < length (map words (map f xs)) = simp length-map (omega arith) in
    take_more (map words (map f xs)) k [] m ∙ ap (λ z. take k (map words (map f xs)) ++ z ∷ []) (get_or-map words (map f xs) k [] [] l ∙ ap words (get_or-map f xs k d [] h))

pub as_many : {A : Type 0} (f : A → List ℕ) (xs : List A) → length (map words (map f xs)) ≡ length xs
as_many f xs = simp length-map

pub place_within : (xs : List Line) (k : ℕ) (l : Line) (s : Stage) (w : Web) → k < length xs → take (k + 1) xs ≡ take k xs ++ l ∷ [] → IsAt s w (take k xs) → ((more : List Line) → IsFile (take k xs ++ l ∷ more) → ⊥) → IsPlace IsFile xs k
place_within xs k l s w h more here none = record {
  within = omega arith;
  before = IsAt-begins s w (take k xs) here;
  outside = λ _ b. none b.0 (subst IsFile (ap (λ z. z ++ b.0) (ap (λ n. take n xs) (sym (add-one k)) ∙ more) ∙ append_assoc (take k xs) (l ∷ []) b.0) b.1);
  short = λ e. absurd (omega arith);
}

pub place_at_end : (xs : List Line) (s : Stage) (w : Web) → s ≢ Done → IsAt s w xs → IsPlace IsFile xs (length xs)
place_at_end xs s w other here = record {
  within = omega arith;
  before = subst (Begins IsFile) (sym (take_all (length xs) xs (omega arith))) (IsAt-begins s w xs here);
  outside = λ h. absurd (omega arith);
  short = λ _ file. IsAt-end s w xs other here file;
}

at_most_one : (b : Bool) (x : List ℕ) → length (cond b [] (x ∷ [])) ≤ 1
at_most_one true x = lit≤ tt
at_most_one false x = lit≤ tt

lines_of_parts-length : (ps : List (List ℕ)) → length (lines_of_parts ps) ≤ length ps
lines_of_parts-length [] = lit≤ tt
lines_of_parts-length (x ∷ []) = at_most_one _ x
lines_of_parts-length (x ∷ y ∷ more) = omega (arith, lines_of_parts-length (y ∷ more))

pub lines-length : (bytes : List ℕ) → length (lines bytes) ≤ length bytes + 1
lines-length bytes = omega (arith, lines_of_parts-length (slice_split (λ b. b == 10) bytes), length-slice_split (λ (b : ℕ). b == 10) bytes, count_by-le-length (λ (b : ℕ). b == 10) bytes)

pub lines-count : {A : Type 0} (f : A → List ℕ) (xs : List A) (bytes : List ℕ) → map f xs ≡ lines bytes → length bytes ≤ 65536 → length xs ≤ 65537
lines-count f xs bytes e h = let same : length (map f xs) ≡ length xs = simp length-map in omega (arith, lines-length bytes, ap length e, same)
