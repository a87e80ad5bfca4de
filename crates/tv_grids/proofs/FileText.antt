-- The text of a file, part after part.
use Rattle.std.proofs.Common.{◌≡◌, ℕ, List, [], ◌∷◌, ◌++◌, map, sym, ap, ◌∙◌, append_assoc, append-nil}
use Rattle.std.specs.List.{flat_map}
use Rattle.std.proofs.lemmas.List.Concat.{flat_map-append}
use Rattle.std.proofs.lemmas.List.Folds.{flat_map-map}
use Rattle.tv_spec_plane.specs.Web.{Web}
use Rattle.tv_spec_text.specs.Lines.{Line, line_text, text_of}
use Rattle.tv_spec_text.specs.Files.{first_line, point_line, triangle_line, heights_line, end_line, file_lines}

front : {A : Type 0} (f : A → Line) (xs : List A) (rest : List Line) → flat_map line_text (map f xs ++ rest) ≡ flat_map (λ x. line_text (f x)) xs ++ flat_map line_text rest
front f xs rest = flat_map-append line_text (map f xs) rest ∙ ap (λ z. z ++ flat_map line_text rest) (flat_map-map line_text f xs)

pub file-text : (w : Web) (t u v x y z : List ℕ) → t ≡ [] → u ≡ t ++ line_text first_line → v ≡ u ++ flat_map (λ p. line_text (point_line p)) w.points → x ≡ v ++ flat_map (λ t. line_text (triangle_line t)) w.triangles → y ≡ x ++ line_text (heights_line w.heights) → z ≡ y ++ line_text end_line → z ≡ text_of (file_lines w)
file-text w t u v x y z a b c d e f =
    let ends = heights_line w.heights ∷ end_line ∷ [] in
    let points = flat_map (λ p. line_text (point_line p)) w.points in
    let triangles = flat_map (λ t. line_text (triangle_line t)) w.triangles in
    let whole : text_of (file_lines w) ≡ line_text first_line ++ (points ++ (triangles ++ flat_map line_text ends)) = ap (λ r. line_text first_line ++ r) (front point_line w.points (map triangle_line w.triangles ++ ends) ∙ ap (λ r. points ++ r) (front triangle_line w.triangles ends)) in
    let written : z ≡ ((((t ++ line_text first_line) ++ points) ++ triangles) ++ line_text (heights_line w.heights)) ++ line_text end_line = f ∙ ap (λ r. r ++ line_text end_line) (e ∙ ap (λ r. r ++ line_text (heights_line w.heights)) (d ∙ ap (λ r. r ++ triangles) (c ∙ ap (λ r. r ++ points) b))) in
    written ∙ ap (λ r. ((((r ++ line_text first_line) ++ points) ++ triangles) ++ line_text (heights_line w.heights)) ++ line_text end_line) a ∙ simp append_assoc (sym (whole ∙ simp append-nil))
