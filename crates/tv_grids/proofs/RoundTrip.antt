-- The text of a web that fits the grammar is of plain words, so it is read again as that web.
use Rattle.std.proofs.Common.{◌≡◌, ℕ, suc, ◌<◌, ℤ, pos, negsuc, List, [], ◌∷◌, map, refl, arith}
use Rattle.std.specs.Prelude.{codes}
use Rattle.std.specs.List.{AllByRecursion}
use Rattle.std.specs.Fmt.{decimal}
use Rattle.tv_lemmas.proofs.Members.{all-append, all-map}
use Rattle.tv_spec_plane.specs.Web.{Web}
use Rattle.tv_spec_text.specs.Lines.{word_lines, text_of, spelled, IsNumber}
use Rattle.tv_spec_text.specs.Files.{point_line, triangle_line, heights_line, end_line, file_lines, PointFits, TriangleFits, Fits, Spells}
use Rattle.tv_spec_text.proofs.PlainWords.{Above, IsPlain, digits-above, word-above, plain_reads_back}
use Rattle.tv_text.proofs.Decimals.{decimal-digits}

number-above : (z : ℤ) → IsNumber z → Above 32 (spelled z)
number-above (pos n) h = digits-above (decimal n) (decimal-digits n (decimal n) h refl)
number-above (negsuc n) h = (omega arith, digits-above (decimal (suc n)) (decimal-digits (suc n) (decimal (suc n)) h refl))

file-plain : (w : Web) → Fits w → AllByRecursion IsPlain (file_lines w)
file-plain w fits =
    let heights : IsPlain (heights_line w.heights) = (word-above (codes "heights") refl, all-map IsNumber (Above 32) spelled number-above w.heights fits.heights) in
    let ends : AllByRecursion IsPlain (heights_line w.heights ∷ end_line ∷ []) = (heights, ((word-above (codes "end") refl, tt), tt)) in
    let triangles = all-map TriangleFits IsPlain triangle_line (λ t h. (word-above (codes "triangle") refl, (number-above (pos t.a) h.0, (number-above (pos t.b) h.1, (number-above (pos t.c) h.2, tt))))) w.triangles fits.triangles in
    let points = all-map PointFits IsPlain point_line (λ p h. (word-above (codes "point") refl, (number-above p.x h.0, (number-above p.y h.1, tt)))) w.points fits.points in
    ((word-above (codes "tv") refl, (word-above (codes "1") refl, tt)), all-append IsPlain (map point_line w.points) _ points (all-append IsPlain (map triangle_line w.triangles) _ triangles ends))

pub file-spells : (w : Web) → Fits w → Spells (word_lines (text_of (file_lines w))) w
file-spells w fits = record { fits = fits; same = plain_reads_back (file_lines w) (file-plain w fits) }
