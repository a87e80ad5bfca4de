-- What may follow at each stage, one row at a time.
use Rattle.std.proofs.Common.{◌≡◌, ◌≢◌, ℕ, ℤ, List, [], ◌∷◌, ◌++◌, length, map, drop, get_or, refl, sym, ◌∙◌, ap, subst, arith, inl, inr, ◌⊎◌, append_assoc, append-nil}
use Rattle.std.specs.Prelude.{Option, Some, None, MatchOption, ⊤}
use Rattle.std.specs.List.{AllByRecursion}
use Rattle.std.proofs.lemmas.List.{map-append}
use Rattle.tv_spec_plane.specs.declared.records.RawPoint.{RawPoint}
use Rattle.tv_spec_plane.specs.declared.records.Triple.{Triple}
use Rattle.tv_spec_plane.specs.Web.{Web}
use Rattle.tv_spec_text.specs.Places.{Begins}
use Rattle.tv_spec_text.specs.Lines.{Line, IsNumber}
use Rattle.tv_spec_text.specs.Files.{first_line, point_line, triangle_line, heights_line, end_line, file_lines, PointFits, TriangleFits, Fits, Spells, IsFile}
use Rattle.tv_lattice.proofs.Each.{each_push}
use Rattle.tv_text.specs.declared.row.Row.{Row}
use Rattle.tv_text.specs.declared.row.Row.TheVariants.{First, Point, Triangle, Heights, End}
use Rattle.tv_text.specs.declared.stage.Stage.{Stage}
use Rattle.tv_text.specs.declared.stage.Stage.TheVariants.{Opening, Points, Triangles, Closing, Done}
use Rattle.tv_text.specs.Rows.{IsRow, IsNoRow}
use Rattle.tv_text.specs.Stages.{stage_after, web_with, RestHeights, RestTriangles, RestPoints, Rest, Seen, IsAt}

-- the lines of a file after the first are a rest

rest_triangles : (ts : List Triple) (hs : List ℤ) → AllByRecursion TriangleFits ts → AllByRecursion IsNumber hs → RestTriangles (map triangle_line ts ++ (heights_line hs ∷ end_line ∷ []))
rest_triangles [] hs fits all = inr ((hs, all, refl), refl)
rest_triangles (t ∷ ts) hs fits all = inl ((t, fits.0, refl), rest_triangles ts hs fits.1 all)

rest_points : (ps : List RawPoint) (ts : List Triple) (hs : List ℤ) → AllByRecursion PointFits ps → AllByRecursion TriangleFits ts → AllByRecursion IsNumber hs → RestPoints (map point_line ps ++ (map triangle_line ts ++ (heights_line hs ∷ end_line ∷ [])))
rest_points [] [] hs near fits all = inr (rest_triangles [] hs fits all)
rest_points [] (t ∷ ts) hs near fits all = inr (rest_triangles (t ∷ ts) hs fits all)
rest_points (p ∷ ps) ts hs near fits all = inl ((p, near.0, refl), rest_points ps ts hs near.1 fits all)

after_first : (l : Line) (more : List Line) → IsFile (l ∷ more) → (l ≡ first_line) × RestPoints more
after_first l more file =
    let w = file.0 in
    let same : l ∷ more ≡ file_lines w = file.1.same in
    (cc, subst RestPoints (sym (ap (drop 1) same)) (rest_points w.points w.triangles w.heights file.1.fits.points file.1.fits.triangles file.1.fits.heights))

-- kinds of lines, by the length of the first word

abbrev kind : Line → ℕ
kind [] = 0
kind (w ∷ ws) = length w

abbrev kind_of : Row → ℕ
kind_of First = 2
kind_of (Point p) = 5
kind_of (Triangle t) = 8
kind_of (Heights v) = 7
kind_of End = 3

row_kind : (r : Row) (l : Line) → IsRow r l → kind l ≡ kind_of r
row_kind First l row = ap kind row
row_kind (Point p) l row = ap kind row.1
row_kind (Triangle t) l row = ap kind row.1
row_kind (Heights v) l row = ap kind row.1
row_kind End l row = ap kind row

heights_kind : (l : Line) (more : List Line) → RestHeights (l ∷ more) → kind l ≡ 7
heights_kind l more rest = ap kind rest.0.2

triangles_kind : (l : Line) (more : List Line) → RestTriangles (l ∷ more) → (kind l ≡ 8) ⊎ (kind l ≡ 7)
triangles_kind l more (inl x) = inl (ap kind x.0.2)
triangles_kind l more (inr y) = inr (heights_kind l more y)

points_kind : (l : Line) (more : List Line) → RestPoints (l ∷ more) → (kind l ≡ 5) ⊎ ((kind l ≡ 8) ⊎ (kind l ≡ 7))
points_kind l more (inl x) = inl (ap kind x.0.2)
points_kind l more (inr y) = inr (triangles_kind l more y)

-- a row read at a stage, against the rest

past_triangles : (r : Row) (l : Line) (more : List Line) → IsRow r l → RestTriangles (l ∷ more) → MatchOption (stage_after Triangles r) ⊥ (λ s. Rest s more)
past_triangles (Triangle t) l more row (inl x) = x.1
past_triangles (Triangle t) l more row (inr y) = absurd (omega (arith, row_kind (Triangle t) l row, heights_kind l more y))
past_triangles (Heights v) l more row (inl x) = let k : kind l ≡ 8 = ap kind x.0.2 in absurd (omega (arith, row_kind (Heights v) l row, k))
past_triangles (Heights v) l more row (inr y) = y.1
past_triangles First l more row rest = let k = triangles_kind l more rest in let h = row_kind First l row in grind arith
past_triangles (Point p) l more row rest = let k = triangles_kind l more rest in let h = row_kind (Point p) l row in grind arith
past_triangles End l more row rest = let k = triangles_kind l more rest in let h = row_kind End l row in grind arith

pub Rest-step : (s : Stage) (r : Row) (l : Line) (more : List Line) → IsRow r l → Rest s (l ∷ more) → MatchOption (stage_after s r) ⊥ (λ t. Rest t more)
Rest-step Opening First l more row rest = (after_first l more rest).1
Rest-step Opening (Point p) l more row rest = absurd (omega (arith, row_kind (Point p) l row, ap kind (after_first l more rest).0))
Rest-step Opening (Triangle t) l more row rest = absurd (omega (arith, row_kind (Triangle t) l row, ap kind (after_first l more rest).0))
Rest-step Opening (Heights v) l more row rest = absurd (omega (arith, row_kind (Heights v) l row, ap kind (after_first l more rest).0))
Rest-step Opening End l more row rest = absurd (omega (arith, row_kind End l row, ap kind (after_first l more rest).0))
Rest-step Points (Point p) l more row (inl x) = x.1
Rest-step Points (Point p) l more row (inr y) = let k = triangles_kind l more y in let h = row_kind (Point p) l row in grind arith
Rest-step Points (Triangle t) l more row (inl x) = absurd (omega (arith, row_kind (Triangle t) l row, ap kind x.0.2))
Rest-step Points (Triangle t) l more row (inr y) = past_triangles (Triangle t) l more row y
Rest-step Points (Heights v) l more row (inl x) = absurd (omega (arith, row_kind (Heights v) l row, ap kind x.0.2))
Rest-step Points (Heights v) l more row (inr y) = past_triangles (Heights v) l more row y
Rest-step Points First l more row rest = let k = points_kind l more rest in let h = row_kind First l row in grind arith
Rest-step Points End l more row rest = let k = points_kind l more rest in let h = row_kind End l row in grind arith
Rest-step Triangles r l more row rest = past_triangles r l more row rest
Rest-step Closing End l more row rest = ap (drop 1) rest
Rest-step Closing First l more row rest = absurd (omega (arith, row_kind First l row, ap (λ ls. kind (get_or ls 0 [])) rest))
Rest-step Closing (Point p) l more row rest = absurd (omega (arith, row_kind (Point p) l row, ap (λ ls. kind (get_or ls 0 [])) rest))
Rest-step Closing (Triangle t) l more row rest = absurd (omega (arith, row_kind (Triangle t) l row, ap (λ ls. kind (get_or ls 0 [])) rest))
Rest-step Closing (Heights v) l more row rest = absurd (omega (arith, row_kind (Heights v) l row, ap (λ ls. kind (get_or ls 0 [])) rest))
Rest-step Done r l more row rest = cc

-- a line that is no row ends no rest

pub Rest-no_row : (s : Stage) (l : Line) (more : List Line) → IsNoRow l → Rest s (l ∷ more) → ⊥
Rest-no_row Opening l more none rest = none.first (after_first l more rest).0
Rest-no_row Points l more none (inl x) = none.point x.0.0 x.0.1 x.0.2
Rest-no_row Points l more none (inr (inl y)) = none.triangle y.0.0 y.0.1 y.0.2
Rest-no_row Points l more none (inr (inr z)) = none.heights z.0.0 z.0.1 z.0.2
Rest-no_row Triangles l more none (inl y) = none.triangle y.0.0 y.0.1 y.0.2
Rest-no_row Triangles l more none (inr z) = none.heights z.0.0 z.0.1 z.0.2
Rest-no_row Closing l more none rest = none.last (cc)
Rest-no_row Done l more none rest = cc

pub Rest-end : (s : Stage) → s ≢ Done → Rest s [] → ⊥
Rest-end Opening other rest = let same : [] ≡ file_lines rest.0 = rest.1.same in cc
Rest-end Points other rest = rest
Rest-end Triangles other rest = rest
Rest-end Closing other rest = cc
Rest-end Done other rest = other refl

-- what is said so far

Fits-with : (w : Web) (r : Row) (l : Line) → IsRow r l → Fits w → Fits (web_with w r)
Fits-with w First l row fits = fits
Fits-with w (Point p) l row fits = record { points = each_push PointFits w.points p fits.points row.0; triangles = fits.triangles; heights = fits.heights }
Fits-with w (Triangle t) l row fits = record { points = fits.points; triangles = each_push TriangleFits w.triangles t fits.triangles row.0; heights = fits.heights }
Fits-with w (Heights v) l row fits = record { points = fits.points; triangles = fits.triangles; heights = row.0 }
Fits-with w End l row fits = fits

one_more : (ls seen : List Line) (l m : Line) → ls ≡ seen → l ≡ m → ls ++ l ∷ [] ≡ seen ++ m ∷ []
one_more ls seen l m e h = ap (λ k. k ++ l ∷ []) e ∙ ap (λ k. seen ++ k ∷ []) h

Seen-step : (s : Stage) (r : Row) (w : Web) (ls : List Line) (l : Line) → IsRow r l → Seen s w ls → MatchOption (stage_after s r) ⊤ (λ t. Seen t (web_with w r) (ls ++ l ∷ []))
Seen-step Opening First w ls l row seen = (seen.1, one_more ls [] l first_line seen.2 row ∙ ap (λ ps. first_line ∷ map point_line ps) (sym seen.0))
Seen-step Points (Point p) w ls l row seen = (seen.0, one_more _ _ _ _ seen.1 row.1 ∙ ap (λ k. first_line ∷ k) (sym (map-append point_line w.points (p ∷ []))))
Seen-step Points (Triangle t) w ls l row seen = one_more _ _ _ _ seen.1 row.1 ∙ ap (λ ts. first_line ∷ (map point_line w.points ++ map triangle_line (ts ++ t ∷ []))) (sym seen.0)
Seen-step Points (Heights v) w ls l row seen = one_more _ _ _ _ seen.1 row.1 ∙ ap (λ ts. first_line ∷ (map point_line w.points ++ (map triangle_line ts ++ (heights_line v.items ∷ [])))) (sym seen.0)
Seen-step Triangles (Triangle t) w ls l row seen =
    one_more _ _ _ _ seen row.1 ∙ ap (λ k. first_line ∷ k) (append_assoc (map point_line w.points) (map triangle_line w.triangles) (triangle_line t ∷ []) ∙ ap (λ k. map point_line w.points ++ k) (sym (map-append triangle_line w.triangles (t ∷ []))))
Seen-step Triangles (Heights v) w ls l row seen =
    one_more _ _ _ _ seen row.1 ∙ ap (λ k. first_line ∷ k) (append_assoc (map point_line w.points) (map triangle_line w.triangles) (heights_line v.items ∷ []))
Seen-step Closing End w ls l row seen =
    one_more _ _ _ _ seen row ∙ ap (λ k. first_line ∷ k) (append_assoc (map point_line w.points) (map triangle_line w.triangles ++ (heights_line w.heights ∷ [])) (end_line ∷ [])
    ∙ ap (λ k. map point_line w.points ++ k) (append_assoc (map triangle_line w.triangles) (heights_line w.heights ∷ []) (end_line ∷ [])))
Seen-step s r w ls l row seen = tt

pub IsAt-start : (w : Web) → w.points ≡ [] → w.triangles ≡ [] → w.heights ≡ [] → IsAt Opening w []
IsAt-start w p t h = record {
  fits = record { points = subst (AllByRecursion PointFits) (sym p) tt; triangles = subst (AllByRecursion TriangleFits) (sym t) tt; heights = subst (AllByRecursion IsNumber) (sym h) tt };
  seen = (p, t, refl);
  rest = λ more file. file;
}

-- the row may not follow, or it leads on

joined : (o : Option Stage) (w : Web) (ls : List Line) (l : Line) → Fits w → MatchOption o ⊤ (λ t. Seen t w (ls ++ l ∷ [])) → ((more : List Line) → IsFile (ls ++ l ∷ more) → MatchOption o ⊥ (λ t. Rest t more))
    → MatchOption o ((more : List Line) → IsFile (ls ++ l ∷ more) → ⊥) (λ t. IsAt t w (ls ++ l ∷ []))
joined None w ls l fits seen rest = rest
joined (Some t) w ls l fits seen rest = record { fits = fits; seen = seen; rest = λ more file. rest more (subst IsFile (append_assoc ls (l ∷ []) more) file) }

pub IsAt-step : (s : Stage) (r : Row) (w : Web) (ls : List Line) (l : Line) → IsRow r l → IsAt s w ls → MatchOption (stage_after s r) ((more : List Line) → IsFile (ls ++ l ∷ more) → ⊥) (λ t. IsAt t (web_with w r) (ls ++ l ∷ []))
IsAt-step s r w ls l row here = joined (stage_after s r) (web_with w r) ls l (Fits-with w r l row here.fits) (Seen-step s r w ls l row here.seen) (λ more file. Rest-step s r l more row (here.rest (l ∷ more) file))

pub IsAt-no_row : (s : Stage) (w : Web) (ls : List Line) (l : Line) → IsNoRow l → IsAt s w ls → (more : List Line) → IsFile (ls ++ l ∷ more) → ⊥
IsAt-no_row s w ls l none here = λ more file. Rest-no_row s l more none (here.rest (l ∷ more) file)

pub IsAt-end : (s : Stage) (w : Web) (ls : List Line) → s ≢ Done → IsAt s w ls → IsFile ls → ⊥
IsAt-end s w ls other here file = Rest-end s other (here.rest [] (subst IsFile (sym (append-nil ls)) file))

pub IsAt-done : (w : Web) (ls : List Line) → IsAt Done w ls → Spells ls w
IsAt-done w ls here = record { fits = here.fits; same = here.seen }

-- what is read so far begins a file

begins : (s : Stage) (w : Web) (ls : List Line) → Fits w → Seen s w ls → Begins IsFile ls
begins Opening w ls fits seen = (file_lines (record { points = []; triangles = []; heights = [] }), (record { points = []; triangles = []; heights = [] }, record { fits = record { points = tt; triangles = tt; heights = tt }; same = ap (λ k. k ++ file_lines (record { points = []; triangles = []; heights = [] })) seen.2 }))
begins Points w ls fits seen = (heights_line [] ∷ end_line ∷ [], (record { points = w.points; triangles = []; heights = [] }, record { fits = record { points = fits.points; triangles = tt; heights = tt }; same = ap (λ k. k ++ (heights_line [] ∷ end_line ∷ [])) seen.1 }))
begins Triangles w ls fits seen = (
  heights_line [] ∷ end_line ∷ [],
  (
    record { points = w.points; triangles = w.triangles; heights = [] },
    record {
      fits = record { points = fits.points; triangles = fits.triangles; heights = tt };
      same = ap (λ k. k ++ (heights_line [] ∷ end_line ∷ [])) seen ∙ ap (λ k. first_line ∷ k) (append_assoc (map point_line w.points) (map triangle_line w.triangles) (heights_line [] ∷ end_line ∷ []));
    },
  ),
)
begins Closing w ls fits seen = (
  end_line ∷ [],
  (
    w,
    record {
      fits = fits;
      same = ap (λ k. k ++ (end_line ∷ [])) seen ∙ ap (λ k. first_line ∷ k) (append_assoc (map point_line w.points) (map triangle_line w.triangles ++ (heights_line w.heights ∷ [])) (end_line ∷ [])
          ∙ ap (λ k. map point_line w.points ++ k) (append_assoc (map triangle_line w.triangles) (heights_line w.heights ∷ []) (end_line ∷ [])));
    },
  ),
)
begins Done w ls fits seen = ([], (w, record { fits = fits; same = append-nil ls ∙ seen }))

pub IsAt-begins : (s : Stage) (w : Web) (ls : List Line) → IsAt s w ls → Begins IsFile ls
IsAt-begins s w ls here = begins s w ls here.fits here.seen

pub IsAt-refused : (s : Stage) (r : Row) (w : Web) (ls : List Line) (l : Line) → stage_after s r ≡ None → IsRow r l → IsAt s w ls → (more : List Line) → IsFile (ls ++ l ∷ more) → ⊥
IsAt-refused s r w ls l none row here = subst (λ o. MatchOption o ((more : List Line) → IsFile (ls ++ l ∷ more) → ⊥) (λ t. IsAt t (web_with w r) (ls ++ l ∷ []))) none (IsAt-step s r w ls l row here)

pub IsAt-taken : (s t : Stage) (r : Row) (w v : Web) (ls : List Line) (l : Line) → stage_after s r ≡ Some t → v ≡ web_with w r → IsRow r l → IsAt s w ls → IsAt t v (ls ++ l ∷ [])
IsAt-taken s t r w v ls l some same row here =
    let next : IsAt t (web_with w r) (ls ++ l ∷ []) = subst (λ o. MatchOption o ((more : List Line) → IsFile (ls ++ l ∷ more) → ⊥) (λ t. IsAt t (web_with w r) (ls ++ l ∷ []))) some (IsAt-step s r w ls l row here) in
    subst (λ u. IsAt t u (ls ++ l ∷ [])) (sym same) next
