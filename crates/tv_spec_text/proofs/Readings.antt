-- Lines spell at most one web.
use Rattle.std.proofs.Common.{◌≡◌, ℕ, ℤ, pos, negsuc, ◌<◌, ◌^◌, List, [], ◌∷◌, ◌++◌, length, map, drop, get_or, refl, sym, ◌∙◌, ap, arith, lit<}
use Rattle.std.specs.List.{AllByRecursion}
use Rattle.std.proofs.lemmas.Fmt.{signed_decimal_injective}
use Rattle.tv_spec_plane.specs.declared.records.RawPoint.{RawPoint}
use Rattle.tv_spec_plane.specs.declared.records.Triple.{Triple}
use Rattle.tv_spec_plane.specs.Web.{Web}
use Rattle.tv_spec_text.specs.Lines.{Line, spelled, IsNumber, IsCount}
use Rattle.tv_spec_text.specs.Files.{point_line, triangle_line, heights_line, end_line, PointFits, TriangleFits, Spells}
use lib.Signed.{mag}

small : (z : ℤ) → IsNumber z → mag z < 2 ^ 63
small (pos n) h = omega arith
small (negsuc n) h = omega arith

pub spelled_injective : (y z : ℤ) → IsNumber y → IsNumber z → spelled y ≡ spelled z → y ≡ z
spelled_injective y z h k e = signed_decimal_injective y z (small y h) (small z k) e

pub count_injective : (m n : ℕ) → IsCount m → IsCount n → spelled (pos m) ≡ spelled (pos n) → m ≡ n
count_injective m n h k e = let same : pos m ≡ pos n = spelled_injective (pos m) (pos n) h k e in cc

pub numbers_injective : (ys zs : List ℤ) → AllByRecursion IsNumber ys → AllByRecursion IsNumber zs → map spelled ys ≡ map spelled zs → ys ≡ zs
numbers_injective [] [] h k e = refl
numbers_injective [] (z ∷ zs) h k e = cc
numbers_injective (y ∷ ys) [] h k e = cc
numbers_injective (y ∷ ys) (z ∷ zs) h k e =
    let first : spelled y ≡ spelled z = cc in
    let rest : map spelled ys ≡ map spelled zs = cc in
    let same : y ≡ z = spelled_injective y z h.0 k.0 first in
    let more : ys ≡ zs = numbers_injective ys zs h.1 k.1 rest in cc

points_injective : (p q : RawPoint) → PointFits p → PointFits q → point_line p ≡ point_line q → p ≡ q
points_injective p q h k e =
    let x : spelled p.x ≡ spelled q.x = cc in
    let y : spelled p.y ≡ spelled q.y = cc in
    let first : p ≡ record { x = q.x; y = p.y } = ap (λ (z : ℤ). let r : RawPoint = record { x = z; y = p.y } in r) (spelled_injective p.x q.x h.0 k.0 x) in
    first ∙ ap (λ (z : ℤ). let r : RawPoint = record { x = q.x; y = z } in r) (spelled_injective p.y q.y h.1 k.1 y)

triangles_injective : (t u : Triple) → TriangleFits t → TriangleFits u → triangle_line t ≡ triangle_line u → t ≡ u
triangles_injective t u h k e =
    let a : spelled (pos t.a) ≡ spelled (pos u.a) = cc in
    let b : spelled (pos t.b) ≡ spelled (pos u.b) = cc in
    let c : spelled (pos t.c) ≡ spelled (pos u.c) = cc in
    let first : t ≡ record { a = u.a; b = t.b; c = t.c } = ap (λ (n : ℕ). let r : Triple = record { a = n; b = t.b; c = t.c } in r) (count_injective t.a u.a h.0 k.0 a) in
    let second : t ≡ record { a = u.a; b = u.b; c = t.c } = first ∙ ap (λ (n : ℕ). let r : Triple = record { a = u.a; b = n; c = t.c } in r) (count_injective t.b u.b h.1 k.1 b) in
    second ∙ ap (λ (n : ℕ). let r : Triple = record { a = u.a; b = u.b; c = n } in r) (count_injective t.c u.c h.2 k.2 c)

-- the kind of a line, by the length of its first word

abbrev pub kind : List Line → ℕ
kind [] = 0
kind ([] ∷ ls) = 0
kind ((w ∷ ws) ∷ ls) = length w

-- the lines after the points, and those after the first line

abbrev from_triangles : List Triple → List ℤ → List Line
from_triangles ts hs = map triangle_line ts ++ (heights_line hs ∷ end_line ∷ [])

abbrev from_points : List RawPoint → List Triple → List ℤ → List Line
from_points ps ts hs = map point_line ps ++ from_triangles ts hs

same_triangles : (ts us : List Triple) (hs ks : List ℤ) → AllByRecursion TriangleFits ts → AllByRecursion TriangleFits us → AllByRecursion IsNumber hs → AllByRecursion IsNumber ks → from_triangles ts hs ≡ from_triangles us ks → (ts ≡ us) × (hs ≡ ks)
same_triangles [] [] hs ks f g h k e = (refl, numbers_injective hs ks h k (ap (λ ls. drop 1 (get_or ls 0 [])) e))
same_triangles [] (u ∷ us) hs ks f g h k e = absurd (omega (arith, ap kind e))
same_triangles (t ∷ ts) [] hs ks f g h k e = absurd (omega (arith, ap kind e))
same_triangles (t ∷ ts) (u ∷ us) hs ks f g h k e =
    let first : t ≡ u = triangles_injective t u f.0 g.0 (ap (λ ls. get_or ls 0 []) e) in
    let rest = same_triangles ts us hs ks f.1 g.1 h k (ap (drop 1) e) in
    let more : ts ≡ us = rest.0 in (cc, rest.1)

triangles_kind : (ts : List Triple) (hs : List ℤ) → 5 < kind (from_triangles ts hs)
triangles_kind [] hs = lit< tt
triangles_kind (t ∷ ts) hs = lit< tt

same_points : (ps qs : List RawPoint) (ts us : List Triple) (hs ks : List ℤ) → AllByRecursion PointFits ps → AllByRecursion PointFits qs → AllByRecursion TriangleFits ts → AllByRecursion TriangleFits us → AllByRecursion IsNumber hs → AllByRecursion IsNumber ks → from_points ps ts hs ≡ from_points qs us ks → (ps ≡ qs) × (ts ≡ us) × (hs ≡ ks)
same_points [] [] ts us hs ks m n f g h k e = let rest = same_triangles ts us hs ks f g h k e in (refl, rest.0, rest.1)
same_points [] (q ∷ qs) ts us hs ks m n f g h k e = absurd (omega (arith, triangles_kind ts hs, ap kind e))
same_points (p ∷ ps) [] ts us hs ks m n f g h k e = absurd (omega (arith, triangles_kind us ks, ap kind e))
same_points (p ∷ ps) (q ∷ qs) ts us hs ks m n f g h k e =
    let first : p ≡ q = points_injective p q m.0 n.0 (ap (λ ls. get_or ls 0 []) e) in
    let rest = same_points ps qs ts us hs ks m.1 n.1 f g h k (ap (drop 1) e) in
    let more : ps ≡ qs = rest.0 in (cc, rest.1, rest.2)

web : List RawPoint → List Triple → List ℤ → Web
web ps ts hs = record { points = ps; triangles = ts; heights = hs }

same_web : (w v : Web) → w.points ≡ v.points → w.triangles ≡ v.triangles → w.heights ≡ v.heights → w ≡ v
unfolding web
same_web w v p t h = ap (λ ps. web ps w.triangles w.heights) p ∙ ap (λ ts. web v.points ts w.heights) t ∙ ap (λ hs. web v.points v.triangles hs) h

pub Spells-unique : (ls : List Line) (w v : Web) → Spells ls w → Spells ls v → w ≡ v
Spells-unique ls w v s t =
    let body = same_points w.points v.points w.triangles v.triangles w.heights v.heights s.fits.points t.fits.points s.fits.triangles t.fits.triangles s.fits.heights t.fits.heights (ap (drop 1) (sym s.same ∙ t.same)) in
    same_web w v body.0 body.1 body.2
