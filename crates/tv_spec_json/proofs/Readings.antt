-- A value spells at most one web.
use Rattle.std.proofs.Common.{◌≡◌, ℕ, ℤ, pos, negsuc, List, [], ◌∷◌, refl, sym, ◌∙◌, ap}
use Rattle.serde_json.specs.Data.{Data}
use Rattle.tv_spec_plane.specs.declared.records.RawPoint.{RawPoint}
use Rattle.tv_spec_plane.specs.declared.records.Triple.{Triple}
use Rattle.tv_spec_plane.specs.Web.{Web}
use Rattle.tv_spec_json.specs.Files.{whole, items, point_value, triangle_value, file_value, SpellsValue}

whole_injective : (y z : ℤ) → whole y ≡ whole z → y ≡ z
whole_injective (pos m) (pos n) e = cc
whole_injective (pos m) (negsuc n) e = cc
whole_injective (negsuc m) (pos n) e = cc
whole_injective (negsuc m) (negsuc n) e = cc

items_injective : {A : Type 0} → (f : A → Data) → ((x y : A) → f x ≡ f y → x ≡ y) → (xs ys : List A) → items f xs ≡ items f ys → xs ≡ ys
items_injective f injective [] [] e = refl
items_injective f injective [] (y ∷ ys) e = cc
items_injective f injective (x ∷ xs) [] e = cc
items_injective f injective (x ∷ xs) (y ∷ ys) e =
    let first : f x ≡ f y = cc in
    let rest : items f xs ≡ items f ys = cc in
    let same : x ≡ y = injective x y first in
    let more : xs ≡ ys = items_injective f injective xs ys rest in cc

points_injective : (p q : RawPoint) → point_value p ≡ point_value q → p ≡ q
points_injective p q e =
    let x : whole p.x ≡ whole q.x = cc in
    let y : whole p.y ≡ whole q.y = cc in
    let first : p ≡ record { x = q.x; y = p.y } = ap (λ (z : ℤ). let r : RawPoint = record { x = z; y = p.y } in r) (whole_injective p.x q.x x) in
    first ∙ ap (λ (z : ℤ). let r : RawPoint = record { x = q.x; y = z } in r) (whole_injective p.y q.y y)

counts_injective : (m n : ℕ) → whole (pos m) ≡ whole (pos n) → m ≡ n
counts_injective m n e = cc

triangles_injective : (t u : Triple) → triangle_value t ≡ triangle_value u → t ≡ u
triangles_injective t u e =
    let a : whole (pos t.a) ≡ whole (pos u.a) = cc in
    let b : whole (pos t.b) ≡ whole (pos u.b) = cc in
    let c : whole (pos t.c) ≡ whole (pos u.c) = cc in
    let first : t ≡ record { a = u.a; b = t.b; c = t.c } = ap (λ (n : ℕ). let r : Triple = record { a = n; b = t.b; c = t.c } in r) (counts_injective t.a u.a a) in
    let second : t ≡ record { a = u.a; b = u.b; c = t.c } = first ∙ ap (λ (n : ℕ). let r : Triple = record { a = u.a; b = n; c = t.c } in r) (counts_injective t.b u.b b) in
    second ∙ ap (λ (n : ℕ). let r : Triple = record { a = u.a; b = u.b; c = n } in r) (counts_injective t.c u.c c)

values_injective : (w v : Web) → file_value w ≡ file_value v → w ≡ v
values_injective w v e =
    let hs : items whole w.heights ≡ items whole v.heights = cc in
    let ps : items point_value w.points ≡ items point_value v.points = cc in
    let ts : items triangle_value w.triangles ≡ items triangle_value v.triangles = cc in
    let points : w.points ≡ v.points = items_injective point_value points_injective w.points v.points ps in
    let triangles : w.triangles ≡ v.triangles = items_injective triangle_value triangles_injective w.triangles v.triangles ts in
    let heights : w.heights ≡ v.heights = items_injective whole whole_injective w.heights v.heights hs in
    let first : w ≡ record { points = v.points; triangles = w.triangles; heights = w.heights } = ap (λ (ps : List RawPoint). let r : Web = record { points = ps; triangles = w.triangles; heights = w.heights } in r) points in
    let second : w ≡ record { points = v.points; triangles = v.triangles; heights = w.heights } = first ∙ ap (λ (ts : List Triple). let r : Web = record { points = v.points; triangles = ts; heights = w.heights } in r) triangles in
    second ∙ ap (λ (hs : List ℤ). let r : Web = record { points = v.points; triangles = v.triangles; heights = hs } in r) heights

pub SpellsValue-unique : (d : Data) (w v : Web) → SpellsValue d w → SpellsValue d v → w ≡ v
SpellsValue-unique d w v s t = values_injective w v (sym s.same ∙ t.same)
