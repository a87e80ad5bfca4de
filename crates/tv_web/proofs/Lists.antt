-- The lists that the code gathers are the lists of edges and corners of the web.
use Rattle.std.specs.Prelude.{◌≡◌, ℕ, suc, ◌+◌, ◌-◌, ◌≤◌, List, [], ◌∷◌, ◌++◌, map, length, Option, Some, None}
use Rattle.std.specs.List.{flat_map, filter_map, range_with_len}
use Rattle.std.proofs.Common.{refl, sym, ap, ◌∙◌, arith, add-one}
use Rattle.std.proofs.lemmas.List.Elements.{filter_map-append}
use Rattle.tv_lemmas.proofs.Lists.{map-same, flat_map-same, length-flat_map-le}
use Rattle.tv_spec_plane.specs.declared.records.Triple.{Triple}
use Rattle.tv_spec_plane.specs.declared.records.CompactEdge.{CompactEdge}
use Rattle.tv_spec_plane.specs.declared.records.OuterEdge.{OuterEdge}
use Rattle.tv_spec_plane.specs.Plane.{Point}
use Rattle.tv_spec_plane.specs.Web.{Web, pairs, compact, outer, corners, corner_of, edge_ref, compact_by, outer_by, owners}
use Rattle.std.proofs.lemmas.List.FromFn.{length-range_with_len}
use Rattle.tv_web.specs.Found.{owners_in}
use Rattle.tv_web.specs.Edges.{one, gathered, compact_pair, outer_pair, compact_row, outer_row}
use Rattle.tv_web.specs.Corners.{corner_in, edge_ref_in}
use Rattle.tv_web.specs.Built.{bare_web}

filter_map-flat_map : {A B C : Type 0} (h : B → Option C) (g : A → List B) (xs : List A) → filter_map h (flat_map g xs) ≡ flat_map (λ x. filter_map h (g x)) xs
filter_map-flat_map h g [] = refl
filter_map-flat_map h g (x ∷ xs) = filter_map-append h (g x) (flat_map g xs) ∙ ap (λ ys. filter_map h (g x) ++ ys) (filter_map-flat_map h g xs)

one-is : {B C : Type 0} (h : B → Option C) (y : B) (ys : List B) (o : Option C) → h y ≡ o → filter_map h (y ∷ ys) ≡ one o ++ filter_map h ys
one-is h y ys None e = rw e refl
one-is h y ys (Some z) e = rw e refl

filter_map-map : {A B C : Type 0} (h : B → Option C) (g : A → B) (xs : List A) → filter_map h (map g xs) ≡ flat_map (λ x. one (h (g x))) xs
filter_map-map h g [] = refl
filter_map-map h g (x ∷ xs) = one-is h (g x) (map g xs) (h (g x)) refl ∙ ap (λ ys. one (h (g x)) ++ ys) (filter_map-map h g xs)

-- over all pairs below n
filter_map-pairs : {C : Type 0} (h : ℕ × ℕ → Option C) (row : ℕ → List C) (n : ℕ) → ((a : ℕ) → flat_map (λ b. one (h (a, b))) (range_with_len (suc a) (n - suc a)) ≡ row a) → filter_map h (pairs n) ≡ flat_map row (range_with_len 0 n)
filter_map-pairs h row n rows = filter_map-flat_map h (λ a. map (λ b. (a, b)) (range_with_len (suc a) (n - suc a))) (range_with_len 0 n) ∙ flat_map-same (λ a. filter_map h (map (λ b. (a, b)) (range_with_len (suc a) (n - suc a)))) row (λ a. filter_map-map h (λ b. (a, b)) (range_with_len (suc a) (n - suc a)) ∙ rows a) (range_with_len 0 n)

gathered-whole : {A : Type 0} (g : ℕ → List A) (n : ℕ) → gathered g 0 n ≡ flat_map g (range_with_len 0 n)
unfolding gathered
gathered-whole g n =
    let whole : n - 0 ≡ n = omega arith in
    ap (λ m. flat_map g (range_with_len 0 m)) whole

compact_row-is : (ps : List Point) (ts : List Triple) (n a : ℕ) → flat_map (λ b. one (compact_by (bare_web ps ts) a b (owners (bare_web ps ts) a b))) (range_with_len (suc a) (n - suc a)) ≡ compact_row ts n a
unfolding compact_row compact_pair gathered owners_in
compact_row-is ps ts n a = rw add-one refl

outer_row-is : (ps : List Point) (ts : List Triple) (n a : ℕ) → flat_map (λ b. one (outer_by a b (owners (bare_web ps ts) a b))) (range_with_len (suc a) (n - suc a)) ≡ outer_row ts n a
unfolding outer_row outer_pair gathered owners_in
outer_row-is ps ts n a = rw add-one refl

pub compact-is : (ps : List Point) (ts : List Triple) (n : ℕ) → n ≡ length ps → gathered (compact_row ts n) 0 n ≡ compact (bare_web ps ts)
unfolding compact
compact-is ps ts n e = gathered-whole (compact_row ts n) n ∙ (sym (filter_map-pairs (λ (p : ℕ × ℕ). compact_by (bare_web ps ts) p.0 p.1 (owners (bare_web ps ts) p.0 p.1)) (compact_row ts n) n (compact_row-is ps ts n)) ∙ ap (λ m. filter_map (λ (p : ℕ × ℕ). compact_by (bare_web ps ts) p.0 p.1 (owners (bare_web ps ts) p.0 p.1)) (pairs m)) e)

pub outer-is : (ps : List Point) (ts : List Triple) (n : ℕ) → n ≡ length ps → gathered (outer_row ts n) 0 n ≡ outer (bare_web ps ts)
unfolding outer
outer-is ps ts n e = gathered-whole (outer_row ts n) n ∙ (sym (filter_map-pairs (λ (p : ℕ × ℕ). outer_by p.0 p.1 (owners (bare_web ps ts) p.0 p.1)) (outer_row ts n) n (outer_row-is ps ts n)) ∙ ap (λ m. filter_map (λ (p : ℕ × ℕ). outer_by p.0 p.1 (owners (bare_web ps ts) p.0 p.1)) (pairs m)) e)

-- corners by the two lists
corner_in-is : (w : Web) (t : Triple) → corner_in (compact w) (outer w) t ≡ corner_of w t
unfolding edge_ref edge_ref_in
corner_in-is w t = refl

pub corners-is : (w : Web) (cs : List CompactEdge) (os : List OuterEdge) → cs ≡ compact w → os ≡ outer w → map (corner_in cs os) w.triangles ≡ corners w
corners-is w cs os e f = ap (λ xs. map (corner_in xs os) w.triangles) e ∙ (ap (λ ys. map (corner_in (compact w) ys) w.triangles) f ∙ map-same (corner_in (compact w) (outer w)) (corner_of w) (corner_in-is w) w.triangles)

-- how many there can be
length-one : {A : Type 0} (o : Option A) → length (one o) ≤ 1
length-one None = omega arith
length-one (Some x) = omega arith

compact_row-few : (ts : List Triple) (n : ℕ) → n ≤ 64 → (a : ℕ) → length (compact_row ts n a) ≤ 64
unfolding compact_row compact_pair gathered
compact_row-few ts n h a = omega (arith, length-flat_map-le (compact_pair ts a) 1 (λ b. length-one _) (range_with_len (a + 1) (n - (a + 1))), length-range_with_len (a + 1) (n - (a + 1)))

outer_row-few : (ts : List Triple) (n : ℕ) → n ≤ 64 → (a : ℕ) → length (outer_row ts n a) ≤ 64
unfolding outer_row outer_pair gathered
outer_row-few ts n h a = omega (arith, length-flat_map-le (outer_pair ts a) 1 (λ b. length-one _) (range_with_len (a + 1) (n - (a + 1))), length-range_with_len (a + 1) (n - (a + 1)))

pub compact-few : (ts : List Triple) (n : ℕ) → n ≤ 64 → length (gathered (compact_row ts n) 0 n) ≤ 4096
unfolding gathered
compact-few ts n h = omega (arith, length-flat_map-le (compact_row ts n) 64 (compact_row-few ts n h) (range_with_len 0 (n - 0)), length-range_with_len 0 (n - 0))

pub outer-few : (ts : List Triple) (n : ℕ) → n ≤ 64 → length (gathered (outer_row ts n) 0 n) ≤ 4096
unfolding gathered
outer-few ts n h = omega (arith, length-flat_map-le (outer_row ts n) 64 (outer_row-few ts n h) (range_with_len 0 (n - 0)), length-range_with_len 0 (n - 0))
