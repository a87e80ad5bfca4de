-- Each edge of a corner is that of two triangles, or of one: a third would have a side of one of them.
--
-- IsRising n t p == the three numbers rise, are below n, and are points of the triangle
use Rattle.std.proofs.Common.{◌≡◌, ◌≢◌, ℕ, suc, ◌<◌, List, [], ◌∷◌, length, Bool, true, false, cond, ◌&&◌, ◌||◌, nat_eq, ◌⊎◌, inl, inr, refl, sym, ap, arith}
use Rattle.std.specs.Prelude.{nat_lt}
use Rattle.std.specs.List.{Contains, AllByRecursion, position_or_len}
use Rattle.std.proofs.lemmas.Bool.{eqb-true, eq-eqb, or_left, or_right, and_parts}
use Rattle.std.proofs.lemmas.Bool.Decides.{nat_tests}
use Rattle.std.proofs.lemmas.List.Sums.{passes_at_first}
use Rattle.tv_lemmas.proofs.Members.{all-at, all-map, contains-filter}
use Rattle.tv_spec_plane.specs.declared.records.Triple.{Triple}
use Rattle.tv_spec_plane.specs.declared.records.EdgeRef.TheVariants.{Compact, Outer}
use Rattle.tv_spec_plane.specs.Plane.{Point, Segment}
use Rattle.tv_spec_plane.specs.Tiling.{triangle_at}
use Rattle.tv_spec_plane.specs.Web.{Web, below, pairs, has, opposite, owners, compact, compact_by, compact_edge, outer, outer_by, names_compact, names_outer, edge_ref, rising, corner_of}
use Rattle.tv_laws_tiling.specs.Members.{Among}
use Rattle.tv_laws_tiling.specs.Edges.{sides, IsListed}
use Rattle.tv_lattice.specs.Limits.{HasCoordinates}
use Rattle.tv_triangulation.specs.Turned.{turned_of, IsUnit}
use Rattle.tv_triangulation.specs.Triangulated.{IsTiled}
use Rattle.tv_triangulation.proofs.Tilings.{no_triple}
use Rattle.tv_laws_tiled_edges.specs.Laws.{NamesEdge, NamesEdges, TilingNamesEdges}
use Rattle.tv_laws_tiled_edges.proofs.Corners.{IsBeside, a_not_b, b_not_c, c_not_a}
use Rattle.tv_laws_tiled_edges.proofs.Owners.{Rising, rising_filter}
use Rattle.tv_laws_tiled_edges.proofs.Rules.{owns, owner_beside, sides_apart}
use Rattle.tv_laws_tiled_edges.proofs.Places.{placed, contains-below, contains-pairs, contains-filter_map}
use Rattle.tv_lemmas.proofs.Naturals.{nat_lt-tells}

more : (a b : ℕ) → nat_lt a b ≡ false → a ≢ b → b < a
more a b e apart = grind (arith, nat_tests)

not_less : (a b : ℕ) → nat_lt a b ≡ false → a < b → ⊥
not_less a b e h = grind (arith, nat_tests)

-- ---- the points of a triangle in rising order
pub record IsRising (n : ℕ) (t : Triple) (p : ℕ × ℕ × ℕ) : Type 0 where
  pub first : p.0 < p.1
  pub second : p.1 < p.2
  pub listed : p.2 < n
  pub has_x : has t p.0 ≡ true
  pub has_y : has t p.1 ≡ true
  pub has_z : has t p.2 ≡ true

module _ (n : ℕ) (t : Triple) (ab : t.a ≢ t.b) (bc : t.b ≢ t.c) (ca : t.c ≢ t.a) (a : t.a < n) (b : t.b < n) (c : t.c < n) where
  has_a : has t t.a ≡ true
  has_a = or_left (nat_eq t.a t.a) (nat_eq t.b t.a || nat_eq t.c t.a) (eq-eqb t.a t.a refl)

  has_b : has t t.b ≡ true
  has_b = or_right (nat_eq t.a t.b) (nat_eq t.b t.b || nat_eq t.c t.b) (or_left (nat_eq t.b t.b) (nat_eq t.c t.b) (eq-eqb t.b t.b refl))

  has_c : has t t.c ≡ true
  has_c = or_right (nat_eq t.a t.c) (nat_eq t.b t.c || nat_eq t.c t.c) (or_right (nat_eq t.b t.c) (nat_eq t.c t.c) (eq-eqb t.c t.c refl))

  rising_by : (x y z : Bool) → nat_lt t.a t.b ≡ x → nat_lt t.b t.c ≡ y → nat_lt t.a t.c ≡ z → IsRising n t (cond x (cond y (t.a, t.b, t.c) (cond z (t.a, t.c, t.b) (t.c, t.a, t.b))) (cond z (t.b, t.a, t.c) (cond y (t.b, t.c, t.a) (t.c, t.b, t.a))))
  rising_by true true z e f g = record { first = nat_lt-tells t.a t.b e; second = nat_lt-tells t.b t.c f; listed = c; has_x = has_a; has_y = has_b; has_z = has_c }
  rising_by true false true e f g = record { first = nat_lt-tells t.a t.c g; second = more t.b t.c f bc; listed = b; has_x = has_a; has_y = has_c; has_z = has_b }
  rising_by true false false e f g = record { first = more t.a t.c g (λ h. ca (sym h)); second = nat_lt-tells t.a t.b e; listed = b; has_x = has_c; has_y = has_a; has_z = has_b }
  rising_by false y true e f g = record { first = more t.a t.b e ab; second = nat_lt-tells t.a t.c g; listed = c; has_x = has_b; has_y = has_a; has_z = has_c }
  rising_by false true false e f g = record { first = nat_lt-tells t.b t.c f; second = more t.a t.c g (λ h. ca (sym h)); listed = a; has_x = has_b; has_y = has_c; has_z = has_a }
  rising_by false false false e f g = record { first = more t.b t.c f bc; second = more t.a t.b e ab; listed = a; has_x = has_c; has_y = has_b; has_z = has_a }

rising-is : (ps : List Point) (t : Triple) → IsListed ps t → IsUnit ps t → IsRising (length ps) t (rising t.a t.b t.c)
rising-is ps t l u = rising_by (length ps) t (a_not_b ps t u) (b_not_c ps t u) (c_not_a ps t u) l.a l.b l.c (nat_lt t.a t.b) (nat_lt t.b t.c) (nat_lt t.a t.c) refl refl refl

-- ---- no third triangle
no_third : (s r : Segment) (xs ys zs : List Segment) → ((q : Segment) → Among q xs → Among q ys → ⊥) → ((q : Segment) → Among q xs → Among q zs → ⊥) → ((q : Segment) → Among q ys → Among q zs → ⊥) → Among s xs ⊎ Among r xs → Among s ys ⊎ Among r ys → Among s zs ⊎ Among r zs → ⊥
no_third s r xs ys zs xy xz yz (inl p) (inl q) z = xy s p q
no_third s r xs ys zs xy xz yz (inr p) (inr q) z = xy r p q
no_third s r xs ys zs xy xz yz (inl p) (inr q) (inl z) = xz s p z
no_third s r xs ys zs xy xz yz (inl p) (inr q) (inr z) = yz r q z
no_third s r xs ys zs xy xz yz (inr p) (inl q) (inl z) = yz s q z
no_third s r xs ys zs xy xz yz (inr p) (inl q) (inr z) = xz r p z

one_side : (ps : List Point) (t : Triple) (a b o : ℕ) → IsBeside ps t a b o → Among (a, b) (sides t) ⊎ Among (b, a) (sides t)
one_side ps t a b o h = elim h.place [ inl p ↦ inl p.1 | inr p ↦ inr p.1 ]

-- ---- the tests by which an edge is found
same : (a b : ℕ) → (nat_eq a a && nat_eq b b) ≡ true
same a b = grind (arith, nat_tests)

both : (x y a b : ℕ) → (nat_eq x a && nat_eq y b) ≡ true → (x ≡ a) × (y ≡ b)
both x y a b e = let parts = and_parts (nat_eq x a) (nat_eq y b) e in (eqb-true x a parts.0, eqb-true y b parts.1)

edge-found : (a b c t d u : ℕ) (x : Bool) → names_compact a b (cond x (record { a = a; b = b; c = c; d = d; corner_c = t; corner_d = u }) (record { a = a; b = b; c = d; d = c; corner_c = u; corner_d = t })) ≡ true
edge-found a b c t d u true = same a b
edge-found a b c t d u false = same a b

module _ (w : Web) (coordinates : AllByRecursion HasCoordinates w.points) (tiled : IsTiled w.points w.triangles) where
  abbrev sides_at : ℕ → List Segment
  sides_at t = sides (turned_of w.points (triangle_at w.triangles t))

  on_side : (a b t : ℕ) → a ≢ b → t < length w.triangles → owns w a b t ≡ true → Among (a, b) (sides_at t) ⊎ Among (b, a) (sides_at t)
  on_side a b t apart l h = one_side w.points (turned_of w.points (triangle_at w.triangles t)) a b (opposite (triangle_at w.triangles t) a b) (owner_beside w coordinates tiled a b t apart l h)

  open_by : (a b : ℕ) → a < b → b < length w.points → (ts : List ℕ) → owners w a b ≡ ts → (t : ℕ) → Contains ts t → Rising (owns w a b) 0 (length w.triangles) ts → (position_or_len (names_compact a b) (compact w) < length (compact w) → ⊥) → position_or_len (names_outer a b) (outer w) < length (outer w)
  unfolding compact outer
  open_by a b l h [] e t (k, none, at) r closed = absurd (omega arith)
  open_by a b l h (u ∷ []) e t among r closed =
      placed (names_outer a b) (outer w) (record { a = a; b = b; corner = u })
      (contains-filter_map (λ (p : ℕ × ℕ). outer_by p.0 p.1 (owners w p.0 p.1)) (pairs (length w.points)) (a, b) (record { a = a; b = b; corner = u }) (contains-pairs (length w.points) a b l h) (ap (outer_by a b) e))
      (same a b)
  open_by a b l h (u ∷ v ∷ []) e t among r closed =
      let c = opposite (triangle_at w.triangles u) a b in let d = opposite (triangle_at w.triangles v) a b in
      absurd (closed (placed (names_compact a b) (compact w) (compact_edge a b c u d v)
      (contains-filter_map (λ (p : ℕ × ℕ). compact_by w p.0 p.1 (owners w p.0 p.1)) (pairs (length w.points)) (a, b) (compact_edge a b c u d v) (contains-pairs (length w.points) a b l h) (ap (compact_by w a b) e))
      (edge-found a b c u d v (nat_lt c d))))
  open_by a b l h (u ∷ v ∷ x ∷ ts) e t among r closed =
      absurd (no_third (a, b) (b, a) (sides_at u) (sides_at v) (sides_at x)
      (sides_apart w coordinates tiled u v (omega (arith, r.3.0)) r.3.1) (sides_apart w coordinates tiled u x (omega (arith, r.3.0, r.3.3.0)) r.3.3.1) (sides_apart w coordinates tiled v x (omega (arith, r.3.3.0)) r.3.3.1)
      (on_side a b u (λ z. omega arith) r.1 r.2) (on_side a b v (λ z. omega arith) r.3.1 r.3.2) (on_side a b x (λ z. omega arith) r.3.3.1 r.3.3.2))

  named_by : (a b : ℕ) (x : Bool) → nat_lt (position_or_len (names_compact a b) (compact w)) (length (compact w)) ≡ x → ((position_or_len (names_compact a b) (compact w) < length (compact w) → ⊥) → position_or_len (names_outer a b) (outer w) < length (outer w)) → NamesEdge w (cond x (Compact (position_or_len (names_compact a b) (compact w))) (Outer (position_or_len (names_outer a b) (outer w)))) a b
  named_by a b true e open_one =
      let l = nat_lt-tells (position_or_len (names_compact a b) (compact w)) (length (compact w)) e in
      record { listed = l; of_both = λ d. both _ _ a b (passes_at_first (names_compact a b) (compact w) d l) }
  named_by a b false e open_one =
      let l = open_one (not_less (position_or_len (names_compact a b) (compact w)) (length (compact w)) e) in
      record { listed = l; of_both = λ d. both _ _ a b (passes_at_first (names_outer a b) (outer w) d l) }

  named : (i a b : ℕ) → i < length w.triangles → a < b → b < length w.points → has (triangle_at w.triangles i) a ≡ true → has (triangle_at w.triangles i) b ≡ true → NamesEdge w (edge_ref w a b) a b
  unfolding edge_ref
  named i a b m l h has_a has_b =
      let owned : owns w a b i ≡ true = rw (has_a, has_b) refl in
      let among = contains-filter (owns w a b) i (below (length w.triangles)) (contains-below (length w.triangles) i m) owned in
      let r = rising_filter (owns w a b) 0 (length w.triangles) (length w.triangles) (omega arith) in
      named_by a b (nat_lt (position_or_len (names_compact a b) (compact w)) (length (compact w))) refl (open_by a b l h (owners w a b) refl i among r)

  corner-named : (i : ℕ) → i < length w.triangles → NamesEdges w (corner_of w (triangle_at w.triangles i))
  corner-named i m =
      let r = rising-is w.points (triangle_at w.triangles i) (all-at (IsListed w.points) w.triangles no_triple tiled.listed i m) (all-at (IsUnit w.points) w.triangles no_triple tiled.unit i m) in
      record {
        along_x = named i _ _ m r.second r.listed r.has_y r.has_z;
        along_y = named i _ _ m (omega (arith, r.first, r.second)) r.listed r.has_x r.has_z;
        along_z = named i _ _ m r.first (omega (arith, r.second, r.listed)) r.has_x r.has_y;
      }

each_corner : (w : Web) (ts : List Triple) → ((i : ℕ) → i < length ts → NamesEdges w (corner_of w (triangle_at ts i))) → AllByRecursion (λ t. NamesEdges w (corner_of w t)) ts
each_corner w [] here = tt
each_corner w (t ∷ ts) here = (here 0 (omega arith), each_corner w ts (λ i m. here (suc i) (omega arith)))

pub names_edges : TilingNamesEdges
names_edges w coordinates tiled = all-map (λ t. NamesEdges w (corner_of w t)) (NamesEdges w) (corner_of w) (λ t h. h) w.triangles (each_corner w w.triangles (corner-named w coordinates tiled))
