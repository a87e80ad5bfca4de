-- The legs of a corner are on the edges that have the corner as one of their two.
use Rattle.std.specs.Prelude.{◌≡◌, ◌⊎◌, Contains, ℕ, zero, suc, ◌+◌, ◌<◌, ◌≤◌, Bool, true, false, cond, ◌&&◌, ◌||◌, nat_eq, nat_lt, List, [], ◌∷◌, ◌++◌, length, take, slice_index_or, Option, Some, None}
use Rattle.std.specs.List.{filter_map, cons_option, AllByRecursion, position_or_len}
use Rattle.std.proofs.Common.{refl, sym, ap, ◌∙◌, arith, inl, inr}
use Rattle.std.proofs.lemmas.Bool.{and_parts}
use Rattle.std.proofs.lemmas.Bool.Decides.{nat_tests}
use Rattle.std.proofs.lemmas.List.{get_or-map, take_more, length-map}
use Rattle.std.proofs.lemmas.List.Sums.{passes_at_first}
use Rattle.tv_lemmas.proofs.Members.{all-at, contains-cases, contains-filter, contains-range}
use Rattle.tv_lemmas.proofs.Naturals.{nat_eq-tells, nat_lt-tells}
use Rattle.tv_spec_plane.specs.declared.records.CompactEdge.{CompactEdge}
use Rattle.tv_spec_plane.specs.declared.records.Corner.{Corner}
use Rattle.tv_spec_plane.specs.declared.records.EdgeRef.{EdgeRef}
use Rattle.tv_spec_plane.specs.declared.records.EdgeRef.TheVariants.{Compact, Outer}
use Rattle.tv_spec_plane.specs.declared.records.Triple.{Triple}
use Rattle.tv_spec_plane.specs.Tiling.{triangle_at}
use Rattle.tv_spec_plane.specs.Web.{Web, compact, outer, compact_by, compact_edge, owners, pairs, below, opposite, has, edge_ref, names_compact, names_outer, rising, corner_of, corners, no_edge}
use Rattle.tv_cells.specs.Extras.{empty_legs}
use Rattle.tv_spec_boxes.specs.Assignments.{Rows, Assignment, rows_at, legs_of, all_legs}
use Rattle.tv_laws_frontier.specs.Frontier.{corner_legs}
use Rattle.tv_laws_frontier.proofs.Agreeing.{Agrees, agrees-at}
use Rattle.tv_laws_frontier.proofs.Kept.{legs-long}

-- the corner is one of the edge's two
abbrev pub touches : ℕ → CompactEdge → Bool
touches s e = nat_eq e.corner_c s || nat_eq e.corner_d s

-- each triangle that has the edge's points is one of them
abbrev HasOwners : Web → CompactEdge → Type 0
HasOwners w e = (s : ℕ) → s < length w.triangles → (has (triangle_at w.triangles s) e.a && has (triangle_at w.triangles s) e.b) ≡ true → touches s e ≡ true

touch : (t u s : ℕ) → (t ≡ s) ⊎ (u ≡ s) → (nat_eq t s || nat_eq u s) ≡ true
touch t u s one = elim one [ inl e ↦ grind (arith, nat_tests) | inr e ↦ grind (arith, nat_tests) ]

touch-turned : (t u s : ℕ) → (t ≡ s) ⊎ (u ≡ s) → (nat_eq u s || nat_eq t s) ≡ true
touch-turned t u s one = elim one [ inl e ↦ grind (arith, nat_tests) | inr e ↦ grind (arith, nat_tests) ]

edge-owners : (w : Web) (a b c t d u : ℕ) → ((s : ℕ) → s < length w.triangles → (has (triangle_at w.triangles s) a && has (triangle_at w.triangles s) b) ≡ true → (t ≡ s) ⊎ (u ≡ s)) → HasOwners w (compact_edge a b c t d u)
edge-owners w a b c t d u owned =
    elim (nat_lt c d) as (λ x. HasOwners w (cond x (record { a = a; b = b; c = c; d = d; corner_c = t; corner_d = u }) (record { a = a; b = b; c = d; d = c; corner_c = u; corner_d = t }))) [
      | true ↦ (λ s l h. touch t u s (owned s l h))
      | false ↦ (λ s l h. touch-turned t u s (owned s l h))
    ]

none-in : (s : ℕ) → Contains [] s → ⊥
none-in s (k, h, e) = omega arith

two-members : (t u s : ℕ) → Contains (t ∷ u ∷ []) s → (t ≡ s) ⊎ (u ≡ s)
two-members t u s among = elim (contains-cases s t (u ∷ []) among) [
  | inl e ↦ inl e
  | inr later ↦ elim (contains-cases s u [] later) [ inl e ↦ inr e | inr none ↦ absurd (none-in s none) ]
]

abbrev OfOption : Web → Option CompactEdge → Type 0
OfOption w None = Unit {0}
OfOption w (Some e) = HasOwners w e

by-owners : (w : Web) (a b : ℕ) (ts : List ℕ) → owners w a b ≡ ts → OfOption w (compact_by w a b ts)
by-owners w a b [] e = tt
by-owners w a b (t ∷ []) e = tt
by-owners w a b (t ∷ u ∷ []) e = edge-owners w a b (opposite (triangle_at w.triangles t) a b) t (opposite (triangle_at w.triangles u) a b) u owned
  where
    owned : (s : ℕ) → s < length w.triangles → (has (triangle_at w.triangles s) a && has (triangle_at w.triangles s) b) ≡ true → (t ≡ s) ⊎ (u ≡ s)
    owned s l h =
        let among : Contains (owners w a b) s = contains-filter (λ i. has (triangle_at w.triangles i) a && has (triangle_at w.triangles i) b) s (below (length w.triangles)) (contains-range 0 (length w.triangles) s (omega arith) (omega arith)) h in
        let P : List ℕ → Type 0 = λ xs. Contains xs s in
        two-members t u s (rw e at among)
by-owners w a b (t ∷ u ∷ v ∷ ts) e = tt

with-one : (w : Web) (o : Option CompactEdge) (es : List CompactEdge) → OfOption w o → AllByRecursion (HasOwners w) es → AllByRecursion (HasOwners w) (cons_option o es)
with-one w None es here rest = rest
with-one w (Some e) es here rest = (here, rest)

gathered : (w : Web) (f : (ℕ × ℕ) → Option CompactEdge) (ps : List (ℕ × ℕ)) → ((p : ℕ × ℕ) → OfOption w (f p)) → AllByRecursion (HasOwners w) (filter_map f ps)
gathered w f [] here = tt
gathered w f (p ∷ ps) here = with-one w (f p) (filter_map f ps) (here p) (gathered w f ps here)

compact-owners : (w : Web) → AllByRecursion (HasOwners w) (compact w)
unfolding compact
compact-owners w = gathered w (λ p. compact_by w p.0 p.1 (owners w p.0 p.1)) (pairs (length w.points)) (λ p. by-owners w p.0 p.1 (owners w p.0 p.1) refl)

-- ---- the edges of a corner

abbrev RefTouches : Web → ℕ → EdgeRef → Type 0
RefTouches w s (Compact k) = (k < length (compact w)) × (touches s (slice_index_or (compact w) k no_edge) ≡ true)
RefTouches w s (Outer k) = Unit {0}

named : (e : CompactEdge) (a b : ℕ) → names_compact a b e ≡ true → (e.a ≡ a) × (e.b ≡ b)
named e a b h = let parts = and_parts (nat_eq e.a a) (nat_eq e.b b) h in (nat_eq-tells e.a a parts.0, nat_eq-tells e.b b parts.1)

owned-by : (w : Web) (s a b : ℕ) (e : CompactEdge) → s < length w.triangles → has (triangle_at w.triangles s) a ≡ true → has (triangle_at w.triangles s) b ≡ true → names_compact a b e ≡ true → HasOwners w e → touches s e ≡ true
owned-by w s a b e l p q names owned =
    let is = named e a b names in
    let first : has (triangle_at w.triangles s) e.a ≡ true = ap (has (triangle_at w.triangles s)) is.0 ∙ p in
    let second : has (triangle_at w.triangles s) e.b ≡ true = ap (has (triangle_at w.triangles s)) is.1 ∙ q in
    owned s l (rw (first, second) refl)

ref-by : (w : Web) (s a b k o : ℕ) (x : Bool) → k ≡ position_or_len (names_compact a b) (compact w) → nat_lt k (length (compact w)) ≡ x → s < length w.triangles → has (triangle_at w.triangles s) a ≡ true → has (triangle_at w.triangles s) b ≡ true → RefTouches w s (cond x (Compact k) (Outer o))
ref-by w s a b k o true is e l p q =
    let here : k < length (compact w) = nat_lt-tells k (length (compact w)) e in
    let passes : names_compact a b (slice_index_or (compact w) k no_edge) ≡ true = ap (λ i. names_compact a b (slice_index_or (compact w) i no_edge)) is ∙ passes_at_first (names_compact a b) (compact w) no_edge (omega (arith, is)) in
    (here, owned-by w s a b (slice_index_or (compact w) k no_edge) l p q passes (all-at (HasOwners w) (compact w) no_edge (compact-owners w) k here))
ref-by w s a b k o false is e l p q = tt

ref-touches : (w : Web) (s a b : ℕ) → s < length w.triangles → has (triangle_at w.triangles s) a ≡ true → has (triangle_at w.triangles s) b ≡ true → RefTouches w s (edge_ref w a b)
unfolding edge_ref
ref-touches w s a b l p q = ref-by w s a b (position_or_len (names_compact a b) (compact w)) (position_or_len (names_outer a b) (outer w)) (nat_lt (position_or_len (names_compact a b) (compact w)) (length (compact w))) refl refl l p q

abbrev AllOf : (ℕ → Type 0) → ℕ × ℕ × ℕ → Type 0
AllOf P p = P p.0 × P p.1 × P p.2

all-three : (P : ℕ → Type 0) (a b c : ℕ) → P a → P b → P c → (x y z : Bool) → AllOf P (cond x (cond y (a, b, c) (cond z (a, c, b) (c, a, b))) (cond z (b, a, c) (cond y (b, c, a) (c, b, a))))
all-three P a b c p q r true true true = (p, q, r)
all-three P a b c p q r true true false = (p, q, r)
all-three P a b c p q r true false true = (p, r, q)
all-three P a b c p q r true false false = (r, p, q)
all-three P a b c p q r false true true = (q, p, r)
all-three P a b c p q r false true false = (q, r, p)
all-three P a b c p q r false false true = (q, p, r)
all-three P a b c p q r false false false = (r, q, p)

rising-has : (t : Triple) → AllOf (λ a. has t a ≡ true) (rising t.a t.b t.c)
rising-has t = all-three (λ a. has t a ≡ true) t.a t.b t.c (grind (arith, nat_tests)) (grind (arith, nat_tests)) (grind (arith, nat_tests)) (nat_lt t.a t.b) (nat_lt t.b t.c) (nat_lt t.a t.c)

record CornerTouches (w : Web) (s : ℕ) (c : Corner) : Type 0 where
  along_x : RefTouches w s c.along_x
  along_y : RefTouches w s c.along_y
  along_z : RefTouches w s c.along_z

corner-touches : (w : Web) (s : ℕ) → s < length w.triangles → CornerTouches w s (corner_of w (triangle_at w.triangles s))
corner-touches w s l =
    let t = triangle_at w.triangles s in
    let p = rising t.a t.b t.c in
    let all = rising-has t in
    record { along_x = ref-touches w s p.1 p.2 l all.1 all.2; along_y = ref-touches w s p.0 p.2 l all.0 all.2; along_z = ref-touches w s p.0 p.1 l all.0 all.1 }

-- ---- legs of agreeing assignments

legs-at : (w : Web) (fixed : List Rows) (a : Assignment) (s : ℕ) → s < length w.triangles → corner_legs w fixed s a ≡ legs_of a fixed (corner_of w (triangle_at w.triangles s))
legs-at w fixed a s l =
    let long : length (corners w) ≡ length w.triangles = length-map w.triangles (corner_of w) in
    get_or-map (legs_of a fixed) (corners w) s (corner_of w (triangle_at w.triangles s)) empty_legs (omega arith)
    ∙ ap (legs_of a fixed) (get_or-map (corner_of w) w.triangles s (record { a = 0; b = 0; c = 0 }) (corner_of w (triangle_at w.triangles s)) l)

module _ (w : Web) (fixed : List Rows) (p : CompactEdge → Bool) (a b : Assignment) (agrees : Agrees p (compact w) a b) where
  rows-agree : (s : ℕ) → ((e : CompactEdge) → touches s e ≡ true → p e ≡ true) → (r : EdgeRef) → RefTouches w s r → rows_at a fixed r ≡ rows_at b fixed r
  rows-agree s also (Compact k) is = agrees-at p (compact w) a b agrees k is.0 (also (slice_index_or (compact w) k no_edge) is.1)
  rows-agree s also (Outer k) is = refl

  legs-same : (s : ℕ) → ((e : CompactEdge) → touches s e ≡ true → p e ≡ true) → (c : Corner) → CornerTouches w s c → legs_of a fixed c ≡ legs_of b fixed c
  legs-same s also c is = rw (rows-agree s also c.along_x is.along_x, rows-agree s also c.along_y is.along_y, rows-agree s also c.along_z is.along_z) refl

  pub corner-agrees : (s : ℕ) → s < length w.triangles → ((e : CompactEdge) → touches s e ≡ true → p e ≡ true) → corner_legs w fixed s a ≡ corner_legs w fixed s b
  corner-agrees s l also = legs-at w fixed a s l ∙ (legs-same s also (corner_of w (triangle_at w.triangles s)) (corner-touches w s l) ∙ sym (legs-at w fixed b s l))

  pub front-agrees : (t : ℕ) → t ≤ length w.triangles → ((s : ℕ) → s < t → (e : CompactEdge) → touches s e ≡ true → p e ≡ true) → take t (all_legs w a fixed) ≡ take t (all_legs w b fixed)
  front-agrees zero l also = refl
  front-agrees (suc t) l also =
      let up : t + 1 ≡ suc t = omega arith in
      let long = legs-long w fixed a in
      let other = legs-long w fixed b in
      ap (λ k. take k (all_legs w a fixed)) (sym up)
      ∙ (take_more (all_legs w a fixed) t empty_legs (omega arith)
      ∙ (ap (λ xs. xs ++ corner_legs w fixed t a ∷ []) (front-agrees t (omega arith) (λ s h. also s (omega arith)))
      ∙ (ap (λ x. take t (all_legs w b fixed) ++ x ∷ []) (corner-agrees t (omega arith) (also t (omega arith)))
      ∙ (sym (take_more (all_legs w b fixed) t empty_legs (omega arith))
      ∙ ap (λ k. take k (all_legs w b fixed)) up))))
