-- The laws, from the two triangles of each compact edge.
use Rattle.std.proofs.Common.{◌≡◌, ◌≢◌, ℕ, zero, suc, ◌<◌, neg_ℤ, List, [], ◌∷◌, length, Bool, true, false, cond, ◌&&◌, inl, inr, ap, ◌∙◌, arith, refl}
use Rattle.std.specs.Prelude.{nat_lt}
use Rattle.std.specs.List.{AllByRecursion}
use Rattle.std.proofs.lemmas.Bool.{and_parts}
use Rattle.tv_spec_plane.specs.declared.records.Triple.{Triple}
use Rattle.tv_spec_plane.specs.Plane.{Point, at}
use Rattle.tv_spec_plane.specs.Tiling.{triangle_at}
use Rattle.tv_spec_plane.specs.Web.{Web, has, opposite, owners, compact, compact_by}
use Rattle.tv_spec_plane.proofs.Turns.{turn-back}
use Rattle.tv_laws_tiling.specs.Members.{Among}
use Rattle.tv_laws_tiling.specs.Edges.{sides, IsListed}
use Rattle.tv_lattice.specs.Limits.{HasCoordinates}
use Rattle.tv_triangulation.specs.Turned.{turned_of, turned, IsUnit}
use Rattle.tv_lemmas.proofs.Members.{all-at}
use Rattle.tv_triangulation.proofs.Tilings.{no_triple}
use Rattle.tv_triangulation.specs.Triangulated.{IsTiled}
use Rattle.tv_laws_edges.specs.Rule.{HasSides, HasRule}
use Rattle.tv_laws_tiled_edges.specs.Laws.{TilingHasEdgeRule}
use Rattle.tv_laws_tiled_edges.proofs.Corners.{IsBeside, beside_edge}
use Rattle.tv_laws_tiled_edges.proofs.Shared.{no_shared_side}
use Rattle.tv_laws_tiled_edges.proofs.Owners.{Rising, rising_filter, Gives, each_pair}

-- triangles with no side in common lie on the two sides of an edge
two_sides : (ps : List Point) (t u : Triple) (a b c d : ℕ) → ((s : ℕ × ℕ) → Among s (sides t) → Among s (sides u) → ⊥) → IsBeside ps t a b c → IsBeside ps u a b d → HasSides (at ps a) (at ps b) (at ps c) (at ps d)
two_sides ps t u a b c d apart h k = elim h.place [
  | inl p ↦ elim k.place [
    | inl q ↦ absurd (apart (a, b) p.1 q.1)
    | inr q ↦ inl (p.0, turn-back (at ps a) (at ps b) (at ps d) ∙ ap neg_ℤ q.0)
  ]
  | inr p ↦ elim k.place [
    | inl q ↦ inr (p.0, turn-back (at ps a) (at ps b) (at ps d) ∙ ap neg_ℤ q.0)
    | inr q ↦ absurd (apart (b, a) p.1 q.1)
  ]
]

edge_by : (w : Web) (t u : Triple) (a b c d i j : ℕ) (x : Bool) → ((s : ℕ × ℕ) → Among s (sides t) → Among s (sides u) → ⊥) → IsBeside w.points t a b c → IsBeside w.points u a b d → HasRule w (cond x (record { a = a; b = b; c = c; d = d; corner_c = i; corner_d = j }) (record { a = a; b = b; c = d; d = c; corner_c = j; corner_d = i }))
edge_by w t u a b c d i j true apart h k = record { a = h.a_listed; b = h.b_listed; c = h.o_listed; d = k.o_listed; sides = two_sides w.points t u a b c d apart h k }
edge_by w t u a b c d i j false apart h k = record { a = h.a_listed; b = h.b_listed; c = k.o_listed; d = h.o_listed; sides = two_sides w.points u t a b d c (λ s p q. apart s q p) k h }

turned-at : (ps : List Point) (ts : List Triple) (i : ℕ) → i < length ts → triangle_at (turned ps ts) i ≡ turned_of ps (triangle_at ts i)
turned-at ps [] i l = absurd (omega arith)
turned-at ps (t ∷ ts) zero l = refl
turned-at ps (t ∷ ts) (suc i) l = turned-at ps ts i (omega arith)

abbrev pub owns : Web → ℕ → ℕ → ℕ → Bool
owns w a b t = has (triangle_at w.triangles t) a && has (triangle_at w.triangles t) b

module _ (w : Web) (coordinates : AllByRecursion HasCoordinates w.points) (tiled : IsTiled w.points w.triangles) where
  pub owner_beside : (a b t : ℕ) → a ≢ b → t < length w.triangles → owns w a b t ≡ true → IsBeside w.points (turned_of w.points (triangle_at w.triangles t)) a b (opposite (triangle_at w.triangles t) a b)
  owner_beside a b t apart l h = let both = and_parts (has (triangle_at w.triangles t) a) (has (triangle_at w.triangles t) b) h in
      beside_edge w.points (triangle_at w.triangles t) a b (all-at (IsListed w.points) w.triangles no_triple tiled.listed t l) (all-at (IsUnit w.points) w.triangles no_triple tiled.unit t l) apart both.0 both.1

  pub sides_apart : (t u : ℕ) → t < u → u < length w.triangles → (s : ℕ × ℕ) → Among s (sides (turned_of w.points (triangle_at w.triangles t))) → Among s (sides (turned_of w.points (triangle_at w.triangles u))) → ⊥
  sides_apart t u l m s p q =
      let first = rw (turned-at w.points w.triangles t (omega arith)) at (no_shared_side w.points w.triangles coordinates tiled s t u l m) in
      let second = rw (turned-at w.points w.triangles u m) at first in
      second p q

  rule_by : (a b : ℕ) → a ≢ b → (ts : List ℕ) → Rising (owns w a b) 0 (length w.triangles) ts → Gives (HasRule w) (compact_by w a b ts)
  rule_by a b apart [] h = tt
  rule_by a b apart (t ∷ []) h = tt
  rule_by a b apart (t ∷ u ∷ []) h =
      let c = opposite (triangle_at w.triangles t) a b in let d = opposite (triangle_at w.triangles u) a b in
      edge_by w (turned_of w.points (triangle_at w.triangles t)) (turned_of w.points (triangle_at w.triangles u)) a b c d t u (nat_lt c d) (sides_apart t u (omega (arith, h.3.0)) h.3.1) (owner_beside a b t apart h.1 h.2) (owner_beside a b u apart h.3.1 h.3.2)
  rule_by a b apart (t ∷ u ∷ v ∷ ts) h = tt

  rules : AllByRecursion (HasRule w) (compact w)
  unfolding compact
  rules = each_pair (HasRule w) (λ (p : ℕ × ℕ). compact_by w p.0 p.1 (owners w p.0 p.1)) (λ a b apart. rule_by a b apart (owners w a b) (rising_filter (owns w a b) 0 (length w.triangles) (length w.triangles) (omega arith))) (length w.points)

pub has_edge_rule : TilingHasEdgeRule
has_edge_rule w coordinates tiled = rules w coordinates tiled
