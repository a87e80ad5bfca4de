-- Directed edges that triangles have in common.
use Rattle.std.specs.Prelude.{◌≡◌, ◌≢◌, ℕ, zero, suc, ◌<◌, ◌≤◌, ◌⊎◌, Bool, true, pos, List, [], ◌∷◌, length}
use Rattle.std.proofs.Common.{ap, subst, sym, arith, inl, inr}
use Rattle.std.proofs.lemmas.Int.{ints}
use Rattle.tv_spec_plane.specs.declared.records.Triple.{Triple}
use Rattle.tv_spec_plane.specs.Plane.{Point, at, turn, Segment}
use Rattle.tv_spec_plane.specs.Tiling.{triangle_at}
use Rattle.tv_laws_tiling.specs.Members.{Among, Once}
use Rattle.tv_laws_tiling.proofs.Members.{among-append, once-append}
use Rattle.tv_laws_tiling.specs.Edges.{sides, edges, IsTurned, AreTurned}
use Rattle.tv_spec_plane.proofs.Turns.{turn-first, turn-rotate}
use Rattle.tv_triangulation.specs.Checks.{IsShared, IsTwice, NoPair}

-- where the first two sides of t are none of u's, and the third is one only where b is true
pub shared-last : (t u : Triple) (b : Bool) → (Among (t.a, t.b) (sides u) → ⊥) → (Among (t.b, t.c) (sides u) → ⊥) → (Among (t.c, t.a) (sides u) → b ≡ true) → ((s : Segment) × IsShared s t u) → b ≡ true
shared-last t u b ab bc ca (s, shared) = by_side shared.first
  where
    by_side : Among s (sides t) → b ≡ true
    by_side (inl e) = absurd (ab (subst (λ (r : Segment). Among r (sides u)) e shared.second))
    by_side (inr (inl e)) = absurd (bc (subst (λ (r : Segment). Among r (sides u)) e shared.second))
    by_side (inr (inr (inl e))) = ca (subst (λ (r : Segment). Among r (sides u)) e shared.second)
    by_side (inr (inr (inr none))) = absurd none

-- an edge is a side of some triangle
edge-side : (s : Segment) (ts : List Triple) → Among s (edges ts) → (i : ℕ) × (i < length ts) × Among s (sides (triangle_at ts i))
edge-side s [] none = absurd none
edge-side s (t ∷ ts) among = elim (among-append s (sides t) (edges ts) among) [
  | inl here ↦ (0, omega arith, here)
  | inr later ↦ let rest = edge-side s ts later in (suc rest.0, omega (arith, rest.1), rest.2)
]

-- the corners of a turned triangle are three
corners-apart : (ps : List Point) (a b c : ℕ) → turn (at ps a) (at ps b) (at ps c) ≡ pos 1 → (a ≢ b) × (b ≢ c) × (c ≢ a)
corners-apart ps a b c turned = (
  λ same. let flat = subst (λ (m : ℕ). turn (at ps a) (at ps m) (at ps c) ≡ pos 1) (sym same) turned in absurd (omega (arith, ints, turn-first (at ps a) (at ps c))),
  λ same. let flat = subst (λ (m : ℕ). turn (at ps a) (at ps b) (at ps m) ≡ pos 1) (sym same) turned in absurd (omega (arith, ints, turn-rotate (at ps a) (at ps b) (at ps b), turn-first (at ps b) (at ps a))),
  λ same. let flat = subst (λ (m : ℕ). turn (at ps a) (at ps b) (at ps m) ≡ pos 1) same turned in absurd (omega (arith, ints, turn-rotate (at ps a) (at ps a) (at ps b), turn-first (at ps a) (at ps b))),
)

sides-once : (ps : List Point) (t : Triple) → IsTurned ps t → Once (sides t)
sides-once ps t turned =
    let apart = corners-apart ps t.a t.b t.c turned.turned in
    (first apart, (second apart, ((λ none. none), tt)))
  where
    first : (t.a ≢ t.b) × (t.b ≢ t.c) × (t.c ≢ t.a) → Among {A = Segment} (t.a, t.b) ((t.b, t.c) ∷ (t.c, t.a) ∷ []) → ⊥
    first apart (inl e) = apart.0 (ap (λ (s : Segment). s.0) e)
    first apart (inr (inl e)) = apart.2 (sym (ap (λ (s : Segment). s.0) e))
    first apart (inr (inr none)) = none

    second : (t.a ≢ t.b) × (t.b ≢ t.c) × (t.c ≢ t.a) → Among {A = Segment} (t.b, t.c) ((t.c, t.a) ∷ []) → ⊥
    second apart (inl e) = apart.1 (ap (λ (s : Segment). s.0) e)
    second apart (inr none) = none

-- where no two turned triangles have an edge in common, no edge stands twice
pub edges-once : (ps : List Point) (ts : List Triple) → AreTurned ps ts → NoPair (IsTwice ts) → Once (edges ts)
edges-once ps [] turned none = tt
edges-once ps (t ∷ ts) turned none =
    once-append (sides t) (edges ts) (sides-once ps t turned.0)
    (edges-once ps ts turned.1 (λ i j twice. none (suc i) (suc j) (record { ordered = omega (arith, twice.ordered); listed = omega (arith, twice.listed); edge = twice.edge; shared = twice.shared })))
    (λ s here later. let place = edge-side s ts later in none zero (suc place.0) (record { ordered = omega arith; listed = omega (arith, place.1); edge = s; shared = record { first = here; second = place.2 } }))

pub least_of : (P : ℕ → Type 0) (n : ℕ) → ((k : ℕ) → k < n → P k → ⊥) → (k : ℕ) → P k → n ≤ k
least_of P n none k holds = elim (below_or_above k n) [ inl less ↦ absurd (none k less holds) | inr above ↦ above ]
  where
    below_or_above : (k n : ℕ) → (k < n) ⊎ (n ≤ k)
    below_or_above k n = grind arith
