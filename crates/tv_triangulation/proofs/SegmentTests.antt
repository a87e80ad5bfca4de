-- Tests of segments, as facts.
use Rattle.std.specs.Prelude.{◌≡◌, ℕ, ◌+◌, ◌<◌, ◌≤◌, ◌⊎◌, Bool, true, false, ◌||◌, List, [], ◌∷◌, ◌++◌, length, take}
use Rattle.std.specs.List.{list_any}
use Rattle.std.proofs.Common.{ap, sym, ◌∙◌, refl, arith, inl, inr, get_or}
use Rattle.std.proofs.lemmas.Bool.Decides.{nat_tests}
use Rattle.std.proofs.lemmas.List.{take_more, append-nil}
use Rattle.std.proofs.lemmas.Grind.{flat_map-append}
use Rattle.tv_spec_plane.specs.declared.records.Triple.{Triple}
use Rattle.tv_spec_plane.specs.Plane.{Segment}
use Rattle.tv_laws_tiling.specs.Members.{Among}
use Rattle.tv_laws_tiling.specs.Edges.{sides, edges}
use Rattle.tv_triangulation.specs.Segments.{same_segment, precedes}
use Rattle.std.proofs.lemmas.Bool.{or_cases}

pub same_pair : (a b c d : ℕ) → a ≡ c → b ≡ d → ◌≡◌ {A = Segment} (a, b) (c, d)
same_pair a b c d e f = cc

same_segment-true : (s r : Segment) → same_segment s r ≡ true → s ≡ r
same_segment-true s r e =
    let first : s.0 ≡ r.0 = grind (arith, nat_tests) in
    let second : s.1 ≡ r.1 = grind (arith, nat_tests) in
    same_pair s.0 s.1 r.0 r.1 first second

same_segment-same : (s : Segment) → same_segment s s ≡ true
same_segment-same s = grind (arith, nat_tests)

or_left : (a b : Bool) → a ≡ true → (a || b) ≡ true
or_left true b e = refl
or_left false b e = cc

or_right : (a b : Bool) → b ≡ true → (a || b) ≡ true
or_right true b e = refl
or_right false b e = e

pub list_any-among : (s : Segment) (xs : List Segment) → list_any (same_segment s) xs ≡ true → Among s xs
list_any-among s [] e = cc
list_any-among s (x ∷ xs) e = elim (or_cases (same_segment s x) (list_any (same_segment s) xs) e) [
  | inl here ↦ inl (same_segment-true s x here)
  | inr later ↦ inr (list_any-among s xs later)
]

pub among-list_any : (s : Segment) (xs : List Segment) → Among s xs → list_any (same_segment s) xs ≡ true
among-list_any s [] none = absurd none
among-list_any s (x ∷ xs) (inl same) = or_left (same_segment s x) _ (ap (same_segment s) (sym same) ∙ same_segment-same s)
among-list_any s (x ∷ xs) (inr among) = or_right (same_segment s x) _ (among-list_any s xs among)

-- the edges of one triangle more
pub edges-more : (ts : List Triple) (i : ℕ) (d : Triple) → i < length ts → edges (take (i + 1) ts) ≡ edges (take i ts) ++ sides (get_or ts i d)
edges-more ts i d h = ap edges (take_more ts i d h) ∙ (flat_map-append sides (take i ts) (get_or ts i d ∷ []) ∙ ap (λ s. edges (take i ts) ++ s) (append-nil (sides (get_or ts i d))))

-- s comes before r or is r, by its first, then its second point
abbrev pub IsBefore : Segment → Segment → Type 0
IsBefore s r = (s.0 ≤ r.0) × (s.0 ≡ r.0 → s.1 ≤ r.1)

pub precedes-true : (s r : Segment) → precedes s r ≡ true → IsBefore s r
precedes-true s r e = (grind (arith, nat_tests), λ same. grind (arith, nat_tests))

pub precedes-false : (s r : Segment) → precedes s r ≡ false → IsBefore r s
precedes-false s r e = (grind (arith, nat_tests), λ same. grind (arith, nat_tests))

pub before-same : (s : Segment) → IsBefore s s
before-same s = (omega arith, λ same. omega arith)

pub before-through : (s r t : Segment) → IsBefore s r → IsBefore r t → IsBefore s t
before-through s r t h k = (omega (arith, h.0, k.0), λ same. let first : s.0 ≡ r.0 = omega (arith, h.0, k.0, same) in let second : r.0 ≡ t.0 = omega (arith, h.0, k.0, same) in omega (arith, h.1 first, k.1 second))
