-- Runs of segments, each with a property, from one point to another.
use Rattle.std.specs.Prelude.{◌≡◌, ℕ, ℤ, ◌-ℤ◌, ◌<ℤ◌, List, [], ◌∷◌}
use Rattle.std.proofs.Common.{refl, ap, sym, subst, arith, inl, inr}
use Rattle.std.proofs.lemmas.Int.{ints}
use Rattle.tv_spec_plane.specs.Plane.{Point, at, Segment}
use Rattle.tv_laws_tiling.specs.Members.{Among}
use Rattle.tv_laws_tiling.specs.Hull.{IsClimb, IsDescent}
use Rattle.tv_lemmas.specs.Sums.{total}
use Rattle.tv_laws_tiling.specs.Points.{AreSmall}
use Rattle.tv_laws_tiling.proofs.Heights.{at-small, height, less-height}

abbrev pub IsRun : (Segment → Type 0) → ℕ → List Segment → ℕ → Type 0
IsRun P a [] b = a ≡ b
IsRun P a (s ∷ ss) b = (s.0 ≡ a) × P s × IsRun P s.1 ss b

abbrev pub Climbs : List Point → Segment → Type 0
Climbs ps s = height (at ps s.0) <ℤ height (at ps s.1)

abbrev pub Descends : List Point → Segment → Type 0
Descends ps s = height (at ps s.1) <ℤ height (at ps s.0)

pub climb-run : (ps : List Point) → AreSmall ps → (a : ℕ) (ss : List Segment) (b : ℕ) → IsClimb ps a ss b → IsRun (Climbs ps) a ss b
climb-run ps small a [] b h = h
climb-run ps small a (s ∷ ss) b h = (h.0, less-height (at ps s.0) (at ps s.1) (at-small ps small s.0) (at-small ps small s.1) h.1, climb-run ps small s.1 ss b h.2)

pub descent-run : (ps : List Point) → AreSmall ps → (a : ℕ) (ss : List Segment) (b : ℕ) → IsDescent ps a ss b → IsRun (Descends ps) a ss b
descent-run ps small a [] b h = h
descent-run ps small a (s ∷ ss) b h = (h.0, less-height (at ps s.1) (at ps s.0) (at-small ps small s.1) (at-small ps small s.0) h.1, descent-run ps small s.1 ss b h.2)

pub run-first : (P : Segment → Type 0) (a : ℕ) (ss : List Segment) (b : ℕ) → IsRun P a ss b → (a ≡ b → ⊥) → (j : ℕ) × Among (a, j) ss × P (a, j)
run-first P a [] b h apart = absurd (apart h)
run-first P a (s ∷ ss) b h apart =
    let e : s ≡ (a, s.1) = ap (λ (i : ℕ). (i, s.1)) h.0 in
    (s.1, inl (sym e), subst P e h.1)

run-last_at : (P : Segment → Type 0) (s : Segment) (ss : List Segment) (b : ℕ) → P s → IsRun P s.1 ss b → (j : ℕ) × Among (j, b) (s ∷ ss) × P (j, b)
run-last_at P s [] b has h =
    let e : s ≡ (s.0, b) = ap (λ (i : ℕ). (s.0, i)) h in
    (s.0, inl (sym e), subst P e has)
run-last_at P s (t ∷ ss) b has h =
    let later = run-last_at P t ss b h.1 h.2 in
    (later.0, inr later.1, later.2)

pub run-last : (P : Segment → Type 0) (a : ℕ) (ss : List Segment) (b : ℕ) → IsRun P a ss b → (a ≡ b → ⊥) → (j : ℕ) × Among (j, b) ss × P (j, b)
run-last P a [] b h apart = absurd (apart h)
run-last P a (s ∷ ss) b h apart = run-last_at P s ss b h.1 h.2

-- differences telescope
pub run-telescopes : (P : Segment → Type 0) (f : Segment → ℤ) (g : ℕ → ℤ) (a : ℕ) (ss : List Segment) (b : ℕ) → ((s : Segment) → Among s ss → P s → f s ≡ g s.1 -ℤ g s.0) → IsRun P a ss b → total f ss ≡ g b -ℤ g a
run-telescopes P f g a [] b steps h = let e : g a ≡ g b = ap g h in omega (arith, ints)
run-telescopes P f g a (s ∷ ss) b steps h =
    let e : g s.0 ≡ g a = ap g h.0 in
    let here = steps s (inl refl) h.1 in
    let rest = run-telescopes P f g s.1 ss b (λ t m. steps t (inr m)) h.2 in
    omega (arith, ints)
