-- Why the best next point is the end of a hull segment, and why a way of such steps goes on along the hull.
use Rattle.std.specs.Prelude.{◌≡◌, ℕ, ◌<◌, pos, negsuc, unsigned_abs, ◌+ℤ◌, ◌≤ℤ◌, ◌<ℤ◌, ◌⊎◌, List, [], ◌∷◌, ◌++◌, length}
use Rattle.std.specs.List.{AllByRecursion}
use Rattle.std.proofs.Common.{ap, subst, sym, refl, arith, inl, inr}
use Rattle.std.proofs.lemmas.Int.{ints}
use Rattle.tv_hull.specs.declared.order.Heading.{Heading}
use Rattle.tv_hull.specs.declared.order.Heading.TheVariants.{Up, Down}
use Rattle.tv_lattice.specs.Limits.{HasCoordinates}
use Rattle.tv_spec_plane.specs.Plane.{Point, at, turn, Segment, IsHullSegment, IsBetween}
use Rattle.tv_laws_tiling.specs.Members.{Among}
use Rattle.tv_hull.specs.Ways.{IsAhead, IsKept, IsBest, IsStart, IsWay}
use Rattle.tv_spec_plane.proofs.Turns.{turn-first, turn-rotate}
use Rattle.tv_hull.proofs.Rises.{rise, toward, toward-back, toward-same}
use Rattle.tv_hull.proofs.Compare.{small-at, ahead-toward, not_ahead-toward, ahead_or_not, toward-level}
use Rattle.tv_hull.proofs.HalfPlane.{kept-turn, behind}
use Rattle.tv_hull.proofs.Between.{between-ahead}

-- p has been passed: each point not ahead of it is on the left of the ways to the points ahead, or on their line
abbrev pub IsPassed : List Point → Heading → ℕ → Type 0
IsPassed ps heading p = (b c : ℕ) → b < length ps → c < length ps → IsAhead heading (at ps p) (at ps b) → (IsAhead heading (at ps p) (at ps c) → ⊥) → pos 0 ≤ℤ turn (at ps p) (at ps b) (at ps c)

turn-last : (p q r : Point) → r ≡ p → pos 0 ≤ℤ turn p q r
turn-last p q r e = rw e (omega (arith, ints, turn-rotate p p q, turn-first p q))

-- neither point is ahead of the other
pub level : (heading : Heading) (p q : Point) → HasCoordinates p → HasCoordinates q → (IsAhead heading p q → ⊥) → (IsAhead heading q p → ⊥) → q ≡ p
level heading p q sp sq first second =
    sym (toward-level heading p q sp sq (omega (arith, ints, not_ahead-toward heading p q sp sq first, not_ahead-toward heading q p sq sp second, toward-back heading p q)))

pub start-passed : (ps : List Point) (heading : Heading) (p : ℕ) → AllByRecursion HasCoordinates ps → IsStart ps heading p → IsPassed ps heading p
start-passed ps heading p small start b c hb hc ahead behind = turn-last (at ps p) (at ps b) (at ps c) (level heading (at ps p) (at ps c) (small-at ps p small) (small-at ps c small) behind (start.first c hc))

-- the best next point b has all points on the left of the way to it
pub best-left : (ps : List Point) (heading : Heading) (p b : ℕ) → AllByRecursion HasCoordinates ps → IsPassed ps heading p → IsBest ps heading p (length ps) b → (k : ℕ) → k < length ps → pos 0 ≤ℤ turn (at ps p) (at ps b) (at ps k)
best-left ps heading p b small passed best k listed = elim (ahead_or_not heading (at ps p) (at ps k) (small-at ps p small) (small-at ps k small)) [
  | inl ahead ↦ kept-turn heading (at ps p) (at ps b) (at ps k) (best.kept k listed ahead)
  | inr not_ahead ↦ passed b k best.below listed best.ahead not_ahead
]

ahead_not : (heading : Heading) (p q : Point) → HasCoordinates p → HasCoordinates q → pos 0 <ℤ toward heading p q → (IsAhead heading p q → ⊥) → ⊥
ahead_not heading p q sp sq h behind = omega (arith, ints, not_ahead-toward heading p q sp sq behind)

kept-beyond : (heading : Heading) (p b c : Point) → HasCoordinates b → HasCoordinates c → IsKept heading p b c → turn p b c ≡ pos 0 → pos 0 <ℤ toward heading c b → ⊥
kept-beyond heading p b c sb sc (inl h) line nearer = omega (arith, ints)
kept-beyond heading p b c sb sc (inr h) line nearer = ahead_not heading c b sc sb nearer h.1

best-bare : (ps : List Point) (heading : Heading) (p b k : ℕ) → AllByRecursion HasCoordinates ps → IsBest ps heading p (length ps) b → k < length ps → IsBetween ps p b k → ⊥
best-bare ps heading p b k small best listed between =
    let sp = small-at ps p small in let sb = small-at ps b small in let sk = small-at ps k small in
    let inside = between-ahead ps heading p b k (ahead-toward heading (at ps p) (at ps b) sp sb best.ahead) between in
    elim (ahead_or_not heading (at ps p) (at ps k) sp sk) [
      | inl ahead ↦ kept-beyond heading (at ps p) (at ps b) (at ps k) sb sk (best.kept k listed ahead) between.on_line inside.1
      | inr not_ahead ↦ ahead_not heading (at ps p) (at ps k) sp sk inside.0 not_ahead
    ]

pub best-hull : (ps : List Point) (heading : Heading) (p b : ℕ) → AllByRecursion HasCoordinates ps → p < length ps → IsPassed ps heading p → IsBest ps heading p (length ps) b → IsHullSegment ps p b
best-hull ps heading p b small listed passed best = record {
  first_listed = listed;
  second_listed = best.below;
  apart = λ e. let h = ahead-toward heading (at ps p) (at ps b) (small-at ps p small) (small-at ps b small) best.ahead in let z : toward heading (at ps p) (at ps b) ≡ pos 0 = subst (λ (q : Point). toward heading (at ps p) q ≡ pos 0) e (toward-same heading (at ps p)) in omega (arith, ints);
  left = best-left ps heading p b small passed best;
  bare = λ k. best-bare ps heading p b k small best;
}

pub best-passed : (ps : List Point) (heading : Heading) (p b : ℕ) → AllByRecursion HasCoordinates ps → IsPassed ps heading p → IsBest ps heading p (length ps) b → IsPassed ps heading b
best-passed ps heading p b small passed best d c hd hc ahead not_ahead =
    let sb = small-at ps b small in let sd = small-at ps d small in
    behind heading (at ps p) (at ps b) (at ps d) (at ps c) (ahead-toward heading (at ps p) (at ps b) (small-at ps p small) sb best.ahead) (let h = ahead-toward heading (at ps b) (at ps d) sb sd ahead in omega (arith, ints)) (not_ahead-toward heading (at ps b) (at ps c) sb (small-at ps c small) not_ahead) (best-left ps heading p b small passed best d hd) (best-left ps heading p b small passed best c hc)

-- one segment more
pub way-push : (ps : List Point) (heading : Heading) (a : ℕ) (ss : List Segment) (b c : ℕ) → IsWay ps heading a ss b → IsAhead heading (at ps b) (at ps c) → IsWay ps heading a (ss ++ (b, c) ∷ []) c
way-push ps heading a [] b c same ahead = (sym same, ahead, refl)
way-push ps heading a (s ∷ ss) b c way ahead = (way.0, way.1, way-push ps heading s.1 ss b c way.2 ahead)

pub among-push : {A : Type 0} (x : A) (xs : List A) (y : A) → Among x (xs ++ y ∷ []) → Among x xs ⊎ (x ≡ y)
among-push x [] y (inl same) = inr same
among-push x [] y (inr none) = absurd none
among-push x (z ∷ xs) y (inl same) = inl (inl same)
among-push x (z ∷ xs) y (inr among) = elim (among-push x xs y among) [ inl earlier ↦ inl (inr earlier) | inr last ↦ inr last ]

-- where a way has come to
pub record IsWalked (ps : List Point) (heading : Heading) (a : ℕ) (ss : List Segment) (b : ℕ) : Type 0 where
  pub way : IsWay ps heading a ss b
  pub each : (p q : ℕ) → Among (p, q) ss → IsHullSegment ps p q
  pub listed : b < length ps
  pub passed : IsPassed ps heading b

pub walked-start : (ps : List Point) (heading : Heading) (a : ℕ) → AllByRecursion HasCoordinates ps → IsStart ps heading a → IsWalked ps heading a [] a
walked-start ps heading a small start = record { way = refl; each = λ p q none. absurd none; listed = start.listed; passed = start-passed ps heading a small start }

pub walked-push : (ps : List Point) (heading : Heading) (a : ℕ) (ss : List Segment) (b c : ℕ) → AllByRecursion HasCoordinates ps → IsWalked ps heading a ss b → IsBest ps heading b (length ps) c → IsWalked ps heading a (ss ++ (b, c) ∷ []) c
walked-push ps heading a ss b c small walked best = record {
  way = way-push ps heading a ss b c walked.way best.ahead;
  each = λ p q among. elim (among-push (p, q) ss (b, c) among) [
    | inl earlier ↦ walked.each p q earlier
    | inr last ↦ let first : p ≡ b = ap (λ (s : Segment). s.0) last in let second : q ≡ c = ap (λ (s : Segment). s.1) last in rw (first, second) (best-hull ps heading b c small walked.listed walked.passed best)
  ];
  listed = best.below;
  passed = best-passed ps heading b c small walked.passed best;
}

-- how much is left of the way to the corner of the plane that it leads to
unfoldable pub left_of : Heading → Point → ℕ
left_of Up p = unsigned_abs (rise p (record { x = pos 100; y = pos 100 }))
left_of Down p = unsigned_abs (rise (record { x = negsuc 99; y = negsuc 99 }) p)

rise-add : (p q r : Point) → rise p q +ℤ rise q r ≡ rise p r
unfolding rise
rise-add p q r = omega (arith, ints)

pub left-falls : (heading : Heading) (p q : Point) → HasCoordinates p → HasCoordinates q → IsAhead heading p q → left_of heading q < left_of heading p
unfolding left_of rise
left-falls Up p q sp sq (inl h) = omega (arith, ints)
left-falls Up p q sp sq (inr h) = omega (arith, ints, h.0, h.1)
left-falls Down p q sp sq (inl h) = omega (arith, ints)
left-falls Down p q sp sq (inr h) = omega (arith, ints, h.0, h.1)
