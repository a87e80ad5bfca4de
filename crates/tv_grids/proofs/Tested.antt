-- Tests of points, triangles and a hull, and what they mean.
--
-- below_zero z       == z is nat_lt-tells than 0
-- is_before h p q    == q comes after p on a way up, by x, then y, or on a way down
-- is_level p q       == the points are one
-- is_outer ps s      == the segment is one of the hull
-- is_way ps h a ss b == the segments lead from a to b, each to a point that comes after
-- is_run ps h a ss b == such a way of hull segments, to a listed point after which none comes
-- is_turned ps t     == the triangle names listed points and has the turn 1
-- are_once ss        == no segment stands twice
-- are_matched hull es == the back of each edge is an edge, or it is in the hull; and each segment of the hull is an edge
use Rattle.std.specs.Prelude.{◌≡◌, ℕ, ◌<◌, ℤ, pos, ◌-ℤ◌, ◌+ℤ◌, ◌*ℤ◌, neg_ℤ, ◌<ℤ◌, ◌≤ℤ◌, ◌⊎◌, List, [], ◌∷◌, length, Bool, true, false, not, ◌&&◌, ◌||◌, nat_eq, nat_lt}
use Rattle.std.specs.List.{list_all, list_any, AllByRecursion}
use Rattle.std.specs.Ordering.{int_eq}
use Rattle.std.proofs.Common.{refl, sym, ap, subst, ◌∙◌, arith, inl, inr}
use Rattle.std.proofs.lemmas.Int.{ints}
use Rattle.std.proofs.lemmas.Bool.Decides.{nat_tests, Decides-int_eq}
use Rattle.std.proofs.lemmas.List.Sums.{AllPass-from_list_all}
use Rattle.std.proofs.lemmas.List.FromFn.{length-range_with_len, get_or-range_with_len}
use Rattle.tv_lemmas.proofs.Signs.{positive, positive-true, true-positive}
use Rattle.tv_spec_plane.specs.declared.records.Triple.{Triple}
use Rattle.tv_spec_plane.specs.Plane.{Point, Segment, at, turn, IsBetween, IsHullSegment}
use Rattle.tv_spec_plane.specs.Web.{below}
use Rattle.tv_hull.specs.declared.order.Heading.{Heading}
use Rattle.tv_hull.specs.declared.order.Heading.TheVariants.{Up, Down}
use Rattle.tv_hull.specs.Ways.{IsAhead, IsEnd, IsWay, IsRun}
use Rattle.tv_laws_tiling.specs.Members.{Among, Once}
use Rattle.tv_laws_tiling.specs.Hull.{IsLess}
use Rattle.tv_laws_tiling.specs.Edges.{edges, back, IsTurned, IsMatched}
use Rattle.tv_triangulation.specs.Segments.{same_segment}
use Rattle.tv_triangulation.proofs.SegmentTests.{list_any-among, among-list_any}
use Rattle.tv_lemmas.proofs.Naturals.{nat_lt-tells, nat_eq-tells}
use Rattle.std.proofs.lemmas.Bool.{and_parts, or_cases}

untrue : (a : Bool) → not a ≡ true → a ≡ true → ⊥
untrue true e h = cc
untrue false e h = cc

-- ---- all of a list
pub all-below : (f : ℕ → Bool) (n : ℕ) → list_all f (below n) ≡ true → (i : ℕ) → i < n → f i ≡ true
all-below f n e i h =
    let here = AllPass-from_list_all f (below n) e i 0 (omega (arith, length-range_with_len 0 n)) in
    subst (λ j. f j ≡ true) (get_or-range_with_len 0 n i 0 h ∙ omega arith) here

all-among : {A : Type 0} (f : A → Bool) (xs : List A) → list_all f xs ≡ true → (x : A) → Among x xs → f x ≡ true
all-among f [] e x among = absurd among
all-among f (y ∷ ys) e x (inl is) = subst (λ z. f z ≡ true) (sym is) (and_parts (f y) (list_all f ys) e).0
all-among f (y ∷ ys) e x (inr among) = all-among f ys (and_parts (f y) (list_all f ys) e).1 x among

pub all-listed : {A : Type 0} (f : A → Bool) (P : A → Type 0) → ((x : A) → f x ≡ true → P x) → (xs : List A) → list_all f xs ≡ true → AllByRecursion P xs
all-listed f P means [] e = tt
all-listed f P means (x ∷ xs) e = let parts = and_parts (f x) (list_all f xs) e in (means x parts.0, all-listed f P means xs parts.1)

-- ---- points
abbrev pub is_before : Heading → Point → Point → Bool
is_before Up p q = positive (q.x -ℤ p.x) || (int_eq p.x q.x && positive (q.y -ℤ p.y))
is_before Down p q = positive (p.x -ℤ q.x) || (int_eq q.x p.x && positive (p.y -ℤ q.y))

less-by : (p q : Point) → (positive (q.x -ℤ p.x) || (int_eq p.x q.x && positive (q.y -ℤ p.y))) ≡ true → IsLess p q
less-by p q e = elim (or_cases (positive (q.x -ℤ p.x)) (int_eq p.x q.x && positive (q.y -ℤ p.y)) e) [
  | inl first ↦ let h = true-positive (q.x -ℤ p.x) first in inl (omega (arith, ints))
  | inr second ↦ let parts = and_parts (int_eq p.x q.x) (positive (q.y -ℤ p.y)) second in let h = true-positive (q.y -ℤ p.y) parts.1 in inr ((Decides-int_eq p.x q.x).0 parts.0, omega (arith, ints))
]

before-ahead : (heading : Heading) (p q : Point) → is_before heading p q ≡ true → IsAhead heading p q
before-ahead Up p q e = less-by p q e
before-ahead Down p q e = less-by q p e

abbrev pub is_level : Point → Point → Bool
is_level p q = int_eq p.x q.x && int_eq p.y q.y

no_less : (p q : Point) → (IsLess q p ⊎ ((p.x ≡ q.x) × (p.y ≡ q.y))) → IsLess p q → ⊥
no_less p q (inl (inl first)) (inl second) = omega (arith, ints)
no_less p q (inl (inl first)) (inr second) = omega (arith, ints, second.0)
no_less p q (inl (inr first)) (inl second) = omega (arith, ints, first.0)
no_less p q (inl (inr first)) (inr second) = omega (arith, ints, first.1, second.1)
no_less p q (inr level) (inl second) = omega (arith, ints, level.0)
no_less p q (inr level) (inr second) = omega (arith, ints, level.1, second.1)

pub not-ahead : (heading : Heading) (p q : Point) → (is_before heading q p || is_level p q) ≡ true → IsAhead heading p q → ⊥
not-ahead Up p q e = elim (or_cases (is_before Up q p) (is_level p q) e) [
  | inl first ↦ no_less p q (inl (less-by q p first))
  | inr level ↦ let parts = and_parts (int_eq p.x q.x) (int_eq p.y q.y) level in no_less p q (inr ((Decides-int_eq p.x q.x).0 parts.0, (Decides-int_eq p.y q.y).0 parts.1))
]
not-ahead Down p q e = elim (or_cases (is_before Down q p) (is_level p q) e) [
  | inl first ↦ no_less q p (inl (less-by p q first))
  | inr level ↦ let parts = and_parts (int_eq p.x q.x) (int_eq p.y q.y) level in no_less q p (inr (sym ((Decides-int_eq p.x q.x).0 parts.0), sym ((Decides-int_eq p.y q.y).0 parts.1)))
]

-- ---- segments of the hull
abbrev product : Point → Point → Point → ℤ
product a b c = ((a.x -ℤ c.x) *ℤ (b.x -ℤ c.x)) +ℤ ((a.y -ℤ c.y) *ℤ (b.y -ℤ c.y))

-- c is on the left of a and b, or on their line and not between them
abbrev keeps : Point → Point → Point → Bool
keeps a b c = positive (turn a b c) || (int_eq (turn a b c) (pos 0) && not (positive (neg_ℤ (product a b c))))

abbrev pub is_outer : List Point → Segment → Bool
is_outer ps s = (nat_lt s.0 (length ps) && nat_lt s.1 (length ps)) && (not (is_level (at ps s.0) (at ps s.1)) && list_all (λ k. keeps (at ps s.0) (at ps s.1) (at ps k)) (below (length ps)))

keeps-left : (a b c : Point) → keeps a b c ≡ true → pos 0 ≤ℤ turn a b c
keeps-left a b c e = elim (or_cases (positive (turn a b c)) _ e) [
  | inl first ↦ let h = true-positive (turn a b c) first in omega (arith, ints)
  | inr second ↦ let h = (Decides-int_eq (turn a b c) (pos 0)).0 (and_parts _ _ second).0 in omega (arith, ints)
]

keeps-bare : (ps : List Point) (a b k : ℕ) → keeps (at ps a) (at ps b) (at ps k) ≡ true → IsBetween ps a b k → ⊥
keeps-bare ps a b k e between = elim (or_cases (positive (turn (at ps a) (at ps b) (at ps k))) _ e) [
  | inl first ↦ let h = true-positive (turn (at ps a) (at ps b) (at ps k)) first in omega (arith, ints, between.on_line)
  | inr second ↦ untrue _ (and_parts _ _ second).1 (below-positive (product (at ps a) (at ps b) (at ps k)) between.inside)
]
  where
    below-positive : (z : ℤ) → z <ℤ pos 0 → positive (neg_ℤ z) ≡ true
    below-positive z h = positive-true (neg_ℤ z) (omega (arith, ints))

level-same : (p q : Point) → p ≡ q → is_level p q ≡ true
level-same p q e = let x : int_eq p.x q.x ≡ true = (Decides-int_eq p.x q.x).1 (ap (λ (r : Point). r.x) e) in let y : int_eq p.y q.y ≡ true = (Decides-int_eq p.y q.y).1 (ap (λ (r : Point). r.y) e) in rw (x, y) refl

outer-segment : (ps : List Point) (s : Segment) → is_outer ps s ≡ true → IsHullSegment ps s.0 s.1
outer-segment ps s e =
    let parts = and_parts (nat_lt s.0 (length ps) && nat_lt s.1 (length ps)) _ e in
    let listed = and_parts (nat_lt s.0 (length ps)) (nat_lt s.1 (length ps)) parts.0 in
    let rest = and_parts (not (is_level (at ps s.0) (at ps s.1))) _ parts.1 in
    let each = all-below (λ k. keeps (at ps s.0) (at ps s.1) (at ps k)) (length ps) rest.1 in
    record {
      first_listed = nat_lt-tells s.0 (length ps) listed.0;
      second_listed = nat_lt-tells s.1 (length ps) listed.1;
      apart = λ is. untrue _ rest.0 (level-same (at ps s.0) (at ps s.1) is);
      left = λ k h. keeps-left (at ps s.0) (at ps s.1) (at ps k) (each k h);
      bare = λ k h. keeps-bare ps s.0 s.1 k (each k h);
    }

abbrev pub is_way : List Point → Heading → ℕ → List Segment → ℕ → Bool
is_way ps heading a [] b = nat_eq a b
is_way ps heading a (s ∷ ss) b = nat_eq s.0 a && (is_before heading (at ps s.0) (at ps s.1) && is_way ps heading s.1 ss b)

way-tested : (ps : List Point) (heading : Heading) (a : ℕ) (ss : List Segment) (b : ℕ) → is_way ps heading a ss b ≡ true → IsWay ps heading a ss b
way-tested ps heading a [] b e = nat_eq-tells a b e
way-tested ps heading a (s ∷ ss) b e =
    let parts = and_parts (nat_eq s.0 a) _ e in let rest = and_parts (is_before heading (at ps s.0) (at ps s.1)) _ parts.1 in
    (nat_eq-tells s.0 a parts.0, before-ahead heading (at ps s.0) (at ps s.1) rest.0, way-tested ps heading s.1 ss b rest.1)

abbrev pub is_end : List Point → Heading → ℕ → Bool
is_end ps heading b = list_all (λ k. is_before heading (at ps k) (at ps b) || is_level (at ps b) (at ps k)) (below (length ps))

pub end-tested : (ps : List Point) (heading : Heading) (b : ℕ) → is_end ps heading b ≡ true → IsEnd ps heading b
end-tested ps heading b e k h = not-ahead heading (at ps b) (at ps k) (all-below (λ k. is_before heading (at ps k) (at ps b) || is_level (at ps b) (at ps k)) (length ps) e k h)

abbrev pub is_run : List Point → Heading → ℕ → List Segment → ℕ → Bool
is_run ps heading a ss b = (is_way ps heading a ss b && list_all (is_outer ps) ss) && (nat_lt b (length ps) && is_end ps heading b)

pub run-tested : (ps : List Point) (heading : Heading) (a : ℕ) (ss : List Segment) (b : ℕ) → is_run ps heading a ss b ≡ true → IsRun ps heading a ss b
run-tested ps heading a ss b e =
    let parts = and_parts (is_way ps heading a ss b && list_all (is_outer ps) ss) _ e in
    let way = and_parts (is_way ps heading a ss b) (list_all (is_outer ps) ss) parts.0 in
    let end = and_parts (nat_lt b (length ps)) (is_end ps heading b) parts.1 in
    record {
      way = way-tested ps heading a ss b way.0;
      each = λ p q among. outer-segment ps (p, q) (all-among (is_outer ps) ss way.1 (p, q) among);
      listed = nat_lt-tells b (length ps) end.0;
      last = end-tested ps heading b end.1;
    }

-- ---- triangles
abbrev pub is_turned : List Point → Triple → Bool
is_turned ps t = (nat_lt t.a (length ps) && (nat_lt t.b (length ps) && nat_lt t.c (length ps))) && int_eq (turn (at ps t.a) (at ps t.b) (at ps t.c)) (pos 1)

pub turned-tested : (ps : List Point) (t : Triple) → is_turned ps t ≡ true → IsTurned ps t
turned-tested ps t e =
    let parts = and_parts (nat_lt t.a (length ps) && (nat_lt t.b (length ps) && nat_lt t.c (length ps))) _ e in
    let first = and_parts (nat_lt t.a (length ps)) _ parts.0 in
    let rest = and_parts (nat_lt t.b (length ps)) (nat_lt t.c (length ps)) first.1 in
    record {
      listed = record { a = nat_lt-tells t.a (length ps) first.0; b = nat_lt-tells t.b (length ps) rest.0; c = nat_lt-tells t.c (length ps) rest.1 };
      turned = (Decides-int_eq (turn (at ps t.a) (at ps t.b) (at ps t.c)) (pos 1)).0 parts.1;
    }

abbrev pub are_once : List Segment → Bool
are_once [] = true
are_once (s ∷ ss) = not (list_any (same_segment s) ss) && are_once ss

once-tested : (ss : List Segment) → are_once ss ≡ true → Once ss
once-tested [] e = tt
once-tested (s ∷ ss) e =
    let parts = and_parts (not (list_any (same_segment s) ss)) (are_once ss) e in
    (λ among. untrue _ parts.0 (among-list_any s ss among), once-tested ss parts.1)

abbrev pub are_matched : List Segment → List Segment → Bool
are_matched hull es = list_all (λ s. list_any (same_segment (back s)) es || list_any (same_segment s) hull) es && list_all (λ s. list_any (same_segment s) es) hull

pub matched-tested : (hull : List Segment) (ts : List Triple) → are_once (edges ts) ≡ true → are_matched hull (edges ts) ≡ true → IsMatched hull ts
matched-tested hull ts once e =
    let parts = and_parts (list_all (λ s. list_any (same_segment (back s)) (edges ts) || list_any (same_segment s) hull) (edges ts)) _ e in
    record {
      once = once-tested (edges ts) once;
      matched = λ s among. elim (or_cases (list_any (same_segment (back s)) (edges ts)) (list_any (same_segment s) hull) (all-among (λ s. list_any (same_segment (back s)) (edges ts) || list_any (same_segment s) hull) (edges ts) parts.0 s among)) [
        | inl inner ↦ inl (list_any-among (back s) (edges ts) inner)
        | inr outer ↦ inr (list_any-among s hull outer)
      ];
      covered = λ s among. list_any-among s (edges ts) (all-among (λ s. list_any (same_segment s) (edges ts)) hull parts.1 s among);
    }
