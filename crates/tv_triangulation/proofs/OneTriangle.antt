-- One triangle whose edges match the hull has no listed point beside its own three.
use Rattle.std.proofs.Common.{◌≡◌, ◌≢◌, ℕ, zero, suc, ◌<◌, ◌≤◌, ℤ, pos, negsuc, ◌+ℤ◌, ◌≤ℤ◌, List, [], ◌∷◌, length, ◌||◌, nat_eq, IsTrue, ◌⊎◌, inl, inr, refl, ap, sym, ◌∙◌, arith}
use Rattle.std.proofs.lemmas.Int.{ints}
use Rattle.std.proofs.lemmas.Bool.Decides.{nat_tests}
use Rattle.tv_spec_plane.specs.declared.records.Triple.{Triple}
use Rattle.tv_spec_plane.specs.Plane.{Point, at, turn, Segment}
use Rattle.tv_spec_plane.specs.Web.{has}
use Rattle.tv_laws_tiling.specs.Members.{Among}
use Rattle.tv_laws_tiling.specs.Hull.{IsHull}
use Rattle.tv_laws_tiling.specs.Edges.{sides, IsTurned, IsMatched}
use Rattle.tv_laws_tiling.specs.Points.{AreDistinct}
use Rattle.tv_spec_plane.proofs.Turns.{turn-rotate}
use Rattle.tv_laws_tiling.proofs.Turns.{turn-sum, turn-apart}
use Rattle.tv_laws_tiling_converse.proofs.Corners.{corner-same}
use Rattle.tv_spec_plane.specs.Web.{NamesAll}

-- of three numbers at least 0 with the sum 1 two are 0
two_noughts : (x y z : ℤ) → pos 0 ≤ℤ x → pos 0 ≤ℤ y → pos 0 ≤ℤ z → x +ℤ (y +ℤ z) ≡ pos 1 → ((y ≡ pos 0) × (z ≡ pos 0)) ⊎ (((x ≡ pos 0) × (z ≡ pos 0)) ⊎ ((x ≡ pos 0) × (y ≡ pos 0)))
two_noughts (negsuc l) y z p q r e = absurd (omega (arith, ints))
two_noughts (pos (suc l)) y z p q r e = inl (omega (arith, ints), omega (arith, ints))
two_noughts (pos zero) (negsuc m) z p q r e = absurd (omega (arith, ints))
two_noughts (pos zero) (pos (suc m)) z p q r e = inr (inl (refl, omega (arith, ints)))
two_noughts (pos zero) (pos zero) z p q r e = inr (inr (refl, refl))

IsOneOf : ℕ → Triple → Type 0
IsOneOf k t = (t.a ≡ k) ⊎ ((t.b ≡ k) ⊎ (t.c ≡ k))

pair_first : {a b c d : ℕ} → (let p : ℕ × ℕ = (a, b) in p) ≡ (c, d) → a ≡ c
pair_first e = ap (λ (p : ℕ × ℕ). p.0) e

pair_second : {a b c d : ℕ} → (let p : ℕ × ℕ = (a, b) in p) ≡ (c, d) → b ≡ d
pair_second e = ap (λ (p : ℕ × ℕ). p.1) e

pigeon : (a b c : ℕ) → (a ≡ 0) ⊎ ((b ≡ 0) ⊎ (c ≡ 0)) → (a ≡ 1) ⊎ ((b ≡ 1) ⊎ (c ≡ 1)) → (a ≡ 2) ⊎ ((b ≡ 2) ⊎ (c ≡ 2)) → (a ≡ 3) ⊎ ((b ≡ 3) ⊎ (c ≡ 3)) → ⊥
pigeon a b c p q r s = grind arith

three_below : (a b c n : ℕ) → a < n → b < n → c < n → a ≢ b → b ≢ c → c ≢ a → 3 ≤ n
three_below a b c n p q r ab bc ca = omega arith

-- no side of three distinct points is another's back
numbers : (a b c i j : ℕ) → a ≢ b → b ≢ c → c ≢ a → Among {A = Segment} (j, i) ((a, b) ∷ (b, c) ∷ (c, a) ∷ []) → Among {A = Segment} (i, j) ((a, b) ∷ (b, c) ∷ (c, a) ∷ []) → ⊥
numbers a b c i j ab bc ca (inl p) (inl q) = let p0 = pair_first p in let p1 = pair_second p in let q0 = pair_first q in let q1 = pair_second q in absurd (omega arith)
numbers a b c i j ab bc ca (inl p) (inr (inl q)) = let p0 = pair_first p in let p1 = pair_second p in let q0 = pair_first q in let q1 = pair_second q in absurd (omega arith)
numbers a b c i j ab bc ca (inl p) (inr (inr (inl q))) = let p0 = pair_first p in let p1 = pair_second p in let q0 = pair_first q in let q1 = pair_second q in absurd (omega arith)
numbers a b c i j ab bc ca (inr (inl p)) (inl q) = let p0 = pair_first p in let p1 = pair_second p in let q0 = pair_first q in let q1 = pair_second q in absurd (omega arith)
numbers a b c i j ab bc ca (inr (inl p)) (inr (inl q)) = let p0 = pair_first p in let p1 = pair_second p in let q0 = pair_first q in let q1 = pair_second q in absurd (omega arith)
numbers a b c i j ab bc ca (inr (inl p)) (inr (inr (inl q))) = let p0 = pair_first p in let p1 = pair_second p in let q0 = pair_first q in let q1 = pair_second q in absurd (omega arith)
numbers a b c i j ab bc ca (inr (inr (inl p))) (inl q) = let p0 = pair_first p in let p1 = pair_second p in let q0 = pair_first q in let q1 = pair_second q in absurd (omega arith)
numbers a b c i j ab bc ca (inr (inr (inl p))) (inr (inl q)) = let p0 = pair_first p in let p1 = pair_second p in let q0 = pair_first q in let q1 = pair_second q in absurd (omega arith)
numbers a b c i j ab bc ca (inr (inr (inl p))) (inr (inr (inl q))) = let p0 = pair_first p in let p1 = pair_second p in let q0 = pair_first q in let q1 = pair_second q in absurd (omega arith)
numbers a b c i j ab bc ca (inr (inr (inr p))) q = absurd p
numbers a b c i j ab bc ca (inl p) (inr (inr (inr q))) = absurd q
numbers a b c i j ab bc ca (inr (inl p)) (inr (inr (inr q))) = absurd q
numbers a b c i j ab bc ca (inr (inr (inl p))) (inr (inr (inr q))) = absurd q

has_one : (a b c k : ℕ) → (a ≡ k) ⊎ ((b ≡ k) ⊎ (c ≡ k)) → IsTrue (nat_eq a k || (nat_eq b k || nat_eq c k))
has_one a b c k h = grind (arith, nat_tests)

module _ (ps : List Point) (t : Triple) (hull : List Segment) (turned : IsTurned ps t) (matched : IsMatched hull (t ∷ [])) (is_hull : IsHull ps hull) where
  turned_bc : turn (at ps t.b) (at ps t.c) (at ps t.a) ≡ pos 1
  turned_bc = turn-rotate (at ps t.a) (at ps t.b) (at ps t.c) ∙ turned.turned

  turned_ca : turn (at ps t.c) (at ps t.a) (at ps t.b) ≡ pos 1
  turned_ca = turn-rotate (at ps t.b) (at ps t.c) (at ps t.a) ∙ turned_bc

  a_not_b : t.a ≢ t.b
  a_not_b e = turn-apart _ _ _ turned.turned (ap (at ps) e)

  b_not_c : t.b ≢ t.c
  b_not_c e = turn-apart _ _ _ turned_bc (ap (at ps) e)

  c_not_a : t.c ≢ t.a
  c_not_a e = turn-apart _ _ _ turned_ca (ap (at ps) e)

  -- no side is another's back
  no_back : (i j : ℕ) → Among (j, i) (sides t) → Among (i, j) (sides t) → ⊥
  no_back i j p q = numbers t.a t.b t.c i j a_not_b b_not_c c_not_a p q

  side_in_hull : (i j : ℕ) → Among (i, j) (sides t) → Among (i, j) hull
  side_in_hull i j p = elim (matched.matched (i, j) p) [ inl q ↦ absurd (no_back i j q p) | inr h ↦ h ]

  weakly_left : (i j : ℕ) → Among (i, j) (sides t) → (k : ℕ) → k < length ps → pos 0 ≤ℤ turn (at ps i) (at ps j) (at ps k)
  weakly_left i j p = (is_hull.each i j (side_in_hull i j p)).left

  corner : (k : ℕ) → k < length ps → (at ps k ≡ at ps t.a) ⊎ ((at ps k ≡ at ps t.b) ⊎ (at ps k ≡ at ps t.c))
  corner k l = elim (two_noughts _ _ _ (weakly_left t.a t.b (inl refl) k l) (weakly_left t.b t.c (inr (inl refl)) k l) (weakly_left t.c t.a (inr (inr (inl refl))) k l) (turn-sum (at ps t.a) (at ps t.b) (at ps t.c) (at ps k) ∙ turned.turned)) [
    | inl e ↦ inr (inr (corner-same (at ps t.c) (at ps t.a) (at ps t.b) (at ps k) turned_ca e.1 e.0))
    | inr (inl e) ↦ inl (corner-same (at ps t.a) (at ps t.b) (at ps t.c) (at ps k) turned.turned e.0 e.1)
    | inr (inr e) ↦ inr (inl (corner-same (at ps t.b) (at ps t.c) (at ps t.a) (at ps k) turned_bc e.1 e.0))
  ]

  member : AreDistinct ps → (k : ℕ) → k < length ps → IsOneOf k t
  unfolding IsOneOf
  member d k l = elim (corner k l) [
    | inl e ↦ inl (d t.a k turned.listed.a l (sym e))
    | inr (inl e) ↦ inr (inl (d t.b k turned.listed.b l (sym e)))
    | inr (inr e) ↦ inr (inr (d t.c k turned.listed.c l (sym e)))
  ]

  at_least_three : 3 ≤ length ps
  at_least_three = three_below t.a t.b t.c (length ps) turned.listed.a turned.listed.b turned.listed.c a_not_b b_not_c c_not_a

  named : AreDistinct ps → (k : ℕ) → k < length ps → IsTrue (has t k)
  unfolding IsOneOf
  named d k l = has_one t.a t.b t.c k (member d k l)

  pub one_triangle : AreDistinct ps → (length ps ≡ 3) × NamesAll t
  unfolding IsOneOf
  one_triangle d = let three = at_least_three in
      let no_fourth : 3 < length ps → ⊥ = λ l. pigeon t.a t.b t.c (member d 0 (omega arith)) (member d 1 (omega arith)) (member d 2 (omega arith)) (member d 3 l) in
      (omega arith, record { first = named d 0 (omega arith); second = named d 1 (omega arith); third = named d 2 (omega arith) })
