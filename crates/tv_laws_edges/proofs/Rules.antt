-- The rule of an edge: v + w = r u for the vectors u, v and w from its first point to the other three, where the turn of
-- u and v and that of w and u are both 1 or both -1.
use Rattle.std.specs.Prelude.{◌≡◌, ◌⊎◌, ℤ, pos, negsuc, ◌+ℤ◌, ◌-ℤ◌, ◌*ℤ◌, neg_ℤ}
use Rattle.std.proofs.Common.{sym, ap, subst, ◌∙◌, inl, inr, arith}
use Rattle.std.proofs.lemmas.Int.{ints}
use Rattle.tv_spec_plane.specs.Plane.{Point, turn}
use Rattle.tv_lemmas.proofs.Integers.{mul-sub, sub-mul}
use Rattle.tv_laws_edges.specs.Rule.{HasSides, IsRule, ratio}
use Rattle.tv_laws_edges.specs.Laws.{EdgeRule}
use Rattle.tv_laws_edges.proofs.Ring.{cross-frame, cross-frame_y, cross-multiple, cross-back}
use Rattle.tv_lemmas.proofs.Integers.{neg-mul}

-- a sign is 1 or -1
abbrev pub IsSign : ℤ → Type 0
IsSign t = (t ≡ pos 1) ⊎ (t ≡ negsuc 0)

by_one : (s u v w : ℤ) → (pos 1 *ℤ w) +ℤ (pos 1 *ℤ v) ≡ s *ℤ u → v +ℤ w ≡ (s *ℤ pos 1) *ℤ u
by_one s u v w e =
    let one : s *ℤ pos 1 ≡ s = omega (arith, ints) in
    rw one (omega (arith, ints))

by_minus_one : (s u v w : ℤ) → (negsuc 0 *ℤ w) +ℤ (negsuc 0 *ℤ v) ≡ s *ℤ u → v +ℤ w ≡ (s *ℤ negsuc 0) *ℤ u
by_minus_one s u v w e =
    let minus : s *ℤ negsuc 0 ≡ neg_ℤ s = omega (arith, ints) in
    rw (minus, neg-mul s u) (omega (arith, ints))

by_sign : (t s u v w : ℤ) → IsSign t → (t *ℤ w) +ℤ (t *ℤ v) ≡ s *ℤ u → v +ℤ w ≡ (s *ℤ t) *ℤ u
by_sign t s u v w (inl one) e = rw one (by_one s u v w (rw one at e))
by_sign t s u v w (inr minus) e = rw minus (by_minus_one s u v w (rw minus at e))

sign-square : (t r : ℤ) → IsSign t → (r *ℤ t) *ℤ t ≡ r
sign-square t r (inl one) =
    let e : r *ℤ pos 1 ≡ r = omega (arith, ints) in
    rw (one, e) e
sign-square t r (inr minus) =
    let e : r *ℤ negsuc 0 ≡ neg_ℤ r = omega (arith, ints) in
    rw (minus, e, neg-mul r (negsuc 0), e) (omega (arith, ints))

-- from vectors to points and back, in one coordinate
to_points : (a b c d r : ℤ) → (c -ℤ a) +ℤ (d -ℤ a) ≡ r *ℤ (b -ℤ a) → c +ℤ d ≡ ((pos 2 -ℤ r) *ℤ a) +ℤ (r *ℤ b)
to_points a b c d r e =
    let f = rw (mul-sub r b a) at e in
    rw (sub-mul (pos 2) r a) (omega (arith, ints))

to_vectors : (a b c d p r : ℤ) → p +ℤ r ≡ pos 2 → c +ℤ d ≡ (p *ℤ a) +ℤ (r *ℤ b) → d -ℤ a ≡ (r *ℤ (b -ℤ a)) -ℤ (c -ℤ a)
to_vectors a b c d p r two e =
    let q : p ≡ pos 2 -ℤ r = omega (arith, ints) in
    let f = rw (q, sub-mul (pos 2) r a) at e in
    rw (mul-sub r b a) (omega (arith, ints))

turn-sign : (a b c d : Point) → HasSides a b c d → IsSign (turn a b c)
turn-sign a b c d (inl ones) = inl ones.0
turn-sign a b c d (inr minus) = inr minus.0

turn-both : (a b c d : Point) → HasSides a b c d → turn b a d ≡ turn a b c
turn-both a b c d (inl ones) = ones.1 ∙ sym ones.0
turn-both a b c d (inr minus) = minus.1 ∙ sym minus.0

frame_x : (a b c d : Point) → HasSides a b c d → (turn a b c *ℤ (d.x -ℤ a.x)) +ℤ (turn a b c *ℤ (c.x -ℤ a.x)) ≡ turn a d c *ℤ (b.x -ℤ a.x)
unfolding turn
frame_x a b c d sides =
    let back = sym (turn-both a b c d sides) ∙ cross-back a.x a.y b.x b.y d.x d.y in
    subst (λ (t : ℤ). (turn a b c *ℤ (d.x -ℤ a.x)) +ℤ (t *ℤ (c.x -ℤ a.x)) ≡ turn a d c *ℤ (b.x -ℤ a.x)) (sym back) (cross-frame (b.x -ℤ a.x) (b.y -ℤ a.y) (c.x -ℤ a.x) (c.y -ℤ a.y) (d.x -ℤ a.x) (d.y -ℤ a.y))

frame_y : (a b c d : Point) → HasSides a b c d → (turn a b c *ℤ (d.y -ℤ a.y)) +ℤ (turn a b c *ℤ (c.y -ℤ a.y)) ≡ turn a d c *ℤ (b.y -ℤ a.y)
unfolding turn
frame_y a b c d sides =
    let back = sym (turn-both a b c d sides) ∙ cross-back a.x a.y b.x b.y d.x d.y in
    subst (λ (t : ℤ). (turn a b c *ℤ (d.y -ℤ a.y)) +ℤ (t *ℤ (c.y -ℤ a.y)) ≡ turn a d c *ℤ (b.y -ℤ a.y)) (sym back) (cross-frame_y (b.x -ℤ a.x) (b.y -ℤ a.y) (c.x -ℤ a.x) (c.y -ℤ a.y) (d.x -ℤ a.x) (d.y -ℤ a.y))

pub ratio-rule : (a b c d : Point) → HasSides a b c d → IsRule a b c d (pos 2 -ℤ ratio a b c d) (ratio a b c d)
ratio-rule a b c d sides =
    let sign = turn-sign a b c d sides in
    record {
      x = to_points a.x b.x c.x d.x (ratio a b c d) (by_sign (turn a b c) (turn a d c) (b.x -ℤ a.x) (c.x -ℤ a.x) (d.x -ℤ a.x) sign (frame_x a b c d sides));
      y = to_points a.y b.y c.y d.y (ratio a b c d) (by_sign (turn a b c) (turn a d c) (b.y -ℤ a.y) (c.y -ℤ a.y) (d.y -ℤ a.y) sign (frame_y a b c d sides));
      two = omega (arith, ints);
    }

multiple : (a b c d : Point) (p r : ℤ) → IsRule a b c d p r → turn a d c ≡ r *ℤ turn a b c
unfolding turn
multiple a b c d p r rule =
    let x = to_vectors a.x b.x c.x d.x p r rule.two rule.x in
    let y = to_vectors a.y b.y c.y d.y p r rule.two rule.y in
    rw (x, y) (cross-multiple r (b.x -ℤ a.x) (b.y -ℤ a.y) (c.x -ℤ a.x) (c.y -ℤ a.y))

only-ratio : (a b c d : Point) (p r : ℤ) → HasSides a b c d → IsRule a b c d p r → r ≡ ratio a b c d
only-ratio a b c d p r sides rule = sym (ap (λ t. t *ℤ turn a b c) (multiple a b c d p r rule) ∙ sign-square (turn a b c) r (turn-sign a b c d sides))

pub edge_rule : EdgeRule
edge_rule a b c d sides = record {
  holds = ratio-rule a b c d sides;
  only = λ p r rule. let same = only-ratio a b c d p r sides rule in let two : p +ℤ r ≡ pos 2 = rule.two in (omega (arith, ints), same);
}
