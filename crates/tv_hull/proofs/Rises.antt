-- One linear measure in place of the order by x, then y: for small coordinates rise has the sign of that order, so that
-- what the turns of four points say of one another is Cramer's rule with rise.
--
-- rise p q        == 201 steps for each unit of x and one for each of y, from p to q
-- toward down p q == the same on the way up, or the other way on the way down
use Rattle.std.specs.Prelude.{◌≡◌, ℤ, pos, ◌+ℤ◌, ◌-ℤ◌, ◌*ℤ◌, neg_ℤ}
use Rattle.std.proofs.Common.{ap, ◌∙◌, arith}
use Rattle.std.proofs.lemmas.Int.{ints}
use Rattle.tv_hull.specs.declared.order.Heading.{Heading}
use Rattle.tv_hull.specs.declared.order.Heading.TheVariants.{Up, Down}
use Rattle.tv_spec_plane.specs.Plane.{Point, turn}
use Rattle.tv_lemmas.proofs.Integers.{diff_of, diff-pos, diff-same, diffs}

unfoldable pub rise : Point → Point → ℤ
rise p q = (pos 201 *ℤ (q.x -ℤ p.x)) +ℤ (q.y -ℤ p.y)

unfoldable pub toward : Heading → Point → Point → ℤ
toward Up p q = rise p q
toward Down p q = rise q p

-- the turn of three points from a fourth
pub turn-from : (o a b c : Point) → turn a b c ≡ turn o a b +ℤ (turn o b c +ℤ turn o c a)
unfolding turn
turn-from o a b c =
    let i = diff_of o.x in let j = diff_of o.y in let r = diff_of a.x in let s = diff_of a.y in let t = diff_of b.x in let u = diff_of b.y in let v = diff_of c.x in let w = diff_of c.y in
    rw (i.2, j.2, r.2, s.2, t.2, u.2, v.2, w.2) (simp diffs (diff-same _ _ _ _ (omega arith)))

cramer : (ax ay bx by cx cy : ℤ) → (((pos 201 *ℤ cx) +ℤ cy) *ℤ ((ax *ℤ by) -ℤ (ay *ℤ bx))) +ℤ ((((pos 201 *ℤ ax) +ℤ ay) *ℤ ((bx *ℤ cy) -ℤ (by *ℤ cx))) +ℤ (((pos 201 *ℤ bx) +ℤ by) *ℤ ((cx *ℤ ay) -ℤ (cy *ℤ ax)))) ≡ pos 0
cramer ax ay bx by cx cy =
    let r = diff_of ax in let s = diff_of ay in let t = diff_of bx in let u = diff_of by in let v = diff_of cx in let w = diff_of cy in
    rw (r.2, s.2, t.2, u.2, v.2, w.2, diff-pos 201, diff-pos 0) (simp diffs (diff-same _ _ _ _ (omega arith)))

by_rise : (p a b c : Point) → (rise p c *ℤ turn p a b) +ℤ ((rise p a *ℤ turn p b c) +ℤ (rise p b *ℤ turn p c a)) ≡ pos 0
unfolding rise turn
by_rise p a b c = cramer (a.x -ℤ p.x) (a.y -ℤ p.y) (b.x -ℤ p.x) (b.y -ℤ p.y) (c.x -ℤ p.x) (c.y -ℤ p.y)

pub toward-back : (heading : Heading) (p q : Point) → toward heading q p ≡ neg_ℤ (toward heading p q)
unfolding toward rise
toward-back Up p q = omega (arith, ints)
toward-back Down p q = omega (arith, ints)

pub toward-add : (heading : Heading) (p q r : Point) → toward heading p q +ℤ toward heading q r ≡ toward heading p r
unfolding toward rise
toward-add Up p q r = omega (arith, ints)
toward-add Down p q r = omega (arith, ints)

pub toward-same : (heading : Heading) (p : Point) → toward heading p p ≡ pos 0
toward-same heading p = omega (arith, ints, toward-back heading p p)

neg_sum : (a b c s t u : ℤ) → (a *ℤ s) +ℤ ((b *ℤ t) +ℤ (c *ℤ u)) ≡ pos 0 → (neg_ℤ a *ℤ s) +ℤ ((neg_ℤ b *ℤ t) +ℤ (neg_ℤ c *ℤ u)) ≡ pos 0
neg_sum a b c s t u e =
    let opposite : (neg_ℤ a *ℤ s) +ℤ ((neg_ℤ b *ℤ t) +ℤ (neg_ℤ c *ℤ u)) ≡ neg_ℤ ((a *ℤ s) +ℤ ((b *ℤ t) +ℤ (c *ℤ u))) =
    (let i = diff_of a in let j = diff_of b in let k = diff_of c in let v = diff_of s in let w = diff_of t in let x = diff_of u in
    rw (i.2, j.2, k.2, v.2, w.2, x.2) (simp diffs (diff-same _ _ _ _ (omega arith)))) in
    opposite ∙ ap neg_ℤ e

pub toward-down : (p q : Point) → toward Down p q ≡ neg_ℤ (rise p q)
unfolding toward rise
toward-down p q = omega (arith, ints)

-- Cramer's rule from p on
pub by_toward : (heading : Heading) (p a b c : Point) → (toward heading p c *ℤ turn p a b) +ℤ ((toward heading p a *ℤ turn p b c) +ℤ (toward heading p b *ℤ turn p c a)) ≡ pos 0
unfolding toward
by_toward Up p a b c = by_rise p a b c
by_toward Down p a b c = rw (toward-down p c, toward-down p a, toward-down p b) (neg_sum (rise p c) (rise p a) (rise p b) (turn p a b) (turn p b c) (turn p c a) (by_rise p a b c))

pub toward-opposite : (p q : Point) → toward Down p q ≡ neg_ℤ (toward Up p q)
unfolding toward
toward-opposite p q = toward-down p q
