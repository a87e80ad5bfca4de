-- Turns and sides, as polynomials: how the turns of a point or the sides of a rational point over one triangle give
-- those over every other line.
use Rattle.std.specs.Prelude.{◌≡◌, ◌≢◌, ℤ, pos, ◌+ℤ◌, ◌-ℤ◌, ◌*ℤ◌, neg_ℤ}
use Rattle.std.proofs.Common.{refl, ap, subst, ◌∙◌, arith}
use Rattle.std.proofs.lemmas.Int.{ints}
use Rattle.tv_spec_plane.specs.Plane.{Point, turn}
use Rattle.tv_spec_plane.specs.Tiling.{Rational, side}
use Rattle.tv_lemmas.proofs.Signs.{factor-zero}
use Rattle.tv_spec_plane.proofs.Turns.{turn-first}
use Rattle.tv_lemmas.proofs.Integers.{diff_of, diff-same, diffs}

pub turn-is : (a b c : Point) → turn a b c ≡ ((b.x -ℤ a.x) *ℤ (c.y -ℤ a.y)) -ℤ ((b.y -ℤ a.y) *ℤ (c.x -ℤ a.x))
unfolding turn
turn-is a b c = refl

pub side-is : (a b : Point) (p : Rational) → side a b p ≡ ((b.x -ℤ a.x) *ℤ (p.y -ℤ (pos p.k *ℤ a.y))) -ℤ ((b.y -ℤ a.y) *ℤ (p.x -ℤ (pos p.k *ℤ a.x)))
unfolding side
side-is a b p = refl

pub side-back : (a b : Point) (p : Rational) → side b a p ≡ neg_ℤ (side a b p)
unfolding side
side-back a b p =
    let r = diff_of a.x in let s = diff_of a.y in let t = diff_of b.x in let u = diff_of b.y in let v = diff_of p.x in let w = diff_of p.y in let z = diff_of (pos p.k) in
    rw (r.2, s.2, t.2, u.2, v.2, w.2, z.2) (simp diffs (diff-same _ _ _ _ (omega arith)))

-- the three sides of a rational point add up to the turn
pub side-sum : (a b c : Point) (p : Rational) → side a b p +ℤ (side b c p +ℤ side c a p) ≡ pos p.k *ℤ turn a b c
unfolding side turn
side-sum a b c p =
    let i = diff_of a.x in let j = diff_of a.y in let r = diff_of b.x in let s = diff_of b.y in let t = diff_of c.x in let u = diff_of c.y in
    let v = diff_of p.x in let w = diff_of p.y in let z = diff_of (pos p.k) in
    rw (i.2, j.2, r.2, s.2, t.2, u.2, v.2, w.2, z.2) (simp diffs (diff-same _ _ _ _ (omega arith)))

-- from a point a on, the side and the turn over a line are those of a difference
side-from : (e f a : Point) (p : Rational) → side e f p -ℤ (pos p.k *ℤ turn e f a) ≡ ((f.x -ℤ e.x) *ℤ (p.y -ℤ (pos p.k *ℤ a.y))) -ℤ ((f.y -ℤ e.y) *ℤ (p.x -ℤ (pos p.k *ℤ a.x)))
unfolding side turn
side-from e f a p =
    let i = diff_of a.x in let j = diff_of a.y in let r = diff_of e.x in let s = diff_of e.y in let t = diff_of f.x in let u = diff_of f.y in
    let v = diff_of p.x in let w = diff_of p.y in let z = diff_of (pos p.k) in
    rw (i.2, j.2, r.2, s.2, t.2, u.2, v.2, w.2, z.2) (simp diffs (diff-same _ _ _ _ (omega arith)))

turn-from : (e f a b : Point) → turn e f b -ℤ turn e f a ≡ ((f.x -ℤ e.x) *ℤ (b.y -ℤ a.y)) -ℤ ((f.y -ℤ e.y) *ℤ (b.x -ℤ a.x))
unfolding turn
turn-from e f a b =
    let i = diff_of a.x in let j = diff_of a.y in let r = diff_of e.x in let s = diff_of e.y in let t = diff_of f.x in let u = diff_of f.y in
    let v = diff_of b.x in let w = diff_of b.y in
    rw (i.2, j.2, r.2, s.2, t.2, u.2, v.2, w.2) (simp diffs (diff-same _ _ _ _ (omega arith)))

side-to : (c a : Point) (p : Rational) → side c a p ≡ ((c.y -ℤ a.y) *ℤ (p.x -ℤ (pos p.k *ℤ a.x))) -ℤ ((c.x -ℤ a.x) *ℤ (p.y -ℤ (pos p.k *ℤ a.y)))
unfolding side
side-to c a p =
    let r = diff_of a.x in let s = diff_of a.y in let t = diff_of c.x in let u = diff_of c.y in let v = diff_of p.x in let w = diff_of p.y in let z = diff_of (pos p.k) in
    rw (r.2, s.2, t.2, u.2, v.2, w.2, z.2) (simp diffs (diff-same _ _ _ _ (omega arith)))

frame : (dx dy x y bx by cx cy : ℤ) → ((bx *ℤ cy) -ℤ (by *ℤ cx)) *ℤ ((dx *ℤ y) -ℤ (dy *ℤ x)) ≡ (((cy *ℤ x) -ℤ (cx *ℤ y)) *ℤ ((dx *ℤ by) -ℤ (dy *ℤ bx))) +ℤ (((bx *ℤ y) -ℤ (by *ℤ x)) *ℤ ((dx *ℤ cy) -ℤ (dy *ℤ cx)))
frame dx dy x y bx by cx cy =
    let i = diff_of dx in let j = diff_of dy in let r = diff_of x in let s = diff_of y in let t = diff_of bx in let u = diff_of by in
    let v = diff_of cx in let w = diff_of cy in
    rw (i.2, j.2, r.2, s.2, t.2, u.2, v.2, w.2) (simp diffs (diff-same _ _ _ _ (omega arith)))

-- Cramer's rule, from a on
pub side-frame : (a b c e f : Point) (p : Rational) → turn a b c *ℤ (side e f p -ℤ (pos p.k *ℤ turn e f a)) ≡ (side c a p *ℤ (turn e f b -ℤ turn e f a)) +ℤ (side a b p *ℤ (turn e f c -ℤ turn e f a))
side-frame a b c e f p = rw (side-from e f a p, turn-from e f a b, turn-from e f a c, side-to c a p, turn-is a b c, side-is a b p) (frame (f.x -ℤ e.x) (f.y -ℤ e.y) (p.x -ℤ (pos p.k *ℤ a.x)) (p.y -ℤ (pos p.k *ℤ a.y)) (b.x -ℤ a.x) (b.y -ℤ a.y) (c.x -ℤ a.x) (c.y -ℤ a.y))

spread : (u v w ta tb tc : ℤ) → ((v *ℤ (tb -ℤ ta)) +ℤ (w *ℤ (tc -ℤ ta))) +ℤ ((w +ℤ (u +ℤ v)) *ℤ ta) ≡ (u *ℤ ta) +ℤ ((v *ℤ tb) +ℤ (w *ℤ tc))
spread u v w ta tb tc =
    let i = diff_of u in let j = diff_of v in let k = diff_of w in let r = diff_of ta in let s = diff_of tb in let t = diff_of tc in
    rw (i.2, j.2, k.2, r.2, s.2, t.2) (simp diffs (diff-same _ _ _ _ (omega arith)))

regroup : (s t r q : ℤ) → s -ℤ t ≡ r → r +ℤ t ≡ q → s ≡ q
regroup s t r q e f = omega (arith, ints)

one-mul : (a b : ℤ) → pos 1 *ℤ a ≡ b → a ≡ b
one-mul a b e = omega (arith, ints)

spread_from : (u v w ta tb tc z s d : ℤ) → d ≡ pos 1 → w +ℤ (u +ℤ v) ≡ z *ℤ d → d *ℤ (s -ℤ (z *ℤ ta)) ≡ (v *ℤ (tb -ℤ ta)) +ℤ (w *ℤ (tc -ℤ ta)) → s ≡ (u *ℤ ta) +ℤ ((v *ℤ tb) +ℤ (w *ℤ tc))
spread_from u v w ta tb tc z s d one sum frame =
    let k : w +ℤ (u +ℤ v) ≡ z = sum ∙ rw one (omega (arith, ints)) in
    let f : s -ℤ (z *ℤ ta) ≡ (v *ℤ (tb -ℤ ta)) +ℤ (w *ℤ (tc -ℤ ta)) = one-mul _ _ (rw one at frame) in
    let g : ((v *ℤ (tb -ℤ ta)) +ℤ (w *ℤ (tc -ℤ ta))) +ℤ (z *ℤ ta) ≡ (u *ℤ ta) +ℤ ((v *ℤ tb) +ℤ (w *ℤ tc)) = subst (λ t. ((v *ℤ (tb -ℤ ta)) +ℤ (w *ℤ (tc -ℤ ta))) +ℤ (t *ℤ ta) ≡ (u *ℤ ta) +ℤ ((v *ℤ tb) +ℤ (w *ℤ tc))) k (spread u v w ta tb tc) in
    regroup s (z *ℤ ta) _ _ f g

-- over a triangle of turn 1 the sides of p are the weights of the corners
pub side-spread : (a b c e f : Point) (p : Rational) → turn a b c ≡ pos 1 → side e f p ≡ (side b c p *ℤ turn e f a) +ℤ ((side c a p *ℤ turn e f b) +ℤ (side a b p *ℤ turn e f c))
side-spread a b c e f p one = spread_from (side b c p) (side c a p) (side a b p) (turn e f a) (turn e f b) (turn e f c) (pos p.k) (side e f p) (turn a b c) one (side-sum a b c p) (side-frame a b c e f p)

-- a line over which a, b and c have one turn is no line, where they are not on a line
flat_x : (dx dy bx by cx cy : ℤ) → dx *ℤ ((bx *ℤ cy) -ℤ (by *ℤ cx)) ≡ (bx *ℤ ((dx *ℤ cy) -ℤ (dy *ℤ cx))) -ℤ (cx *ℤ ((dx *ℤ by) -ℤ (dy *ℤ bx)))
flat_x dx dy bx by cx cy =
    let i = diff_of dx in let j = diff_of dy in let t = diff_of bx in let u = diff_of by in let v = diff_of cx in let w = diff_of cy in
    rw (i.2, j.2, t.2, u.2, v.2, w.2) (simp diffs (diff-same _ _ _ _ (omega arith)))

flat_y : (dx dy bx by cx cy : ℤ) → dy *ℤ ((bx *ℤ cy) -ℤ (by *ℤ cx)) ≡ (by *ℤ ((dx *ℤ cy) -ℤ (dy *ℤ cx))) -ℤ (cy *ℤ ((dx *ℤ by) -ℤ (dy *ℤ bx)))
flat_y dx dy bx by cx cy =
    let i = diff_of dx in let j = diff_of dy in let t = diff_of bx in let u = diff_of by in let v = diff_of cx in let w = diff_of cy in
    rw (i.2, j.2, t.2, u.2, v.2, w.2) (simp diffs (diff-same _ _ _ _ (omega arith)))

turn-flat_x : (a b c e f : Point) → (f.x -ℤ e.x) *ℤ turn a b c ≡ ((b.x -ℤ a.x) *ℤ (turn e f c -ℤ turn e f a)) -ℤ ((c.x -ℤ a.x) *ℤ (turn e f b -ℤ turn e f a))
turn-flat_x a b c e f = rw (turn-from e f a b, turn-from e f a c, turn-is a b c) (flat_x (f.x -ℤ e.x) (f.y -ℤ e.y) (b.x -ℤ a.x) (b.y -ℤ a.y) (c.x -ℤ a.x) (c.y -ℤ a.y))

turn-flat_y : (a b c e f : Point) → (f.y -ℤ e.y) *ℤ turn a b c ≡ ((b.y -ℤ a.y) *ℤ (turn e f c -ℤ turn e f a)) -ℤ ((c.y -ℤ a.y) *ℤ (turn e f b -ℤ turn e f a))
turn-flat_y a b c e f = rw (turn-from e f a b, turn-from e f a c, turn-is a b c) (flat_y (f.x -ℤ e.x) (f.y -ℤ e.y) (b.x -ℤ a.x) (b.y -ℤ a.y) (c.x -ℤ a.x) (c.y -ℤ a.y))

flat-zero : (d t u v p q : ℤ) → p ≡ pos 0 → q ≡ pos 0 → d *ℤ t ≡ (u *ℤ p) -ℤ (v *ℤ q) → t ≢ pos 0 → d ≡ pos 0
flat-zero d t u v p q e f g apart =
    let h : d *ℤ t ≡ pos 0 = g ∙ rw (e, f) (omega (arith, ints)) in
    factor-zero d t h apart

pub point-same : (p q : Point) → p.x ≡ q.x → p.y ≡ q.y → p ≡ q
point-same p q e f =
    let first : p ≡ record { x = q.x; y = p.y } = ap (λ (x : ℤ). record { x = x; y = p.y }) e in
    let second : record { x = q.x; y = p.y } ≡ q = ap (λ (y : ℤ). record { x = q.x; y = y }) f in
    first ∙ second

pub turn-flat : (a b c e f : Point) → turn a b c ≢ pos 0 → turn e f b ≡ turn e f a → turn e f c ≡ turn e f a → e ≡ f
turn-flat a b c e f apart same_b same_c =
    let p : turn e f c -ℤ turn e f a ≡ pos 0 = omega (arith, ints) in
    let q : turn e f b -ℤ turn e f a ≡ pos 0 = omega (arith, ints) in
    let dx : f.x -ℤ e.x ≡ pos 0 = flat-zero _ _ _ _ _ _ p q (turn-flat_x a b c e f) apart in
    let dy : f.y -ℤ e.y ≡ pos 0 = flat-zero _ _ _ _ _ _ p q (turn-flat_y a b c e f) apart in
    point-same e f (omega (arith, ints)) (omega (arith, ints))

-- the points where p is whole
abbrev pub whole : Point → Rational
whole c = record { x = c.x; y = c.y; k = 1 }

one-left : (a : ℤ) → pos 1 *ℤ a ≡ a
one-left a = omega (arith, ints)

pub side-whole : (a b c : Point) → side a b (whole c) ≡ turn a b c
unfolding side turn
side-whole a b c = simp one-left

-- the same of turns, which are the sides of whole points
pub turn-sum : (a b c p : Point) → turn a b p +ℤ (turn b c p +ℤ turn c a p) ≡ turn a b c
turn-sum a b c p =
    let h : side a b (whole p) +ℤ (side b c (whole p) +ℤ side c a (whole p)) ≡ turn a b c = side-sum a b c (whole p) ∙ one-left (turn a b c) in
    rw (side-whole a b p, side-whole b c p, side-whole c a p) at h

pub turn-spread : (a b c e f p : Point) → turn a b c ≡ pos 1 → turn e f p ≡ (turn b c p *ℤ turn e f a) +ℤ ((turn c a p *ℤ turn e f b) +ℤ (turn a b p *ℤ turn e f c))
turn-spread a b c e f p one =
    let h = side-spread a b c e f (whole p) one in
    rw (side-whole e f p, side-whole b c p, side-whole c a p, side-whole a b p) at h

pub turn-apart : (a b c : Point) → turn a b c ≡ pos 1 → a ≢ b
turn-apart a b c one same =
    let none : turn a b c ≡ pos 0 = subst (λ (q : Point). turn a q c ≡ pos 0) same (turn-first a c) in
    omega (arith, ints)
