-- Points on a line, strictly between two others.
use Rattle.std.specs.Prelude.{◌≡◌, ◌≢◌, ℕ, ℤ, pos, negsuc, ◌+ℤ◌, ◌-ℤ◌, ◌*ℤ◌, ◌<ℤ◌, List}
use Rattle.std.proofs.Common.{arith}
use Rattle.std.proofs.lemmas.Int.{ints}
use Rattle.tv_spec_plane.specs.Plane.{Point, origin, at, turn, IsBetween}
use Rattle.tv_lemmas.proofs.Integers.{sub-mul, diff_of, diff-pos, diff-same, diffs}
use Rattle.tv_lemmas.proofs.Signs.{mul-nonneg-nonneg, mul-neg-pos, square-nonneg, squares-positive, neighbours-nonneg}
use Rattle.tv_laws_tiling.proofs.Turns.{turn-sum, turn-spread, point-same}

-- ---- coordinates are turns over fixed lines
turn-x : (p : Point) → turn origin (record { x = pos 0; y = negsuc 0 }) p ≡ p.x
unfolding turn
turn-x p = omega (arith, ints)

turn-y : (p : Point) → turn origin (record { x = pos 1; y = pos 0 }) p ≡ p.y
unfolding turn
turn-y p = omega (arith, ints)

spread-x : (a b c p : Point) → turn a b c ≡ pos 1 → p.x ≡ (turn b c p *ℤ a.x) +ℤ ((turn c a p *ℤ b.x) +ℤ (turn a b p *ℤ c.x))
spread-x a b c p one =
    let h = turn-spread a b c origin (record { x = pos 0; y = negsuc 0 }) p one in
    rw (turn-x p, turn-x a, turn-x b, turn-x c) at h

spread-y : (a b c p : Point) → turn a b c ≡ pos 1 → p.y ≡ (turn b c p *ℤ a.y) +ℤ ((turn c a p *ℤ b.y) +ℤ (turn a b p *ℤ c.y))
spread-y a b c p one =
    let h = turn-spread a b c origin (record { x = pos 1; y = pos 0 }) p one in
    rw (turn-y p, turn-y a, turn-y b, turn-y c) at h

-- ---- from a point k = (1 - l) a + l b
step : (a b c l : ℤ) → a -ℤ (((pos 1 -ℤ l) *ℤ a) +ℤ ((l *ℤ b) +ℤ (pos 0 *ℤ c))) ≡ l *ℤ (a -ℤ b)
step a b c l =
    let r = diff_of a in let s = diff_of b in let t = diff_of c in let u = diff_of l in
    rw (r.2, s.2, t.2, u.2, diff-pos 1, diff-pos 0) (simp diffs (diff-same _ _ _ _ (omega arith)))

less-one : (l d : ℤ) → (l -ℤ pos 1) *ℤ d ≡ (l *ℤ d) -ℤ d
less-one l d = omega (arith, ints, sub-mul l (pos 1) d)

step_at : (a b c k l m n : ℤ) → k ≡ (m *ℤ a) +ℤ ((l *ℤ b) +ℤ (n *ℤ c)) → n ≡ pos 0 → m ≡ pos 1 -ℤ l → a -ℤ k ≡ l *ℤ (a -ℤ b)
step_at a b c k l m n e none rest = rw (e, none, rest) (step a b c l)

-- where k is on the line of a and b, with the weight l of b
pub record IsOnLine (a b k : Point) (l : ℤ) : Type 0 where
  pub x : a.x -ℤ k.x ≡ l *ℤ (a.x -ℤ b.x)
  pub y : a.y -ℤ k.y ≡ l *ℤ (a.y -ℤ b.y)

pub turn-on_line : (a b c k : Point) → turn a b c ≡ pos 1 → turn a b k ≡ pos 0 → IsOnLine a b k (turn c a k)
turn-on_line a b c k one none =
    let rest : turn b c k ≡ pos 1 -ℤ turn c a k = omega (arith, ints, turn-sum a b c k) in
    record {
      x = step_at a.x b.x c.x k.x (turn c a k) (turn b c k) (turn a b k) (spread-x a b c k one) none rest;
      y = step_at a.y b.y c.y k.y (turn c a k) (turn b c k) (turn a b k) (spread-y a b c k one) none rest;
    }

inner : (l m x y : ℤ) → ((l *ℤ x) *ℤ (m *ℤ x)) +ℤ ((l *ℤ y) *ℤ (m *ℤ y)) ≡ (l *ℤ m) *ℤ ((x *ℤ x) +ℤ (y *ℤ y))
inner l m x y =
    let r = diff_of l in let s = diff_of m in let t = diff_of x in let u = diff_of y in
    rw (r.2, s.2, t.2, u.2) (simp diffs (diff-same _ _ _ _ (omega arith)))

-- a whole weight is not strictly between 0 and 1
pub primitive-bare : (ps : List Point) (a b k : ℕ) (c : Point) → turn (at ps a) (at ps b) c ≡ pos 1 → IsBetween ps a b k → ⊥
primitive-bare ps a b k c one h =
    let l = turn c (at ps a) (at ps k) in
    let line = turn-on_line (at ps a) (at ps b) c (at ps k) one h.on_line in
    let x = (at ps a).x -ℤ (at ps b).x in
    let y = (at ps a).y -ℤ (at ps b).y in
    let bx : (at ps b).x -ℤ (at ps k).x ≡ (l -ℤ pos 1) *ℤ x = omega (arith, ints, line.x, less-one l x) in
    let by : (at ps b).y -ℤ (at ps k).y ≡ (l -ℤ pos 1) *ℤ y = omega (arith, ints, line.y, less-one l y) in
    let less = rw (line.x, line.y, bx, by, inner l (l -ℤ pos 1) x y) at h.inside in
    let more = mul-nonneg-nonneg (l *ℤ (l -ℤ pos 1)) ((x *ℤ x) +ℤ (y *ℤ y)) (neighbours-nonneg l) (omega (arith, ints, square-nonneg x, square-nonneg y)) in
    omega (arith, ints)

inner_one : (m x y : ℤ) → (x *ℤ (m *ℤ x)) +ℤ (y *ℤ (m *ℤ y)) ≡ m *ℤ ((x *ℤ x) +ℤ (y *ℤ y))
inner_one m x y =
    let s = diff_of m in let t = diff_of x in let u = diff_of y in
    rw (s.2, t.2, u.2) (simp diffs (diff-same _ _ _ _ (omega arith)))

one-less : (l d : ℤ) → (pos 1 -ℤ l) *ℤ d ≡ d -ℤ (l *ℤ d)
one-less l d = omega (arith, ints, sub-mul (pos 1) l d)

-- b = (1 - l) a + l e with l above 1: then e is between a and b
pub beyond-between : (ps : List Point) (a b e : ℕ) (l : ℤ) → at ps a ≢ at ps e → turn (at ps a) (at ps b) (at ps e) ≡ pos 0 → IsOnLine (at ps a) (at ps e) (at ps b) l → pos 1 <ℤ l → IsBetween ps a b e
beyond-between ps a b e l apart on line more =
    let x = (at ps a).x -ℤ (at ps e).x in
    let y = (at ps a).y -ℤ (at ps e).y in
    let bx : (at ps b).x -ℤ (at ps e).x ≡ (pos 1 -ℤ l) *ℤ x = omega (arith, ints, line.x, one-less l x) in
    let by : (at ps b).y -ℤ (at ps e).y ≡ (pos 1 -ℤ l) *ℤ y = omega (arith, ints, line.y, one-less l y) in
    let long = squares-positive x y (λ ex ey. apart (point-same (at ps a) (at ps e) (omega (arith, ints)) (omega (arith, ints)))) in
    record {
      on_line = on;
      inside = rw (bx, by, inner_one (pos 1 -ℤ l) x y) (mul-neg-pos (pos 1 -ℤ l) ((x *ℤ x) +ℤ (y *ℤ y)) (omega (arith, ints)) long);
    }
