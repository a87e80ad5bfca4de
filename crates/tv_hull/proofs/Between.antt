-- Which points of a line lie between two others, by the way along it.
use Rattle.std.specs.Prelude.{◌≡◌, ℕ, zero, suc, ℤ, pos, negsuc, ◌+ℤ◌, ◌-ℤ◌, ◌*ℤ◌, neg_ℤ, ◌≤ℤ◌, ◌<ℤ◌, List}
use Rattle.std.proofs.Common.{ap, sym, ◌∙◌, arith, inl, inr}
use Rattle.std.proofs.lemmas.Int.{ints}
use Rattle.tv_hull.specs.declared.order.Heading.{Heading}
use Rattle.tv_hull.specs.declared.order.Heading.TheVariants.{Up, Down}
use Rattle.tv_spec_plane.specs.Plane.{Point, at, turn, IsBetween}
use Rattle.tv_lemmas.proofs.Integers.{diff_of, diff-pos, diff-same, diffs, neg-mul}
use Rattle.tv_lemmas.proofs.Signs.{sign, mul-pos-pos, mul-pos-neg, mul-neg-neg, mul-neg-pos, mul-nonneg-nonneg}
use Rattle.tv_spec_plane.proofs.Turns.{turn-rotate, turn-exchange}
use Rattle.tv_hull.proofs.Rises.{rise, toward, toward-back, toward-add, toward-down}

-- k to a times k to b
unfoldable pub dot : Point → Point → Point → ℤ
dot k a b = ((a.x -ℤ k.x) *ℤ (b.x -ℤ k.x)) +ℤ ((a.y -ℤ k.y) *ℤ (b.y -ℤ k.y))

along_at : (ux uy vx vy : ℤ) → ((pos 201 *ℤ ux) +ℤ uy) *ℤ ((vx *ℤ vx) +ℤ (vy *ℤ vy)) ≡ (((pos 201 *ℤ vx) +ℤ vy) *ℤ ((ux *ℤ vx) +ℤ (uy *ℤ vy))) +ℤ (((ux *ℤ vy) -ℤ (uy *ℤ vx)) *ℤ ((pos 201 *ℤ vy) -ℤ vx))
along_at ux uy vx vy =
    let r = diff_of ux in let s = diff_of uy in let t = diff_of vx in let u = diff_of vy in
    rw (r.2, s.2, t.2, u.2, diff-pos 201) (simp diffs (diff-same _ _ _ _ (omega arith)))

without : (a t b : ℤ) → t ≡ pos 0 → a +ℤ (t *ℤ b) ≡ a
without a t b e = rw e (omega (arith, ints))

along_rise : (k a b : Point) → turn k a b ≡ pos 0 → rise k a *ℤ dot k b b ≡ rise k b *ℤ dot k a b
unfolding rise turn dot
along_rise k a b e = along_at (a.x -ℤ k.x) (a.y -ℤ k.y) (b.x -ℤ k.x) (b.y -ℤ k.y) ∙ without _ _ _ e

-- on a line the ways from k to a and to b are as a multiple of one vector
along : (heading : Heading) (k a b : Point) → turn k a b ≡ pos 0 → toward heading k a *ℤ dot k b b ≡ toward heading k b *ℤ dot k a b
unfolding toward
along Up k a b e = along_rise k a b e
along Down k a b e = rw (toward-down k a, toward-down k b) (neg-mul (rise k a) (dot k b b) ∙ (ap neg_ℤ (along_rise k a b e) ∙ sym (neg-mul (rise k b) (dot k a b))))

dot-exchange : (k a b : Point) → dot k a b ≡ dot k b a
unfolding dot
dot-exchange k a b =
    let i = diff_of k.x in let j = diff_of k.y in let r = diff_of a.x in let s = diff_of a.y in let t = diff_of b.x in let u = diff_of b.y in
    rw (i.2, j.2, r.2, s.2, t.2, u.2) (simp diffs (diff-same _ _ _ _ (omega arith)))

square : (x : ℤ) → pos 0 ≤ℤ (x *ℤ x)
square x = elim (sign x) [
  | inl less ↦ omega (arith, ints, mul-neg-neg x x less less)
  | inr (inl same) ↦ rw same (omega (arith, ints))
  | inr (inr more) ↦ omega (arith, ints, mul-pos-pos x x more more)
]

dot-same : (k a : Point) → pos 0 ≤ℤ dot k a a
unfolding dot
dot-same k a = omega (arith, ints, square (a.x -ℤ k.x), square (a.y -ℤ k.y))

nonzero_square : (x : ℤ) → (x *ℤ x ≡ pos 0) → x ≡ pos 0
nonzero_square x e = elim (sign x) [
  | inl less ↦ absurd (omega (arith, ints, mul-neg-neg x x less less))
  | inr (inl same) ↦ same
  | inr (inr more) ↦ absurd (omega (arith, ints, mul-pos-pos x x more more))
]

dot-zero_rise : (k a : Point) → dot k a a ≡ pos 0 → rise k a ≡ pos 0
unfolding dot rise
dot-zero_rise k a e =
    let first : a.x -ℤ k.x ≡ pos 0 = nonzero_square (a.x -ℤ k.x) (omega (arith, ints, square (a.x -ℤ k.x), square (a.y -ℤ k.y))) in
    let second : a.y -ℤ k.y ≡ pos 0 = nonzero_square (a.y -ℤ k.y) (omega (arith, ints, square (a.x -ℤ k.x), square (a.y -ℤ k.y))) in
    omega (arith, ints)

dot-zero : (heading : Heading) (k a : Point) → dot k a a ≡ pos 0 → toward heading k a ≡ pos 0
unfolding toward
dot-zero Up k a e = dot-zero_rise k a e
dot-zero Down k a e = omega (arith, ints, dot-zero_rise k a e, toward-down k a)

-- with p and q the ways from k to a and b, and s, t and m the products of their vectors
between_signs : (p q s t m : ℤ) → p <ℤ q → pos 0 ≤ℤ s → pos 0 ≤ℤ t → m <ℤ pos 0 → p *ℤ t ≡ q *ℤ m → q *ℤ s ≡ p *ℤ m → (p <ℤ pos 0) × (pos 0 <ℤ q)
between_signs p q s t m h hs ht hm e f = elim (sign q) [
  | inl less ↦ absurd (omega (arith, ints, mul-neg-neg p m (omega (arith, ints)) hm, mul-nonpos-pos' q s less hs))
  | inr (inl same) ↦ absurd (omega (arith, ints, mul-neg-neg p m (omega (arith, ints)) hm, mul-zero-left q s same))
  | inr (inr more) ↦ elim (sign p) [
    | inl heading ↦ (heading, more)
    | inr (inl level) ↦ absurd (omega (arith, ints, mul-pos-neg q m more hm, mul-zero-left p t level))
    | inr (inr up) ↦ absurd (omega (arith, ints, mul-pos-neg q m more hm, mul-nonneg-nonneg p t (omega (arith, ints)) ht))
  ]
]
  where
    mul-nonpos-pos' : (a b : ℤ) → a <ℤ pos 0 → pos 0 ≤ℤ b → (a *ℤ b) ≤ℤ pos 0
    mul-nonpos-pos' (pos n) b h k = absurd (omega (arith, ints))
    mul-nonpos-pos' (negsuc n) (pos zero) h k = omega (arith, ints)
    mul-nonpos-pos' (negsuc n) (pos (suc m)) h k = omega (arith, ints)
    mul-nonpos-pos' (negsuc n) (negsuc m) h k = absurd (omega (arith, ints))

    mul-zero-left : (a b : ℤ) → a ≡ pos 0 → a *ℤ b ≡ pos 0
    mul-zero-left a b e = rw e (omega (arith, ints))

-- a point k between a and b is ahead of a, and b is ahead of it
between_at : (heading : Heading) (a b k : Point) → pos 0 <ℤ toward heading a b → turn k a b ≡ pos 0 → dot k a b <ℤ pos 0 → (pos 0 <ℤ toward heading a k) × (pos 0 <ℤ toward heading k b)
between_at heading a b k h line inside =
    let back = toward-back heading a k in
    let through = toward-add heading a k b in
    let other : turn k b a ≡ pos 0 = omega (arith, ints, turn-exchange k a b) in
    let signs = between_signs (toward heading k a) (toward heading k b) (dot k a a) (dot k b b) (dot k a b) (omega (arith, ints)) (dot-same k a) (dot-same k b) inside (along heading k a b line) (along heading k b a other ∙ ap (λ z. toward heading k a *ℤ z) (sym (dot-exchange k a b))) in
    (omega (arith, ints, signs.0), signs.1)

pub between-ahead : (ps : List Point) (heading : Heading) (a b k : ℕ) → pos 0 <ℤ toward heading (at ps a) (at ps b) → IsBetween ps a b k → (pos 0 <ℤ toward heading (at ps a) (at ps k)) × (pos 0 <ℤ toward heading (at ps k) (at ps b))
unfolding dot
between-ahead ps heading a b k h between = between_at heading (at ps a) (at ps b) (at ps k) h (sym (turn-rotate (at ps k) (at ps a) (at ps b)) ∙ between.on_line) between.inside

-- with p and q the ways from k to a and b, and t and m the products of their vectors
apart_signs : (p q t m : ℤ) → p <ℤ pos 0 → pos 0 <ℤ q → pos 0 ≤ℤ t → (t ≡ pos 0 → q ≡ pos 0) → p *ℤ t ≡ q *ℤ m → m <ℤ pos 0
apart_signs p q t m hp hq ht apart e = elim (sign m) [
  | inl less ↦ less
  | inr (inl same) ↦ absurd (tall (omega (arith, ints, mul-zero-right q m same)))
  | inr (inr more) ↦ absurd (tall (omega (arith, ints, mul-pos-pos q m hq more)))
]
  where
    mul-zero-right : (a b : ℤ) → b ≡ pos 0 → a *ℤ b ≡ pos 0
    mul-zero-right a b f = rw f (omega (arith, ints))

    tall : pos 0 ≤ℤ (p *ℤ t) → ⊥
    tall h = elim (sign t) [
      | inl less ↦ omega (arith, ints)
      | inr (inl same) ↦ omega (arith, ints, apart same)
      | inr (inr more) ↦ omega (arith, ints, mul-neg-pos p t hp more)
    ]

-- and the other way round
pub ahead-between : (ps : List Point) (heading : Heading) (a b k : ℕ) → turn (at ps a) (at ps b) (at ps k) ≡ pos 0 → pos 0 <ℤ toward heading (at ps a) (at ps k) → pos 0 <ℤ toward heading (at ps k) (at ps b) → IsBetween ps a b k
unfolding dot
ahead-between ps heading a b k line first second = record {
  on_line = line;
  inside = apart_signs (toward heading (at ps k) (at ps a)) (toward heading (at ps k) (at ps b)) (dot (at ps k) (at ps b) (at ps b)) (dot (at ps k) (at ps a) (at ps b)) (omega (arith, ints, toward-back heading (at ps a) (at ps k))) second (dot-same (at ps k) (at ps b)) (dot-zero heading (at ps k) (at ps b)) (along heading (at ps k) (at ps a) (at ps b) (sym (turn-rotate (at ps k) (at ps a) (at ps b)) ∙ line));
}
