-- The parity of an edge's class at the even points, and its degree at affine heights.
use Rattle.std.specs.Prelude.{◌≡◌, ℕ, Bool, true, false, cond, ◌||◌, ℤ, pos, ◌+ℤ◌, ◌-ℤ◌, ◌*ℤ◌, neg_ℤ, List, [], ◌∷◌, map}
use Rattle.std.proofs.Common.{refl, sym, ap, ◌∙◌, inl, inr, arith}
use Rattle.std.proofs.lemmas.Int.{ints}
use Rattle.tv_spec_plane.specs.declared.records.CompactEdge.{CompactEdge}
use Rattle.tv_spec_plane.specs.Plane.{Point, at, turn}
use Rattle.tv_spec_plane.specs.Web.{Web, degree_of, edge_class, edge_ratio, normal_a, normal_b, even_sum, is_even_point}
use Rattle.tv_lemmas.proofs.Integers.{diff_of, diff-same, diffs}
use Rattle.tv_spec_plane.proofs.Turns.{turn-first, turn-return, turn-last, turn-back}
use Rattle.tv_laws_edges.specs.Rule.{HasSides, IsRule, HasRule}
use Rattle.tv_laws_edges.specs.Laws.{ClassParity, FlatDegree, affine}
use Rattle.tv_laws_edges.proofs.Rules.{ratio-rule}
use Rattle.tv_laws_edges.proofs.Parity.{is_even, eqv, is_even-add, is_even-sub, is_even-mul, is_even-neg, same_parity}
use Rattle.tv_laws_edges.proofs.Bits.{weight_even, turn_even, rule_even, same-eqv, sum_even-is}
use Rattle.tv_laws_edges.proofs.Entries.{Apart, Listed, degree_of-edge_class}

-- the four points are apart, since each three that turn have no point twice
first_turns : (a b c d : Point) → HasSides a b c d → turn a b c ≡ pos 0 → ⊥
first_turns a b c d (inl ones) e = absurd (omega (arith, ints, ones.0))
first_turns a b c d (inr minus) e = absurd (omega (arith, ints, minus.0))

second_turns : (a b c d : Point) → HasSides a b c d → turn b a d ≡ pos 0 → ⊥
second_turns a b c d (inl ones) e = absurd (omega (arith, ints, ones.1))
second_turns a b c d (inr minus) e = absurd (omega (arith, ints, minus.1))

not_opposite : (a b c d : Point) → HasSides a b c d → turn b a d ≡ neg_ℤ (turn a b c) → ⊥
not_opposite a b c d (inl ones) e = absurd (omega (arith, ints, ones.0, ones.1, rw (ones.0, ones.1) at e))
not_opposite a b c d (inr minus) e = absurd (omega (arith, ints, minus.0, minus.1, rw (minus.0, minus.1) at e))

-- a turn of listed points, by two equal numbers
pub same_ab : (ps : List Point) (i j k : ℕ) → i ≡ j → turn (at ps i) (at ps j) (at ps k) ≡ pos 0
same_ab ps i j k e = ap (λ (m : ℕ). turn (at ps i) (at ps m) (at ps k)) (sym e) ∙ turn-first (at ps i) (at ps k)

pub same_ac : (ps : List Point) (i j k : ℕ) → i ≡ k → turn (at ps i) (at ps j) (at ps k) ≡ pos 0
same_ac ps i j k e = ap (λ (m : ℕ). turn (at ps i) (at ps j) (at ps m)) (sym e) ∙ turn-return (at ps i) (at ps j)

pub same_bc : (ps : List Point) (i j k : ℕ) → j ≡ k → turn (at ps i) (at ps j) (at ps k) ≡ pos 0
same_bc ps i j k e = ap (λ (m : ℕ). turn (at ps i) (at ps j) (at ps m)) (sym e) ∙ turn-last (at ps i) (at ps j)

same_cd : (ps : List Point) (i j k l : ℕ) → k ≡ l → turn (at ps j) (at ps i) (at ps l) ≡ neg_ℤ (turn (at ps i) (at ps j) (at ps k))
same_cd ps i j k l e = ap (λ (m : ℕ). turn (at ps j) (at ps i) (at ps m)) (sym e) ∙ turn-back (at ps i) (at ps j) (at ps k)

pub apart : (w : Web) (e : CompactEdge) → HasRule w e → Apart e.a e.b e.c e.d
apart w e rule = record {
  ab = λ s. first_turns (at w.points e.a) (at w.points e.b) (at w.points e.c) (at w.points e.d) rule.sides (same_ab w.points e.a e.b e.c s);
  ac = λ s. first_turns (at w.points e.a) (at w.points e.b) (at w.points e.c) (at w.points e.d) rule.sides (same_ac w.points e.a e.b e.c s);
  ad = λ s. second_turns (at w.points e.a) (at w.points e.b) (at w.points e.c) (at w.points e.d) rule.sides (same_bc w.points e.b e.a e.d s);
  bc = λ s. first_turns (at w.points e.a) (at w.points e.b) (at w.points e.c) (at w.points e.d) rule.sides (same_bc w.points e.a e.b e.c s);
  bd = λ s. second_turns (at w.points e.a) (at w.points e.b) (at w.points e.c) (at w.points e.d) rule.sides (same_ac w.points e.b e.a e.d s);
  cd = λ s. not_opposite (at w.points e.a) (at w.points e.b) (at w.points e.c) (at w.points e.d) rule.sides (same_cd w.points e.a e.b e.c e.d s);
}

listed : (w : Web) (e : CompactEdge) → HasRule w e → Listed w.points e.a e.b e.c e.d
listed w e rule = record { first = rule.a; second = rule.b; left = rule.c; right = rule.d }

-- the sum over the even points is the degree at the weights 1 for even points, 0 for others
abbrev evenness : Point → ℤ
evenness p = cond (is_even_point p) (pos 1) (pos 0)

weighs : (b : Bool) (x : ℤ) → cond b x (pos 0) ≡ cond b (pos 1) (pos 0) *ℤ x
weighs true x = omega (arith, ints)
weighs false x = omega (arith, ints)

even_sum-degree : (ps : List Point) (v : List ℤ) → even_sum ps v ≡ degree_of (map evenness ps) v
even_sum-degree [] v = refl
even_sum-degree (p ∷ ps) [] = refl
even_sum-degree (p ∷ ps) (x ∷ v) = omega (arith, ints, weighs (is_even_point p) x, even_sum-degree ps v)

even_weight : (b : Bool) → is_even (cond b (pos 1) (pos 0)) ≡ weight_even b
even_weight true = refl
even_weight false = refl

eqv-true : (b : Bool) → eqv b true ≡ b
eqv-true true = refl
eqv-true false = refl

parts_even : (fc fd fa fb m n : ℤ) (a b c d q : Bool) → is_even fc ≡ weight_even c → is_even fd ≡ weight_even d → is_even fa ≡ weight_even a → is_even fb ≡ weight_even b → is_even m ≡ q → is_even n ≡ q → is_even ((fc +ℤ fd) +ℤ ((fa *ℤ m) +ℤ (fb *ℤ n))) ≡ eqv (eqv (weight_even c) (weight_even d)) (eqv (weight_even a || q) (weight_even b || q))
parts_even fc fd fa fb m n a b c d q ec ed ea eb em en =
    is_even-add (fc +ℤ fd) ((fa *ℤ m) +ℤ (fb *ℤ n))
    ∙ (ap (λ v. eqv v (is_even ((fa *ℤ m) +ℤ (fb *ℤ n)))) (is_even-add fc fd ∙ (ap (λ v. eqv v (is_even fd)) ec ∙ ap (eqv (weight_even c)) ed))
    ∙ ap (eqv (eqv (weight_even c) (weight_even d))) (is_even-add (fa *ℤ m) (fb *ℤ n)
    ∙ (ap (λ v. eqv v (is_even (fb *ℤ n))) (is_even-mul fa m ∙ (ap (λ v. v || is_even m) ea ∙ ap (λ v. weight_even a || v) em))
    ∙ ap (eqv (weight_even a || q)) (is_even-mul fb n ∙ (ap (λ v. v || is_even n) eb ∙ ap (λ v. weight_even b || v) en)))))

pub rule_even_by : (a b c d p r : ℤ) → c +ℤ d ≡ (p *ℤ a) +ℤ (r *ℤ b) → is_even p ≡ is_even r → rule_even (is_even a) (is_even b) (is_even c) (is_even d) (is_even r) ≡ true
rule_even_by a b c d p r e same =
    let left = sym (is_even-add c d) ∙ ap is_even e in
    let right = is_even-add (p *ℤ a) (r *ℤ b) ∙ (ap (λ v. eqv v (is_even (r *ℤ b))) (is_even-mul p a ∙ ap (λ v. v || is_even a) same) ∙ ap (eqv (is_even r || is_even a)) (is_even-mul r b)) in
    same-eqv (eqv (is_even c) (is_even d)) (eqv (is_even r || is_even a) (is_even r || is_even b)) (left ∙ right)

pub even_turn : (a b c : Point) → is_even (turn a b c) ≡ turn_even (is_even a.x) (is_even a.y) (is_even b.x) (is_even b.y) (is_even c.x) (is_even c.y)
unfolding turn
even_turn a b c =
    let right = is_even-mul (b.x -ℤ a.x) (c.y -ℤ a.y) ∙ (ap (λ v. v || is_even (c.y -ℤ a.y)) (is_even-sub b.x a.x) ∙ ap (λ v. eqv (is_even b.x) (is_even a.x) || v) (is_even-sub c.y a.y)) in
    let left = is_even-mul (b.y -ℤ a.y) (c.x -ℤ a.x) ∙ (ap (λ v. v || is_even (c.x -ℤ a.x)) (is_even-sub b.y a.y) ∙ ap (λ v. eqv (is_even b.y) (is_even a.y) || v) (is_even-sub c.x a.x)) in
    is_even-sub ((b.x -ℤ a.x) *ℤ (c.y -ℤ a.y)) ((b.y -ℤ a.y) *ℤ (c.x -ℤ a.x)) ∙ (ap (λ v. eqv v (is_even ((b.y -ℤ a.y) *ℤ (c.x -ℤ a.x)))) right ∙ ap (eqv (eqv (is_even b.x) (is_even a.x) || eqv (is_even c.y) (is_even a.y))) left)

pub odd_turn : (a b c d : Point) → HasSides a b c d → is_even (turn a b c) ≡ false
odd_turn a b c d (inl ones) = ap is_even ones.0
odd_turn a b c d (inr minus) = ap is_even minus.0

-- at four points with the rule
points_even : (a b c d : Point) (m n r : ℤ) → HasSides a b c d → IsRule a b c d (pos 2 -ℤ r) r → is_even m ≡ is_even r → is_even n ≡ is_even r → is_even ((evenness c +ℤ evenness d) +ℤ ((evenness a *ℤ m) +ℤ (evenness b *ℤ n))) ≡ is_even r
points_even a b c d m n r sides rule em en =
    let parts = parts_even (evenness c) (evenness d) (evenness a) (evenness b) m n (is_even_point a) (is_even_point b) (is_even_point c) (is_even_point d) (is_even r) (even_weight (is_even_point c)) (even_weight (is_even_point d)) (even_weight (is_even_point a)) (even_weight (is_even_point b)) em en in
    let turned = sym (even_turn a b c) ∙ odd_turn a b c d sides in
    let same = is_even-sub (pos 2) r in
    parts ∙ sum_even-is (is_even a.x) (is_even a.y) (is_even b.x) (is_even b.y) (is_even c.x) (is_even c.y) (is_even d.x) (is_even d.y) (is_even r) turned (rule_even_by a.x b.x c.x d.x (pos 2 -ℤ r) r rule.x same) (rule_even_by a.y b.y c.y d.y (pos 2 -ℤ r) r rule.y same)

pub even_normal_a : (r : ℤ) → is_even (r -ℤ pos 2) ≡ is_even r
even_normal_a r = is_even-sub r (pos 2) ∙ eqv-true (is_even r)

pub ratio_holds : (w : Web) (e : CompactEdge) → HasRule w e → IsRule (at w.points e.a) (at w.points e.b) (at w.points e.c) (at w.points e.d) (pos 2 -ℤ edge_ratio w e) (edge_ratio w e)
unfolding edge_ratio
ratio_holds w e rule = ratio-rule (at w.points e.a) (at w.points e.b) (at w.points e.c) (at w.points e.d) rule.sides

pub class-even : (w : Web) (e : CompactEdge) → HasRule w e → is_even (even_sum w.points (edge_class w e)) ≡ is_even (normal_a w e)
class-even w e rule =
    let sum = even_sum-degree w.points (edge_class w e) ∙ degree_of-edge_class evenness w e (apart w e rule) (listed w e rule) in
    let even = points_even (at w.points e.a) (at w.points e.b) (at w.points e.c) (at w.points e.d) (normal_a w e) (normal_b w e) (edge_ratio w e) rule.sides (ratio_holds w e rule) (even_normal_a (edge_ratio w e)) (is_even-neg (edge_ratio w e)) in
    ap is_even sum ∙ (even ∙ sym (even_normal_a (edge_ratio w e)))

pub class_parity : ClassParity
class_parity w e rule = same_parity (even_sum w.points (edge_class w e)) (normal_a w e) (class-even w e rule)

-- affine heights, one coordinate at a time
spread : (i j k m : ℤ) → ((i +ℤ j) +ℤ k) *ℤ m ≡ ((i *ℤ m) +ℤ (j *ℤ m)) +ℤ (k *ℤ m)
spread i j k m =
    let q = diff_of i in let r = diff_of j in let s = diff_of k in let t = diff_of m in
    rw (q.2, r.2, s.2, t.2) (simp diffs (diff-same _ _ _ _ (omega arith)))

flat_multiple : (two i a b c r : ℤ) → (i *ℤ c) +ℤ (i *ℤ ((((two -ℤ r) *ℤ a) +ℤ (r *ℤ b)) -ℤ c)) ≡ neg_ℤ (((i *ℤ a) *ℤ (r -ℤ two)) +ℤ ((i *ℤ b) *ℤ neg_ℤ r))
flat_multiple two i a b c r =
    let q = diff_of i in let s = diff_of a in let t = diff_of b in let u = diff_of c in let v = diff_of r in let w = diff_of two in
    rw (q.2, s.2, t.2, u.2, v.2, w.2) (simp diffs (diff-same _ _ _ _ (omega arith)))

flat_coordinate : (i a b c d r : ℤ) → c +ℤ d ≡ ((pos 2 -ℤ r) *ℤ a) +ℤ (r *ℤ b) → ((i *ℤ c) +ℤ (i *ℤ d)) +ℤ (((i *ℤ a) *ℤ (r -ℤ pos 2)) +ℤ ((i *ℤ b) *ℤ neg_ℤ r)) ≡ pos 0
flat_coordinate i a b c d r e =
    let alone : d ≡ (((pos 2 -ℤ r) *ℤ a) +ℤ (r *ℤ b)) -ℤ c = omega (arith, ints) in
    omega (arith, ints, ap (λ z. i *ℤ z) alone, flat_multiple (pos 2) i a b c r)

flat_twice : (two k r : ℤ) → (k *ℤ (r -ℤ two)) +ℤ (k *ℤ neg_ℤ r) ≡ neg_ℤ (k *ℤ two)
flat_twice two k r =
    let s = diff_of k in let t = diff_of r in let u = diff_of two in
    rw (s.2, t.2, u.2) (simp diffs (diff-same _ _ _ _ (omega arith)))

flat_height : (k r : ℤ) → (k +ℤ k) +ℤ ((k *ℤ (r -ℤ pos 2)) +ℤ (k *ℤ neg_ℤ r)) ≡ pos 0
flat_height k r =
    let e : k *ℤ pos 2 ≡ k +ℤ k = omega (arith, ints) in
    omega (arith, ints, flat_twice (pos 2) k r)

flat_points : (i j k r : ℤ) (a b c d : Point) → IsRule a b c d (pos 2 -ℤ r) r → (affine i j k c +ℤ affine i j k d) +ℤ ((affine i j k a *ℤ (r -ℤ pos 2)) +ℤ (affine i j k b *ℤ neg_ℤ r)) ≡ pos 0
flat_points i j k r a b c d rule = omega (arith, ints, spread (i *ℤ a.x) (j *ℤ a.y) k (r -ℤ pos 2), spread (i *ℤ b.x) (j *ℤ b.y) k (neg_ℤ r), flat_coordinate i a.x b.x c.x d.x r rule.x, flat_coordinate j a.y b.y c.y d.y r rule.y, flat_height k r)

pub flat_degree : FlatDegree
flat_degree w e i j k rule =
    degree_of-edge_class (affine i j k) w e (apart w e rule) (listed w e rule) ∙ flat_points i j k (edge_ratio w e) (at w.points e.a) (at w.points e.b) (at w.points e.c) (at w.points e.d) (ratio_holds w e rule)
