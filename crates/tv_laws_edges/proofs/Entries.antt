-- The degree of an edge's class at any weights of the points: those of the two opposite points, and those of the edge's
-- own two points by the normal degrees.
--
-- single x i == x at place i, 0 elsewhere
-- Apart a b c d == four numbers that differ
use Rattle.std.specs.Prelude.{◌≡◌, ◌≢◌, ℕ, zero, suc, ◌+◌, ◌<◌, Bool, true, false, cond, ◌||◌, ℤ, pos, ◌+ℤ◌, ◌*ℤ◌, List, [], ◌∷◌, map, length, nat_eq}
use Rattle.std.specs.List.{range_with_len}
use Rattle.std.proofs.Common.{refl, sym, ap, ◌∙◌, arith}
use Rattle.std.proofs.lemmas.Int.{ints}
use Rattle.std.proofs.lemmas.Bool.Decides.{nat_tests}
use Rattle.tv_spec_plane.specs.declared.records.CompactEdge.{CompactEdge}
use Rattle.tv_spec_plane.specs.Plane.{Point, at}
use Rattle.tv_spec_plane.specs.Web.{Web, degree_of, edge_class, normal_a, normal_b}
use Rattle.tv_lemmas.proofs.Integers.{mul-add}

abbrev pub single : ℤ → ℕ → ℕ → ℤ
single x i k = cond (nat_eq k i) x (pos 0)

-- the degree of g over the numbers from k, at the weights f of the points
abbrev degree_from : (Point → ℤ) → List Point → ℕ → (ℕ → ℤ) → ℤ
degree_from f ps k g = degree_of (map f ps) (map g (range_with_len k (length ps)))

degree_from-same : (f : Point → ℤ) (ps : List Point) (k : ℕ) (g h : ℕ → ℤ) → ((i : ℕ) → g i ≡ h i) → degree_from f ps k g ≡ degree_from f ps k h
degree_from-same f [] k g h same = refl
degree_from-same f (p ∷ ps) k g h same =
    ap (λ x. (f p *ℤ x) +ℤ degree_from f ps (k + 1) g) (same k) ∙ ap (λ s. (f p *ℤ h k) +ℤ s) (degree_from-same f ps (k + 1) g h same)

degree_from-add : (f : Point → ℤ) (ps : List Point) (k : ℕ) (g h : ℕ → ℤ) → degree_from f ps k (λ i. g i +ℤ h i) ≡ degree_from f ps k g +ℤ degree_from f ps k h
degree_from-add f [] k g h = refl
degree_from-add f (p ∷ ps) k g h = omega (arith, ints, mul-add (f p) (g k) (h k), degree_from-add f ps (k + 1) g h)

single-before : (x : ℤ) (i k : ℕ) → i < k → single x i k ≡ pos 0
single-before x i k h = grind (arith, nat_tests)

single-after : (x : ℤ) (i k j : ℕ) → i ≡ k + suc j → single x i k ≡ pos 0
single-after x i k j e = grind (arith, nat_tests)

single-here : (x : ℤ) (i k : ℕ) → i ≡ k + 0 → single x i k ≡ x
single-here x i k e = grind (arith, nat_tests)

times-zero : (y x : ℤ) → x ≡ pos 0 → y *ℤ x ≡ pos 0
times-zero y x e = rw e (omega (arith, ints))

degree_from-before : (f : Point → ℤ) (ps : List Point) (x : ℤ) (i k : ℕ) → i < k → degree_from f ps k (single x i) ≡ pos 0
degree_from-before f [] x i k h = refl
degree_from-before f (p ∷ ps) x i k h = omega (arith, ints, times-zero (f p) (single x i k) (single-before x i k h), degree_from-before f ps x i (k + 1) (omega arith))

degree_from-single : (f : Point → ℤ) (ps : List Point) (x : ℤ) (i k j : ℕ) → i ≡ k + j → j < length ps → degree_from f ps k (single x i) ≡ f (at ps j) *ℤ x
degree_from-single f [] x i k j e h = absurd (omega arith)
degree_from-single f (p ∷ ps) x i k zero e h = omega (arith, ints, ap (λ y. f p *ℤ y) (single-here x i k e), degree_from-before f ps x i (k + 1) (omega arith))
degree_from-single f (p ∷ ps) x i k (suc j) e h = omega (arith, ints, times-zero (f p) (single x i k) (single-after x i k j e), degree_from-single f ps x i (k + 1) j (omega arith) (omega arith))

pub record Apart (a b c d : ℕ) : Type 0 where
  pub ab : a ≢ b
  pub ac : a ≢ c
  pub ad : a ≢ d
  pub bc : b ≢ c
  pub bd : b ≢ d
  pub cd : c ≢ d

-- the entries of a class, one place at a time
abbrev entry : ℕ → ℕ → ℕ → ℕ → ℤ → ℤ → ℕ → ℤ
entry a b c d m n k = cond (nat_eq k c || nat_eq k d) (pos 1) (cond (nat_eq k a) m (cond (nat_eq k b) n (pos 0)))

abbrev parts : ℕ → ℕ → ℕ → ℕ → ℤ → ℤ → ℕ → ℤ
parts a b c d m n k = (single (pos 1) c k +ℤ single (pos 1) d k) +ℤ (single m a k +ℤ single n b k)

-- by the tests k = c, k = d, k = a and k = b, of which at most one holds
by_tests : (c d a b : Bool) (m n : ℤ) → (c ≡ true → d ≡ true → ⊥) → (c ≡ true → a ≡ true → ⊥) → (c ≡ true → b ≡ true → ⊥) → (d ≡ true → a ≡ true → ⊥) → (d ≡ true → b ≡ true → ⊥) → (a ≡ true → b ≡ true → ⊥) → cond (c || d) (pos 1) (cond a m (cond b n (pos 0))) ≡ (cond c (pos 1) (pos 0) +ℤ cond d (pos 1) (pos 0)) +ℤ (cond a m (pos 0) +ℤ cond b n (pos 0))
by_tests true true a b m n cd ca cb da db ab = absurd (cd refl refl)
by_tests true false true b m n cd ca cb da db ab = absurd (ca refl refl)
by_tests true false false true m n cd ca cb da db ab = absurd (cb refl refl)
by_tests true false false false m n cd ca cb da db ab = refl
by_tests false true true b m n cd ca cb da db ab = absurd (da refl refl)
by_tests false true false true m n cd ca cb da db ab = absurd (db refl refl)
by_tests false true false false m n cd ca cb da db ab = refl
by_tests false false true true m n cd ca cb da db ab = absurd (ab refl refl)
by_tests false false true false m n cd ca cb da db ab = omega (arith, ints)
by_tests false false false true m n cd ca cb da db ab = omega (arith, ints)
by_tests false false false false m n cd ca cb da db ab = refl

not_both : (k a b : ℕ) → a ≢ b → nat_eq k a ≡ true → nat_eq k b ≡ true → ⊥
not_both k a b apart e f =
    let p : k ≡ a = grind (arith, nat_tests) in
    let q : k ≡ b = grind (arith, nat_tests) in
    apart (sym p ∙ q)

entry-parts : (a b c d : ℕ) (m n : ℤ) → Apart a b c d → (k : ℕ) → entry a b c d m n k ≡ parts a b c d m n k
entry-parts a b c d m n apart k = by_tests (nat_eq k c) (nat_eq k d) (nat_eq k a) (nat_eq k b) m n (not_both k c d apart.cd) (λ e f. not_both k a c apart.ac f e) (λ e f. not_both k b c apart.bc f e) (λ e f. not_both k a d apart.ad f e) (λ e f. not_both k b d apart.bd f e) (not_both k a b apart.ab)

pub record Listed (ps : List Point) (a b c d : ℕ) : Type 0 where
  pub first : a < length ps
  pub second : b < length ps
  pub left : c < length ps
  pub right : d < length ps

entry-degree : (f : Point → ℤ) (ps : List Point) (a b c d : ℕ) (m n : ℤ) → Apart a b c d → Listed ps a b c d → degree_from f ps 0 (entry a b c d m n) ≡ (f (at ps c) +ℤ f (at ps d)) +ℤ ((f (at ps a) *ℤ m) +ℤ (f (at ps b) *ℤ n))
entry-degree f ps a b c d m n apart listed =
    let split = degree_from-same f ps 0 (entry a b c d m n) (parts a b c d m n) (entry-parts a b c d m n apart) in
    let whole = degree_from-add f ps 0 (λ k. single (pos 1) c k +ℤ single (pos 1) d k) (λ k. single m a k +ℤ single n b k) in
    let left = degree_from-add f ps 0 (single (pos 1) c) (single (pos 1) d) in
    let right = degree_from-add f ps 0 (single m a) (single n b) in
    let at_a = degree_from-single f ps m a 0 a (omega arith) listed.first in
    let at_b = degree_from-single f ps n b 0 b (omega arith) listed.second in
    let at_c = degree_from-single f ps (pos 1) c 0 c (omega arith) listed.left in
    let at_d = degree_from-single f ps (pos 1) d 0 d (omega arith) listed.right in
    omega (arith, ints, split, whole, left, right, at_a, at_b, at_c, at_d)

pub degree_of-edge_class : (f : Point → ℤ) (w : Web) (e : CompactEdge) → Apart e.a e.b e.c e.d → Listed w.points e.a e.b e.c e.d → degree_of (map f w.points) (edge_class w e) ≡ (f (at w.points e.c) +ℤ f (at w.points e.d)) +ℤ ((f (at w.points e.a) *ℤ normal_a w e) +ℤ (f (at w.points e.b) *ℤ normal_b w e))
degree_of-edge_class f w e apart listed = entry-degree f w.points e.a e.b e.c e.d (normal_a w e) (normal_b w e) apart listed
