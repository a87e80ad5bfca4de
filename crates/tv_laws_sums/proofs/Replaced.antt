-- One place replaced: with which slices the heights are mixed before and after.
--
-- place-inside    the place is one of the n
-- all-put         all places pass a test where one has another height: that one does, and the others do
-- mixed-before, mixed-after  with which slices they are mixed, by the other places and that one
-- met-once        of the heights that are met one after the other at most one is that of the slice
-- one-slice       the running sum of one slice
-- one-outside     and none beyond the bounds
use Rattle.std.specs.Prelude.{◌≡◌, ℕ, zero, suc, ◌+◌, ◌-◌, ◌<◌, ◌≤◌, ◌⊎◌, Bool, true, false, cond, ◌&&◌, ◌||◌, nat_eq, nat_le}
use Rattle.std.proofs.Common.{refl, sym, ap, ◌∙◌, arith, inl, inr}
use Rattle.std.proofs.lemmas.Bool.{cases_eq, cases_lt, eqb-true, eq-eqb, ne_eqb, and_parts, and_from, lt-leb, le-leb, leb-true}
use Rattle.std.proofs.lemmas.Bool.Decides.{nat_tests}
use Rattle.tv_lemmas.specs.Sums.{sum_of}
use Rattle.tv_cells.specs.Cells.{below}
use Rattle.tv_spec_slices.specs.Slices.{all_below}
use Rattle.tv_laws_slices.proofs.Fits.{below-at, below-from}
use Rattle.tv_laws_slices.proofs.Sums.{sum_of-same, sum_of-zero}
use Rattle.tv_laws_slices.proofs.Steps.{sum_of-last}
use Rattle.tv_laws_sums.specs.Mixed.{before, within, place, is_new, mixed, put, lowest, highest, nth}

pub place-inside : (g : Bool) (n i : ℕ) → i < n → place g n i < n
place-inside true n i l = omega arith
place-inside false n i l = l

pub new-here : (g : Bool) (n i : ℕ) → i < n → is_new g n (suc i) (place g n i) ≡ true
new-here true n i l = le-leb n ((n - suc i) + suc i) (omega arith)
new-here false n i l = grind (arith, nat_tests)

pub old-here : (g : Bool) (n i : ℕ) → i < n → is_new g n i (place g n i) ≡ false
old-here true n i l = lt-leb n ((n - suc i) + i) (omega arith)
old-here false n i l = grind (arith, nat_tests)

pub new-else : (g : Bool) (n i d : ℕ) → i < n → d < n → (d ≡ place g n i → ⊥) → is_new g n (suc i) d ≡ is_new g n i d
new-else true n i d l m ne = by (cases_lt (d + i) n)
  where
    by : ((d + i) < n) ⊎ (n ≤ d + i) → nat_le n (d + suc i) ≡ nat_le n (d + i)
    by (inl less) = lt-leb n (d + suc i) (omega (arith, ne)) ∙ sym (lt-leb n (d + i) less)
    by (inr more) = le-leb n (d + suc i) (omega arith) ∙ sym (le-leb n (d + i) more)
new-else false n i d l m ne = grind (arith, nat_tests)

pub both-ways : (p q : Bool) → (p ≡ true → q ≡ true) → (q ≡ true → p ≡ true) → p ≡ q
both-ways true q f g = sym (f refl)
both-ways false true f g = g refl
both-ways false false f g = refl

pub put-here : (h : ℕ → ℕ) (p x : ℕ) → put h p x p ≡ x
put-here h p x = ap (λ q. cond q x (h p)) (eq-eqb p p refl)

pub put-else : (h : ℕ → ℕ) (p x d : ℕ) → (d ≡ p → ⊥) → put h p x d ≡ h d
put-else h p x d ne = ap (λ q. cond q x (h d)) (ne_eqb d p ne)

pub all-same : (n : ℕ) (s t : ℕ → Bool) → ((d : ℕ) → d < n → s d ≡ t d) → all_below n s ≡ all_below n t
all-same zero s t each = refl
all-same (suc n) s t each = ap (λ q. q && s n) (all-same n s t (λ d l. each d (omega arith))) ∙ ap (λ q. all_below n t && q) (each n (omega arith))

-- all places but one
abbrev pub others : ℕ → ℕ → (ℕ → Bool) → Bool
others n p test = all_below n (λ d. nat_eq d p || test d)

others-at : (n p : ℕ) (test : ℕ → Bool) → others n p test ≡ true → (d : ℕ) → d < n → (d ≡ p → ⊥) → test d ≡ true
others-at n p test all d l ne = sym (ap (λ q. q || test d) (ne_eqb d p ne)) ∙ below-at n (λ d. nat_eq d p || test d) all d l

pub others-same : (n p : ℕ) (s t : ℕ → Bool) → ((d : ℕ) → d < n → (d ≡ p → ⊥) → s d ≡ t d) → others n p s ≡ others n p t
others-same n p s t each = all-same n (λ d. nat_eq d p || s d) (λ d. nat_eq d p || t d) (λ d l. elim (cases_eq d p) [
  | inl e ↦ let on = eq-eqb d p e in rw on refl
  | inr ne ↦ ap (λ q. nat_eq d p || q) (each d l ne)
])

pub all-put : (n p x : ℕ) (h : ℕ → ℕ) (test : ℕ → ℕ → Bool) → p < n → all_below n (λ d. test d (put h p x d)) ≡ (others n p (λ d. test d (h d)) && test p x)
all-put n p x h test l = both-ways (all_below n (λ d. test d (put h p x d))) (all_below n (λ d. nat_eq d p || test d (h d)) && test p x)
    (λ all. and_from (all_below n (λ d. nat_eq d p || test d (h d))) (test p x)
    (below-from n (λ d. nat_eq d p || test d (h d)) (λ d m. elim (cases_eq d p) [
      | inl e ↦ let on = eq-eqb d p e in rw on refl
      | inr ne ↦ let off = ne_eqb d p ne in rw off (sym (ap (test d) (put-else h p x d ne)) ∙ below-at n (λ d. test d (put h p x d)) all d m)
    ]))
    (sym (ap (test p) (put-here h p x)) ∙ below-at n (λ d. test d (put h p x d)) all p l))
    (λ both. let parts = and_parts (all_below n (λ d. nat_eq d p || test d (h d))) (test p x) both in
    below-from n (λ d. test d (put h p x d)) (λ d m. elim (cases_eq d p) [
      | inl e ↦ ap (λ v. test v (put h p x v)) e ∙ (ap (test p) (put-here h p x) ∙ parts.1)
      | inr ne ↦ ap (test d) (put-else h p x d ne) ∙ others-at n p (λ d. test d (h d)) parts.0 d m ne
    ]))

-- ---- the heights that are met

met-up : (low v w j : ℕ) → sum_of (λ m. cond (nat_eq (low + m) v) w 0) (below (suc j)) ≡ cond (nat_le low v && nat_le v (low + j)) w 0
met-up low v w zero = grind (arith, nat_tests)
met-up low v w (suc j) = sum_of-last (λ m. cond (nat_eq (low + m) v) w 0) (suc j) ∙ (ap (λ s. cond (nat_eq (low + suc j) v) w 0 + s) (met-up low v w j) ∙ grind (arith, nat_tests))

met-down : (high v w j : ℕ) → j ≤ high → sum_of (λ m. cond (nat_eq (high - m) v) w 0) (below (suc j)) ≡ cond (nat_le (high - j) v && nat_le v high) w 0
met-down high v w zero l = grind (arith, nat_tests)
met-down high v w (suc j) l = sum_of-last (λ m. cond (nat_eq (high - m) v) w 0) (suc j) ∙ (ap (λ s. cond (nat_eq (high - suc j) v) w 0 + s) (met-down high v w j (omega arith)) ∙ grind (arith, nat_tests))

-- the heights met are those between both ends
abbrev pub reached : Bool → ℕ → ℕ → ℕ → ℕ → Bool
reached true low high j v = nat_le low v && nat_le v (low + j)
reached false low high j v = nat_le (high - j) v && nat_le v high

pub met-once : (g : Bool) (low high v w j : ℕ) → low + j ≤ high → sum_of (λ m. cond (nat_eq (nth g low high m) v) w 0) (below (suc j)) ≡ cond (reached g low high j v) w 0
met-once true low high v w j l = met-up low v w j
met-once false low high v w j l = met-down high v w j (omega arith)

-- ---- the place that is replaced

-- how a height at a place is tested, after so many places are replaced
abbrev pub ok : Bool → ℕ → ℕ → (ℕ → ℕ) → ℕ → ℕ → ℕ → Bool
ok g top n a i d y = cond (is_new g n i d) (within g top a d y) (nat_eq y (a d))

-- all other places are as they should
abbrev pub rest : Bool → ℕ → ℕ → ℕ → (ℕ → ℕ) → (ℕ → ℕ) → Bool
rest g top n i a h = others n (place g n i) (λ d. ok g top n a i d (h d))

pub mixed-before : (g : Bool) (top n i x : ℕ) (a h : ℕ → ℕ) → i < n → mixed g top n i a (put h (place g n i) x) ≡ (rest g top n i a h && nat_eq x (a (place g n i)))
mixed-before g top n i x a h l =
    all-put n (place g n i) x h (ok g top n a i) (place-inside g n i l) ∙ ap (λ q. rest g top n i a h && cond q (within g top a (place g n i) x) (nat_eq x (a (place g n i)))) (old-here g n i l)

pub mixed-after : (g : Bool) (top n i y : ℕ) (a h : ℕ → ℕ) → i < n → mixed g top n (suc i) a (put h (place g n i) y) ≡ (rest g top n i a h && within g top a (place g n i) y)
mixed-after g top n i y a h l =
    all-put n (place g n i) y h (ok g top n a (suc i)) (place-inside g n i l)
    ∙ (ap (λ q. q && ok g top n a (suc i) (place g n i) y)
    (others-same n (place g n i) (λ d. ok g top n a (suc i) d (h d)) (λ d. ok g top n a i d (h d)) (λ d m ne. ap (λ q. cond q (within g top a d (h d)) (nat_eq (h d) (a d))) (new-else g n i d l m ne)))
    ∙ ap (λ q. rest g top n i a h && cond q (within g top a (place g n i) y) (nat_eq y (a (place g n i)))) (new-here g n i l))

before-same : (top q : ℕ) (a h : ℕ → ℕ) → ((r : ℕ) → q ≡ suc r → a r ≡ h r) → before top a q ≡ before top h q
before-same top zero a h each = refl
before-same top (suc q) a h each = each q refl

under-before : (top q : ℕ) (a h : ℕ → ℕ) → a 0 ≤ top → ((r : ℕ) → q ≡ suc r → a q ≤ h r) → a q ≤ before top h q
under-before top zero a h l each = l
under-before top (suc q) a h l each = each q refl

old-at : (g : Bool) (top n i d : ℕ) (a h : ℕ → ℕ) → rest g top n i a h ≡ true → d < n → (d ≡ place g n i → ⊥) → is_new g n i d ≡ false → a d ≡ h d
old-at g top n i d a h all l ne old =
    sym (eqb-true (h d) (a d) (sym (ap (λ q. cond q (within g top a d (h d)) (nat_eq (h d) (a d))) old) ∙ others-at n (place g n i) (λ d. ok g top n a i d (h d)) all d l ne))

new-at : (g : Bool) (top n i d : ℕ) (a h : ℕ → ℕ) → rest g top n i a h ≡ true → d < n → (d ≡ place g n i → ⊥) → is_new g n i d ≡ true → within g top a d (h d) ≡ true
new-at g top n i d a h all l ne new =
    sym (ap (λ q. cond q (within g top a d (h d)) (nat_eq (h d) (a d))) new) ∙ others-at n (place g n i) (λ d. ok g top n a i d (h d)) all d l ne

-- where slices grow: what stands in front of the place, and behind it
up-front : (top n i : ℕ) (a h : ℕ → ℕ) → i < n → rest true top n i a h ≡ true → before top a (n - suc i) ≡ before top h (n - suc i)
up-front top n i a h l all = before-same top (n - suc i) a h (λ r e. old-at true top n i r a h all (omega arith) (λ same. omega arith) (lt-leb n (r + i) (omega arith)))

up-behind : (top n i : ℕ) (a h : ℕ → ℕ) → i < n → h n ≡ 0 → rest true top n i a h ≡ true → h (suc (n - suc i)) ≤ a (n - suc i)
up-behind top n i a h l none all = by (cases_lt (suc (n - suc i)) n)
  where
    by : (suc (n - suc i) < n) ⊎ (n ≤ suc (n - suc i)) → h (suc (n - suc i)) ≤ a (n - suc i)
    by (inl less) =
        let within_at = new-at true top n i (suc (n - suc i)) a h all less (λ same. omega arith) (le-leb n (suc (n - suc i) + i) (omega arith)) in
        leb-true (h (suc (n - suc i))) (a (n - suc i)) (and_parts (nat_le (a (suc (n - suc i))) (h (suc (n - suc i)))) (nat_le (h (suc (n - suc i))) (a (n - suc i))) within_at).1
    by (inr more) = let e : suc (n - suc i) ≡ n = omega arith in let z : h (suc (n - suc i)) ≡ 0 = ap h e ∙ none in omega arith

-- where they shrink
down-behind : (top n i : ℕ) (a h : ℕ → ℕ) → i < n → h n ≡ 0 → a n ≡ 0 → rest false top n i a h ≡ true → a (suc i) ≡ h (suc i)
down-behind top n i a h l none none_too all = by (cases_lt (suc i) n)
  where
    by : (suc i < n) ⊎ (n ≤ suc i) → a (suc i) ≡ h (suc i)
    by (inl less) = old-at false top n i (suc i) a h all less (λ same. omega arith) (grind (arith, nat_tests))
    by (inr more) = let e : suc i ≡ n = omega arith in ap a e ∙ (none_too ∙ (sym none ∙ ap h (sym e)))

down-front : (top n i : ℕ) (a h : ℕ → ℕ) → i < n → a 0 ≤ top → rest false top n i a h ≡ true → a i ≤ before top h i
down-front top n i a h l low all = under-before top i a h low (λ r e.
    let within_at = new-at false top n i r a h all (omega arith) (λ same. omega arith) (grind (arith, nat_tests)) in
    let under : a (suc r) ≤ h r = leb-true (a (suc r)) (h r) (and_parts (nat_le (a (suc r)) (h r)) (nat_le (h r) (a r)) within_at).0 in
    let here : a i ≡ a (suc r) = ap a e in omega arith)

-- the heights met are those that the place had, where the last one is that which it gets
met-within : (g : Bool) (top n i j : ℕ) (a h : ℕ → ℕ) → i < n → h n ≡ 0 → a n ≡ 0 → a 0 ≤ top → rest g top n i a h ≡ true → lowest h (place g n i) + j ≤ highest top h (place g n i) →
    within g top a (place g n i) (nth g (lowest h (place g n i)) (highest top h (place g n i)) j) ≡ reached g (lowest h (place g n i)) (highest top h (place g n i)) j (a (place g n i))
met-within true top n i j a h l none none_too low all few = by (a (n - suc i)) (h (suc (n - suc i))) (before top a (n - suc i)) (before top h (n - suc i)) (up-front top n i a h l all) (up-behind top n i a h l none all) few
  where
    by : (v b f g : ℕ) → f ≡ g → b ≤ v → b + j ≤ g → (nat_le v (b + j) && nat_le (b + j) f) ≡ (nat_le b v && nat_le v (b + j))
    by v b f g e m few = grind (arith, nat_tests)
met-within false top n i j a h l none none_too low all few = by (a i) (a (suc i)) (h (suc i)) (before top h i) (down-behind top n i a h l none none_too all) (down-front top n i a h l low all) few
  where
    by : (v b c f : ℕ) → b ≡ c → v ≤ f → c + j ≤ f → (nat_le b (f - j) && nat_le (f - j) v) ≡ (nat_le (f - j) v && nat_le v f)
    by v b c f e m few = grind (arith, nat_tests)

not-within : (g : Bool) (top n i y : ℕ) (a h : ℕ → ℕ) → i < n → h n ≡ 0 → a n ≡ 0 → a 0 ≤ top → rest g top n i a h ≡ true → (y < lowest h (place g n i)) ⊎ (highest top h (place g n i) < y) → within g top a (place g n i) y ≡ false
not-within true top n i y a h l none none_too low all out = by (a (n - suc i)) (h (suc (n - suc i))) (before top a (n - suc i)) (before top h (n - suc i)) (up-front top n i a h l all) (up-behind top n i a h l none all) out
  where
    by : (v b f g : ℕ) → f ≡ g → b ≤ v → (y < b) ⊎ (g < y) → (nat_le v y && nat_le y f) ≡ false
    by v b f g e m (inl less) = grind (arith, nat_tests)
    by v b f g e m (inr more) = grind (arith, nat_tests)
not-within false top n i y a h l none none_too low all out = by (a i) (a (suc i)) (h (suc i)) (before top h i) (down-behind top n i a h l none none_too all) (down-front top n i a h l low all) out
  where
    by : (v b c f : ℕ) → b ≡ c → v ≤ f → (y < c) ⊎ (f < y) → (nat_le b y && nat_le y v) ≡ false
    by v b c f e m (inl less) = grind (arith, nat_tests)
    by v b c f e m (inr more) = grind (arith, nat_tests)

pub one-slice : (g : Bool) (top n i j w : ℕ) (a h : ℕ → ℕ) → i < n → h n ≡ 0 → a n ≡ 0 → a 0 ≤ top → lowest h (place g n i) + j ≤ highest top h (place g n i) →
    cond (mixed g top n (suc i) a (put h (place g n i) (nth g (lowest h (place g n i)) (highest top h (place g n i)) j))) w 0
    ≡ sum_of (λ m. cond (mixed g top n i a (put h (place g n i) (nth g (lowest h (place g n i)) (highest top h (place g n i)) m))) w 0) (below (suc j))
one-slice g top n i j w a h l none none_too low few =
    let p = place g n i in let b = lowest h p in let f = highest top h p in
    ap (λ q. cond q w 0) (mixed-after g top n i (nth g b f j) a h l)
    ∙ (by (rest g top n i a h) refl
    ∙ sum_of-same (λ m. cond (rest g top n i a h && nat_eq (nth g b f m) (a p)) w 0) (λ m. cond (mixed g top n i a (put h p (nth g b f m))) w 0) (λ m. ap (λ q. cond q w 0) (sym (mixed-before g top n i (nth g b f m) a h l))) (below (suc j)))
  where
    by : (q : Bool) → rest g top n i a h ≡ q →
        cond (q && within g top a (place g n i) (nth g (lowest h (place g n i)) (highest top h (place g n i)) j)) w 0
        ≡ sum_of (λ m. cond (q && nat_eq (nth g (lowest h (place g n i)) (highest top h (place g n i)) m) (a (place g n i))) w 0) (below (suc j))
    by true all = ap (λ q. cond q w 0) (met-within g top n i j a h l none none_too low all few) ∙ sym (met-once g (lowest h (place g n i)) (highest top h (place g n i)) (a (place g n i)) w j few)
    by false none_of = sym (sum_of-zero (λ m. 0) (λ m. refl) (below (suc j)))

pub one-outside : (g : Bool) (top n i y w : ℕ) (a h : ℕ → ℕ) → i < n → h n ≡ 0 → a n ≡ 0 → a 0 ≤ top → (y < lowest h (place g n i)) ⊎ (highest top h (place g n i) < y) → cond (mixed g top n (suc i) a (put h (place g n i) y)) w 0 ≡ 0
one-outside g top n i y w a h l none none_too low out = ap (λ q. cond q w 0) (mixed-after g top n i y a h l) ∙ by (rest g top n i a h) refl
  where
    by : (q : Bool) → rest g top n i a h ≡ q → cond (q && within g top a (place g n i) y) w 0 ≡ 0
    by true all = ap (λ q. cond q w 0) (not-within g top n i y a h l none none_too low all out)
    by false none_of = refl
