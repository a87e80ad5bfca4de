-- Where no place is replaced, and where all are: which slices the heights are mixed with, and what is spent.
--
-- value-covers   a column is as high as another one where its value is
use Rattle.std.specs.Prelude.{◌≡◌, ℕ, zero, suc, ◌+◌, ◌-◌, ◌<◌, ◌≤◌, ◌⊎◌, ℤ, pos, negsuc, ◌+ℤ◌, max, Bool, true, false, cond, ◌&&◌, ◌||◌, nat_eq, nat_lt, nat_le, length}
use Rattle.std.proofs.Common.{refl, sym, ap, ◌∙◌, arith, inl, inr}
use Rattle.std.proofs.lemmas.Bool.{cases_lt, and_parts, and_from, lt-leb, le-leb, lt-ltb, le-ltb}
use Rattle.std.proofs.lemmas.Bool.Decides.{nat_tests}
use Rattle.tv_cells.specs.declared.legs.Legs.{Legs}
use Rattle.tv_cells.specs.Extras.{AreDiagrams}
use Rattle.tv_spec_slices.specs.Slices.{Shape, at, reach, covers, interlaces, interlaces_at, over, fits, is_endless, base_at}
use Rattle.tv_laws_slices.proofs.Fits.{below-at, below-from, fits-full}
use Rattle.tv_laws_slices.proofs.Bases.{endless-first}
use Rattle.tv_laws_slices.proofs.Steps.{at-past, sum_of-up_to}
use Rattle.tv_laws_sums.specs.Mixed.{grows, value, before, within, is_new, mixed, mixed_at}
use Rattle.tv_laws_sums.specs.Laws.{IsLow, FirstIsSame, LastInterlaces, LastSpends}
use Rattle.tv_laws_sums.proofs.Replaced.{both-ways, all-same}
use Rattle.tv_laws_sums.proofs.Running.{sum_of-each}

pub none-new : (g : Bool) (n d : ℕ) → d < n → is_new g n 0 d ≡ false
none-new true n d l = lt-leb n (d + 0) (omega arith)
none-new false n d l = grind (arith, nat_tests)

pub all-new : (g : Bool) (n d : ℕ) → d < n → is_new g n n d ≡ true
all-new true n d l = le-leb n (d + n) (omega arith)
all-new false n d l = lt-ltb d n l

pub first-is-same : FirstIsSame
first-is-same g top n a h = all-same n (mixed_at g top n 0 a h) (λ d. nat_eq (h d) (a d)) (λ d l. ap (λ q. cond q (within g top a d (h d)) (nat_eq (h d) (a d))) (none-new g n d l))

last-within : (g : Bool) (top n : ℕ) (a h : ℕ → ℕ) (d : ℕ) → d < n → mixed g top n n a h ≡ true → within g top a d (h d) ≡ true
last-within g top n a h d l all = sym (ap (λ q. cond q (within g top a d (h d)) (nat_eq (h d) (a d))) (all-new g n d l)) ∙ below-at n (mixed_at g top n n a h) all d l

from-within : (g : Bool) (top n : ℕ) (a h : ℕ → ℕ) → ((d : ℕ) → d < n → within g top a d (h d) ≡ true) → mixed g top n n a h ≡ true
from-within g top n a h each = below-from n (mixed_at g top n n a h) (λ d l. ap (λ q. cond q (within g top a d (h d)) (nat_eq (h d) (a d))) (all-new g n d l) ∙ each d l)

-- ---- as high as another one

pub value-covers : (top : ℕ) (a b : Shape) (d e : ℕ) → at a d < top → at b e < top → covers a d b e ≡ nat_le (value top b e) (value top a d)
value-covers top a b d e la lb = by (at a d) (at b e) (cases_lt d a.full) (cases_lt e b.full) la lb
  where
    by : (x y : ℕ) → (d < a.full) ⊎ (a.full ≤ d) → (e < b.full) ⊎ (b.full ≤ e) → x < top → y < top →
        (nat_lt d a.full || (nat_le b.full e && nat_le y x)) ≡ nat_le (cond (nat_lt e b.full) top y) (cond (nat_lt d a.full) top x)
    by x y (inl p) (inl q) l m = rw (lt-ltb d a.full p, lt-ltb e b.full q) (sym (le-leb top top (omega arith)))
    by x y (inl p) (inr q) l m = rw (lt-ltb d a.full p, le-ltb e b.full q) (sym (le-leb y top (omega arith)))
    by x y (inr p) (inl q) l m = rw (le-ltb d a.full p, lt-ltb e b.full q, lt-leb b.full e q) (sym (lt-leb top x l))
    by x y (inr p) (inr q) l m = rw (le-ltb d a.full p, le-ltb e b.full q, le-leb b.full e q) refl

pub value-past : (top n : ℕ) (a : Shape) → IsLow top n a → (d : ℕ) → n ≤ d → value top a d ≡ 0
value-past top n a is d l = let off = le-ltb d a.full (front a is.short) in rw off (at-past a d (far a is.short))
  where
    front : (a : Shape) → a.full + length a.heights ≤ n → a.full ≤ d
    front a m = omega arith

    far : (a : Shape) → a.full + length a.heights ≤ n → a.full + length a.heights ≤ d
    far a m = omega arith

value-top : (top n : ℕ) (a : Shape) → IsLow top n a → (d : ℕ) → value top a d ≤ top
value-top top n a is d = by (nat_lt d a.full) (is.low d)
  where
    by : (q : Bool) → at a d < top → cond q top (at a d) ≤ top
    by true l = omega arith
    by false l = omega arith

-- at each place what the two slices ask is asked of their heights
beside : (t : ℤ) (top n : ℕ) (a b : Shape) (d : ℕ) → IsLow top n a → IsLow top n b →
    interlaces_at t a b d ≡ cond (grows t) (nat_le (value top a d) (value top b d) && nat_le (value top b (suc d)) (value top a d)) (nat_le (value top b d) (value top a d) && nat_le (value top a (suc d)) (value top b d))
beside (pos m) top n a b d la lb = rw (value-covers top a b d d (la.low d) (lb.low d), value-covers top b a d (suc d) (lb.low d) (la.low (suc d))) refl
beside (negsuc m) top n a b d la lb = rw (value-covers top b a d d (lb.low d) (la.low d), value-covers top a b d (suc d) (la.low d) (lb.low (suc d))) refl

asked : Bool → (ℕ → ℕ) → (ℕ → ℕ) → ℕ → Bool
asked g a b d = cond g (nat_le (a d) (b d) && nat_le (b (suc d)) (a d)) (nat_le (b d) (a d) && nat_le (a (suc d)) (b d))

-- of all places or of the first n: behind them there is nothing
asked-past : (g : Bool) (n d : ℕ) (a b : ℕ → ℕ) → ((d : ℕ) → n ≤ d → a d ≡ 0) → ((d : ℕ) → n ≤ d → b d ≡ 0) → n ≤ d → asked g a b d ≡ true
unfolding asked
asked-past g n d a b none none_too l = by g (a d) (b d) (a (suc d)) (b (suc d)) (none d l) (none_too d l) (none (suc d) (omega arith)) (none_too (suc d) (omega arith))
  where
    by : (g : Bool) (u v x y : ℕ) → u ≡ 0 → v ≡ 0 → x ≡ 0 → y ≡ 0 → cond g (nat_le u v && nat_le y u) (nat_le v u && nat_le x v) ≡ true
    by true u v x y e f p q = grind (arith, nat_tests)
    by false u v x y e f p q = grind (arith, nat_tests)

to-within : (g : Bool) (top n : ℕ) (a b : ℕ → ℕ) → b 0 ≤ top → ((d : ℕ) → asked g a b d ≡ true) → (d : ℕ) → within g top a d (b d) ≡ true
unfolding asked
to-within true top n a b l each zero = let h = each 0 in and_from (nat_le (a 0) (b 0)) (nat_le (b 0) top) (and_parts (nat_le (a 0) (b 0)) (nat_le (b 1) (a 0)) h).0 (le-leb (b 0) top l)
to-within true top n a b l each (suc d) =
    and_from (nat_le (a (suc d)) (b (suc d))) (nat_le (b (suc d)) (a d)) (and_parts (nat_le (a (suc d)) (b (suc d))) (nat_le (b (suc (suc d))) (a (suc d))) (each (suc d))).0 (and_parts (nat_le (a d) (b d)) (nat_le (b (suc d)) (a d)) (each d)).1
to-within false top n a b l each d = let parts = and_parts (nat_le (b d) (a d)) (nat_le (a (suc d)) (b d)) (each d) in and_from (nat_le (a (suc d)) (b d)) (nat_le (b d) (a d)) parts.1 parts.0

of-within : (g : Bool) (top n : ℕ) (a b : ℕ → ℕ) → ((d : ℕ) → n ≤ d → b d ≡ 0) → ((d : ℕ) → d < n → within g top a d (b d) ≡ true) → (d : ℕ) → d < n → asked g a b d ≡ true
unfolding asked
of-within true top n a b none each d l =
    and_from (nat_le (a d) (b d)) (nat_le (b (suc d)) (a d)) (and_parts (nat_le (a d) (b d)) (nat_le (b d) (before top a d)) (each d l)).0 (behind (cases_lt (suc d) n))
  where
    behind : (suc d < n) ⊎ (n ≤ suc d) → nat_le (b (suc d)) (a d) ≡ true
    behind (inl less) = (and_parts (nat_le (a (suc d)) (b (suc d))) (nat_le (b (suc d)) (a d)) (each (suc d) less)).1
    behind (inr more) = let z = none (suc d) more in le-leb (b (suc d)) (a d) (omega arith)
of-within false top n a b none each d l = let parts = and_parts (nat_le (a (suc d)) (b d)) (nat_le (b d) (a d)) (each d l) in and_from (nat_le (b d) (a d)) (nat_le (a (suc d)) (b d)) parts.1 parts.0

pub last-interlaces : LastInterlaces
unfolding asked
last-interlaces t top n a b la lb = both-ways (mixed (grows t) top n n (value top a) (value top b)) (interlaces t a b)
    (λ all. below-from (max (reach a) (reach b)) (interlaces_at t a b) (λ d m. beside t top n a b d la lb
    ∙ of-within (grows t) top n (value top a) (value top b) (value-past top n b lb) (λ e l. last-within (grows t) top n (value top a) (value top b) e l all) d (inside (reach a) (reach b) d la.short lb.short m)))
    (λ all. from-within (grows t) top n (value top a) (value top b) (λ d l. to-within (grows t) top n (value top a) (value top b) (value-top top n b lb 0) (each all) d))
  where
    inside : (p q d : ℕ) → p ≤ n → q ≤ n → d < max p q → d < n
    inside p q d l m h = omega arith

    past : (s : Shape) (d m : ℕ) → m ≤ d → reach s ≤ m → value top s d ≡ 0
    past s d m l r = let off = le-ltb d s.full (front s r) in rw off (at-past s d (far s r))
      where
        front : (s : Shape) → s.full + length s.heights ≤ m → s.full ≤ d
        front s h = omega arith

        far : (s : Shape) → s.full + length s.heights ≤ m → s.full + length s.heights ≤ d
        far s h = omega arith

    each : interlaces t a b ≡ true → (d : ℕ) → asked (grows t) (value top a) (value top b) d ≡ true
    each all d = by (cases_lt d (max (reach a) (reach b)))
      where
        by : (d < max (reach a) (reach b)) ⊎ (max (reach a) (reach b) ≤ d) → asked (grows t) (value top a) (value top b) d ≡ true
        by (inl less) = sym (beside t top n a b d la lb) ∙ below-at (max (reach a) (reach b)) (interlaces_at t a b) all d less
        by (inr more) = asked-past (grows t) (max (reach a) (reach b)) d (value top a) (value top b)
            (λ e l. past a e (max (reach a) (reach b)) l (omega arith)) (λ e l. past b e (max (reach a) (reach b)) l (omega arith)) more

-- ---- what is spent in the end

pub ends-in_leg : (legs : Legs) (t : ℤ) (b : Shape) → AreDiagrams legs → fits legs t b ≡ true → (d : ℕ) → nat_lt d b.full ≡ true → is_endless legs t d ≡ true
ends-in_leg legs t b are f d h = endless-first legs t d are ∙ (ap (nat_lt d) (sym (fits-full legs t b are f)) ∙ h)

-- a place without end has no extras
pub over-value : (legs : Legs) (t : ℤ) (top : ℕ) (b : Shape) (d : ℕ) → AreDiagrams legs → fits legs t b ≡ true → over legs t (value top b d) d ≡ over legs t (at b d) d
over-value legs t top b d are f = by (nat_lt d b.full) refl
  where
    by : (q : Bool) → nat_lt d b.full ≡ q → over legs t (cond q top (at b d)) d ≡ over legs t (at b d) d
    by true e = let on = ends-in_leg legs t b are f d e in rw on refl
    by false e = refl

pub last-spends : LastSpends
last-spends legs t top n b are f low =
    sum_of-each (λ d. cond (is_new (grows t) n n d) (over legs (t +ℤ pos 1) (value top b d) d) 0) (λ d. over legs (t +ℤ pos 1) (at b d) d) n
    (λ d l. ap (λ q. cond q (over legs (t +ℤ pos 1) (value top b d) d) 0) (all-new (grows t) n d l) ∙ over-value legs (t +ℤ pos 1) top b d are f)
    ∙ sum_of-up_to (λ d. over legs (t +ℤ pos 1) (at b d) d) (reach b) n (λ d l. ap (λ h. over legs (t +ℤ pos 1) h d) (at-past b d l) ∙ none (is_endless legs (t +ℤ pos 1) d) (base_at legs (t +ℤ pos 1) d)) low.short
  where
    none : (q : Bool) (b : ℕ) → cond q 0 (0 - b) ≡ 0
    none true b = refl
    none false b = omega arith
