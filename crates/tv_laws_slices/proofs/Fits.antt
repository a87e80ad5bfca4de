-- A slice fits exactly where its places without end are those in the leg along z and its heights are as asked.
--
-- below-at, below-from   a test below n, at one number, and from all of them
-- falls-parts, falls-from  what falls, by its first height and the others
-- extras-spent           the extras of a slice are what its heights are above the legs
-- fits-full              what fits has the places without end that the legs have
-- fits-asked             what has them fits, with m extras, exactly where its heights are as asked
use Rattle.std.specs.Prelude.{◌≡◌, ℕ, zero, suc, ◌+◌, ◌-◌, ◌<◌, ◌≤◌, ℤ, max, Bool, true, false, not, cond, ◌&&◌, nat_eq, nat_lt, nat_le, List, [], ◌∷◌, length, slice_index}
use Rattle.std.specs.List.{range_with_len}
use Rattle.std.specs.Cmp.{both_ways}
use Rattle.std.proofs.Common.{refl, sym, ap, ◌∙◌, arith, inl, inr}
use Rattle.std.proofs.lemmas.Bool.{cases_lt, cases_eq, cond-true, cond-false, and_parts, and_from, lt-ltb, le-ltb, le-leb, eq-eqb, leb-true, eqb-true}
use Rattle.std.proofs.lemmas.Bool.Decides.{nat_tests}
use Rattle.tv_lemmas.specs.Sums.{sum_of}
use Rattle.tv_cells.specs.declared.legs.Legs.{Legs}
use Rattle.tv_cells.specs.Extras.{extent, AreDiagrams}
use Rattle.tv_spec_slices.specs.Falling.{falls}
use Rattle.tv_spec_slices.specs.Slices.{Shape, at, reach, all_below, base_at, is_endless, over, fits_at, fits, extras_of}
use Rattle.tv_spec_slices.specs.Paths.{full_of}
use Rattle.tv_laws_slices.proofs.Sums.{sum_of-zeros, sum_of-range}
use Rattle.tv_laws_slices.proofs.Listed.{high, spent, asked}
use Rattle.tv_laws_slices.proofs.Bases.{base-further, base-past, endless-first}

pub below-at : (n : ℕ) (test : ℕ → Bool) → all_below n test ≡ true → (i : ℕ) → i < n → test i ≡ true
below-at zero test h i l = absurd (omega arith)
below-at (suc n) test h i l =
    let parts = and_parts (all_below n test) (test n) h in
    elim (cases_eq i n) [
      | inl e ↦ ap test e ∙ parts.1
      | inr ne ↦ below-at n test parts.0 i (omega (arith, ne))
    ]

pub below-from : (n : ℕ) (test : ℕ → Bool) → ((i : ℕ) → i < n → test i ≡ true) → all_below n test ≡ true
below-from zero test each = refl
below-from (suc n) test each = and_from (all_below n test) (test n) (below-from n test (λ i l. each i (omega arith))) (each n (omega arith))

pub falls-parts : (h : ℕ) (hs : List ℕ) → falls (h ∷ hs) ≡ true → (0 < h) × (slice_index hs 0 ≤ h) × (falls hs ≡ true)
falls-parts h [] f = (grind (arith, nat_tests), omega arith, refl)
falls-parts h (k ∷ hs) f =
    let parts = and_parts (nat_le k h) (falls (k ∷ hs)) f in
    let rest = falls-parts k hs parts.1 in
    let low = leb-true k h parts.0 in
    (omega (arith, rest.0), low, parts.1)

pub falls-from : (h : ℕ) (hs : List ℕ) → 0 < h → slice_index hs 0 ≤ h → falls hs ≡ true → falls (h ∷ hs) ≡ true
falls-from h [] p l f = lt-ltb 0 h p
falls-from h (k ∷ hs) p l f = and_from (nat_le k h) (falls (k ∷ hs)) (le-leb k h l) f

-- the heights from place d on are everywhere at least b
abbrev pub IsAbove : (ℕ → ℕ) → ℕ → List ℕ → Type 0
IsAbove b d hs = (i : ℕ) → b (d + i) ≤ slice_index hs i

above-tail : (b : ℕ → ℕ) (d h : ℕ) (hs : List ℕ) → IsAbove b d (h ∷ hs) → IsAbove b (suc d) hs
above-tail b d h hs above i =
    let e : suc d + i ≡ d + suc i = omega arith in
    let here = above (suc i) in
    rw e here

above-first : (b : ℕ → ℕ) (d h : ℕ) (hs : List ℕ) → IsAbove b d (h ∷ hs) → b d ≤ h
above-first b d h hs above = let e : d + 0 ≡ d = omega arith in let here = above 0 in rw e at here

pub high-from : (b : ℕ → ℕ) (d top : ℕ) (hs : List ℕ) → falls hs ≡ true → IsAbove b d hs → slice_index hs 0 ≤ top → high b d top hs ≡ true
high-from b d top [] f above l =
    let e : d + 0 ≡ d = omega arith in
    let here = above 0 in
    let none : b d ≤ 0 = rw e at here in
    eq-eqb (b d) 0 (omega arith)
high-from b d top (h ∷ hs) f above l =
    let parts = falls-parts h hs f in
    and_from (nat_lt 0 h && nat_le h top) (nat_le (b d) h && high b (suc d) h hs)
    (and_from (nat_lt 0 h) (nat_le h top) (lt-ltb 0 h parts.0) (le-leb h top l))
    (and_from (nat_le (b d) h) (high b (suc d) h hs) (le-leb (b d) h (above-first b d h hs above))
    (high-from b (suc d) h hs parts.2 (above-tail b d h hs above) parts.1))

above-cons : (b : ℕ → ℕ) (d h : ℕ) (hs : List ℕ) → b d ≤ h → IsAbove b (suc d) hs → IsAbove b d (h ∷ hs)
above-cons b d h hs l rest zero = let e : d + 0 ≡ d = omega arith in rw e l
above-cons b d h hs l rest (suc i) = let e : d + suc i ≡ suc d + i = omega arith in let here = rest i in rw e here

pub high-to : (b : ℕ → ℕ) → ((d i : ℕ) → b (d + i) ≤ b d) → (d top : ℕ) (hs : List ℕ) → high b d top hs ≡ true → (falls hs ≡ true) × (slice_index hs 0 ≤ top) × IsAbove b d hs
high-to b further d top [] h = (refl, omega arith, λ i. none i (eqb-true (b d) 0 h) (further d i))
  where
    none : (i : ℕ) → b d ≡ 0 → b (d + i) ≤ b d → b (d + i) ≤ 0
    none i e l = omega arith
high-to b further d top (x ∷ hs) h =
    let tests = and_parts (nat_lt 0 x && nat_le x top) (nat_le (b d) x && high b (suc d) x hs) h in
    let others = and_parts (nat_le (b d) x) (high b (suc d) x hs) tests.1 in
    let rest = high-to b further (suc d) x hs others.1 in
    (falls-from x hs (not-none x top tests.0) rest.1 rest.0, low x top tests.0, above-cons b d x hs (leb-true (b d) x others.0) rest.2)
  where
    not-none : (x top : ℕ) → (nat_lt 0 x && nat_le x top) ≡ true → 0 < x
    not-none x top h = grind (arith, nat_tests)

    low : (x top : ℕ) → (nat_lt 0 x && nat_le x top) ≡ true → x ≤ top
    low x top h = grind (arith, nat_tests)

-- heights above b are few: each past the place e, from which on b is 0, is an extra
pub length-most : (b : ℕ → ℕ) (e : ℕ) → ((i : ℕ) → e ≤ i → b i ≡ 0) → (d : ℕ) (hs : List ℕ) → falls hs ≡ true → length hs ≤ (e - d) + spent b d hs
length-most b e none d [] f = omega arith
length-most b e none d (h ∷ hs) f =
    let parts = falls-parts h hs f in
    let rest = length-most b e none (suc d) hs parts.2 in
    elim (cases_lt d e) [
      | inl l ↦ omega arith
      | inr l ↦ let zero_here = none d l in let first = parts.0 in omega arith
    ]

pub spent-sum : (b f : ℕ → ℕ) (d : ℕ) (hs : List ℕ) → ((i : ℕ) → f (d + i) ≡ slice_index hs i - b (d + i)) → sum_of f (range_with_len d (length hs)) ≡ spent b d hs
spent-sum b f d [] each = refl
spent-sum b f d (h ∷ hs) each =
    let e : d + 0 ≡ d = omega arith in
    let first = each 0 in
    let here : f d ≡ h - b d = rw e at first in
    let rest = spent-sum b f (suc d) hs (λ i. each_next i (each (suc i))) in
    let s : d + 1 ≡ suc d = omega arith in
    rw s (omega arith)
  where
    each_next : (i : ℕ) → f (d + suc i) ≡ slice_index (h ∷ hs) (suc i) - b (d + suc i) → f (suc d + i) ≡ slice_index hs i - b (suc d + i)
    each_next i here = let e : suc d + i ≡ d + suc i = omega arith in rw e here

pub extras-spent : (legs : Legs) (t : ℤ) (s : Shape) → AreDiagrams legs → s.full ≡ full_of legs t (extent legs) → extras_of legs t s ≡ spent (base_at legs t) s.full s.heights
extras-spent legs t s are same =
    sum_of-range f 0 s.full (length s.heights)
    ∙ (ap (λ v. v + sum_of f (range_with_len (0 + s.full) (length s.heights))) (sum_of-zeros f 0 s.full endless)
    ∙ (none_plus (sum_of f (range_with_len (0 + s.full) (length s.heights)))
    ∙ (ap (λ k. sum_of f (range_with_len k (length s.heights))) (none_plus s.full)
    ∙ spent-sum (base_at legs t) f s.full s.heights finite)))
  where
    none_plus : (k : ℕ) → 0 + k ≡ k
    none_plus k = omega arith

    less : (i k n : ℕ) → k ≡ n → i < 0 + k → i < n
    less i k n e l = omega arith

    past : (i k n : ℕ) → k ≡ n → n ≤ k + i
    past i k n e = omega arith

    behind : (i k : ℕ) → (k + i) - k ≡ i
    behind i k = omega arith

    f : ℕ → ℕ
    f = λ d. over legs t (at s d) d

    endless : (i : ℕ) → 0 ≤ i → i < 0 + s.full → over legs t (at s i) i ≡ 0
    endless i l m =
        cond-true (is_endless legs t i) 0 (at s i - base_at legs t i)
        (endless-first legs t i are ∙ lt-ltb i (full_of legs t (extent legs)) (less i s.full (full_of legs t (extent legs)) same m))

    finite : (i : ℕ) → over legs t (at s (s.full + i)) (s.full + i) ≡ slice_index s.heights i - base_at legs t (s.full + i)
    finite i =
        cond-false (is_endless legs t (s.full + i)) 0 (at s (s.full + i) - base_at legs t (s.full + i))
        (endless-first legs t (s.full + i) are ∙ le-ltb (s.full + i) (full_of legs t (extent legs)) (past i s.full (full_of legs t (extent legs)) same))
        ∙ ap (λ k. slice_index s.heights k - base_at legs t (s.full + i)) (behind i s.full)

pub full-inside : (legs : Legs) (t : ℤ) (n : ℕ) → full_of legs t n ≤ n
full-inside legs t zero = omega arith
full-inside legs t (suc n) = by_test (is_endless legs t n) (full-inside legs t n)
  where
    by_test : (c : Bool) → full_of legs t n ≤ n → cond c (suc n) (full_of legs t n) ≤ suc n
    by_test true l = omega arith
    by_test false l = omega arith

-- what the test at one place tells: c says that it is without end in the slice, e that it is so in the leg
one-end : (c e q : Bool) → cond c e (not e && q) ≡ true → c ≡ e
one-end true true q h = refl
one-end true false q h = absurd (cc)
one-end false true q h = absurd (cc)
one-end false false q h = refl

one-high : (c e q : Bool) → c ≡ false → cond c e (not e && q) ≡ true → q ≡ true
one-high true e q f h = absurd (cc)
one-high false true q f h = absurd (cc)
one-high false false q f h = h

pub one-fits : (c e q : Bool) → e ≡ c → (c ≡ false → q ≡ true) → cond c e (not e && q) ≡ true
one-fits true true q f high = refl
one-fits true false q f high = absurd (cc)
one-fits false true q f high = absurd (cc)
one-fits false false q f high = high refl

first-most : (a b c : ℕ) → a ≤ max (a + b) c
first-most a b c = omega arith

pub second-most : (a b : ℕ) → b ≤ max a b
second-most a b = omega arith

pub fits-ends : (legs : Legs) (t : ℤ) (s : Shape) → fits legs t s ≡ true → (d : ℕ) → d < max (reach s) (extent legs) → nat_lt d s.full ≡ is_endless legs t d
fits-ends legs t s h d l =
    one-end (nat_lt d s.full) (is_endless legs t d) (nat_le (base_at legs t d) (at s d))
    (below-at (max (reach s) (extent legs)) (fits_at legs t s) (and_parts (falls s.heights) (all_below (max (reach s) (extent legs)) (fits_at legs t s)) h).1 d l)

pub fits-full : (legs : Legs) (t : ℤ) (s : Shape) → AreDiagrams legs → fits legs t s ≡ true → s.full ≡ full_of legs t (extent legs)
fits-full legs t s are h =
    alike s.full (full_of legs t (extent legs)) (max (reach s) (extent legs))
    (first-most s.full (length s.heights) (extent legs))
    (through (full_of legs t (extent legs)) (extent legs) (max (reach s) (extent legs)) (full-inside legs t (extent legs)) (second-most (reach s) (extent legs)))
    (λ d l. fits-ends legs t s h d l ∙ endless-first legs t d are)
  where
    through : (a b c : ℕ) → a ≤ b → b ≤ c → a ≤ c
    through a b c l m = omega arith

    alike : (a b n : ℕ) → a ≤ n → b ≤ n → ((d : ℕ) → d < n → nat_lt d a ≡ nat_lt d b) → a ≡ b
    alike a b n l m same = elim (cases_lt a b) [
      | inl less ↦ absurd (let e = same a (omega arith) in let f = lt-ltb a b less in let g = le-ltb a a (omega arith) in cc)
      | inr more ↦ elim (cases_lt b a) [
        | inl less ↦ absurd (let e = same b (omega arith) in let f = lt-ltb b a less in let g = le-ltb b b (omega arith) in cc)
        | inr also ↦ omega arith
      ]
    ]

pub fits-above : (legs : Legs) (t : ℤ) (s : Shape) → fits legs t s ≡ true → IsAbove (base_at legs t) s.full s.heights
fits-above legs t s h i = elim (cases_lt (s.full + i) (extent legs)) [
  | inl l ↦
      let tests = (and_parts (falls s.heights) (all_below (max (reach s) (extent legs)) (fits_at legs t s)) h).1 in
      let here = below-at (max (reach s) (extent legs)) (fits_at legs t s) tests (s.full + i) (further (s.full + i) (extent legs) (reach s) l) in
      let high = one-high (nat_lt (s.full + i) s.full) (is_endless legs t (s.full + i)) (nat_le (base_at legs t (s.full + i)) (at s (s.full + i))) (le-ltb (s.full + i) s.full (omega arith)) here in
      leb-true (base_at legs t (s.full + i)) (slice_index s.heights i) (ap (λ k. nat_le (base_at legs t (s.full + i)) (slice_index s.heights k)) (behind i s.full) ∙ high)
  | inr m ↦ none (base_at legs t (s.full + i)) (slice_index s.heights i) (base-past legs t (s.full + i) m)
]
  where
    behind : (i k : ℕ) → i ≡ (k + i) - k
    behind i k = omega arith

    further : (a b c : ℕ) → a < b → a < max c b
    further a b c l = omega arith

    none : (b h : ℕ) → b ≡ 0 → b ≤ h
    none b h e = omega arith

pub first-spent : (b : ℕ → ℕ) (d : ℕ) (hs : List ℕ) → slice_index hs 0 ≤ b d + spent b d hs
first-spent b d [] = omega arith
first-spent b d (h ∷ hs) = omega arith

fits-onto : (legs : Legs) (t : ℤ) (s : Shape) (m : ℕ) → AreDiagrams legs → s.full ≡ full_of legs t (extent legs) →
    (fits legs t s && nat_eq (extras_of legs t s) m) ≡ true → asked (base_at legs t) s.full (extent legs + m) (base_at legs t s.full + m) m s.heights ≡ true
fits-onto legs t s m are same h =
    let parts = and_parts (fits legs t s) (nat_eq (extras_of legs t s) m) h in
    let b = base_at legs t in
    let fall = (and_parts (falls s.heights) (all_below (max (reach s) (extent legs)) (fits_at legs t s)) parts.0).0 in
    let sum : spent b s.full s.heights ≡ m = sym (extras-spent legs t s are same) ∙ eqb-true (extras_of legs t s) m parts.1 in
    and_from (high b s.full (b s.full + m) s.heights) (nat_le (length s.heights) (extent legs + m) && nat_eq (spent b s.full s.heights) m)
    (high-from b s.full (b s.full + m) s.heights fall (fits-above legs t s parts.0) (most (slice_index s.heights 0) (b s.full) (spent b s.full s.heights) sum (first-spent b s.full s.heights)))
    (and_from (nat_le (length s.heights) (extent legs + m)) (nat_eq (spent b s.full s.heights) m)
    (le-leb (length s.heights) (extent legs + m) (few (length s.heights) (extent legs) s.full (spent b s.full s.heights) sum (length-most b (extent legs) (λ i l. base-past legs t i l) s.full s.heights fall)))
    (eq-eqb (spent b s.full s.heights) m sum))
  where
    most : (h b s : ℕ) → s ≡ m → h ≤ b + s → h ≤ b + m
    most h b s e l = omega arith

    few : (l e f s : ℕ) → s ≡ m → l ≤ (e - f) + s → l ≤ e + m
    few l e f s same h = omega arith

fits-back : (legs : Legs) (t : ℤ) (s : Shape) (m : ℕ) → AreDiagrams legs → s.full ≡ full_of legs t (extent legs) →
    asked (base_at legs t) s.full (extent legs + m) (base_at legs t s.full + m) m s.heights ≡ true → (fits legs t s && nat_eq (extras_of legs t s) m) ≡ true
fits-back legs t s m are same h =
    let b = base_at legs t in
    let parts = and_parts (high b s.full (b s.full + m) s.heights) (nat_le (length s.heights) (extent legs + m) && nat_eq (spent b s.full s.heights) m) h in
    let sum = (and_parts (nat_le (length s.heights) (extent legs + m)) (nat_eq (spent b s.full s.heights) m) parts.1).1 in
    let fall = high-to b (base-further legs t are) s.full (b s.full + m) s.heights parts.0 in
    and_from (fits legs t s) (nat_eq (extras_of legs t s) m)
    (and_from (falls s.heights) (all_below (max (reach s) (extent legs)) (fits_at legs t s)) fall.0
    (below-from (max (reach s) (extent legs)) (fits_at legs t s) (λ i l. one-fits (nat_lt i s.full) (is_endless legs t i) (nat_le (base_at legs t i) (at s i))
    (endless-first legs t i are ∙ ap (nat_lt i) (sym same)) (λ far. le-leb (base_at legs t i) (at s i) (place i far fall.2)))))
    (ap (λ k. nat_eq k m) (extras-spent legs t s are same) ∙ sum)
  where
    place : (i : ℕ) → nat_lt i s.full ≡ false → IsAbove (base_at legs t) s.full s.heights → base_at legs t i ≤ at s i
    place i far above =
        let e : s.full + (i - s.full) ≡ i = grind (arith, nat_tests) in
        let here = above (i - s.full) in
        rw e at here

pub fits-asked : (legs : Legs) (t : ℤ) (s : Shape) (m : ℕ) → AreDiagrams legs → s.full ≡ full_of legs t (extent legs) →
    (fits legs t s && nat_eq (extras_of legs t s) m) ≡ asked (base_at legs t) s.full (extent legs + m) (base_at legs t s.full + m) m s.heights
fits-asked legs t s m are same =
    both_ways (fits legs t s && nat_eq (extras_of legs t s) m) (asked (base_at legs t) s.full (extent legs + m) (base_at legs t s.full + m) m s.heights)
    (fits-onto legs t s m are same) (fits-back legs t s m are same)
