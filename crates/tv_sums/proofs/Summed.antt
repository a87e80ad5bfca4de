-- What comes to a slice, where all places are replaced.
--
-- short-beside   a slice that interlaces with a shorter one has at most one place more
-- low-or         a slice fits, is low and has few extras, or nothing comes to it
-- key-sums       what comes to a slice are the ways up to its heights
-- key-kept       and these are kept as far
use Rattle.std.proofs.Common.{◌≡◌, ℕ, zero, suc, ◌+◌, ◌-◌, ◌<◌, ◌≤◌, ℤ, pos, negsuc, ◌+ℤ◌, Bool, true, false, List, [], ◌∷◌, length, refl, sym, ◌∙◌, ap, subst, arith, inl, inr}
use Rattle.std.specs.Prelude.{cond, max, ◌⊎◌, ◌&&◌, ◌||◌, nat_lt, nat_le, slice_index}
use Rattle.std.specs.List.{AllByRecursion}
use Rattle.std.proofs.lemmas.Bool.{cases_lt, and_parts, le-ltb, lt-leb, leb-true}
use Rattle.tv_lemmas.specs.Sums.{sum_of}
use Rattle.tv_cells.specs.declared.legs.Legs.{Legs}
use Rattle.tv_cells.specs.Extras.{extent, AreDiagrams}
use Rattle.tv_spec_slices.specs.Falling.{falls}
use Rattle.tv_spec_slices.specs.Slices.{Shape, at, reach, covers, all_below, interlaces_at, interlaces, fits_at, fits, extras_of, completion}
use Rattle.tv_spec_slices.specs.Paths.{ways_at}
use Rattle.tv_laws_slices.proofs.Sums.{sum_of-zero}
use Rattle.tv_laws_slices.proofs.Pushed.{sum_of-all}
use Rattle.tv_laws_slices.proofs.Fits.{below-at, falls-parts}
use Rattle.tv_laws_slices.proofs.Steps.{at-past}
use Rattle.tv_laws_slices.proofs.Taken.{height-few}
use Rattle.tv_laws_sums.specs.Mixed.{value}
use Rattle.tv_laws_sums.specs.Sums.{charged, kept, left, through}
use Rattle.tv_laws_sums.specs.Laws.{IsLow, AreLow}
use Rattle.tv_laws_sums.proofs.Last.{last-sums}
use Rattle.tv_laws_sums.proofs.Left.{left-ends}
use Rattle.tv_slices.specs.Tables.{known}
use Rattle.tv_sums.specs.Plans.{plan_for}
use Rattle.tv_sums.specs.Keys.{key}
use Rattle.tv_sums.specs.Parts.{kept_in, ways_in, summed}
use Rattle.tv_sums.proofs.Ends.{heights-at}

some-height : (hs : List ℕ) (i : ℕ) → falls hs ≡ true → i < length hs → 0 < slice_index hs i
some-height [] i f l = absurd (omega arith)
some-height (h ∷ hs) zero f l = (falls-parts h hs f).0
some-height (h ∷ hs) (suc i) f l = some-height hs i (falls-parts h hs f).2 (omega arith)

-- a place of b that a covers past its own reach has no height
no-cover : (a b : Shape) (d p : ℕ) → falls b.heights ≡ true → reach a ≤ d → p < reach b → covers a d b p ≡ true → ⊥
no-cover a b d p f far inside h =
    let off : nat_lt d a.full ≡ false = le-ltb d a.full (omega arith) in
    let both = and_parts (nat_le b.full p) (nat_le (at b p) (at a d)) (sym (ap (λ q. q || (nat_le b.full p && nat_le (at b p) (at a d))) off) ∙ h) in
    let from = leb-true b.full p both.0 in
    let low = leb-true (at b p) (at a d) both.1 in
    let none = at-past a d far in
    let some = some-height b.heights (p - b.full) f (omega arith) in
    apart (at b p) (at a d) low none some
  where
    apart : (x y : ℕ) → x ≤ y → y ≡ 0 → 0 < x → ⊥
    apart x y l e p = omega arith

pub short-beside : (t : ℤ) (a b : Shape) (n : ℕ) → falls b.heights ≡ true → interlaces t a b ≡ true → reach a < n → reach b ≤ n
short-beside (pos m) a b n f h l = elim (cases_lt n (reach b)) [
  | inl long ↦
      let p = reach b - 1 in
      let here = below-at (max (reach a) (reach b)) (interlaces_at (pos m) a b) h p (inside (reach a) (reach b) p (omega arith)) in
      absurd (no-cover a b p p f (omega arith) (omega arith) (and_parts (covers a p b p) (covers b p a (suc p)) here).0)
  | inr short ↦ short
]
  where
    inside : (x y p : ℕ) → p < y → p < max x y
    inside x y p l = omega arith
short-beside (negsuc m) a b n f h l = elim (cases_lt n (reach b)) [
  | inl long ↦
      let d = reach b - 2 in
      let here = below-at (max (reach a) (reach b)) (interlaces_at (negsuc m) a b) h d (inside (reach a) (reach b) d (omega arith)) in
      absurd (no-cover a b d (suc d) f (omega arith) (omega arith) (and_parts (covers b d a d) (covers a d b (suc d)) here).1)
  | inr short ↦ short
]
  where
    inside : (x y p : ℕ) → p < y → p < max x y
    inside x y p l = omega arith

module _ (legs : Legs) (k : ℕ) (t : ℤ) (top n : ℕ) (slices : List Shape) (are : AreDiagrams legs) (highest : top ≡ suc (k + extent legs)) where
  abbrev u : ℤ
  u = t +ℤ pos 1

  pub few-low : (s : Shape) → fits legs u s ≡ true → extras_of legs u s ≤ k → reach s ≤ n → IsLow top n s
  few-low s f few short = record { short = short; low = λ d. under (at s d) (height-few legs u s k are f few d) }
    where
      under : (x : ℕ) → x ≤ k + extent legs → x < top
      under x l = let e = highest in omega arith

  pub low-or : AllByRecursion (λ a. reach a < n) slices → (s : Shape) →
      ((fits legs u s ≡ true) × (IsLow top n s × (extras_of legs u s ≤ k))) ⊎ ((c : ℕ) → c < known legs k u s → summed legs k t slices s c ≡ 0)
  low-or all s = by_fit (fits legs u s) refl
    where
      value_at : ℕ → Shape → ℕ
      value_at c a = cond (interlaces t a s) (charged (ways_at legs k t a) (extras_of legs u s) c) 0

      nothing : (q : Bool) → cond {A = ℕ} q 0 0 ≡ 0
      nothing true = refl
      nothing false = refl

      dear : k < extras_of legs u s → (c : ℕ) → c < known legs k u s → sum_of (value_at c) slices ≡ 0
      dear more c l = sum_of-zero (value_at c) (λ a. ap (λ q. cond (interlaces t a s) (cond q (ways_at legs k t a (c - extras_of legs u s)) 0) 0) (lt-leb (extras_of legs u s) c (less (extras_of legs u s) (completion legs u s) more l)) ∙ nothing (interlaces t a s)) slices
        where
          less : (x p : ℕ) → k < x → c < suc k - p → c < x
          less x p m l = omega arith

      apart : falls s.heights ≡ true → n < reach s → (a : Shape) → reach a < n → (q : Bool) → interlaces t a s ≡ q → (v : ℕ) → cond q v 0 ≡ 0
      apart f long a short true e v = absurd (let l = short-beside t a s n f e short in omega (arith, l, long))
      apart f long a short false e v = refl

      far : falls s.heights ≡ true → n < reach s → (c : ℕ) → sum_of (value_at c) slices ≡ 0
      far f long c = sum_of-all (λ a. reach a < n) (value_at c) (λ a. 0) (λ a short. apart f long a short (interlaces t a s) refl (charged (ways_at legs k t a) (extras_of legs u s) c)) slices all ∙ sum_of-zero (λ (a : Shape). 0) (λ a. refl) slices

      by_fit : (q : Bool) → fits legs u s ≡ q → ((q ≡ true) × (IsLow top n s × (extras_of legs u s ≤ k))) ⊎ ((c : ℕ) → c < known legs k u s → cond q (sum_of (value_at c) slices) 0 ≡ 0)
      by_fit false e = inr (λ c l. refl)
      by_fit true e = elim (cases_lt k (extras_of legs u s)) [
        | inl more ↦ inr (dear more)
        | inr few ↦ elim (cases_lt n (reach s)) [
          | inl long ↦ inr (λ c l. far (and_parts (falls s.heights) (all_below (max (reach s) (extent legs)) (fits_at legs u s)) e).0 long c)
          | inr short ↦ inl (refl, (few-low s e few short, few))
        ]
      ]

  pub key-sums : AreLow top n slices → (s : Shape) → fits legs u s ≡ true → IsLow top n s → (c : ℕ) → ways_in legs t (plan_for k t top n) n slices (key (value top s) n) c ≡ summed legs k t slices s c
  key-sums all s f low c =
      ap (λ h. through legs k t top n n slices h c) (heights-at legs k t top n s are f low)
      ∙ (last-sums legs k t top n slices s c are f low all ∙ sym (ap (λ q. cond q (sum_of (λ a. cond (interlaces t a s) (charged (ways_at legs k t a) (extras_of legs u s) c) 0) slices) 0) f))

  pub key-kept : (s : Shape) → fits legs u s ≡ true → IsLow top n s → known legs k u s ≤ kept_in legs (plan_for k t top n) n (key (value top s) n)
  key-kept s f low =
      subst (λ h. known legs k u s ≤ kept k (left legs t n n h)) (sym (heights-at legs k t top n s are f low))
      (fewer (left legs t n n (value top s)) (completion legs u s) (left-ends legs t top n s are f low))
    where
      fewer : (a b : ℕ) → a ≤ b → suc k - b ≤ suc k - a
      fewer a b l = omega arith
