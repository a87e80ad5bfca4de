-- Each slice that fits is listed once, by its number of extras and in all.
use Rattle.std.specs.Prelude.{◌≡◌, ℕ, zero, suc, ◌+◌, ◌≤◌, ℤ, Bool, true, false, cond, ◌&&◌, nat_eq, nat_lt, nat_le, List, map}
use Rattle.std.specs.List.{range_with_len}
use Rattle.std.specs.Cmp.Lexicographic.{pointwise}
use Rattle.std.proofs.Common.{refl, sym, ap, ◌∙◌, arith, inl, inr}
use Rattle.std.proofs.lemmas.Bool.{cases_eq, cond-true, cond-false, eq-eqb, ne_eqb, and_left, false_from_ne_true}
use Rattle.std.proofs.lemmas.Bool.Decides.{nat_tests}
use Rattle.tv_lemmas.specs.Sums.{sum_of}
use Rattle.tv_lemmas.proofs.Sums.{sum_of-flat_map, sum_of-map}
use Rattle.tv_cells.specs.declared.legs.Legs.{Legs}
use Rattle.tv_cells.specs.Cells.{below}
use Rattle.tv_cells.specs.Extras.{bit, extent, AreDiagrams}
use Rattle.tv_spec_slices.specs.Slices.{Shape, base_at, fits, extras_of, same_shape}
use Rattle.tv_spec_slices.specs.Paths.{columns, full_of, shape, fitting_by, fitting}
use Rattle.tv_laws_slices.specs.Laws.{often, SlicesOnce}
use Rattle.tv_laws_slices.proofs.Sums.{sum_of-same, sum_of-zero}
use Rattle.tv_laws_slices.proofs.Listed.{listed, listed-once}
use Rattle.tv_laws_slices.proofs.Bases.{base-past}
use Rattle.tv_laws_slices.proofs.Fits.{fits-full, fits-asked}

with_heights : (s : Shape) (full : ℕ) (lists : List (List ℕ)) → often s (map (shape full) lists) ≡ cond (nat_eq s.full full) (listed s.heights lists) 0
with_heights s full lists = sum_of-map (λ a. bit (same_shape s a)) (shape full) lists ∙ by_test (nat_eq s.full full)
  where
    by_test : (q : Bool) → sum_of (λ ks. bit (q && pointwise nat_eq s.heights ks)) lists ≡ cond q (listed s.heights lists) 0
    by_test true = refl
    by_test false = sum_of-zero (λ (ks : List ℕ). 0) (λ ks. refl) lists

pub once-by : (legs : Legs) (t : ℤ) (m : ℕ) (s : Shape) → AreDiagrams legs → often s (fitting_by legs t m) ≡ bit (fits legs t s && nat_eq (extras_of legs t s) m)
once-by legs t m s are =
    with_heights s full (lists full) ∙ elim (cases_eq s.full full) [
      | inl e ↦
          cond-true (nat_eq s.full full) (listed s.heights (lists full)) 0 (eq-eqb s.full full e)
          ∙ (ap (λ f. listed s.heights (lists f)) (sym e)
          ∙ (listed-once legs t s.full (extent legs + m) (base_at legs t s.full + m) m s.heights (base-past legs t (s.full + (extent legs + m)) (far s.full (extent legs)))
          ∙ ap bit (sym (fits-asked legs t s m are e))))
      | inr ne ↦
          cond-false (nat_eq s.full full) (listed s.heights (lists full)) 0 (ne_eqb s.full full ne)
          ∙ ap bit (sym (and_left (fits legs t s) (nat_eq (extras_of legs t s) m) (false_from_ne_true (fits legs t s) (λ h. ne (fits-full legs t s are h)))))
    ]
  where
    full : ℕ
    full = full_of legs t (extent legs)

    lists : ℕ → List (List ℕ)
    lists f = columns legs t f (extent legs + m) (base_at legs t f + m) m

    far : (f e : ℕ) → e ≤ f + (e + m)
    far f e = omega arith

-- of k, k + 1, .., n numbers, one is x or none
one_of : (q : Bool) (x k n : ℕ) → sum_of (λ i. bit (q && nat_eq x i)) (range_with_len k n) ≡ bit (q && (nat_le k x && nat_lt x (k + n)))
one_of q x k zero = none q
  where
    none : (q : Bool) → 0 ≡ bit (q && (nat_le k x && nat_lt x (k + 0)))
    none q = grind (arith, nat_tests)
one_of q x k (suc n) = ap (λ s. bit (q && nat_eq x k) + s) (one_of q x (k + 1) n) ∙ step q
  where
    step : (q : Bool) → bit (q && nat_eq x k) + bit (q && (nat_le (k + 1) x && nat_lt x ((k + 1) + n))) ≡ bit (q && (nat_le k x && nat_lt x (k + suc n)))
    step q = grind (arith, nat_tests)

pub once-all : (legs : Legs) (t : ℤ) (k : ℕ) (s : Shape) → AreDiagrams legs → often s (fitting legs t k) ≡ bit (fits legs t s && nat_le (extras_of legs t s) k)
once-all legs t k s are =
    sum_of-flat_map (λ a. bit (same_shape s a)) (fitting_by legs t) (below (suc k))
    ∙ (sum_of-same (λ m. often s (fitting_by legs t m)) (λ m. bit (fits legs t s && nat_eq (extras_of legs t s) m)) (λ m. once-by legs t m s are) (below (suc k))
    ∙ (one_of (fits legs t s) (extras_of legs t s) 0 (suc k) ∙ in_range (fits legs t s) (extras_of legs t s)))
  where
    in_range : (q : Bool) (x : ℕ) → bit (q && (nat_le 0 x && nat_lt x (0 + suc k))) ≡ bit (q && nat_le x k)
    in_range q x = grind (arith, nat_tests)

pub slices-once : SlicesOnce
slices-once = record { with_extras = once-by; in_all = once-all }
