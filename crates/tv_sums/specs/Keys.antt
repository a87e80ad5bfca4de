-- Heights of n places as keys of a map.
--
-- key h n        == the heights h 0, .., h (n - 1), as a slice
-- IsKey top n s  == the slice is such a key, of heights that are at most top
-- opened plan i s == the key s with height 0 at the place that is replaced after i others
-- cut_from h d n == the heights h d, .., h (d + n - 1), up to the first 0
-- cut h full n   == the slice with full places without end, and behind them the heights before place n, up to the first 0
use Rattle.std.specs.Prelude.{◌≡◌, ℕ, zero, suc, ◌-◌, ◌≤◌, cond, nat_eq, List, [], ◌∷◌, length}
use Rattle.tv_laws_series.specs.Terms.{listed}
use Rattle.tv_spec_slices.specs.Slices.{Shape, at}
use Rattle.tv_spec_slices.specs.Paths.{shape}
use Rattle.tv_laws_sums.specs.Mixed.{place, put}
use Rattle.tv_sums.specs.declared.plan.Plan.{Plan}

abbrev pub key : (ℕ → ℕ) → ℕ → Shape
key h n = shape 0 (listed h n)

pub record IsKey (top n : ℕ) (s : Shape) : Type 0 where
  pub full : s.full ≡ 0
  pub length : length s.heights ≡ n
  pub low : (d : ℕ) → at s d ≤ top

abbrev pub opened : Plan → ℕ → Shape → Shape
opened plan i s = key (put (at s) (place plan.grows plan.n i) 0) plan.n

abbrev pub cut_from : (ℕ → ℕ) → ℕ → ℕ → List ℕ
cut_from h d zero = []
cut_from h d (suc n) = cond (nat_eq (h d) 0) [] (h d ∷ cut_from h (suc d) n)

abbrev pub cut : (ℕ → ℕ) → ℕ → ℕ → Shape
cut h full n = shape full (cut_from h full (n - full))
