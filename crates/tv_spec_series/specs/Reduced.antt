-- The reduced series: what is left of the full series of a class when that of class zero is divided out.
-- A series is a function from exponents to whole numbers that is 0 below some exponent.
--
-- product_at low first f g n == the coefficient at n of the product of f, which is 0 below low, and g, which is 0 below first
-- BeginsAt first g     == g is 0 below first, and not 0 there
-- IsQuotient n z g f   == f is 0 below some exponent, g begins at some exponent `first`, and the product of f and g is z at
--                         every exponent through n + first, which is as far as f through n tells it
-- full_coefficient w fixed v n == the signed count of class v
-- zero_coefficient w fixed n == that of class zero
-- IsReduced w fixed n v f == f is the reduced series of the class v, through n. Class zero begins at exponent 0 where the legs
--                         of the fixed diagrams on the open edges meet nowhere, as those of empty ones; where some meet it
--                         begins below 0
-- quotient_size z g f low first m == |z at first + m| plus the sum over j from 1 on of |g at first + j| times |f at m - j|, f
--                         being 0 below low: what is added up in a division by g, which begins at first, to get f at m
-- IsSpread w fixed n v m k == for m at most n, k is that number at m of the reduced series of v through n. It asks nothing of
--                         the degree of v
use Rattle.std.specs.Prelude.{◌≡◌, ◌≢◌, ℕ, suc, ◌+◌, ◌*◌, ℤ, pos, ◌+ℤ◌, ◌-ℤ◌, ◌≤ℤ◌, ◌*ℤ◌, ◌<ℤ◌, unsigned_abs, List, length}
use Rattle.tv_lemmas.specs.Naturals.{as_natural}
use Rattle.tv_lemmas.specs.Sums.{total, sum_of}
use Rattle.tv_spec_plane.specs.Web.{Web, below}
use Rattle.tv_spec_boxes.specs.Assignments.{Rows, zeros}
use Rattle.tv_spec_boxes.specs.Configurations.{signed_count}

-- the terms with exponents low + k of f and at least first of g
unfoldable pub product_at : ℤ → ℤ → (ℤ → ℤ) → (ℤ → ℤ) → ℤ → ℤ
product_at low first f g n =
    total (λ k. f (low +ℤ pos k) *ℤ g ((n -ℤ low) -ℤ pos k)) (below (as_natural (((n -ℤ low) -ℤ first) +ℤ pos 1)))

pub record BeginsAt (first : ℤ) (g : ℤ → ℤ) : Type 0 where
  pub none : (m : ℤ) → m <ℤ first → g m ≡ pos 0
  pub some : g first ≢ pos 0

pub record IsQuotient (n : ℤ) (z g f : ℤ → ℤ) : Type 0 where
  pub low : ℤ
  pub first : ℤ
  pub none : (m : ℤ) → m <ℤ low → f m ≡ pos 0
  pub begins : BeginsAt first g
  pub product : (m : ℤ) → m ≤ℤ (n +ℤ first) → product_at low first f g m ≡ z m

abbrev pub full_coefficient : Web → List Rows → List ℤ → ℤ → ℤ
full_coefficient w fixed v n = signed_count w fixed v n

abbrev pub zero_coefficient : Web → List Rows → ℤ → ℤ
zero_coefficient w fixed n = signed_count w fixed (zeros (length w.points)) n

abbrev pub IsReduced : Web → List Rows → ℤ → List ℤ → (ℤ → ℤ) → Type 0
IsReduced w fixed n v f = IsQuotient n (full_coefficient w fixed v) (zero_coefficient w fixed) f

-- the terms with j from 1 to m - low
unfoldable pub quotient_size : (ℤ → ℤ) → (ℤ → ℤ) → (ℤ → ℤ) → ℤ → ℤ → ℤ → ℕ
quotient_size z g f low first m =
    unsigned_abs (z (first +ℤ m))
    + sum_of (λ j. unsigned_abs (g (first +ℤ pos (suc j))) * unsigned_abs (f (m -ℤ pos (suc j)))) (below (as_natural (m -ℤ low)))

pub record IsSpread (w : Web) (fixed : List Rows) (n : ℤ) (v : List ℤ) (m : ℤ) (k : ℕ) : Type 0 where
  pub series : ℤ → ℤ
  pub reduced : IsReduced w fixed n v series
  pub within : m ≤ℤ n
  pub size : k ≡ quotient_size (full_coefficient w fixed v) (zero_coefficient w fixed) series reduced.low reduced.first m
