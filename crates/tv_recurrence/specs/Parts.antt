-- The logarithmic recurrence on numbers alone. All coefficients stand by weight, so that none is at a negative place.
--
-- Addends          == what one class B adds to a class G: the degree of B, the powers of 1 - X by the weight of X, and the
--                     rows of coefficients of G - B, G - 2 B, ..
-- taken_sum rows s t == what a place of weight s takes at the weight t: the coefficient of G - B at t - s, and of G - 2 B at
--                     t - 2 s, .., as long as these are at least 0
-- taken_size rows s t == the sum of the sizes of these
-- share x t f      == degree * (- power) * taken_sum, with the step of the power: what it adds to degree times coefficient
-- share_size x t f == the size of the first two, times taken_size
-- part_total t x   == the sum of the shares of the powers of one class; part_size t x, of their sizes
-- parts_total t xs == the sum of that over the classes; parts_size t xs, of the sizes
-- IsMultiple d x   == x is d times a whole number
use Rattle.std.specs.Prelude.{◌≡◌, ℕ, ◌+◌, ◌-◌, ◌*◌, ℤ, pos, neg_ℤ, ◌+ℤ◌, ◌*ℤ◌, unsigned_abs, List, [], ◌∷◌, nat_lt, if◌then◌else◌}
use Rattle.tv_ring.specs.Whole.{wholes}
use Rattle.tv_ring.specs.Sums.{at}
use Rattle.tv_lemmas.specs.Sums.{total, sum_of}
use Rattle.tv_recurrence.specs.declared.part.Power.{Power}

pub record Addends : Type 0 where
  pub degree : ℕ
  pub powers : List Power
  pub rows : List (List ℤ)

abbrev pub taken_sum : List (List ℤ) → ℕ → ℕ → ℤ
taken_sum [] s t = pos 0
taken_sum (row ∷ rows) s t = if nat_lt t s then pos 0 else (at wholes row (t - s) +ℤ taken_sum rows s (t - s))

abbrev pub taken_size : List (List ℤ) → ℕ → ℕ → ℕ
taken_size [] s t = 0
taken_size (row ∷ rows) s t = if nat_lt t s then 0 else (unsigned_abs (at wholes row (t - s)) + taken_size rows s (t - s))

abbrev pub share : Addends → ℕ → Power → ℤ
share x t f = (pos x.degree *ℤ neg_ℤ f.power) *ℤ taken_sum x.rows f.step t

abbrev pub share_size : Addends → ℕ → Power → ℕ
share_size x t f = unsigned_abs (pos x.degree *ℤ f.power) * taken_size x.rows f.step t

abbrev pub part_total : ℕ → Addends → ℤ
part_total t x = total (share x t) x.powers

abbrev pub part_size : ℕ → Addends → ℕ
part_size t x = sum_of (share_size x t) x.powers

abbrev pub parts_total : ℕ → List Addends → ℤ
parts_total t xs = total (part_total t) xs

abbrev pub parts_size : ℕ → List Addends → ℕ
parts_size t xs = sum_of (part_size t) xs

pub record IsMultiple (d : ℕ) (x : ℤ) : Type 0 where
  pub quotient : ℤ
  pub exact : pos d *ℤ quotient ≡ x
