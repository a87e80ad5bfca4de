-- Numbers of ways by cost, and what heights cost.
--
-- charged f x c       == the number of f at the cost that is left of c when x is paid; none where x is more than c
-- spent legs t n i h  == the extras of the new places of h, which are on the diagonal above t
-- upright legs x m h  == the cells at (x, 0), .., (x, m - 1) below height h that are in no leg, but those of its own height
-- taken legs t d h    == how many extras a height h at place d of the diagonal above t takes above that diagonal
-- least_at g h d      == the least height that the next diagonal can have at an old place d
-- left legs t n i h   == the least number of extras that h takes from the diagonal above t on, without those that are spent
-- kept k x            == how many costs are kept where x extras are left: those that with x are at most k
-- through legs k t top n i slices h c == the ways up to h with cost c: those of the slices with which h is mixed, when what is
--                        spent is paid
use Rattle.std.specs.Prelude.{ℕ, suc, ◌+◌, ◌-◌, ℤ, pos, ◌+ℤ◌, Bool, true, false, cond, nat_le, List}
use Rattle.tv_lemmas.specs.Sums.{sum_of}
use Rattle.tv_partition.specs.Rows.{has}
use Rattle.tv_cells.specs.declared.legs.Legs.{Legs}
use Rattle.tv_cells.specs.Cells.{below, x_from, y_from}
use Rattle.tv_spec_slices.specs.Slices.{Shape, base, over}
use Rattle.tv_spec_slices.specs.Paths.{ways_at}
use Rattle.tv_laws_sums.specs.Mixed.{grows, value, is_new, mixed}

abbrev pub charged : (ℕ → ℕ) → ℕ → ℕ → ℕ
charged f x c = cond (nat_le x c) (f (c - x)) 0

abbrev pub spent : Legs → ℤ → ℕ → ℕ → (ℕ → ℕ) → ℕ
spent legs t n i h = sum_of (λ d. cond (is_new (grows t) n i d) (over legs (t +ℤ pos 1) (h d) d) 0) (below n)

abbrev pub upright : Legs → ℕ → ℕ → ℕ → ℕ
upright legs x m h = sum_of (λ y. cond (has legs.along_z x y) 0 (h - base legs x y)) (below m)

abbrev pub taken : Legs → ℤ → ℕ → ℕ → ℕ
taken legs t d h = upright legs (d + x_from (t +ℤ pos 1)) (d + y_from (t +ℤ pos 1)) h

abbrev pub least_at : Bool → (ℕ → ℕ) → ℕ → ℕ
least_at true h d = h d
least_at false h d = h (suc d)

abbrev pub left : Legs → ℤ → ℕ → ℕ → (ℕ → ℕ) → ℕ
left legs t n i h =
    sum_of (λ d. cond (is_new (grows t) n i d) (taken legs t d (h d)) (over legs (t +ℤ pos 1) (least_at (grows t) h d) d + taken legs t d (least_at (grows t) h d))) (below n)

abbrev pub kept : ℕ → ℕ → ℕ
kept k x = suc k - x

unfoldable pub through : Legs → ℕ → ℤ → ℕ → ℕ → ℕ → List Shape → (ℕ → ℕ) → ℕ → ℕ
through legs k t top n i slices h c = sum_of (λ a. cond (mixed (grows t) top n i (value top a) h) (charged (ways_at legs k t a) (spent legs t n i h) c) 0) slices
