-- What the heights of a diagonal are replaced by, in the terms of a plan.
--
-- plan_for k t top n     == the plan of the diagonal above t
-- IsSmall plan           == its numbers are small enough to be added
-- over_at legs plan d y  == by how much the height y at place d is higher than the legs; 0 in the leg along z
-- taken_at legs plan d y == how many extras it takes above the diagonal
-- left_at legs plan i h d, left legs plan i h == what the heights h leave at place d, and at all, where i places are replaced
-- is_fit legs plan d y   == the height y can stand at place d: it has no end in the leg along z, and is no lower than the legs elsewhere
-- are_fit legs plan i h  == so are all new heights
-- is_slice legs plan h   == the heights are those of a slice that fits the legs
use Rattle.std.specs.Prelude.{ℕ, suc, ◌+◌, ◌-◌, ◌<◌, ◌≤◌, ◌^◌, ℤ, pos, ◌+ℤ◌, max, Bool, cond, not, ◌&&◌, ◌||◌, nat_eq, nat_le}
use Rattle.tv_lemmas.specs.Sums.{sum_of}
use Rattle.tv_partition.specs.Rows.{has}
use Rattle.tv_cells.specs.declared.legs.Legs.{Legs}
use Rattle.tv_cells.specs.Cells.{below, x_from, y_from}
use Rattle.tv_cells.specs.Extras.{extent}
use Rattle.tv_spec_slices.specs.Slices.{base, all_below}
use Rattle.tv_laws_sums.specs.Mixed.{grows, is_new}
use Rattle.tv_laws_sums.specs.Sums.{upright, least_at}
use Rattle.tv_sums.specs.declared.plan.Plan.{Plan}

abbrev pub plan_for : ℕ → ℤ → ℕ → ℕ → Plan
plan_for k t top n = record { k = k; grows = grows t; x = x_from (t +ℤ pos 1); y = y_from (t +ℤ pos 1); top = top; n = n }

pub record IsSmall (plan : Plan) : Type 0 where
  pub k : plan.k < 2 ^ 29
  pub x : plan.x ≤ 2 ^ 30
  pub y : plan.y ≤ 2 ^ 30
  pub top : plan.top < 2 ^ 30
  pub n : plan.n < 2 ^ 30

abbrev pub over_at : Legs → Plan → ℕ → ℕ → ℕ
over_at legs plan d y = cond (has legs.along_z (d + plan.x) (d + plan.y)) 0 (y - base legs (d + plan.x) (d + plan.y))

abbrev pub taken_at : Legs → Plan → ℕ → ℕ → ℕ
taken_at legs plan d y = upright legs (d + plan.x) (d + plan.y) y

abbrev pub left_at : Legs → Plan → ℕ → (ℕ → ℕ) → ℕ → ℕ
left_at legs plan i h d = cond (is_new plan.grows plan.n i d) (taken_at legs plan d (h d)) (over_at legs plan d (least_at plan.grows h d) + taken_at legs plan d (least_at plan.grows h d))

abbrev pub left : Legs → Plan → ℕ → (ℕ → ℕ) → ℕ
left legs plan i h = sum_of (left_at legs plan i h) (below plan.n)

abbrev pub is_fit : Legs → Plan → ℕ → ℕ → Bool
is_fit legs plan d y = cond (has legs.along_z (d + plan.x) (d + plan.y)) (nat_eq y plan.top) (nat_le (base legs (d + plan.x) (d + plan.y)) y)

abbrev pub are_fit : Legs → Plan → ℕ → (ℕ → ℕ) → Bool
are_fit legs plan i h = all_below plan.n (λ d. not (is_new plan.grows plan.n i d) || is_fit legs plan d (h d))

abbrev pub is_slice : Legs → Plan → (ℕ → ℕ) → Bool
is_slice legs plan h = all_below (max plan.n (extent legs)) (λ d. nat_le (h (suc d)) (h d) && is_fit legs plan d (h d))
