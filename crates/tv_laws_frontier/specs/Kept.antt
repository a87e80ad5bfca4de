-- The partial configurations that are kept, with all open edges empty.
--
-- restricted w s c == a partial configuration on fewer corners: the diagrams on the edges that the first s corners meet, and the
--                     extras at these corners
-- IsKept w m t c   == over each of the first 0, 1, .., t corners the restriction of c has an Euler characteristic of at most m
-- is_low w m s c   == it is so over the first s corners
-- is_kept w m t c  == it is so over each: the test
-- kept_configurations w m t k v i == the partial configurations of class v and Euler characteristic i over the first t corners,
--                     with the diagrams k on the pending edges, that are kept
use Rattle.std.specs.Prelude.{ℕ, zero, suc, ◌≤◌, ℤ, ◌≤ℤ◌, List, filter, take, Bool, ◌&&◌, int_le}
use Rattle.tv_spec_plane.specs.Web.{Web, compact}
use Rattle.tv_spec_boxes.specs.Assignments.{Rows, same_choice}
use Rattle.tv_spec_boxes.specs.Configurations.{Configuration, configuration}
use Rattle.tv_spec_partial.specs.Partial.{is_met, chosen, partial_chi, partial_configurations}
use Rattle.tv_laws_frontier.specs.Frontier.{only}

abbrev pub restricted : Web → ℕ → Configuration → Configuration
restricted w s c = configuration (only (is_met s) (compact w) c.diagrams) (take s c.extras)

abbrev pub IsKept : Web → ℤ → ℕ → Configuration → Type 0
IsKept w m t c = (s : ℕ) → s ≤ t → partial_chi w s (restricted w s c) ≤ℤ m

abbrev pub is_low : Web → ℤ → ℕ → Configuration → Bool
is_low w m s c = int_le (partial_chi w s (restricted w s c)) m

unfoldable pub is_kept : Web → ℤ → ℕ → Configuration → Bool
is_kept w m zero c = is_low w m 0 c
is_kept w m (suc t) c = is_kept w m t c && is_low w m (suc t) c

abbrev pub kept_configurations : Web → ℤ → ℕ → List Rows → List ℤ → ℤ → List Configuration
kept_configurations w m t k v i =
    filter (is_kept w m t)
    (filter (λ c. same_choice (chosen t (compact w) c.diagrams) k) (partial_configurations w t v i))
