-- Which classes a state has.
--
-- HasClass w d t k v  == some assignment of degree at most d has the empty diagram on every edge that is not met, the diagrams
--                        k on the pending edges, and class v
-- ComesFrom w d t k v == for some choice on the edges that are pending before corner t, and some choice on the new ones, after
--                        which the choice is k, the state before has the class v less that of the new edges
use Rattle.std.specs.Prelude.{◌≡◌, Contains, ℕ, suc, ℤ, List}
use Rattle.tv_spec_plane.specs.Web.{Web, compact}
use Rattle.tv_spec_boxes.specs.Assignments.{Rows, Assignment, class_of, class_difference}
use Rattle.tv_spec_partial.specs.Partial.{chosen}
use Rattle.tv_laws_frontier.specs.Frontier.{of_state}
use Rattle.tv_laws_frontier.specs.Steps.{states, options, new_part, near_part}

pub record HasClass (w : Web) (d t : ℕ) (k : List Rows) (v : List ℤ) : Type 0 where
  pub witness : Assignment
  pub listed : Contains (of_state w d t k v) witness

pub record ComesFrom (w : Web) (d t : ℕ) (k : List Rows) (v : List ℤ) : Type 0 where
  pub first : List Rows
  pub new : List Rows
  pub listed_first : Contains (states w d t) first
  pub listed_new : Contains (options w d t) new
  pub after : chosen (suc t) (compact w) (near_part w t first new) ≡ k
  pub class : HasClass w d t first (class_difference v (class_of w (new_part w t new)))
