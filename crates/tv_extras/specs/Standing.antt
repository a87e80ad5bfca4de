-- The fillings of several corners, one after the other.
--
-- Standing          == a filling that was reached, a set for each corner, and the fillings that are still to come, in order
-- pending_fill b    == the filling of no corners by no boxes where b holds, else none
-- standing b nodes  == the sets at which the corners are, and what is to come: where b holds that filling, and then those of
--                      the corners
-- IsFillings most b nodes == the corners are at sets of at most `most` boxes, and where b holds there are none
-- Reaches b s t     == from s to t the next filling was reached where b holds, else none was left
-- IsFresh most node == the corner is at no set, and ready to begin
use Rattle.std.specs.Prelude.{◌≡◌, ℕ, Bool, true, false, cond, List, [], ◌∷◌, ◌++◌}
use Rattle.tv_extras.specs.declared.nodes.Node.{Node}
use Rattle.tv_extras.specs.Sized.{IsSized}
use Rattle.tv_extras.specs.Nodes.{Filling, currents, to_fill, AreNodes}

pub record Standing : Type 0 where
  pub current : Filling
  pub to_come : List Filling

abbrev pub pending_fill : Bool → List Filling
pending_fill b = cond b ([] ∷ []) []

abbrev pub standing : Bool → List Node → Standing
standing b nodes = record { current = currents nodes; to_come = pending_fill b ++ to_fill nodes }

pub record IsFillings (most : ℕ) (b : Bool) (nodes : List Node) : Type 0 where
  pub nodes_valid : AreNodes most nodes
  pub none : b ≡ true → nodes ≡ []

abbrev pub Reaches : Bool → Standing → Standing → Type 0
Reaches true s t = s.to_come ≡ t.current ∷ t.to_come
Reaches false s t = (s.to_come ≡ []) × (t.to_come ≡ [])

pub record IsFresh (most : ℕ) (node : Node) : Type 0 where
  pub sets : IsSized node.sets
  pub limit : node.sets.most ≡ most
  pub full : node.sets.size ≡ node.sets.last
  pub outside : node.inside ≡ false
