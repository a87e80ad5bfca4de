-- What is true of the sign of configurations, as laws.
--
-- TwistParity       == an assignment's class, at the even points, has the parity of its twist
-- ConfigurationSign == the sign of a configuration is that of its class and Euler characteristic
-- OneSign           == all listed configurations of a class and Euler characteristic have that sign
-- CountedSign       == their signed count is that sign times their number
use Rattle.std.specs.Prelude.{◌≡◌, ℤ, pos, ◌*ℤ◌, List, length}
use Rattle.std.specs.List.{AllByRecursion}
use Rattle.tv_spec_plane.specs.Web.{Web, even_sum, parity, class_sign}
use Rattle.tv_laws_edges.specs.Rule.{HasEdgeRule}
use Rattle.tv_spec_boxes.specs.Assignments.{Rows, Assignment, class_of, edge_twist}
use Rattle.tv_spec_boxes.specs.Configurations.{Configuration, chi_of, configuration_sign, configurations, signed_count}

abbrev pub TwistParity : Type 0
TwistParity = (w : Web) (a : Assignment) → HasEdgeRule w → parity (even_sum w.points (class_of w a)) ≡ parity (edge_twist w a)

abbrev pub ConfigurationSign : Type 0
ConfigurationSign = (w : Web) (fixed : List Rows) (c : Configuration) → HasEdgeRule w
    → configuration_sign w fixed c ≡ class_sign w.points (class_of w c.diagrams) (chi_of w fixed c)

abbrev pub OneSign : Type 0
OneSign = (w : Web) (fixed : List Rows) (v : List ℤ) (n : ℤ) → HasEdgeRule w
    → AllByRecursion (λ c. configuration_sign w fixed c ≡ class_sign w.points v n) (configurations w fixed v n)

abbrev pub CountedSign : Type 0
CountedSign = (w : Web) (fixed : List Rows) (v : List ℤ) (n : ℤ) → HasEdgeRule w
    → signed_count w fixed v n ≡ class_sign w.points v n *ℤ pos (length (configurations w fixed v n))
