-- What is true of partial configurations, as laws.
--
-- PartialSign   == the sign of a partial configuration is that of its class and Euler characteristic
-- IsWholeSum w  == over all corners of the web that is so
-- WholeIsPartial == over all corners no edge is pending, and the partial count is the signed count with all open edges
--                  empty
use Rattle.std.specs.Prelude.{◌≡◌, ℤ, List, [], ℕ, length}
use Rattle.tv_spec_plane.specs.Web.{Web, class_sign}
use Rattle.tv_laws_edges.specs.Rule.{HasEdgeRule}
use Rattle.tv_spec_boxes.specs.Assignments.{no_legs, class_of}
use Rattle.tv_spec_boxes.specs.Configurations.{Configuration, signed_count}
use Rattle.tv_spec_partial.specs.Partial.{pending, partial_chi, partial_sign, partial_count}

abbrev pub PartialSign : Type 0
PartialSign = (w : Web) (t : ℕ) (c : Configuration) → HasEdgeRule w
    → partial_sign w t c ≡ class_sign w.points (class_of w c.diagrams) (partial_chi w t c)

pub record IsWholeSum (w : Web) : Type 0 where
  pub none : pending w (length w.triangles) ≡ []
  pub same : (v : List ℤ) (n : ℤ) → partial_count w (length w.triangles) [] v n ≡ signed_count w (no_legs w) v n

abbrev pub WholeIsPartial : Type 0
WholeIsPartial = (w : Web) → IsWholeSum w
