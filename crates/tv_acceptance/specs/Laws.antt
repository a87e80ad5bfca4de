-- What is true of accepted files, as laws.
--
-- AcceptedIsNotRefused      == bytes that are accepted have no fault: acceptance and refusal exclude each other
-- AcceptedAsOneWeb          == bytes are accepted as one web at most
-- GridIsAccepted            == the file of a grid is accepted, with the grid as its web
-- AcceptedHasEdgeRule       == every compact edge has its rule
-- AcceptedConfigurationSign == the sign of a configuration is that of its class and Euler characteristic, whatever diagrams
--                              stand on the open edges
-- AcceptedPartialSign       == so is that of a partial configuration, over any number of corners
-- AcceptedNoneCancels       == a coefficient, the signed count of the configurations, is the sign of its class and exponent
--                              times their number
-- AcceptedSizeIsNumber      == so the absolute value of a coefficient is the number of its configurations
use Rattle.std.specs.Prelude.{◌≡◌, ℕ, ℤ, pos, ◌*ℤ◌, unsigned_abs, List, length}
use Rattle.tv_lattice.specs.declared.fault.FileFault.{FileFault}
use Rattle.tv_spec_plane.specs.Web.{Web, class_sign}
use Rattle.tv_spec_boxes.specs.Assignments.{Rows, class_of}
use Rattle.tv_spec_boxes.specs.Configurations.{Configuration, configurations, chi_of, configuration_sign}
use Rattle.tv_spec_series.specs.Reduced.{full_coefficient}
use Rattle.tv_laws_edges.specs.Rule.{HasEdgeRule}
use Rattle.tv_spec_partial.specs.Partial.{partial_chi, partial_sign}
use Rattle.tv_spec_reports.specs.Grids.{grid, grid_text}
use Rattle.tv_words.specs.Commands.{IsSide}
use Rattle.tv_acceptance.specs.Acceptance.{IsAccepted}
use Rattle.tv_acceptance.specs.Rejections.{FaultOf}

abbrev pub AcceptedIsNotRefused : Type 0
AcceptedIsNotRefused = (bytes : List ℕ) (w : Web) (f : FileFault) → IsAccepted bytes w → FaultOf bytes f → ⊥

abbrev pub AcceptedAsOneWeb : Type 0
AcceptedAsOneWeb = (bytes : List ℕ) (v w : Web) → IsAccepted bytes v → IsAccepted bytes w → v ≡ w

abbrev pub GridIsAccepted : Type 0
GridIsAccepted = (side : ℕ) → IsSide side → IsAccepted (grid_text side) (grid side)

abbrev pub AcceptedHasEdgeRule : Type 0
AcceptedHasEdgeRule = (bytes : List ℕ) (w : Web) → IsAccepted bytes w → HasEdgeRule w

abbrev pub AcceptedConfigurationSign : Type 0
AcceptedConfigurationSign = (bytes : List ℕ) (w : Web) (fixed : List Rows) (c : Configuration) → IsAccepted bytes w
    → configuration_sign w fixed c ≡ class_sign w.points (class_of w c.diagrams) (chi_of w fixed c)

abbrev pub AcceptedPartialSign : Type 0
AcceptedPartialSign = (bytes : List ℕ) (w : Web) (t : ℕ) (c : Configuration) → IsAccepted bytes w
    → partial_sign w t c ≡ class_sign w.points (class_of w c.diagrams) (partial_chi w t c)

abbrev pub AcceptedNoneCancels : Type 0
AcceptedNoneCancels = (bytes : List ℕ) (w : Web) (fixed : List Rows) (v : List ℤ) (n : ℤ) → IsAccepted bytes w
    → full_coefficient w fixed v n ≡ class_sign w.points v n *ℤ pos (length (configurations w fixed v n))

abbrev pub AcceptedSizeIsNumber : Type 0
AcceptedSizeIsNumber = (bytes : List ℕ) (w : Web) (fixed : List Rows) (v : List ℤ) (n : ℤ) → IsAccepted bytes w
    → unsigned_abs (full_coefficient w fixed v n) ≡ length (configurations w fixed v n)
