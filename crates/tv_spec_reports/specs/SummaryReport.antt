-- What the report of a summary says: it sums up the report of the full series of a grid.
--
-- HasFullTerms w N s == the terms of the section through N are the coefficients of the full series of its class
-- IsSummaryReport k D N text == the text is the summary of the full series of grid k in degrees to D, through N: of a section for
--                        each class that some assignment of degree at most D has, in order; its counts and the coefficient
--                        that it tells are small
use Rattle.std.specs.Prelude.{◌≡◌, ℕ, ℤ, List, map}
use Rattle.std.specs.List.{AllByRecursion}
use Rattle.tv_spec_plane.specs.Web.{Web}
use Rattle.tv_spec_boxes.specs.Assignments.{no_legs}
use Rattle.tv_spec_boxes.specs.Classes.{AreClasses}
use Rattle.tv_spec_series.specs.Reduced.{full_coefficient}
use Rattle.tv_spec_text.specs.Reports.{Section, AreTerms}
use Rattle.tv_spec_reports.specs.Grids.{grid}
use Rattle.tv_spec_reports.specs.Summaries.{Summary, IsSummary, HasSmallCounts, summary_text}

abbrev pub HasFullTerms : Web → ℤ → Section → Type 0
HasFullTerms w N s = AreTerms (full_coefficient w (no_legs w) s.entries) N s.terms

pub record IsSummaryReport (k D : ℕ) (N : ℤ) (text : List ℕ) : Type 0 where
  pub sections : List Section
  pub classes : AreClasses (grid k) D (map (λ (s : Section). s.entries) sections)
  pub each : AllByRecursion (HasFullTerms (grid k) N) sections
  pub summary : Summary
  pub sums : IsSummary k D N sections summary
  pub small : HasSmallCounts summary
  pub printed : text ≡ summary_text summary
