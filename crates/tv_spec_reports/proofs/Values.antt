-- Worked texts: the configurations of two boxes at one corner, the integers of the conifold through degree 2 and how they are
-- read back, grids, a summary, a verdict and the lines of refusals.
use Rattle.std.proofs.Common.{arith, inl}
use Rattle.std.proofs.lemmas.Int.{ints}
use Rattle.std.specs.Prelude.{◌≡◌, ℕ, suc, ◌≤◌, ◌<◌, ℤ, pos, negsuc, List, [], ◌∷◌, codes, refl}
use Rattle.std.specs.Fmt.{digits}
use Rattle.tv_spec_plane.specs.Plane.{turn}
use Rattle.tv_spec_plane.specs.Web.{compact, outer, edge_ref, edge_ratio}
use Rattle.tv_spec_plane.proofs.Examples.{one_corner}
use Rattle.tv_partition.specs.Rows.{diagrams, diagrams_within}
use Rattle.tv_cells.specs.Cells.{cube, sublists_of}
use Rattle.tv_cells.specs.Costs.{row_cost, rows_cost, overlap_cost, overlaps}
use Rattle.tv_spec_boxes.specs.Assignments.{assignments, choices}
use Rattle.tv_spec_boxes.specs.Configurations.{fillings}
use Rattle.tv_spec_text.specs.Lines.{Line, line_text}
use Rattle.tv_spec_text.specs.Reports.{Term, Section, series_text}
use Rattle.tv_spec_reports.specs.IntegerLines.{GenusValue, GvSection, gv_lines, gv_text}
use Rattle.tv_spec_reports.specs.Boxes.{boxes_text}
use Rattle.tv_spec_reports.specs.Grids.{grid_text}
use Rattle.tv_spec_reports.specs.Summaries.{Summary, terms_in, sum_in, zero_in, IsSummary, HasSmallCounts, summary_text}
use Rattle.tv_spec_reports.specs.Grammar.{GvData, IsWideValue, GvTermFits, GvFits, SpellsGv, IsGv}
use Rattle.tv_spec_reports.specs.Verdicts.{verdict_text, long_report_line, report_line}

two_boxes : boxes_text one_corner (pos 0 ∷ pos 0 ∷ pos 0 ∷ []) (pos 2) ≡ codes "report boxes\nheights 0 0 0\nchi 2\nclass 0 0 0 0\nsign 1\nconfig\nbox 0 1 0 0\nbox 0 0 0 0\nconfig\nbox 0 0 0 0\nbox 0 0 0 1\nconfig\nbox 0 0 0 0\nbox 0 0 1 0\nend\n"
unfolding one_corner fillings assignments choices compact outer edge_ref edge_ratio turn diagrams diagrams_within cube sublists_of row_cost rows_cost overlap_cost overlaps line_text digits
two_boxes = refl

unfoldable pub term : ℤ → ℤ → Term
term n v = record { exponent = n; coefficient = v }

-- the full series of one corner through order 4
corner_section : Section
corner_section = record { degree = pos 0; entries = pos 0 ∷ pos 0 ∷ pos 0 ∷ []; terms = term (pos 0) (pos 1) ∷ term (pos 1) (negsuc 0) ∷ term (pos 2) (pos 3) ∷ term (pos 3) (negsuc 5) ∷ term (pos 4) (pos 13) ∷ [] }

corner_report : series_text (codes "full") (pos 0 ∷ pos 0 ∷ pos 0 ∷ []) (pos 0) (pos 4) (corner_section ∷ []) ≡ codes "report series full\nheights 0 0 0\ndegree 0\nupto 4\nclass 0 0 0 0\nterm 0 1\nterm 1 -1\nterm 2 3\nterm 3 -6\nterm 4 13\nend\n"
unfolding line_text digits corner_section term
corner_report = refl

unfoldable pub conifold_sections : List GvSection
conifold_sections =
    record { section = record { degree = pos 0; entries = pos 0 ∷ pos 0 ∷ pos 0 ∷ pos 0 ∷ []; terms = term (pos 0) (pos 1) ∷ [] }; integers = [] }
    ∷ record { section = record { degree = pos 1; entries = negsuc 0 ∷ pos 1 ∷ negsuc 0 ∷ pos 1 ∷ []; terms = term (pos 1) (pos 1) ∷ term (pos 2) (negsuc 1) ∷ term (pos 3) (pos 3) ∷ term (pos 4) (negsuc 3) ∷ term (pos 5) (pos 5) ∷ [] }; integers = record { genus = 0; value = pos 1 } ∷ [] }
    ∷ record { section = record { degree = pos 2; entries = negsuc 1 ∷ pos 2 ∷ negsuc 1 ∷ pos 2 ∷ []; terms = term (pos 3) (negsuc 1) ∷ term (pos 4) (pos 4) ∷ term (pos 5) (negsuc 9) ∷ [] }; integers = [] }
    ∷ []

conifold_report : gv_text (pos 0 ∷ pos 1 ∷ pos 0 ∷ pos 0 ∷ []) (pos 2) (pos 5) conifold_sections ≡ codes "report gv\nheights 0 1 0 0\ndegree 2\nupto 5\nclass 0 0 0 0 0\nterm 0 1\nclass 1 -1 1 -1 1\nterm 1 1\nterm 2 -2\nterm 3 3\nterm 4 -4\nterm 5 5\ninteger 0 1\nclass 2 -2 2 -2 2\nterm 3 -2\nterm 4 4\nterm 5 -10\nend\n"
unfolding line_text digits conifold_sections term
conifold_report = refl

-- it is read back: these sections spell it in the grammar
conifold_data : GvData
conifold_data = record { heights = pos 0 ∷ pos 1 ∷ pos 0 ∷ pos 0 ∷ []; degree = pos 2; upto = pos 5; sections = conifold_sections }

above_zero : (k : ℕ) → suc k < 100 → IsWideValue (pos (suc k))
above_zero k h = record { other = λ e. cc; within = omega arith }

below_zero : (k : ℕ) → suc k < 100 → IsWideValue (negsuc k)
below_zero k h = record { other = λ e. cc; within = omega arith }

term_fits : (n : ℕ) (v : ℤ) → n ≤ 5 → IsWideValue v → GvTermFits (pos 5) (term (pos n) v)
unfolding term
term_fits n v h wide = record { exponent = omega arith; within = omega (arith, ints); coefficient = wide }

conifold_fits : GvFits conifold_data
unfolding conifold_data conifold_sections term
conifold_fits = record {
  some = omega arith;
  few = omega arith;
  heights = (omega arith, (omega arith, (omega arith, (omega arith, tt))));
  least_degree = omega (arith, ints);
  greatest_degree = omega (arith, ints);
  least_order = omega (arith, ints);
  greatest_order = omega (arith, ints);
  sections = (
    record { degree = refl; entries = refl; terms = refl; integers = refl },
    (
      record {
        entries = refl;
        numbers = (omega arith, (omega arith, (omega arith, (omega arith, tt))));
        degree = refl;
        positive = omega (arith, ints);
        within = omega (arith, ints);
        terms = (term_fits 1 (pos 1) (omega arith) (above_zero 0 (omega arith)), (term_fits 2 (negsuc 1) (omega arith) (below_zero 1 (omega arith)), (term_fits 3 (pos 3) (omega arith) (above_zero 2 (omega arith)), (term_fits 4 (negsuc 3) (omega arith) (below_zero 3 (omega arith)), (term_fits 5 (pos 5) (omega arith) (above_zero 4 (omega arith)), tt)))));
        rises = (omega (arith, ints), (omega (arith, ints), (omega (arith, ints), (omega (arith, ints), tt))));
        integers = (record { genus = omega arith; value = above_zero 0 (omega arith) }, tt);
        genera = tt;
      },
      (
        record {
          entries = refl;
          numbers = (omega arith, (omega arith, (omega arith, (omega arith, tt))));
          degree = refl;
          positive = omega (arith, ints);
          within = omega (arith, ints);
          terms = (term_fits 3 (negsuc 1) (omega arith) (below_zero 1 (omega arith)), (term_fits 4 (pos 4) (omega arith) (above_zero 3 (omega arith)), (term_fits 5 (negsuc 9) (omega arith) (below_zero 9 (omega arith)), tt)));
          rises = (omega (arith, ints), (omega (arith, ints), tt));
          integers = tt;
          genera = tt;
        },
        tt,
      ),
    ),
  );
  order = (inl (omega (arith, ints)), (inl (omega (arith, ints)), tt));
}

conifold_spells : SpellsGv (gv_lines (pos 0 ∷ pos 1 ∷ pos 0 ∷ pos 0 ∷ []) (pos 2) (pos 5) conifold_sections) conifold_data
unfolding conifold_data
conifold_spells = record { fits = conifold_fits; same = refl }

conifold_is_gv : IsGv (gv_lines (pos 0 ∷ pos 1 ∷ pos 0 ∷ pos 0 ∷ []) (pos 2) (pos 5) conifold_sections)
conifold_is_gv = (conifold_data, conifold_spells)

-- a second term or an integer in class zero is not in the grammar, whatever stands before and behind
zero_section : List Term → List GenusValue → GvSection
zero_section ts is = record { section = record { degree = pos 0; entries = pos 0 ∷ pos 0 ∷ pos 0 ∷ pos 0 ∷ []; terms = ts }; integers = is }

no_second_term : (ls : List Line) (d : GvData) (ss : List GvSection) → SpellsGv ls (record d { sections = zero_section (term (pos 0) (pos 1) ∷ term (pos 1) (pos 1) ∷ []) [] ∷ ss }) → ⊥
unfolding zero_section term
no_second_term ls d ss spelling = let only = spelling.fits.sections.0.terms in cc

no_integer_there : (ls : List Line) (d : GvData) (ss : List GvSection) → SpellsGv ls (record d { sections = zero_section (term (pos 0) (pos 1) ∷ []) (record { genus = 0; value = pos 1 } ∷ []) ∷ ss }) → ⊥
unfolding zero_section term
no_integer_there ls d ss spelling = let none = spelling.fits.sections.0.integers in cc

-- the unit square cut by its diagonal from the origin
unit_grid : grid_text 1 ≡ codes "tv 1\npoint 0 0\npoint 1 0\npoint 0 1\npoint 1 1\ntriangle 0 1 3\ntriangle 0 3 2\nheights 0 1 1 1\nend\n"
unfolding line_text digits
unit_grid = refl

-- that of side 2: eight triangles, two to a square, by rows of squares
two_grid : grid_text 2 ≡ codes "tv 1\npoint 0 0\npoint 1 0\npoint 2 0\npoint 0 1\npoint 1 1\npoint 2 1\npoint 0 2\npoint 1 2\npoint 2 2\ntriangle 0 1 4\ntriangle 0 4 3\ntriangle 1 2 5\ntriangle 1 5 4\ntriangle 3 4 7\ntriangle 3 7 6\ntriangle 4 5 8\ntriangle 4 8 7\nheights 0 1 4 1 1 3 4 3 4\nend\n"
unfolding line_text digits
two_grid = refl

-- the full series of the unit grid through degree 1 and exponent 4
unit_grid_sections : List Section
unit_grid_sections =
    record { degree = pos 0; entries = pos 0 ∷ pos 0 ∷ pos 0 ∷ pos 0 ∷ []; terms = term (pos 0) (pos 1) ∷ term (pos 1) (negsuc 1) ∷ term (pos 2) (pos 7) ∷ term (pos 3) (negsuc 17) ∷ term (pos 4) (pos 47) ∷ [] }
    ∷ record { degree = pos 1; entries = negsuc 0 ∷ pos 1 ∷ pos 1 ∷ negsuc 0 ∷ []; terms = term (pos 1) (pos 1) ∷ term (pos 2) (negsuc 3) ∷ term (pos 3) (pos 14) ∷ term (pos 4) (negsuc 41) ∷ [] }
    ∷ []

-- nine terms with the sum 4, and of class zero 7 at exponent 2, 47 at 4 and none at 5
unit_grid_terms : terms_in unit_grid_sections ≡ 9
unfolding unit_grid_sections
unit_grid_terms = refl

unit_grid_sum : sum_in unit_grid_sections ≡ pos 4
unfolding unit_grid_sections term
unit_grid_sum = refl

unit_grid_zero : zero_in (pos 2) unit_grid_sections ∷ zero_in (pos 4) unit_grid_sections ∷ zero_in (pos 5) unit_grid_sections ∷ zero_in (pos 4) [] ∷ [] ≡ pos 7 ∷ pos 47 ∷ pos 0 ∷ pos 0 ∷ []
unfolding unit_grid_sections term
unit_grid_zero = refl

unit_grid_summary : Summary
unit_grid_summary = record { grid = 1; degree = 1; upto = pos 4; classes = 2; terms = 9; zero = pos 47; sum = 4 }

unit_grid_is_summary : IsSummary 1 1 (pos 4) unit_grid_sections unit_grid_summary
unfolding unit_grid_sections unit_grid_summary term
unit_grid_is_summary = record { grid = refl; degree = refl; upto = refl; classes = refl; terms = refl; zero = refl; least = omega arith; multiple = pos 0; sum = refl }

unit_grid_is_small : HasSmallCounts unit_grid_summary
unfolding unit_grid_summary
unit_grid_is_small = record { classes = omega arith; terms = omega arith; zero = omega arith }

unit_grid_summary_text : summary_text unit_grid_summary ≡ codes "report summary\ngrid 1\ndegree 1\nupto 4\nclasses 2\nterms 9\nzero 47\nsum 4\nend\n"
unfolding line_text digits unit_grid_summary
unit_grid_summary_text = refl

grid_summary : summary_text (record { grid = 2; degree = 1; upto = pos 2; classes = 9; terms = 19; zero = pos 52; sum = 999999980 }) ≡ codes "report summary\ngrid 2\ndegree 1\nupto 2\nclasses 9\nterms 19\nzero 52\nsum 999999980\nend\n"
unfolding line_text digits
grid_summary = refl

yes : verdict_text ≡ codes "report verify\nverdict yes\nend\n"
unfolding line_text digits
yes = refl

-- the lines of refused reports
refused_reports : line_text long_report_line ∷ line_text (report_line 12) ∷ [] ≡ codes "refused report 1\n" ∷ codes "refused report 2 12\n" ∷ []
unfolding line_text digits
refused_reports = refl
