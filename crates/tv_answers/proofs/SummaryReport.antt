-- The summary of a full family on a grid is the summary of its full series.
use Rattle.std.proofs.Common.{◌≡◌, ℕ, ℤ, ◌≤ℤ◌, List, [], ◌∷◌, map, Result, Ok, Err, sym, ◌∙◌, subst}
use Rattle.std.specs.List.{AllByRecursion}
use Rattle.tv_ring.specs.Whole.{wholes}
use Rattle.tv_ring.proofs.Times.{whole_times-wholes}
use Rattle.tv_spec_plane.specs.Web.{Web}
use Rattle.tv_spec_boxes.specs.Assignments.{no_legs}
use Rattle.tv_spec_boxes.specs.Classes.{AreClasses}
use Rattle.tv_spec_text.specs.Reports.{AreTerms}
use Rattle.tv_spec_series.specs.Families.{Row, Family, coefficient}
use Rattle.tv_spec_series.specs.Reduced.{full_coefficient}
use Rattle.tv_spec_series.specs.Full.{IsFull, IsFullRow}
use Rattle.tv_spec_reports.specs.Grids.{grid}
use Rattle.tv_spec_reports.specs.SummaryReport.{HasFullTerms, IsSummaryReport}
use Rattle.tv_reports.specs.Sections.{section_of, sections_of, TellsRow}
use Rattle.tv_reports.proofs.Sections.{sections_tell}
use Rattle.tv_answers.specs.Carried.{IsSummed, Summarizes, CarriesOut, IsCarriedOut}
use Rattle.tv_words.specs.declared.command.Command.TheVariants.{Summary}
use Rattle.tv_answers.specs.declared.answer.Answer.{Answer}
use Rattle.tv_answers.specs.declared.answer.Failure.{Failure}
use Rattle.tv_answers.proofs.Told.{terms-onto, entries_of}

full_sections : (w : Web) (d : ℕ) (n : ℤ) (f : Family ℤ) (rows : List (Row ℤ)) → f.upto ≡ n → AllByRecursion (IsFullRow wholes w (no_legs w) d n) rows
    → AllByRecursion (λ row. TellsRow f row (section_of f.heights row)) rows → AllByRecursion (HasFullTerms w n) (map (section_of f.heights) rows)
full_sections w d n f [] u full tells = tt
full_sections w d n f (row ∷ rows) u full tells =
    let counts : (i : ℤ) → i ≤ℤ n → full_coefficient w (no_legs w) row.class i ≡ coefficient wholes row.series i = λ i h. sym (full.0.counts i h ∙ whole_times-wholes (full_coefficient w (no_legs w) row.class i)) in
    let terms : AreTerms (coefficient wholes row.series) n (section_of f.heights row).terms = subst (λ (k : ℤ). AreTerms (coefficient wholes row.series) k (section_of f.heights row).terms) u tells.0.terms in
    (terms-onto (coefficient wholes row.series) (full_coefficient w (no_legs w) row.class) n counts (section_of f.heights row).terms terms, full_sections w d n f rows u full.1 tells.1)

summary_report : (k d : ℕ) (n : ℤ) (f : Family ℤ) (text : List ℕ) → IsFull wholes (grid k) (no_legs (grid k)) d n f → IsSummed k d n f text → IsSummaryReport k d n text
summary_report k d n f text full summed = record {
  sections = sections_of f;
  classes = subst (AreClasses (grid k) d) (sym (entries_of f.heights f.rows)) full.classes;
  each = full_sections (grid k) d n f f.rows full.upto full.rows (sections_tell f summed.family);
  summary = summed.summary;
  sums = summed.sums;
  small = summed.small;
  printed = summed.printed;
}

pub summary_carried_out : (k d : ℕ) (n : ℤ) (f : Family ℤ) (r : Result Answer Failure) → IsFull wholes (grid k) (no_legs (grid k)) d n f → Summarizes k d n f r → IsCarriedOut (Summary k d n) (grid k) r
summary_carried_out k d n f (Ok a) full h = subst (λ s. CarriesOut (Summary k d n) (grid k) s a.text.items) (sym h.0) (summary_report k d n f a.text.items full h.1)
summary_carried_out k d n f (Err e) full h = h
