-- The report of a reduced family is the report of the reduced series.
use Rattle.std.proofs.Common.{◌≡◌, ℕ, ℤ, pos, ◌≤ℤ◌, List, [], ◌∷◌, map, Result, Ok, Err, inl, sym, ap, ◌∙◌, subst}
use Rattle.std.specs.Prelude.{codes}
use Rattle.std.specs.List.{AllByRecursion}
use Rattle.tv_ring.specs.Whole.{wholes}
use Rattle.tv_ring.proofs.Times.{whole_times-wholes}
use Rattle.tv_spec_plane.specs.Web.{Web, degree_of}
use Rattle.tv_spec_boxes.specs.Assignments.{no_legs}
use Rattle.tv_spec_boxes.specs.Classes.{AreClasses}
use Rattle.tv_spec_text.specs.Reports.{AreTerms, series_text, IsSmall}
use Rattle.tv_spec_series.specs.Families.{Row, Family, coefficient}
use Rattle.tv_spec_series.specs.ReducedFamilies.{IsReducedFamily, IsReducedRow}
use Rattle.tv_text.specs.declared.series.Kind.TheVariants.{Reduced}
use Rattle.tv_reports.specs.Sections.{section_of, sections_of, TellsRow}
use Rattle.tv_reports.proofs.Sections.{sections_tell}
use Rattle.tv_answers.specs.SeriesReport.{IsReducedSection, IsSeriesReport}
use Rattle.tv_answers.specs.Carried.{IsPrinted, Prints, CarriesOut, IsCarriedOut}
use Rattle.tv_words.specs.declared.command.Command.TheVariants.{Series}
use Rattle.tv_answers.specs.declared.answer.Answer.{Answer}
use Rattle.tv_answers.specs.declared.answer.Failure.{Failure}
use Rattle.tv_answers.proofs.Told.{terms-onto, entries_of}

reduced_sections : (w : Web) (d : ℕ) (n : ℤ) (f : Family ℤ) (rows : List (Row ℤ)) → f.heights ≡ w.heights → f.upto ≡ n
    → AllByRecursion (IsReducedRow wholes w (no_legs w) d n) rows → AllByRecursion (λ row. TellsRow f row (section_of f.heights row)) rows → AllByRecursion IsSmall (map (section_of f.heights) rows)
    → AllByRecursion (IsReducedSection w n) (map (section_of f.heights) rows)
reduced_sections w d n f [] hs u reduced tells small = tt
reduced_sections w d n f (row ∷ rows) hs u reduced tells small =
    let here = reduced.0 in
    let values : (i : ℤ) → i ≤ℤ n → here.series i ≡ coefficient wholes row.series i = λ i h. sym (here.values i h ∙ whole_times-wholes (here.series i)) in
    let terms : AreTerms (coefficient wholes row.series) n (section_of f.heights row).terms = subst (λ (k : ℤ). AreTerms (coefficient wholes row.series) k (section_of f.heights row).terms) u tells.0.terms in (
      record {
        degree = ap (λ (zs : List ℤ). degree_of zs row.class) hs;
        series = here.series;
        reduced = here.reduced;
        terms = terms-onto (coefficient wholes row.series) here.series n values (section_of f.heights row).terms terms;
        small = small.0;
      },
      reduced_sections w d n f rows hs u reduced.1 tells.1 small.1,
    )

pub reduced_report : (w : Web) (d : ℕ) (n : ℤ) (f : Family ℤ) (text : List ℕ) → IsReducedFamily wholes w (no_legs w) d n f → IsPrinted Reduced f text → IsSeriesReport Reduced w d n text
reduced_report w d n f text reduced printed = record {
  sections = sections_of f;
  classes = subst (AreClasses w d) (sym (entries_of f.heights f.rows)) reduced.classes;
  each = reduced_sections w d n f f.rows reduced.heights reduced.upto reduced.rows (sections_tell f printed.family) printed.small;
  printed = printed.same
      ∙ ap (λ (hs : List ℤ). series_text (codes "reduced") hs f.top f.upto (sections_of f)) reduced.heights
      ∙ ap (λ (k : ℤ). series_text (codes "reduced") w.heights k f.upto (sections_of f)) reduced.top
      ∙ ap (λ (k : ℤ). series_text (codes "reduced") w.heights (pos d) k (sections_of f)) reduced.upto;
}

pub reduced_carried_out : (w : Web) (d : ℕ) (n : ℤ) (f : Family ℤ) (r : Result Answer Failure) → IsReducedFamily wholes w (no_legs w) d n f → Prints Reduced f r → IsCarriedOut (Series Reduced d n) w r
reduced_carried_out w d n f (Ok a) reduced h = subst (λ s. CarriesOut (Series Reduced d n) w s a.text.items) (sym h.0) (inl (reduced_report w d n f a.text.items reduced h.1))
reduced_carried_out w d n f (Err e) reduced h = h
