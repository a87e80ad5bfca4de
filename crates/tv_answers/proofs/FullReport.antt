-- The report of a full family is the report of the full series.
use Rattle.std.proofs.Common.{◌≡◌, ℕ, ℤ, pos, ◌≤ℤ◌, List, [], ◌∷◌, map, Result, Ok, Err, inl, sym, ap, ◌∙◌, subst}
use Rattle.std.specs.Prelude.{codes}
use Rattle.std.specs.List.{AllByRecursion}
use Rattle.tv_ring.specs.Whole.{wholes}
use Rattle.tv_ring.proofs.Times.{whole_times-wholes}
use Rattle.tv_spec_plane.specs.Web.{Web, degree_of}
use Rattle.tv_spec_boxes.specs.Assignments.{no_legs}
use Rattle.tv_spec_boxes.specs.Classes.{AreClasses}
use Rattle.tv_spec_text.specs.Reports.{AreTerms, series_text, IsSmall}
use Rattle.tv_spec_series.specs.Families.{Row, Family, coefficient}
use Rattle.tv_spec_series.specs.Reduced.{full_coefficient}
use Rattle.tv_spec_series.specs.Full.{IsFull, IsFullRow}
use Rattle.tv_text.specs.declared.series.Kind.TheVariants.{Full}
use Rattle.tv_reports.specs.Sections.{section_of, sections_of, TellsRow}
use Rattle.tv_reports.proofs.Sections.{sections_tell}
use Rattle.tv_answers.specs.SeriesReport.{IsFullSection, IsSeriesReport}
use Rattle.tv_answers.specs.Carried.{IsPrinted, Prints, CarriesOut, IsCarriedOut}
use Rattle.tv_words.specs.declared.command.Command.TheVariants.{Series}
use Rattle.tv_answers.specs.declared.answer.Answer.{Answer}
use Rattle.tv_answers.specs.declared.answer.Failure.{Failure}
use Rattle.tv_answers.proofs.Told.{terms-onto, entries_of}

full_sections : (w : Web) (d : ℕ) (n : ℤ) (f : Family ℤ) (rows : List (Row ℤ)) → f.heights ≡ w.heights → f.upto ≡ n
    → AllByRecursion (IsFullRow wholes w (no_legs w) d n) rows → AllByRecursion (λ row. TellsRow f row (section_of f.heights row)) rows → AllByRecursion IsSmall (map (section_of f.heights) rows)
    → AllByRecursion (IsFullSection w n) (map (section_of f.heights) rows)
full_sections w d n f [] hs u full tells small = tt
full_sections w d n f (row ∷ rows) hs u full tells small =
    let counts : (i : ℤ) → i ≤ℤ n → full_coefficient w (no_legs w) row.class i ≡ coefficient wholes row.series i = λ i h. sym (full.0.counts i h ∙ whole_times-wholes (full_coefficient w (no_legs w) row.class i)) in
    let terms : AreTerms (coefficient wholes row.series) n (section_of f.heights row).terms = subst (λ (k : ℤ). AreTerms (coefficient wholes row.series) k (section_of f.heights row).terms) u tells.0.terms in (
      record {
        degree = ap (λ (zs : List ℤ). degree_of zs row.class) hs;
        terms = terms-onto (coefficient wholes row.series) (full_coefficient w (no_legs w) row.class) n counts (section_of f.heights row).terms terms;
        small = small.0;
      },
      full_sections w d n f rows hs u full.1 tells.1 small.1,
    )

pub full_report : (w : Web) (d : ℕ) (n : ℤ) (f : Family ℤ) (text : List ℕ) → IsFull wholes w (no_legs w) d n f → IsPrinted Full f text → IsSeriesReport Full w d n text
full_report w d n f text full printed = record {
  sections = sections_of f;
  classes = subst (AreClasses w d) (sym (entries_of f.heights f.rows)) full.classes;
  each = full_sections w d n f f.rows full.heights full.upto full.rows (sections_tell f printed.family) printed.small;
  printed = printed.same
      ∙ ap (λ (hs : List ℤ). series_text (codes "full") hs f.top f.upto (sections_of f)) full.heights
      ∙ ap (λ (k : ℤ). series_text (codes "full") w.heights k f.upto (sections_of f)) full.top
      ∙ ap (λ (k : ℤ). series_text (codes "full") w.heights (pos d) k (sections_of f)) full.upto;
}

pub full_carried_out : (w : Web) (d : ℕ) (n : ℤ) (f : Family ℤ) (r : Result Answer Failure) → IsFull wholes w (no_legs w) d n f → Prints Full f r → IsCarriedOut (Series Full d n) w r
full_carried_out w d n f (Ok a) full h = subst (λ s. CarriesOut (Series Full d n) w s a.text.items) (sym h.0) (inl (full_report w d n f a.text.items full h.1))
full_carried_out w d n f (Err e) full h = h
