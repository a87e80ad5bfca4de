-- The lines of a report that fits the grammar are plain, so its text reads back.
use Rattle.std.proofs.Common.{ℤ, pos, negsuc, ◌≤ℤ◌, List, [], ◌∷◌, length, map, sym, subst, arith}
use Rattle.std.proofs.lemmas.Int.{ints}
use Rattle.std.specs.Prelude.{codes, refl}
use Rattle.std.specs.List.{AllByRecursion}
use Rattle.tv_lemmas.proofs.Members.{all-append, all-map, all-flat_map, all-onto}
use Rattle.tv_spec_text.specs.Lines.{IsNumber, spelled, word_lines}
use Rattle.tv_spec_text.specs.Reports.{IsPrintable, term_line}
use Rattle.tv_spec_reports.specs.IntegerLines.{GvSection, integer_line, gv_section_lines, gv_lines, gv_text}
use Rattle.tv_spec_reports.specs.Grammar.{GvData, GvTermFits, IntegerFits, FirstSection, SectionFits, SectionsFit, GvFits, SpellsGv}
use Rattle.tv_report_reader.specs.Rows.{TermFits}
use Rattle.tv_report_reader.proofs.Readings.{SpellsGv-unique}
use Rattle.tv_report_reader.proofs.Spelled.{small_numbers, bounded_number, zeros_numbers}
use Rattle.tv_laws_reports.specs.Laws.{SectionsReadBack}
use Rattle.tv_spec_text.proofs.PlainWords.{Above, IsPlain, word-above, plain_reads_back}
use Rattle.tv_laws_reports.proofs.Plain.{spelled-above}

number-printable : (z : ℤ) → IsNumber z → IsPrintable z
number-printable (pos n) h = omega arith
number-printable (negsuc n) h = omega arith

number-above : (z : ℤ) → IsNumber z → Above 32 (spelled z)
number-above z h = spelled-above z (number-printable z h)

numbers-above : (v : List ℤ) → AllByRecursion IsNumber v → AllByRecursion (Above 32) (map spelled v)
numbers-above v all = all-map IsNumber (Above 32) spelled number-above v all

section-plain : (s : GvSection) → IsNumber s.section.degree → AllByRecursion IsNumber s.section.entries
    → AllByRecursion TermFits s.section.terms → AllByRecursion IntegerFits s.integers → AllByRecursion IsPlain (gv_section_lines s)
section-plain s degree entries terms integers =
    let term = all-map TermFits IsPlain term_line
    (λ t h. (word-above (codes "term") refl, (number-above t.exponent h.0, (spelled-above t.coefficient h.1.within, tt))))
    s.section.terms terms in
    let integer = all-map IntegerFits IsPlain integer_line
    (λ i h. (word-above (codes "integer") refl, (number-above (pos i.genus) h.genus, (spelled-above i.value h.value.within, tt))))
    s.integers integers in (
      (word-above (codes "class") refl, (number-above s.section.degree degree, numbers-above s.section.entries entries)),
      all-append IsPlain (map term_line s.section.terms) (map integer_line s.integers) term integer,
    )

first-plain : (hs : List ℤ) (s : GvSection) → FirstSection hs s → AllByRecursion IsPlain (gv_section_lines s)
first-plain hs s f = section-plain s
    (subst IsNumber (sym f.degree) (omega arith))
    (subst (AllByRecursion IsNumber) (sym f.entries) (zeros_numbers (length hs)))
    (subst (AllByRecursion TermFits) (sym f.terms) ((omega arith, record { other = λ e. absurd (cc); within = omega arith }), tt))
    (subst (AllByRecursion IntegerFits) (sym f.integers) tt)

later-plain : (d : GvData) → d.degree ≤ℤ pos 24 → (s : GvSection) → SectionFits d s → AllByRecursion IsPlain (gv_section_lines s)
later-plain d top s f =
    let up = f.positive in
    let within = f.within in
    section-plain s (bounded_number s.section.degree (omega (arith, ints)) (omega (arith, ints))) f.numbers
    (all-onto (GvTermFits d.upto) TermFits (λ t g. (g.exponent, g.coefficient)) s.section.terms f.terms) f.integers

sections-plain : (d : GvData) (ss : List GvSection) → d.degree ≤ℤ pos 24 → SectionsFit d ss
    → AllByRecursion (λ s. AllByRecursion IsPlain (gv_section_lines s)) ss
sections-plain d [] top none = absurd none
sections-plain d (s ∷ ss) top fits = (
  first-plain d.heights s fits.0,
  all-onto (SectionFits d) (λ p. AllByRecursion IsPlain (gv_section_lines p)) (later-plain d top) ss fits.1,
)

lines-plain : (d : GvData) → GvFits d → AllByRecursion IsPlain (gv_lines d.heights d.degree d.upto d.sections)
lines-plain d f =
    let top = f.greatest_degree in
    let least = f.least_order in
    let degree = bounded_number d.degree f.least_degree (omega (arith, ints)) in
    let upto = bounded_number d.upto (omega (arith, ints)) f.greatest_order in
    let sections = all-flat_map (λ s. AllByRecursion IsPlain (gv_section_lines s)) IsPlain gv_section_lines (λ s all. all) d.sections
    (sections-plain d d.sections top f.sections) in (
      (word-above (codes "report") refl, (word-above (codes "gv") refl, tt)),
      (
        (word-above (codes "heights") refl, numbers-above d.heights (small_numbers d.heights f.heights)),
        (
          (word-above (codes "degree") refl, (number-above d.degree degree, tt)),
          (
            (word-above (codes "upto") refl, (number-above d.upto upto, tt)),
            all-append IsPlain _ _ sections ((word-above (codes "end") refl, tt), tt),
          ),
        ),
      ),
    )

spells-back : (d : GvData) → GvFits d → SpellsGv (word_lines (gv_text d.heights d.degree d.upto d.sections)) d
spells-back d f = record { fits = f; same = plain_reads_back (gv_lines d.heights d.degree d.upto d.sections) (lines-plain d f) }

pub sections_read_back : SectionsReadBack
sections_read_back d f =
    let spells = spells-back d f in
    record { spells = spells; only = λ c other. SpellsGv-unique (word_lines (gv_text d.heights d.degree d.upto d.sections)) c d other spells }
