-- Sections of a report: what the grammar asks of one more, and of the last one.
use Rattle.std.proofs.Common.{◌≡◌, ℤ, ◌<◌, ◌≤ℤ◌, List, [], ◌∷◌, ◌++◌, length, map, drop, refl, sym, ◌∙◌, ap, subst, arith, append_assoc, true}
use Rattle.std.specs.List.{AllByRecursion}
use Rattle.tv_lemmas.proofs.Members.{all-append, all-front, all-back, all-onto}
use Rattle.tv_spec_plane.specs.Web.{degree_of}
use Rattle.tv_spec_boxes.specs.Classes.{IsBefore, ClassesRise}
use Rattle.tv_spec_series.specs.Families.{comes_before}
use Rattle.tv_spec_series.proofs.Order.{comes_before_is, comes_before-true, comes_before_tells}
use Rattle.tv_laws_families.proofs.ZeroClass.{degree-zeros}
use Rattle.tv_spec_text.specs.Files.{end_line}
use Rattle.tv_spec_text.specs.Reports.{term_line}
use Rattle.tv_spec_reports.specs.IntegerLines.{GvSection, integer_line}
use Rattle.tv_spec_reports.specs.Grammar.{GvData, GvTermFits, SectionFits, SectionsFit, GvFits}
use Rattle.tv_report_reader.specs.Rows.{class_words}
use Rattle.tv_report_reader.specs.Checks.{is_later}
use Rattle.tv_report_reader.specs.Stages.{Seen, shell, data_of, AreSound, lines_from, Agrees}

-- the data enters only by its heights, degree and last exponent
pub refit : (d e : GvData) (p : GvSection) → d.heights ≡ e.heights → d.degree ≡ e.degree → d.upto ≡ e.upto → SectionFits d p → SectionFits e p
refit d e p hs z n f = record {
  entries = f.entries ∙ ap length hs;
  numbers = f.numbers;
  degree = f.degree ∙ ap (λ (ks : List ℤ). degree_of ks p.section.entries) hs;
  positive = f.positive;
  within = subst (λ (y : ℤ). p.section.degree ≤ℤ y) z f.within;
  terms = subst (λ (m : ℤ). AllByRecursion (GvTermFits m) p.section.terms) n f.terms;
  rises = f.rises;
  integers = f.integers;
  genera = f.genera;
}

pub all-refit : (d e : GvData) (ps : List GvSection) → d.heights ≡ e.heights → d.degree ≡ e.degree → d.upto ≡ e.upto → AllByRecursion (SectionFits d) ps → AllByRecursion (SectionFits e) ps
all-refit d e ps hs z n all = all-onto (SectionFits d) (SectionFits e) (λ p f. refit d e p hs z n f) ps all

-- a section behind others
pub section-at : (d : GvData) (ps : List GvSection) (p : GvSection) (more : List GvSection) → 0 < length ps → SectionsFit d (ps ++ p ∷ more) → SectionFits d p
section-at d [] p more h fits = absurd (omega arith)
section-at d (z ∷ ps) p more h fits = (all-back (SectionFits d) ps (p ∷ more) fits.1).0

pub sections-push : (d : GvData) (ps : List GvSection) (q : GvSection) → 0 < length ps → SectionsFit d ps → SectionFits d q → SectionsFit d (ps ++ q ∷ [])
sections-push d [] q h fits last = absurd (omega arith)
sections-push d (z ∷ ps) q h fits last = (fits.0, all-append (SectionFits d) ps (q ∷ []) fits.1 (last, tt))

pub sections-front : (d : GvData) (ps more : List GvSection) → 0 < length ps → SectionsFit d (ps ++ more) → SectionsFit d ps
sections-front d [] more h fits = absurd (omega arith)
sections-front d (z ∷ ps) more h fits = (fits.0, all-front (SectionFits d) ps more fits.1)

-- classes that rise

pub rise-push : (hs : List ℤ) (ps : List GvSection) (p q : GvSection) → ClassesRise hs (map (λ (x : GvSection). x.section.entries) (ps ++ p ∷ [])) → IsBefore hs p.section.entries q.section.entries → ClassesRise hs (map (λ (x : GvSection). x.section.entries) ((ps ++ p ∷ []) ++ q ∷ []))
rise-push hs [] p q r h = (h, tt)
rise-push hs (a ∷ []) p q r h = (r.0, rise-push hs [] p q r.1 h)
rise-push hs (a ∷ b ∷ ps) p q r h = (r.0, rise-push hs (b ∷ ps) p q r.1 h)

pub rise-at : (hs : List ℤ) (ps : List GvSection) (p q : GvSection) (more : List GvSection) → ClassesRise hs (map (λ (x : GvSection). x.section.entries) (ps ++ p ∷ q ∷ more)) → IsBefore hs p.section.entries q.section.entries
rise-at hs [] p q more r = r.0
rise-at hs (a ∷ []) p q more r = rise-at hs [] p q more r.1
rise-at hs (a ∷ b ∷ ps) p q more r = rise-at hs (b ∷ ps) p q more r.1

pub same-classes : (ps : List GvSection) (p q : GvSection) → p.section.entries ≡ q.section.entries → map (λ (x : GvSection). x.section.entries) (ps ++ p ∷ []) ≡ map (λ (x : GvSection). x.section.entries) (ps ++ q ∷ [])
same-classes [] p q e = ap (λ (v : List ℤ). v ∷ []) e
same-classes (a ∷ ps) p q e = ap (λ vs. a.section.entries ∷ vs) (same-classes ps p q e)

-- the degree of the open section is that of its class

first-degree : (s : Seen) (ps : List GvSection) → SectionsFit (shell s) (ps ++ s.opened ∷ []) → s.opened.section.degree ≡ degree_of s.heights s.opened.section.entries
first-degree s [] fits = let f = fits.0 in f.degree ∙ sym (degree-zeros s.heights (length s.heights)) ∙ ap (degree_of s.heights) (sym f.entries)
first-degree s (z ∷ ps) fits = let f = section-at (shell s) (z ∷ ps) s.opened [] (omega arith) fits in f.degree

pub opened-degree : (s : Seen) → AreSound s → s.opened.section.degree ≡ degree_of s.heights s.opened.section.entries
opened-degree s sound = first-degree s s.closed sound.sections

later-is : (hs u v : List ℤ) (z y : ℤ) → z ≡ degree_of hs u → y ≡ degree_of hs v → is_later z u y v ≡ comes_before hs u v
later-is hs u v z y e f = ap (λ (a : ℤ). is_later a u y v) e ∙ ap (λ (b : ℤ). is_later (degree_of hs u) u b v) f ∙ sym (comes_before_is hs u v)

pub before-later : (hs u v : List ℤ) (z y : ℤ) → z ≡ degree_of hs u → y ≡ degree_of hs v → IsBefore hs u v → is_later z u y v ≡ true
before-later hs u v z y e f b = later-is hs u v z y e f ∙ comes_before-true hs u v b

pub later-before : (hs u v : List ℤ) (z y : ℤ) → z ≡ degree_of hs u → y ≡ degree_of hs v → is_later z u y v ≡ true → IsBefore hs u v
later-before hs u v z y e f h = comes_before_tells hs u v (sym (later-is hs u v z y e f) ∙ h)

-- the lines of sections

pub lines-none : lines_from [] ≡ end_line ∷ []
unfolding lines_from
lines-none = refl

pub lines-some : (p : GvSection) (ps : List GvSection) → lines_from (p ∷ ps) ≡ class_words p.section.degree p.section.entries ∷ (map term_line p.section.terms ++ (map integer_line p.integers ++ lines_from ps))
unfolding lines_from
lines-some p ps = ap (λ ls. class_words p.section.degree p.section.entries ∷ ls)
    (append_assoc (map term_line p.section.terms ++ map integer_line p.integers) _ (end_line ∷ []) ∙ append_assoc (map term_line p.section.terms) (map integer_line p.integers) _)

-- what has been read is the beginning of a report

pub sound-fits : (s : Seen) → AreSound s → GvFits (data_of s)
sound-fits s sound = record {
  some = sound.heights.some;
  few = sound.heights.few;
  heights = sound.heights.small;
  least_degree = sound.degree.least;
  greatest_degree = sound.degree.greatest;
  least_order = sound.order.least;
  greatest_order = sound.order.greatest;
  sections = whole s (s.closed ++ s.opened ∷ []) sound.sections;
  order = sound.rise;
} where
  whole : (s : Seen) (ps : List GvSection) → SectionsFit (shell s) ps → SectionsFit (data_of s) ps
  whole s [] fits = fits
  whole s (z ∷ ps) fits = (fits.0, all-refit (shell s) (data_of s) ps refl refl refl fits.1)

pub shell-sections : (s : Seen) (d : GvData) → Agrees s d → (ps : List GvSection) → SectionsFit d ps → 0 < length ps → AllByRecursion (SectionFits (shell s)) (drop 1 ps)
shell-sections s d a [] fits h = absurd (omega arith)
shell-sections s d a (z ∷ ps) fits h = all-refit d (shell s) ps a.heights a.degree a.upto fits.1
