-- Rows of sections, put in one after another.
use Rattle.std.proofs.Common.{◌≡◌, ℕ, ℤ, pos, suc, ◌+◌, ◌<◌, ◌≤ℤ◌, List, [], ◌∷◌, ◌++◌, length, map, take, drop, get_or, refl, sym, ◌∙◌, ap, subst, arith, true, drop-cons, to_z, of_z, w64}
use Rattle.std.proofs.lemmas.Int.{ints}
use Rattle.std.proofs.lemmas.List.{take_more, take_all, take-append-drop, map-append}
use Rattle.std.specs.List.{AllByRecursion}
use Rattle.tv_lattice.proofs.Each.{each_below}
use Rattle.tv_lemmas.proofs.Members.{all-onto, all-map}
use Rattle.tv_ring.specs.Whole.{wholes}
use Rattle.tv_laws_series.specs.Terms.{Terms}
use Rattle.tv_laws_series.specs.Series.{series_cut}
use Rattle.tv_spec_boxes.specs.Classes.{IsBefore, ClassesRise}
use Rattle.tv_spec_series.specs.Families.{Row, Family, row, put, added, comes_before}
use Rattle.tv_spec_series.proofs.Rows.{put-nil, put-before}
use Rattle.tv_spec_series.proofs.Order.{comes_before-true, before_trans}
use Rattle.tv_spec_series.specs.Families.{without_rows}
use Rattle.tv_spec_plane.specs.Web.{degree_of}
use Rattle.tv_laws_families.proofs.ZeroClass.{degree-zeros}
use Rattle.tv_spec_text.specs.Reports.{Rises}
use Rattle.tv_spec_reports.specs.IntegerLines.{GvSection}
use Rattle.tv_spec_reports.specs.Grammar.{GvData, GvTermFits, FirstSection, SectionFits, SectionsFit, GvFits}
use Rattle.tv_report_reader.specs.Checks.{OrderFits, DegreeFits}
use Rattle.tv_report_reader.proofs.Spelled.{length-zeros, bounded_number}
use Rattle.tv_text.proofs.Spellings.{same_number}
use Rattle.tv_spec_text.specs.Lines.{IsNumber}
use Rattle.tv_report_reader.proofs.HeadSteps.{order-fits, degree-fits}
use Rattle.tv_report_reader.specs.Told.{row_of, series_of, AreSeriesTerms, HasSeries, StartsFamily}
use Rattle.tv_report_reader.proofs.Dense.{series-cut}

-- the classes before one are all before it
pub rise-all : (hs : List ℤ) (ps : List GvSection) (q : GvSection) (more : List GvSection) → ClassesRise hs (map (λ (x : GvSection). x.section.entries) (ps ++ q ∷ more)) → AllByRecursion (λ (p : GvSection). IsBefore hs p.section.entries q.section.entries) ps
rise-all hs [] q more r = tt
rise-all hs (p ∷ []) q more r = (r.0, tt)
rise-all hs (p ∷ a ∷ ps) q more r =
    let rest = rise-all hs (a ∷ ps) q more r.1 in
    (before_trans hs p.section.entries a.section.entries q.section.entries r.0 rest.0, rest)

put-last : (hs : List ℤ) (n : ℤ) (v : List ℤ) (s : Terms ℤ) (rows : List (Row ℤ)) → AllByRecursion (λ (x : Row ℤ). comes_before hs x.class v ≡ true) rows → put wholes hs n v s rows ≡ rows ++ row v (series_cut n s) ∷ []
put-last hs n v s [] all = put-nil wholes hs n v s
put-last hs n v s (x ∷ rows) all = put-before wholes hs n v s x rows all.0 ∙ ap (λ xs. x ∷ xs) (put-last hs n v s rows all.1)

pub put-section : (hs : List ℤ) (n : ℤ) (ps : List GvSection) (q : GvSection) (more : List GvSection) (s : Terms ℤ) → ClassesRise hs (map (λ (x : GvSection). x.section.entries) (ps ++ q ∷ more)) → s ≡ series_of n q.section.terms → series_cut n s ≡ s → put wholes hs n q.section.entries s (map (row_of n) ps) ≡ map (row_of n) (ps ++ q ∷ [])
put-section hs n ps q more s rise same whole =
    let before = all-map (λ (p : GvSection). IsBefore hs p.section.entries q.section.entries) (λ (x : Row ℤ). comes_before hs x.class q.section.entries ≡ true) (row_of n) (λ p b. comes_before-true hs p.section.entries q.section.entries b) ps (rise-all hs ps q more rise) in
    put-last hs n q.section.entries s (map (row_of n) ps) before
    ∙ ap (λ (t : Terms ℤ). map (row_of n) ps ++ row q.section.entries t ∷ []) (whole ∙ same)
    ∙ sym (map-append (row_of n) ps (q ∷ []))

-- one section further

split-at : (ps : List GvSection) (i : ℕ) (d : GvSection) → i < length ps → ps ≡ take i ps ++ get_or ps i d ∷ drop (suc i) ps
split-at ps i d h = sym (take-append-drop i ps) ∙ ap (λ xs. take i ps ++ xs) (drop-cons ps i d h)

pub series-at : (f g : Family ℤ) (ps : List GvSection) (i : ℕ) (d q : GvSection) → StartsFamily f ps → i < length ps → q ≡ get_or ps i d → g ≡ record f { rows = map (row_of f.upto) (take i ps) } → HasSeries g q
series-at f g ps i d q starts h e same =
    let here : HasSeries f q = subst (HasSeries f) (sym e) (each_below (HasSeries f) ps (length ps) i d h h (subst (AllByRecursion (HasSeries f)) (sym (take_all (length ps) ps (omega arith))) starts.each)) in
    let place = here.place in
    subst (λ (k : Family ℤ). HasSeries k q) (sym same) (record { place = place; terms = here.terms })

pub family-more : (f g k : Family ℤ) (ps : List GvSection) (i : ℕ) (d q : GvSection) → StartsFamily f ps → i < length ps → q ≡ get_or ps i d → g ≡ record f { rows = map (row_of f.upto) (take i ps) } → k ≡ added wholes q.section.entries (series_of g.upto q.section.terms) g → k ≡ record f { rows = map (row_of f.upto) (take (i + 1) ps) }
family-more f g k ps i d q starts h e same made =
    let here = series-at f g ps i d q starts h e same in
    let fits : AreSeriesTerms f.upto q.section.terms = subst (λ (m : ℤ). AreSeriesTerms m q.section.terms) (ap (λ (x : Family ℤ). x.upto) same) here.terms in
    let split : ps ≡ take i ps ++ q ∷ drop (suc i) ps = split-at ps i d h ∙ ap (λ (p : GvSection). take i ps ++ p ∷ drop (suc i) ps) (sym e) in
    let rise = subst (λ (xs : List GvSection). ClassesRise f.heights (map (λ (x : GvSection). x.section.entries) xs)) split starts.rise in
    let rows = put-section f.heights f.upto (take i ps) q (drop (suc i) ps) (series_of f.upto q.section.terms) rise refl (series-cut f.upto q.section.terms fits) in
    let more : take (i + 1) ps ≡ take i ps ++ q ∷ [] = take_more ps i d h ∙ ap (λ (p : GvSection). take i ps ++ p ∷ []) (sym e) in
    made ∙ ap (λ (x : Family ℤ). added wholes q.section.entries (series_of x.upto q.section.terms) x) same
    ∙ ap (λ (xs : List (Row ℤ)). let x : Family ℤ = record f { rows = xs } in x) (rows ∙ ap (map (row_of f.upto)) (sym more))

-- what the grammar gives

section-series : (d : GvData) (p : GvSection) → OrderFits d.upto → SectionFits d p → HasSeries (without_rows d.heights d.degree d.upto) p
section-series d p order f = record {
  place = record { entries = f.entries; positive = below f.degree f.positive; within = subst (λ (z : ℤ). z ≤ℤ d.degree) f.degree f.within };
  terms = record { order = order; each = f.terms; rises = f.rises };
} where
  below : {y z : ℤ} → y ≡ z → pos 1 ≤ℤ y → pos 0 ≤ℤ z
  below e h = omega (arith, ints)

first-series : (d : GvData) (p : GvSection) → OrderFits d.upto → DegreeFits d.degree → FirstSection d.heights p → HasSeries (without_rows d.heights d.degree d.upto) p
first-series d p order degree f =
    let zero : degree_of d.heights p.section.entries ≡ pos 0 = ap (degree_of d.heights) f.entries ∙ degree-zeros d.heights (length d.heights) in
    let low = order.least in
    let top = degree.least in record {
      place = record { entries = ap length f.entries ∙ length-zeros (length d.heights); positive = omega (arith, ints); within = omega (arith, ints) };
      terms = record {
        order = order;
        each = subst (AllByRecursion (GvTermFits d.upto)) (sym f.terms) (record { exponent = omega arith; within = omega (arith, ints); coefficient = record { other = λ e. absurd (cc); within = omega arith } }, tt);
        rises = subst Rises (sym f.terms) tt;
      };
    }

all-series : (d : GvData) (ss : List GvSection) → OrderFits d.upto → DegreeFits d.degree → SectionsFit d ss → AllByRecursion (HasSeries (without_rows d.heights d.degree d.upto)) ss
all-series d [] order degree none = absurd none
all-series d (p ∷ ps) order degree fits = (first-series d p order degree fits.0, all-onto (SectionFits d) (HasSeries (without_rows d.heights d.degree d.upto)) (λ q f. section-series d q order f) ps fits.1)

pub starts : (d : GvData) (f : Family ℤ) (ss : List GvSection) → GvFits d → f ≡ without_rows d.heights d.degree d.upto → ss ≡ d.sections → StartsFamily f ss
starts d f ss fits e same = subst (λ (g : Family ℤ). StartsFamily g ss) (sym e) (subst (StartsFamily (without_rows d.heights d.degree d.upto)) (sym same) (record {
  none = refl;
  each = all-series d d.sections (order-fits d fits) (degree-fits d fits) fits.sections;
  rise = fits.order;
}))

pub without-as : (d : GvData) (hs : List ℤ) (z n : ℤ) → GvFits d → hs ≡ d.heights → z ≡ d.degree → n ≡ d.upto → without_rows {A = ℤ} hs (to_z w64 (of_z w64 z)) (to_z w64 (of_z w64 n)) ≡ without_rows d.heights d.degree d.upto
without-as d hs z n fits e f g =
    let degree = same_number z (subst IsNumber (sym f) (bounded_number d.degree fits.least_degree (below-64 d.degree fits.greatest_degree))) in
    let order = same_number n (subst IsNumber (sym g) (bounded_number d.upto (from-1 d.upto fits.least_order) fits.greatest_order)) in
    ap (λ (ks : List ℤ). without_rows ks (to_z w64 (of_z w64 z)) (to_z w64 (of_z w64 n))) e
    ∙ ap (λ (y : ℤ). without_rows d.heights y (to_z w64 (of_z w64 n))) (degree ∙ f)
    ∙ ap (λ (m : ℤ). without_rows d.heights d.degree m) (order ∙ g)
  where
    below-64 : (z : ℤ) → z ≤ℤ pos 24 → z ≤ℤ pos 64
    below-64 z h = omega (arith, ints)

    from-1 : (z : ℤ) → pos 1 ≤ℤ z → pos 0 ≤ℤ z
    from-1 z h = omega (arith, ints)
