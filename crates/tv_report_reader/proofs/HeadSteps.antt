-- What may follow in the lines up to the term of class zero.
use Rattle.std.proofs.Common.{◌≡◌, ◌≢◌, ℤ, pos, List, [], ◌∷◌, ◌++◌, length, map, drop, refl, sym, ◌∙◌, ap, subst, arith}
use Rattle.std.proofs.lemmas.Int.{ints}
use Rattle.std.specs.List.{AllByRecursion}
use Rattle.tv_spec_boxes.specs.Assignments.{zeros}
use Rattle.tv_spec_boxes.specs.Classes.{ClassesRise}
use Rattle.tv_spec_text.specs.Lines.{Line, IsNumber}
use Rattle.tv_spec_text.specs.Files.{heights_line}
use Rattle.tv_spec_text.specs.Reports.{Term, term_line}
use Rattle.tv_spec_reports.specs.IntegerLines.{GvSection}
use Rattle.tv_spec_reports.specs.Grammar.{GvData, SectionsFit, GvFits}
use Rattle.tv_text.specs.Sections.{degree_line, upto_line}
use Rattle.tv_report_reader.specs.Rows.{title_line, class_words, TermFits}
use Rattle.tv_report_reader.specs.Checks.{section_by, HeightsFit, DegreeFits, OrderFits, IsZeroClass}
use Rattle.tv_report_reader.specs.Stages.{Seen, zero_section, IsFresh, AreSound, lines_from, one_line, from_zero, Agrees, Leads, Stops}
use Rattle.tv_report_reader.specs.declared.stage.Stage.{Stage}
use Rattle.tv_report_reader.specs.declared.stage.Stage.TheVariants.{Opening, Heights, Degree, Upto, Zero, One, Closed}
use Rattle.tv_report_reader.proofs.Spelled.{small_numbers, bounded_number, zeros_numbers, zeros-all, all-zeros, length-zeros, heights_injective, degree_injective, upto_injective, class_injective, term_injective, first, others}

-- the stage and the line by other names

pub Leads-as : (g k : Stage) (s : Seen) (l m : Line) (h : Stage) (t : Seen) → g ≡ k → l ≡ m → Leads k s m h t → Leads g s l h t
Leads-as g k s l m h t e f x = subst (λ (j : Stage). Leads j s l h t) (sym e) (subst (λ (n : Line). Leads k s n h t) (sym f) x)

pub Stops-as : (g k : Stage) (s : Seen) (l m : Line) → g ≡ k → l ≡ m → Stops k s m → Stops g s l
Stops-as g k s l m e f x = subst (λ (j : Stage). Stops j s l) (sym e) (subst (λ (n : Line). Stops k s n) (sym f) x)

-- what the grammar asks of the data

pub heights-fit : (d : GvData) → GvFits d → HeightsFit d.heights
heights-fit d f = record { some = f.some; few = f.few; small = f.heights }

pub degree-fits : (d : GvData) → GvFits d → DegreeFits d.degree
degree-fits d f = record { least = f.least_degree; greatest = f.greatest_degree }

pub order-fits : (d : GvData) → GvFits d → OrderFits d.upto
order-fits d f = record { least = f.least_order; greatest = f.greatest_order }

heights-numbers : (d : GvData) → GvFits d → AllByRecursion IsNumber d.heights
heights-numbers d f = small_numbers d.heights f.heights

degree-number : (z : ℤ) → DegreeFits z → IsNumber z
degree-number z f = let a = f.least in let b = f.greatest in bounded_number z a (omega (arith, ints))

order-number : (z : ℤ) → OrderFits z → IsNumber z
order-number z f = let a = f.least in let b = f.greatest in bounded_number z (omega (arith, ints)) b

fresh-as : (s t : Seen) → t.closed ≡ s.closed → t.opened.section.terms ≡ s.opened.section.terms → t.opened.integers ≡ s.opened.integers → IsFresh s → IsFresh t
fresh-as s t a b c f = record { closed = a ∙ f.closed; terms = b ∙ f.terms; integers = c ∙ f.integers }

-- the first line

pub title-leads : (s : Seen) → Leads Opening s title_line Heights s
title-leads s = record {
  fitting = λ f. f;
  into = λ f d more fits rest. others _ _ _ _ rest;
  back = λ f d more fits rest. ap (λ ls. title_line ∷ ls) rest;
}

pub title-stops : (s : Seen) (l : Line) → l ≢ title_line → Stops Opening s l
title-stops s l other = λ f d more fits rest. other (first _ _ _ _ rest)

-- the heights

pub heights-leads : (s : Seen) (hs : List ℤ) → AllByRecursion IsNumber hs → HeightsFit hs → Leads Heights s (heights_line hs) Degree (record s { heights = hs })
heights-leads s hs all fit = record {
  fitting = λ f. (fresh-as s (record s { heights = hs }) refl refl refl f, fit);
  into = λ f d more fits rest. (heights_injective d.heights hs (heights-numbers d fits) all (sym (first _ _ _ _ rest)), others _ _ _ _ rest);
  back = λ f d more fits rest. ap (λ (ks : List ℤ). heights_line ks ∷ more) (sym rest.0) ∙ ap (λ ls. heights_line d.heights ∷ ls) rest.1;
}

pub heights-stops : (s : Seen) (l : Line) → ((hs : List ℤ) → AllByRecursion IsNumber hs → l ≢ heights_line hs) → Stops Heights s l
heights-stops s l none = λ f d more fits rest. none d.heights (heights-numbers d fits) (first _ _ _ _ rest)

pub heights-unfit : (s : Seen) (hs : List ℤ) → AllByRecursion IsNumber hs → (HeightsFit hs → ⊥) → Stops Heights s (heights_line hs)
heights-unfit s hs all unfit = λ f d more fits rest. unfit (subst HeightsFit (heights_injective d.heights hs (heights-numbers d fits) all (sym (first _ _ _ _ rest))) (heights-fit d fits))

-- the greatest degree

pub degree-leads : (s : Seen) (z : ℤ) → DegreeFits z → Leads Degree s (degree_line z) Upto (record s { degree = z })
degree-leads s z fit = record {
  fitting = λ f. (fresh-as s (record s { degree = z }) refl refl refl f.0, f.1, fit);
  into = λ f d more fits rest. (rest.0, degree_injective d.degree z (degree-number d.degree (degree-fits d fits)) (degree-number z fit) (sym (first _ _ _ _ rest.1)), others _ _ _ _ rest.1);
  back = λ f d more fits rest. (rest.0, ap (λ (y : ℤ). degree_line y ∷ more) (sym rest.1) ∙ ap (λ ls. degree_line d.degree ∷ ls) rest.2);
}

pub degree-stops : (s : Seen) (l : Line) → ((z : ℤ) → IsNumber z → l ≢ degree_line z) → Stops Degree s l
degree-stops s l none = λ f d more fits rest. none d.degree (degree-number d.degree (degree-fits d fits)) (first _ _ _ _ rest.1)

pub degree-unfit : (s : Seen) (z : ℤ) → IsNumber z → (DegreeFits z → ⊥) → Stops Degree s (degree_line z)
degree-unfit s z number unfit = λ f d more fits rest. unfit (subst DegreeFits (degree_injective d.degree z (degree-number d.degree (degree-fits d fits)) number (sym (first _ _ _ _ rest.1))) (degree-fits d fits))

-- the last exponent

pub upto-leads : (s : Seen) (z : ℤ) → OrderFits z → Leads Upto s (upto_line z) Zero (record s { upto = z })
upto-leads s z fit = record {
  fitting = λ f. (fresh-as s (record s { upto = z }) refl refl refl f.0, f.1, f.2, fit);
  into = λ f d more fits rest. (
    record { heights = rest.0; degree = rest.1; upto = upto_injective d.upto z (order-number d.upto (order-fits d fits)) (order-number z fit) (sym (first _ _ _ _ rest.2)) },
    others _ _ _ _ rest.2,
  );
  back = λ f d more fits rest. let a = rest.0 in (a.heights, a.degree, ap (λ (y : ℤ). upto_line y ∷ more) (sym a.upto) ∙ ap (λ ls. upto_line d.upto ∷ ls) rest.1);
}

pub upto-stops : (s : Seen) (l : Line) → ((z : ℤ) → IsNumber z → l ≢ upto_line z) → Stops Upto s l
upto-stops s l none = λ f d more fits rest. none d.upto (order-number d.upto (order-fits d fits)) (first _ _ _ _ rest.2)

pub upto-unfit : (s : Seen) (z : ℤ) → IsNumber z → (OrderFits z → ⊥) → Stops Upto s (upto_line z)
upto-unfit s z number unfit = λ f d more fits rest. unfit (subst OrderFits (upto_injective d.upto z (order-number d.upto (order-fits d fits)) number (sym (first _ _ _ _ rest.2))) (order-fits d fits))

-- class zero

pub section-same : (p q : GvSection) → p.section.degree ≡ q.section.degree → p.section.entries ≡ q.section.entries → p.section.terms ≡ q.section.terms → p.integers ≡ q.integers → p ≡ q
section-same p q a b c e =
    ap (λ z. section_by z p.section.entries p.section.terms p.integers) a
    ∙ ap (λ v. section_by q.section.degree v p.section.terms p.integers) b
    ∙ ap (λ ts. section_by q.section.degree q.section.entries ts p.integers) c
    ∙ ap (λ is. section_by q.section.degree q.section.entries q.section.terms is) e

zero_front : (d : GvData) (ss : List GvSection) → SectionsFit d ss → ss ≡ zero_section d.heights ∷ drop 1 ss
zero_front d [] none = absurd none
zero_front d (p ∷ ps) fits = let f = fits.0 in ap (λ q. q ∷ ps) (section-same p (zero_section d.heights) f.degree f.entries f.terms f.integers)

pub zero-first : (d : GvData) → GvFits d → d.sections ≡ zero_section d.heights ∷ drop 1 d.sections
zero-first d fits = zero_front d d.sections fits.sections

zero_lines : (d : GvData) → GvFits d → from_zero d ≡ class_words (pos 0) (zeros (length d.heights)) ∷ one_line ∷ lines_from (drop 1 d.sections)
unfolding lines_from
zero_lines d fits = ap lines_from (zero-first d fits)

zero_words : (s : Seen) (z : ℤ) (v : List ℤ) (d : GvData) → IsZeroClass s.heights z v → d.heights ≡ s.heights → class_words z v ≡ class_words (pos 0) (zeros (length d.heights))
zero_words s z v d zero same =
    ap (λ y. class_words y v) zero.degree ∙ ap (class_words (pos 0)) (zeros-all v (length s.heights) zero.count zero.zero ∙ ap (λ (hs : List ℤ). zeros (length hs)) (sym same))

pub zero-leads : (s : Seen) (z : ℤ) (v : List ℤ) → IsZeroClass s.heights z v → Leads Zero s (class_words z v) One (record s { opened = section_by z v s.opened.section.terms s.opened.integers })
zero-leads s z v zero =
    let t : Seen = record s { opened = section_by z v s.opened.section.terms s.opened.integers } in record {
      fitting = λ f. ((fresh-as s t refl refl refl f.0, zero.degree, zeros-all v (length s.heights) zero.count zero.zero), f.1, f.2, f.3);
      into = λ f d more fits rest. let a = rest.0 in (record { heights = a.heights; degree = a.degree; upto = a.upto }, ap (drop 1) (rest.1 ∙ zero_lines d fits));
      back = λ f d more fits rest. let a = rest.0 in (
        record { heights = a.heights; degree = a.degree; upto = a.upto },
        ap (λ (l : Line). l ∷ more) (zero_words s z v d zero a.heights) ∙ ap (λ ls. class_words (pos 0) (zeros (length d.heights)) ∷ ls) rest.1 ∙ sym (zero_lines d fits),
      );
    }

pub zero-stops : (s : Seen) (l : Line) → ((z : ℤ) (v : List ℤ) → IsNumber z → AllByRecursion IsNumber v → l ≢ class_words z v) → Stops Zero s l
zero-stops s l none = λ f d more fits rest. none (pos 0) (zeros (length d.heights)) (omega arith) (zeros_numbers (length d.heights)) (first _ _ _ _ (rest.1 ∙ zero_lines d fits))

pub zero-unfit : (s : Seen) (z : ℤ) (v : List ℤ) → IsNumber z → AllByRecursion IsNumber v → (IsZeroClass s.heights z v → ⊥) → Stops Zero s (class_words z v)
zero-unfit s z v number all unfit = λ f d more fits rest.
    let n = length d.heights in
    let same = class_injective z (pos 0) v (zeros n) number (omega arith) all (zeros_numbers n) (first _ _ _ _ (rest.1 ∙ zero_lines d fits)) in
    unfit (record {
      degree = same.0;
      count = ap length same.1 ∙ length-zeros n ∙ ap length rest.0.heights;
      zero = subst (AllByRecursion (λ x. x ≡ pos 0)) (sym same.1) (all-zeros n);
    })

-- the term of class zero

the_term : Term
the_term = record { exponent = pos 0; coefficient = pos 1 }

one_fits : TermFits the_term
unfolding the_term
one_fits = (omega arith, record { other = λ e. absurd (cc); within = omega arith })

term-same : (t : Term) → t.exponent ≡ pos 0 → t.coefficient ≡ pos 1 → t ≡ the_term
unfolding the_term
term-same t e f = ap (λ n. let u : Term = record { exponent = n; coefficient = t.coefficient } in u) e ∙ ap (λ x. let u : Term = record { exponent = pos 0; coefficient = x } in u) f

with_terms : Seen → List Term → Seen
with_terms s ts = record s { opened = section_by s.opened.section.degree s.opened.section.entries ts s.opened.integers }

one_sound : (s : Seen) (ts : List Term) → IsFresh s → s.opened.section.degree ≡ pos 0 → s.opened.section.entries ≡ zeros (length s.heights) → ts ≡ the_term ∷ [] → HeightsFit s.heights → DegreeFits s.degree → OrderFits s.upto → AreSound (with_terms s ts)
unfolding the_term with_terms
one_sound s ts fresh degree entries one hs z n =
    let t : Seen = with_terms s ts in
    let alone : t.closed ++ t.opened ∷ [] ≡ t.opened ∷ [] = ap (λ (ps : List GvSection). ps ++ t.opened ∷ []) fresh.closed in record {
      heights = record { some = hs.some; few = hs.few; small = hs.small };
      degree = record { least = z.least; greatest = z.greatest };
      order = record { least = n.least; greatest = n.greatest };
      sections = subst (SectionsFit _) (sym alone) (record { degree = degree; entries = entries; terms = one; integers = fresh.integers }, tt);
      rise = subst (λ (ps : List GvSection). ClassesRise t.heights (map (λ (p : GvSection). p.section.entries) ps)) (sym alone) tt;
    }

one_agrees : (s : Seen) (ts : List Term) (d : GvData) → Agrees s d → Agrees (with_terms s ts) d
unfolding with_terms
one_agrees s ts d a = record { heights = a.heights; degree = a.degree; upto = a.upto }

agrees_one : (s : Seen) (ts : List Term) (d : GvData) → Agrees (with_terms s ts) d → Agrees s d
unfolding with_terms
agrees_one s ts d a = record { heights = a.heights; degree = a.degree; upto = a.upto }

-- the section of class zero, as it is read
one_section : (s : Seen) (d : GvData) (ts : List Term) → d.heights ≡ s.heights → s.opened.section.degree ≡ pos 0 → s.opened.section.entries ≡ zeros (length s.heights) → ts ≡ the_term ∷ [] → s.opened.integers ≡ [] → zero_section d.heights ≡ (with_terms s ts).opened
unfolding the_term with_terms
one_section s d ts same degree entries one none =
    sym (section-same (section_by s.opened.section.degree s.opened.section.entries ts s.opened.integers) (zero_section d.heights) degree (entries ∙ ap (λ (hs : List ℤ). zeros (length hs)) (sym same)) one none)

one_ts : (s : Seen) (ts : List Term) (t : Term) → IsFresh s → t.exponent ≡ pos 0 → t.coefficient ≡ pos 1 → ts ≡ s.opened.section.terms ++ t ∷ [] → ts ≡ the_term ∷ []
one_ts s ts t fresh e f made = made ∙ ap (λ us. us ++ t ∷ []) fresh.terms ∙ ap (λ u. u ∷ []) (term-same t e f)

pub one-leads : (s : Seen) (t : Term) (ts : List Term) → t.exponent ≡ pos 0 → t.coefficient ≡ pos 1 → ts ≡ s.opened.section.terms ++ t ∷ [] → Leads One s (term_line t) Closed (record s { opened = section_by s.opened.section.degree s.opened.section.entries ts s.opened.integers })
unfolding the_term with_terms
one-leads s t ts e f made = record {
  fitting = λ k. one_sound s ts k.0.0 k.0.1 k.0.2 (one_ts s ts t k.0.0 e f made) k.1 k.2 k.3;
  into = λ k d more fits rest. record {
    agrees = one_agrees s ts d rest.0;
    later = drop 1 d.sections;
    sections = zero-first d fits ∙ ap (λ p. p ∷ drop 1 d.sections) (one_section s d ts rest.0.heights k.0.1 k.0.2 (one_ts s ts t k.0.0 e f made) k.0.0.integers)
        ∙ ap (λ (ps : List GvSection). ps ++ (with_terms s ts).opened ∷ drop 1 d.sections) (sym k.0.0.closed);
    same = others _ _ _ _ rest.1;
  };
  back = λ k d more fits rest. (
    agrees_one s ts d rest.agrees,
    ap (λ u. term_line u ∷ more) (term-same t e f)
        ∙ ap (λ ls. one_line ∷ ls) (rest.same ∙ ap lines_from (sym (ap (drop 1) (rest.sections ∙ ap (λ (ps : List GvSection). ps ++ (with_terms s ts).opened ∷ rest.later) k.0.0.closed)))),
  );
}

pub one-stops : (s : Seen) (l : Line) → ((t : Term) → TermFits t → l ≢ term_line t) → Stops One s l
unfolding the_term
one-stops s l none = λ f d more fits rest. none the_term one_fits (first _ _ _ _ rest.1)

pub one-unfit : (s : Seen) (t : Term) → TermFits t → (t.exponent ≡ pos 0 → t.coefficient ≡ pos 1 → ⊥) → Stops One s (term_line t)
unfolding the_term
one-unfit s t tfits unfit = λ f d more fits rest.
    let same : t ≡ the_term = term_injective t the_term tfits one_fits (first _ _ _ _ rest.1) in
    unfit (ap (λ (u : Term). u.exponent) same) (ap (λ (u : Term). u.coefficient) same)
