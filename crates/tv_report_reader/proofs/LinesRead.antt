-- What is read so far, one line further, and the place of the first line with which no report goes on.
use Rattle.std.proofs.Common.{◌≡◌, ◌≢◌, ℕ, ℤ, pos, ◌+◌, ◌<◌, List, [], ◌∷◌, ◌++◌, length, map, take, refl, sym, ◌∙◌, ap, subst, arith, append_assoc, append-nil, add-one}
use Rattle.std.proofs.lemmas.Int.{ints}
use Rattle.std.proofs.lemmas.List.{take_all}
use Rattle.tv_spec_text.specs.Places.{Begins, IsPlace}
use Rattle.tv_spec_text.specs.Lines.{Line}
use Rattle.tv_spec_text.specs.Reports.{Term, term_line}
use Rattle.tv_spec_reports.specs.IntegerLines.{GenusValue, GvSection, integer_line, gv_lines}
use Rattle.tv_spec_reports.specs.Grammar.{GvData, GvFits, SpellsGv, IsGv}
use Rattle.tv_report_reader.specs.Rows.{title_line}
use Rattle.tv_report_reader.specs.Checks.{section_by, HeightsFit, DegreeFits, OrderFits}
use Rattle.tv_report_reader.specs.Stages.{Seen, data_of, zero_section, IsFresh, lines_from, one_line, from_heights, from_degree, from_upto, from_zero, Rest, Leads, Stops, IsAt}
use Rattle.tv_report_reader.specs.declared.stage.Stage.{Stage}
use Rattle.tv_report_reader.specs.declared.stage.Stage.TheVariants.{Opening, Heights, Degree, Upto, Zero, One, Closed, Terms, Integers, Done}
use Rattle.tv_report_reader.proofs.Sections.{sound-fits, lines-none, lines-some}
use Rattle.tv_report_reader.proofs.BodySteps.{grown-none, with-class}

pub all_lines : (d : GvData) → gv_lines d.heights d.degree d.upto d.sections ≡ title_line ∷ from_heights d
unfolding lines_from
all_lines d = refl

pub IsAt-start : (s : Seen) → IsFresh s → IsAt Opening s []
IsAt-start s fresh = record {
  fitting = fresh;
  into = λ d more spells. spells.same ∙ all_lines d;
  back = λ d more fits rest. rest;
}

pub IsAt-leads : (g h : Stage) (s t : Seen) (ls : List Line) (l : Line) → IsAt g s ls → Leads g s l h t → IsAt h t (ls ++ l ∷ [])
IsAt-leads g h s t ls l here leads = record {
  fitting = leads.fitting here.fitting;
  into = λ d more spells. leads.into here.fitting d more spells.fits (here.into d (l ∷ more) (record { fits = spells.fits; same = sym (append_assoc ls (l ∷ []) more) ∙ spells.same }));
  back = λ d more fits rest. append_assoc ls (l ∷ []) more ∙ here.back d (l ∷ more) fits (leads.back here.fitting d more fits rest);
}

pub IsAt-stops : (g : Stage) (s : Seen) (ls : List Line) (l : Line) → IsAt g s ls → Stops g s l → (more : List Line) → IsGv (ls ++ l ∷ more) → ⊥
IsAt-stops g s ls l here stops more gv = stops here.fitting gv.0 more gv.1.fits (here.into gv.0 (l ∷ more) gv.1)

-- some report begins with what is read

least : List ℤ → ℤ → ℤ → GvData
least hs z n = record { heights = hs; degree = z; upto = n; sections = zero_section hs ∷ [] }

least-fits : (hs : List ℤ) (z n : ℤ) → HeightsFit hs → DegreeFits z → OrderFits n → GvFits (least hs z n)
unfolding least
least-fits hs z n h d o = record {
  some = h.some;
  few = h.few;
  heights = h.small;
  least_degree = d.least;
  greatest_degree = d.greatest;
  least_order = o.least;
  greatest_order = o.greatest;
  sections = (record { degree = refl; entries = refl; terms = refl; integers = refl }, tt);
  order = tt;
}

no_height : HeightsFit (pos 0 ∷ [])
no_height = record { some = omega arith; few = omega arith; small = (omega arith, tt) }

no_degree : DegreeFits (pos 0)
no_degree = record { least = omega (arith, ints); greatest = omega (arith, ints) }

least_order : OrderFits (pos 1)
least_order = record { least = omega (arith, ints); greatest = omega (arith, ints) }

begun : (g : Stage) (s : Seen) (ls : List Line) (d : GvData) (more : List Line) → IsAt g s ls → GvFits d → Rest g s d more → Begins IsGv ls
begun g s ls d more here fits rest = (more, (d, record { fits = fits; same = here.back d more fits rest ∙ sym (all_lines d) }))

pub IsAt-begins : (g : Stage) (s : Seen) (ls : List Line) → IsAt g s ls → Begins IsGv ls
unfolding least
IsAt-begins Opening s ls here = let d = least (pos 0 ∷ []) (pos 0) (pos 1) in begun Opening s ls d _ here (least-fits (pos 0 ∷ []) (pos 0) (pos 1) no_height no_degree least_order) refl
IsAt-begins Heights s ls here = let d = least (pos 0 ∷ []) (pos 0) (pos 1) in begun Heights s ls d _ here (least-fits (pos 0 ∷ []) (pos 0) (pos 1) no_height no_degree least_order) refl
IsAt-begins Degree s ls here = let f = here.fitting in begun Degree s ls (least s.heights (pos 0) (pos 1)) (from_degree (least s.heights (pos 0) (pos 1))) here (least-fits s.heights (pos 0) (pos 1) f.1 no_degree least_order) (refl, refl)
IsAt-begins Upto s ls here = let f = here.fitting in begun Upto s ls (least s.heights s.degree (pos 1)) (from_upto (least s.heights s.degree (pos 1))) here (least-fits s.heights s.degree (pos 1) f.1 f.2 least_order) (refl, refl, refl)
IsAt-begins Zero s ls here = let f = here.fitting in begun Zero s ls (least s.heights s.degree s.upto) (from_zero (least s.heights s.degree s.upto)) here (least-fits s.heights s.degree s.upto f.1 f.2 f.3) (record { heights = refl; degree = refl; upto = refl }, refl)
IsAt-begins One s ls here = let f = here.fitting in begun One s ls (least s.heights s.degree s.upto) (one_line ∷ lines_from []) here (least-fits s.heights s.degree s.upto f.1 f.2 f.3) (record { heights = refl; degree = refl; upto = refl }, refl)
IsAt-begins Closed s ls here = begun Closed s ls (data_of s) (lines_from []) here (sound-fits s here.fitting) (record { agrees = record { heights = refl; degree = refl; upto = refl }; later = []; sections = refl; same = refl })
IsAt-begins Terms s ls here = begun Terms s ls (data_of s) (lines_from []) here (sound-fits s here.fitting.1) (record { agrees = record { heights = refl; degree = refl; upto = refl }; terms = []; integers = []; later = []; sections = ap (λ p. s.closed ++ p ∷ []) (sym (grown-none s.opened)); same = refl })
IsAt-begins Integers s ls here = begun Integers s ls (data_of s) (lines_from []) here (sound-fits s here.fitting.1) (record { agrees = record { heights = refl; degree = refl; upto = refl }; integers = []; later = []; sections = ap (λ p. s.closed ++ p ∷ []) (sym (grown-none s.opened)); same = refl })
IsAt-begins Done s ls here = begun Done s ls (data_of s) [] here (sound-fits s here.fitting) (record { heights = refl; degree = refl; upto = refl }, refl, refl)

-- the end

no_lines : (later : List GvSection) → [] ≡ lines_from later → ⊥
no_lines [] e = let f = e ∙ lines-none in cc
no_lines (p ∷ ps) e = let f = e ∙ lines-some p ps in cc

no_zero_lines : (d : GvData) → [] ≡ from_zero d → ⊥
no_zero_lines d e = no_lines d.sections e

none : (ts : List Term) (is : List GenusValue) (later : List GvSection) → [] ≡ map term_line ts ++ (map integer_line is ++ lines_from later) → ⊥
none [] [] later e = no_lines later e
none [] (i ∷ is) later e = cc
none (t ∷ ts) is later e = cc

rest-end : (g : Stage) (s : Seen) (d : GvData) → g ≢ Done → Rest g s d [] → ⊥
rest-end Opening s d other rest = cc
rest-end Heights s d other rest = cc
rest-end Degree s d other rest = let e = rest.1 in cc
rest-end Upto s d other rest = let e = rest.2 in cc
rest-end Zero s d other rest = no_zero_lines d rest.1
rest-end One s d other rest = let e = rest.1 in cc
rest-end Closed s d other rest = no_lines rest.later rest.same
rest-end Terms s d other rest = none rest.terms rest.integers rest.later rest.same
rest-end Integers s d other rest = none [] rest.integers rest.later rest.same
rest-end Done s d other rest = other refl

pub IsAt-end : (g : Stage) (s : Seen) (ls : List Line) → g ≢ Done → IsAt g s ls → IsGv ls → ⊥
IsAt-end g s ls other here gv = rest-end g s gv.0 other (here.into gv.0 [] (record { fits = gv.1.fits; same = append-nil ls ∙ gv.1.same }))

pub IsAt-done : (g : Stage) (s : Seen) (ls : List Line) → g ≡ Done → IsAt g s ls → SpellsGv ls (data_of s)
IsAt-done g s ls e here =
    let there : IsAt Done s ls = subst (λ (k : Stage). IsAt k s ls) e here in
    let fits = sound-fits s there.fitting in
    record { fits = fits; same = sym (append-nil ls) ∙ there.back (data_of s) [] fits (record { heights = refl; degree = refl; upto = refl }, refl, refl) ∙ sym (all_lines (data_of s)) }

-- the place

pub place-within : (xs : List Line) (k : ℕ) (l : Line) (g : Stage) (s : Seen) → k < length xs → take (k + 1) xs ≡ take k xs ++ l ∷ [] → IsAt g s (take k xs) → Stops g s l → IsPlace IsGv xs k
place-within xs k l g s h more here stops = record {
  within = omega arith;
  before = IsAt-begins g s (take k xs) here;
  outside = λ _ b. IsAt-stops g s (take k xs) l here stops b.0 (subst IsGv (ap (λ z. z ++ b.0) (ap (λ n. take n xs) (sym (add-one k)) ∙ more) ∙ append_assoc (take k xs) (l ∷ []) b.0) b.1);
  short = λ e. absurd (omega arith);
}

pub place-at-end : (xs : List Line) (g : Stage) (s : Seen) → g ≢ Done → IsAt g s xs → IsPlace IsGv xs (length xs)
place-at-end xs g s other here = record {
  within = omega arith;
  before = subst (Begins IsGv) (sym (take_all (length xs) xs (omega arith))) (IsAt-begins g s xs here);
  outside = λ h. absurd (omega arith);
  short = λ _ gv. IsAt-end g s xs other here gv;
}

-- the section that is closed, and the one that is open

pub same-seen : (s : Seen) (cs : List GvSection) (z y : ℤ) (v u : List ℤ) (ts : List Term) (is : List GenusValue) → cs ≡ s.closed ++ s.opened ∷ [] → z ≡ y → v ≡ u → ts ≡ [] → is ≡ [] → with-class s y u ≡ record s { closed = cs; opened = section_by z v ts is }
same-seen s cs z y v u ts is a b c e f = sym (
    ap (λ (ps : List GvSection). let t : Seen = record s { closed = ps; opened = section_by z v ts is } in t) a
    ∙ ap (λ (x : ℤ). let t : Seen = record s { closed = s.closed ++ s.opened ∷ []; opened = section_by x v ts is } in t) b
    ∙ ap (λ (w : List ℤ). let t : Seen = record s { closed = s.closed ++ s.opened ∷ []; opened = section_by y w ts is } in t) c
    ∙ ap (λ (us : List Term). let t : Seen = record s { closed = s.closed ++ s.opened ∷ []; opened = section_by y u us is } in t) e
    ∙ ap (λ (js : List GenusValue). let t : Seen = record s { closed = s.closed ++ s.opened ∷ []; opened = section_by y u [] js } in t) f
    )
