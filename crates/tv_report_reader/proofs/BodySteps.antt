-- What may follow within sections and after them.
use Rattle.std.proofs.Common.{◌≡◌, ◌≢◌, ℤ, ◌<◌, ◌≤ℤ◌, ◌⊎◌, inl, inr, List, [], ◌∷◌, ◌++◌, length, map, refl, sym, ◌∙◌, ap, subst, arith, append_assoc, append-nil, length-append}
use Rattle.std.proofs.lemmas.Int.{ints}
use Rattle.std.specs.List.{AllByRecursion}
use Rattle.tv_lemmas.proofs.Members.{all-append, all-back}
use Rattle.tv_spec_boxes.specs.Classes.{IsBefore, ClassesRise}
use Rattle.tv_spec_text.specs.Lines.{Line, IsNumber}
use Rattle.tv_spec_text.specs.Files.{end_line}
use Rattle.tv_spec_text.specs.Reports.{Term, Rises, term_line}
use Rattle.tv_spec_text.proofs.Readings.{kind}
use Rattle.tv_spec_reports.specs.IntegerLines.{GenusValue, GvSection, integer_line}
use Rattle.tv_spec_reports.specs.Grammar.{GvData, GvTermFits, IntegerFits, GeneraRise, SectionFits, SectionsFit, GvFits}
use Rattle.tv_report_reader.specs.Rows.{class_words, TermFits, IsNoRow}
use Rattle.tv_report_reader.specs.Checks.{section_by, HeightsFit, DegreeFits, OrderFits, RisesTo, GeneraRiseTo, Opens}
use Rattle.tv_report_reader.specs.Stages.{Seen, shell, AreSound, HasClosed, Fitting, IsWithinSection, lines_from, Agrees, grown, RestIntegers, RestClosed, Rest, Leads, Stops}
use Rattle.tv_report_reader.specs.declared.stage.Stage.{Stage}
use Rattle.tv_report_reader.specs.declared.stage.Stage.TheVariants.{Closed, Terms, Integers, Done}
use Rattle.tv_report_reader.proofs.Ends.{Rises-push, Rises-at, GeneraRise-push, GeneraRise-at}
use Rattle.tv_report_reader.proofs.Spelled.{bounded_number, class_injective, term_injective, integer_injective, first, others}
use Rattle.tv_spec_boxes.specs.Assignments.{zeros}
use Rattle.tv_report_reader.proofs.Sections.{refit, all-refit, section-at, sections-push, sections-front, rise-push, rise-at, same-classes, opened-degree, before-later, later-before, lines-none, lines-some}

-- kinds of lines, by the length of the first word

later-kind : (later : List GvSection) → (kind (lines_from later) ≡ 3) ⊎ (kind (lines_from later) ≡ 5)
later-kind [] = inl (ap kind lines-none)
later-kind (p ∷ ps) = inr (ap kind (lines-some p ps))

no-term-later : (later : List GvSection) → kind (lines_from later) ≢ 4
no-term-later later e = let k = later-kind later in grind arith

pub no-integer-later : (later : List GvSection) → kind (lines_from later) ≢ 7
no-integer-later later e = let k = later-kind later in grind arith

pub no-term-integers : (is : List GenusValue) (later : List GvSection) → kind (map integer_line is ++ lines_from later) ≢ 4
no-term-integers [] later e = no-term-later later e
no-term-integers (i ∷ is) later e = absurd (omega arith)

-- the same header

agree-as : (s t : Seen) (d : GvData) → t.heights ≡ s.heights → t.degree ≡ s.degree → t.upto ≡ s.upto → Agrees s d → Agrees t d
agree-as s t d h z n a = record { heights = a.heights ∙ sym h; degree = a.degree ∙ sym z; upto = a.upto ∙ sym n }

section-of : (s : Seen) (d : GvData) (p : GvSection) (later : List GvSection) → Agrees s d → HasClosed s → GvFits d → d.sections ≡ s.closed ++ p ∷ later → SectionFits (shell s) p
section-of s d p later a h fits e = refit d (shell s) p a.heights a.degree a.upto (section-at d s.closed p later h (subst (SectionsFit d) e fits.sections))

-- the last section, with more in it
sound-last : (s t : Seen) → t.heights ≡ s.heights → t.degree ≡ s.degree → t.upto ≡ s.upto → t.closed ≡ s.closed → t.opened.section.entries ≡ s.opened.section.entries → HasClosed s → AreSound s → SectionFits (shell t) t.opened → AreSound t
sound-last s t h z n c e some sound fits =
    let front : SectionsFit (shell s) s.closed = sections-front (shell s) s.closed (s.opened ∷ []) some sound.sections in record {
      heights = subst HeightsFit (sym h) sound.heights;
      degree = subst DegreeFits (sym z) sound.degree;
      order = subst OrderFits (sym n) sound.order;
      sections = subst (λ (ps : List GvSection). SectionsFit (shell t) (ps ++ t.opened ∷ [])) (sym c) (sections-push (shell t) s.closed t.opened some (shell-as s t s.closed h z n front) fits);
      rise = subst (λ (ps : List GvSection). ClassesRise t.heights (map (λ (p : GvSection). p.section.entries) (ps ++ t.opened ∷ []))) (sym c)
          (subst (λ (hs : List ℤ). ClassesRise hs (map (λ (p : GvSection). p.section.entries) (s.closed ++ t.opened ∷ []))) (sym h)
          (subst (ClassesRise s.heights) (sym (same-classes s.closed t.opened s.opened e)) sound.rise));
    } where
      shell-as : (s t : Seen) (ps : List GvSection) → t.heights ≡ s.heights → t.degree ≡ s.degree → t.upto ≡ s.upto → SectionsFit (shell s) ps → SectionsFit (shell t) ps
      shell-as s t [] h z n fits = fits
      shell-as s t (p ∷ ps) h z n fits = let f = fits.0 in (
        record { degree = f.degree; entries = f.entries ∙ ap (λ (hs : List ℤ). zeros (length hs)) (sym h); terms = f.terms; integers = f.integers },
        all-refit (shell s) (shell t) ps (sym h) (sym z) (sym n) fits.1,
      )

-- a term

abbrev pub with-terms : Seen → List Term → Seen
with-terms s ts = record s { opened = section_by s.opened.section.degree s.opened.section.entries ts s.opened.integers }

opened-fits : (s : Seen) → HasClosed s → AreSound s → SectionFits (shell s) s.opened
opened-fits s h sound = section-at (shell s) s.closed s.opened [] h sound.sections

gv-term : (N : ℤ) (t : Term) → TermFits t → t.exponent ≤ℤ N → GvTermFits N t
gv-term N t fits within = record { exponent = fits.0; within = within; coefficient = fits.1 }

term-sound : (s : Seen) (t : Term) (ts : List Term) → TermFits t → t.exponent ≤ℤ s.upto → RisesTo s.opened.section.terms t.exponent → ts ≡ s.opened.section.terms ++ t ∷ [] → HasClosed s → AreSound s → AreSound (with-terms s ts)
term-sound s t ts fits within rises made some sound =
    let f = opened-fits s some sound in
    sound-last s (with-terms s ts) refl refl refl refl refl some sound (record {
      entries = f.entries;
      numbers = f.numbers;
      degree = f.degree;
      positive = f.positive;
      within = f.within;
      terms = subst (AllByRecursion (GvTermFits s.upto)) (sym made) (all-append (GvTermFits s.upto) s.opened.section.terms (t ∷ []) f.terms (gv-term s.upto t fits within, tt));
      rises = subst Rises (sym made) (Rises-push s.opened.section.terms t f.rises rises);
      integers = f.integers;
      genera = f.genera;
    })

-- the first of the terms that follow is the one that the line spells
record NextTerm (s : Seen) (d : GvData) (t : Term) (more : List Line) : Type 0 where
  terms : List Term
  integers : List GenusValue
  later : List GvSection
  sections : d.sections ≡ s.closed ++ grown s.opened (t ∷ terms) integers ∷ later
  same : more ≡ map term_line terms ++ (map integer_line integers ++ lines_from later)

next-term : (s : Seen) (d : GvData) (t : Term) (more : List Line) (ts : List Term) (is : List GenusValue) (later : List GvSection) → TermFits t → HasClosed s → GvFits d → Agrees s d → d.sections ≡ s.closed ++ grown s.opened ts is ∷ later → term_line t ∷ more ≡ map term_line ts ++ (map integer_line is ++ lines_from later) → NextTerm s d t more
next-term s d t more [] is later tfits some fits a e same = absurd (no-term-integers is later (sym (ap kind same)))
next-term s d t more (u ∷ us) is later tfits some fits a e same =
    let f = section-of s d (grown s.opened (u ∷ us) is) later a some fits e in
    let all = all-back (GvTermFits s.upto) s.opened.section.terms (u ∷ us) f.terms in
    let here = all.0 in
    let equal : u ≡ t = term_injective u t (here.exponent, here.coefficient) tfits (sym (first _ _ _ _ same)) in
    record {
      terms = us;
      integers = is;
      later = later;
      sections = e ∙ ap (λ (x : Term). s.closed ++ grown s.opened (x ∷ us) is ∷ later) equal;
      same = others _ _ _ _ same;
    }

grown-term : (s : Seen) (t : Term) (ts us : List Term) (is : List GenusValue) → ts ≡ s.opened.section.terms ++ t ∷ [] → grown (with-terms s ts).opened us is ≡ grown s.opened (t ∷ us) is
grown-term s t ts us is made = ap (λ (xs : List Term). section_by s.opened.section.degree s.opened.section.entries xs (s.opened.integers ++ is)) (ap (λ xs. xs ++ us) made ∙ append_assoc s.opened.section.terms (t ∷ []) us)

pub term-leads : (s : Seen) (t : Term) (ts : List Term) → TermFits t → (AreSound s → t.exponent ≤ℤ s.upto) → RisesTo s.opened.section.terms t.exponent → ts ≡ s.opened.section.terms ++ t ∷ [] → Leads Terms s (term_line t) Terms (with-terms s ts)
term-leads s t ts tfits within rises made = record {
  fitting = λ f. (f.0, term-sound s t ts tfits (within f.1) rises made f.0 f.1);
  into = λ f d more fits rest.
      let next = next-term s d t more rest.terms rest.integers rest.later tfits f.0 fits rest.agrees rest.sections rest.same in record {
        agrees = agree-as s (with-terms s ts) d refl refl refl rest.agrees;
        terms = next.terms;
        integers = next.integers;
        later = next.later;
        sections = next.sections ∙ ap (λ p. s.closed ++ p ∷ next.later) (sym (grown-term s t ts next.terms next.integers made));
        same = next.same;
      };
  back = λ f d more fits rest. record {
    agrees = agree-as (with-terms s ts) s d refl refl refl rest.agrees;
    terms = t ∷ rest.terms;
    integers = rest.integers;
    later = rest.later;
    sections = rest.sections ∙ ap (λ p. s.closed ++ p ∷ rest.later) (grown-term s t ts rest.terms rest.integers made);
    same = ap (λ ls. term_line t ∷ ls) rest.same;
  };
}

pub term-unfit : (s : Seen) (t : Term) → TermFits t → (AreSound s → t.exponent ≤ℤ s.upto → RisesTo s.opened.section.terms t.exponent → ⊥) → Stops Terms s (term_line t)
term-unfit s t tfits unfit = λ f d more fits rest.
    let next = next-term s d t more rest.terms rest.integers rest.later tfits f.0 fits rest.agrees rest.sections rest.same in
    let g = section-of s d (grown s.opened (t ∷ next.terms) next.integers) next.later rest.agrees f.0 fits next.sections in
    let here = (all-back (GvTermFits s.upto) s.opened.section.terms (t ∷ next.terms) g.terms).0 in
    unfit f.1 here.within (Rises-at s.opened.section.terms t next.terms g.rises)

pub term-stops : (g : Stage) (s : Seen) (t : Term) → IsWithinSection g → g ≢ Terms → Stops g s (term_line t)
term-stops Closed s t inside other = λ f d more fits rest. no-term-later rest.later (sym (ap kind rest.same))
term-stops Terms s t inside other = absurd (other refl)
term-stops Integers s t inside other = λ f d more fits rest. no-term-integers rest.integers rest.later (sym (ap kind rest.same))
term-stops g s t inside other = absurd inside

-- an integer

abbrev pub with-integers : Seen → List GenusValue → Seen
with-integers s is = record s { opened = section_by s.opened.section.degree s.opened.section.entries s.opened.section.terms is }

integer-sound : (s : Seen) (i : GenusValue) (is : List GenusValue) → IntegerFits i → GeneraRiseTo s.opened.integers i.genus → is ≡ s.opened.integers ++ i ∷ [] → HasClosed s → AreSound s → AreSound (with-integers s is)
integer-sound s i is fits rises made some sound =
    let f = opened-fits s some sound in
    sound-last s (with-integers s is) refl refl refl refl refl some sound (record {
      entries = f.entries;
      numbers = f.numbers;
      degree = f.degree;
      positive = f.positive;
      within = f.within;
      terms = f.terms;
      rises = f.rises;
      integers = subst (AllByRecursion IntegerFits) (sym made) (all-append IntegerFits s.opened.integers (i ∷ []) f.integers (fits, tt));
      genera = subst GeneraRise (sym made) (GeneraRise-push s.opened.integers i f.genera rises);
    })

record NextInteger (s : Seen) (d : GvData) (i : GenusValue) (more : List Line) : Type 0 where
  integers : List GenusValue
  later : List GvSection
  sections : d.sections ≡ s.closed ++ grown s.opened [] (i ∷ integers) ∷ later
  same : more ≡ map integer_line integers ++ lines_from later

next-integer : (s : Seen) (d : GvData) (i : GenusValue) (more : List Line) (is : List GenusValue) (later : List GvSection) → IntegerFits i → HasClosed s → GvFits d → Agrees s d → d.sections ≡ s.closed ++ grown s.opened [] is ∷ later → integer_line i ∷ more ≡ map integer_line is ++ lines_from later → NextInteger s d i more
next-integer s d i more [] later ifits some fits a e same = absurd (no-integer-later later (sym (ap kind same)))
next-integer s d i more (j ∷ js) later ifits some fits a e same =
    let f = section-of s d (grown s.opened [] (j ∷ js)) later a some fits e in
    let all = all-back IntegerFits s.opened.integers (j ∷ js) f.integers in
    let equal : j ≡ i = integer_injective j i all.0 ifits (sym (first _ _ _ _ same)) in
    record {
      integers = js;
      later = later;
      sections = e ∙ ap (λ (x : GenusValue). s.closed ++ grown s.opened [] (x ∷ js) ∷ later) equal;
      same = others _ _ _ _ same;
    }

-- no term is left where an integer comes
no-terms : (i : GenusValue) (more : List Line) (ts : List Term) (rest : List Line) → integer_line i ∷ more ≡ map term_line ts ++ rest → ts ≡ []
no-terms i more [] rest e = refl
no-terms i more (t ∷ ts) rest e = absurd (omega (arith, ap kind e))

next-after-terms : (s : Seen) (d : GvData) (i : GenusValue) (more : List Line) (ts : List Term) (is : List GenusValue) (later : List GvSection) → IntegerFits i → HasClosed s → GvFits d → Agrees s d → d.sections ≡ s.closed ++ grown s.opened ts is ∷ later → integer_line i ∷ more ≡ map term_line ts ++ (map integer_line is ++ lines_from later) → ts ≡ [] → NextInteger s d i more
next-after-terms s d i more ts is later ifits some fits a e same none =
    next-integer s d i more is later ifits some fits a (e ∙ ap (λ (us : List Term). s.closed ++ grown s.opened us is ∷ later) none) (same ∙ ap (λ us. map term_line us ++ (map integer_line is ++ lines_from later)) none)

next-of : (g : Stage) (s : Seen) (d : GvData) (i : GenusValue) (more : List Line) → IsWithinSection g → g ≢ Closed → IntegerFits i → Fitting g s → GvFits d → Rest g s d (integer_line i ∷ more) → NextInteger s d i more
next-of Closed s d i more inside other ifits f fits rest = absurd (other refl)
next-of Terms s d i more inside other ifits f fits rest = next-after-terms s d i more rest.terms rest.integers rest.later ifits f.0 fits rest.agrees rest.sections rest.same (no-terms i more rest.terms _ rest.same)
next-of Integers s d i more inside other ifits f fits rest = next-integer s d i more rest.integers rest.later ifits f.0 fits rest.agrees rest.sections rest.same
next-of g s d i more inside other ifits f fits rest = absurd inside

inside-fits : (g : Stage) (s : Seen) → IsWithinSection g → g ≢ Closed → Fitting g s → HasClosed s × AreSound s
inside-fits Closed s inside other f = absurd (other refl)
inside-fits Terms s inside other f = f
inside-fits Integers s inside other f = f
inside-fits g s inside other f = absurd inside

agrees-of : (g : Stage) (s : Seen) (d : GvData) (more : List Line) → IsWithinSection g → Rest g s d more → Agrees s d
agrees-of Closed s d more inside rest = rest.agrees
agrees-of Terms s d more inside rest = rest.agrees
agrees-of Integers s d more inside rest = rest.agrees
agrees-of g s d more inside rest = absurd inside

back-of : (g : Stage) (s : Seen) (d : GvData) (more : List Line) → IsWithinSection g → g ≢ Closed → RestIntegers s d more → Rest g s d more
back-of Closed s d more inside other rest = absurd (other refl)
back-of Terms s d more inside other rest = record { agrees = rest.agrees; terms = []; integers = rest.integers; later = rest.later; sections = rest.sections; same = rest.same }
back-of Integers s d more inside other rest = rest
back-of g s d more inside other rest = absurd inside

grown-integer : (s : Seen) (i : GenusValue) (is js : List GenusValue) → is ≡ s.opened.integers ++ i ∷ [] → grown (with-integers s is).opened [] js ≡ grown s.opened [] (i ∷ js)
grown-integer s i is js made = ap (λ (xs : List GenusValue). section_by s.opened.section.degree s.opened.section.entries (s.opened.section.terms ++ []) xs) (ap (λ xs. xs ++ js) made ∙ append_assoc s.opened.integers (i ∷ []) js)

pub integer-leads : (g : Stage) (s : Seen) (i : GenusValue) (is : List GenusValue) → IsWithinSection g → g ≢ Closed → IntegerFits i → GeneraRiseTo s.opened.integers i.genus → is ≡ s.opened.integers ++ i ∷ [] → Leads g s (integer_line i) Integers (with-integers s is)
integer-leads g s i is inside other ifits rises made = record {
  fitting = λ f. let k = inside-fits g s inside other f in (k.0, integer-sound s i is ifits rises made k.0 k.1);
  into = λ f d more fits rest.
      let next = next-of g s d i more inside other ifits f fits rest in record {
        agrees = agree-as s (with-integers s is) d refl refl refl (agrees-of g s d (integer_line i ∷ more) inside rest);
        integers = next.integers;
        later = next.later;
        sections = next.sections ∙ ap (λ p. s.closed ++ p ∷ next.later) (sym (grown-integer s i is next.integers made));
        same = next.same;
      };
  back = λ f d more fits rest. back-of g s d (integer_line i ∷ more) inside other (record {
    agrees = agree-as (with-integers s is) s d refl refl refl rest.agrees;
    integers = i ∷ rest.integers;
    later = rest.later;
    sections = rest.sections ∙ ap (λ p. s.closed ++ p ∷ rest.later) (grown-integer s i is rest.integers made);
    same = ap (λ ls. integer_line i ∷ ls) rest.same;
  });
}

pub integer-unfit : (g : Stage) (s : Seen) (i : GenusValue) → IsWithinSection g → g ≢ Closed → IntegerFits i → (GeneraRiseTo s.opened.integers i.genus → ⊥) → Stops g s (integer_line i)
integer-unfit g s i inside other ifits unfit = λ f d more fits rest.
    let next = next-of g s d i more inside other ifits f fits rest in
    let k = inside-fits g s inside other f in
    let here = section-of s d (grown s.opened [] (i ∷ next.integers)) next.later (agrees-of g s d (integer_line i ∷ more) inside rest) k.0 fits next.sections in
    unfit (GeneraRise-at s.opened.integers i next.integers here.genera)

pub integer-stops : (s : Seen) (i : GenusValue) → Stops Closed s (integer_line i)
integer-stops s i = λ f d more fits rest. no-integer-later rest.later (sym (ap kind rest.same))

-- a line after a section

pub grown-none : (p : GvSection) → grown p [] [] ≡ p
grown-none p = ap (λ (ts : List Term). section_by p.section.degree p.section.entries ts (p.integers ++ [])) (append-nil p.section.terms) ∙ ap (λ (is : List GenusValue). section_by p.section.degree p.section.entries p.section.terms is) (append-nil p.integers)

closing : (s : Seen) (d : GvData) (more : List Line) (ts : List Term) (is : List GenusValue) (later : List GvSection) → Agrees s d → d.sections ≡ s.closed ++ grown s.opened ts is ∷ later → more ≡ map term_line ts ++ (map integer_line is ++ lines_from later) → kind more ≢ 4 → kind more ≢ 7 → RestClosed s d more
closing s d more (t ∷ ts) is later a e same four seven = absurd (four (ap kind same))
closing s d more [] (i ∷ is) later a e same four seven = absurd (seven (ap kind same))
closing s d more [] [] later a e same four seven = record { agrees = a; later = later; sections = e ∙ ap (λ p. s.closed ++ p ∷ later) (grown-none s.opened); same = same }

rest-closed : (g : Stage) (s : Seen) (d : GvData) (more : List Line) → IsWithinSection g → kind more ≢ 4 → kind more ≢ 7 → Rest g s d more → RestClosed s d more
rest-closed Closed s d more inside four seven rest = rest
rest-closed Terms s d more inside four seven rest = closing s d more rest.terms rest.integers rest.later rest.agrees rest.sections rest.same four seven
rest-closed Integers s d more inside four seven rest = closing s d more [] rest.integers rest.later rest.agrees rest.sections rest.same four seven
rest-closed g s d more inside four seven rest = absurd inside

closed-rest : (g : Stage) (s : Seen) (d : GvData) (more : List Line) → IsWithinSection g → RestClosed s d more → Rest g s d more
closed-rest Closed s d more inside rest = rest
closed-rest Terms s d more inside rest = record { agrees = rest.agrees; terms = []; integers = []; later = rest.later; sections = rest.sections ∙ ap (λ p. s.closed ++ p ∷ rest.later) (sym (grown-none s.opened)); same = rest.same }
closed-rest Integers s d more inside rest = record { agrees = rest.agrees; integers = []; later = rest.later; sections = rest.sections ∙ ap (λ p. s.closed ++ p ∷ rest.later) (sym (grown-none s.opened)); same = rest.same }
closed-rest g s d more inside rest = absurd inside

sound-of : (g : Stage) (s : Seen) → IsWithinSection g → Fitting g s → AreSound s
sound-of Closed s inside f = f
sound-of Terms s inside f = f.1
sound-of Integers s inside f = f.1
sound-of g s inside f = absurd inside

abbrev pub with-class : Seen → ℤ → List ℤ → Seen
with-class s z v = record s { closed = s.closed ++ s.opened ∷ []; opened = section_by z v [] [] }

some-closed : (ps : List GvSection) (p : GvSection) → 0 < length (ps ++ p ∷ [])
some-closed ps p = omega (arith, length-append ps (p ∷ []))

class-sound : (s : Seen) (z : ℤ) (v : List ℤ) → AllByRecursion IsNumber v → Opens s.heights s.degree s.opened.section.degree s.opened.section.entries z v → AreSound s → AreSound (with-class s z v)
class-sound s z v all opens sound =
    let last : SectionFits (shell s) (section_by z v [] []) = record {
      entries = opens.entries;
      numbers = all;
      degree = opens.degree;
      positive = opens.positive;
      within = opens.within;
      terms = tt;
      rises = tt;
      integers = tt;
      genera = tt;
    } in record {
      heights = sound.heights;
      degree = sound.degree;
      order = sound.order;
      sections = sections-push (shell s) (s.closed ++ s.opened ∷ []) (section_by z v [] []) (some-closed s.closed s.opened) sound.sections last;
      rise = rise-push s.heights s.closed s.opened (section_by z v [] []) sound.rise (later-before s.heights s.opened.section.entries v s.opened.section.degree z (opened-degree s sound) opens.degree opens.later);
    }

record NextClass (s : Seen) (d : GvData) (z : ℤ) (v : List ℤ) (more : List Line) : Type 0 where
  section : GvSection
  later : List GvSection
  degree : section.section.degree ≡ z
  entries : section.section.entries ≡ v
  sections : d.sections ≡ s.closed ++ s.opened ∷ section ∷ later
  fits : SectionFits (shell s) section
  same : more ≡ map term_line section.section.terms ++ (map integer_line section.integers ++ lines_from later)

closed-section : (s : Seen) (d : GvData) (p : GvSection) (ps : List GvSection) → Agrees s d → GvFits d → d.sections ≡ s.closed ++ s.opened ∷ p ∷ ps → SectionFits (shell s) p
closed-section s d p ps a fits e =
    let split = e ∙ sym (append_assoc s.closed (s.opened ∷ []) (p ∷ ps)) in
    refit d (shell s) p a.heights a.degree a.upto (section-at d (s.closed ++ s.opened ∷ []) p ps (some-closed s.closed s.opened) (subst (SectionsFit d) split fits.sections))

degree-number : (s : Seen) (p : GvSection) → DegreeFits s.degree → SectionFits (shell s) p → IsNumber p.section.degree
degree-number s p z f = let a = f.positive in let b = f.within in let c = z.greatest in bounded_number p.section.degree (omega (arith, ints)) (omega (arith, ints))

next-class : (s : Seen) (d : GvData) (z : ℤ) (v : List ℤ) (more : List Line) (later : List GvSection) → IsNumber z → AllByRecursion IsNumber v → AreSound s → GvFits d → Agrees s d → d.sections ≡ s.closed ++ s.opened ∷ later → class_words z v ∷ more ≡ lines_from later → NextClass s d z v more
next-class s d z v more [] number all sound fits a e same = absurd (omega (arith, ap kind (same ∙ lines-none)))
next-class s d z v more (p ∷ ps) number all sound fits a e same =
    let f = closed-section s d p ps a fits e in
    let line = same ∙ lines-some p ps in
    let equal = class_injective p.section.degree z p.section.entries v (degree-number s p sound.degree f) number f.numbers all (sym (first _ _ _ _ line)) in
    record { section = p; later = ps; degree = equal.0; entries = equal.1; sections = e; fits = f; same = others _ _ _ _ line }

opened-as : (p : GvSection) (z : ℤ) (v : List ℤ) → p.section.degree ≡ z → p.section.entries ≡ v → p ≡ grown (section_by z v [] []) p.section.terms p.integers
opened-as p z v e f = ap (λ (y : ℤ). section_by y p.section.entries p.section.terms p.integers) e ∙ ap (λ (u : List ℤ). section_by z u p.section.terms p.integers) f

class-next : (g : Stage) (s : Seen) (d : GvData) (z : ℤ) (v : List ℤ) (more : List Line) → IsWithinSection g → IsNumber z → AllByRecursion IsNumber v → Fitting g s → GvFits d → Rest g s d (class_words z v ∷ more) → NextClass s d z v more
class-next g s d z v more inside number all f fits rest =
    let closed = rest-closed g s d (class_words z v ∷ more) inside (λ e. absurd (omega arith)) (λ e. absurd (omega arith)) rest in
    next-class s d z v more closed.later number all (sound-of g s inside f) fits closed.agrees closed.sections closed.same

opened-bound : (s : Seen) (ps : List GvSection) → DegreeFits s.degree → SectionsFit (shell s) (ps ++ s.opened ∷ []) → IsNumber s.opened.section.degree
opened-bound s [] z fits = subst IsNumber (sym fits.0.degree) (omega arith)
opened-bound s (p ∷ ps) z fits = degree-number s s.opened z (section-at (shell s) (p ∷ ps) s.opened [] (omega arith) fits)

-- the numbers of what is read have at most nine digits

pub opened-number : (s : Seen) → AreSound s → IsNumber s.opened.section.degree
opened-number s sound = opened-bound s s.closed sound.degree sound.sections

pub top-number : (s : Seen) → AreSound s → IsNumber s.degree
top-number s sound = let z = sound.degree in let a = z.least in let b = z.greatest in bounded_number s.degree a (omega (arith, ints))

pub upto-number : (s : Seen) → AreSound s → IsNumber s.upto
upto-number s sound = let n = sound.order in let a = n.least in let b = n.greatest in bounded_number s.upto (omega (arith, ints)) b

pub sound-inside : (g : Stage) (s : Seen) → IsWithinSection g → Fitting g s → AreSound s
sound-inside g s inside f = sound-of g s inside f

pub class-leads : (g : Stage) (s : Seen) (z : ℤ) (v : List ℤ) → IsWithinSection g → IsNumber z → AllByRecursion IsNumber v → (Fitting g s → Opens s.heights s.degree s.opened.section.degree s.opened.section.entries z v) → Leads g s (class_words z v) Terms (with-class s z v)
class-leads g s z v inside number all opens = record {
  fitting = λ f. (some-closed s.closed s.opened, class-sound s z v all (opens f) (sound-of g s inside f));
  into = λ f d more fits rest.
      let next = class-next g s d z v more inside number all f fits rest in record {
        agrees = agree-as s (with-class s z v) d refl refl refl (agrees-of g s d (class_words z v ∷ more) inside rest);
        terms = next.section.section.terms;
        integers = next.section.integers;
        later = next.later;
        sections = next.sections ∙ sym (append_assoc s.closed (s.opened ∷ []) (next.section ∷ next.later)) ∙ ap (λ p. (s.closed ++ s.opened ∷ []) ++ p ∷ next.later) (opened-as next.section z v next.degree next.entries);
        same = next.same;
      };
  back = λ f d more fits rest. closed-rest g s d (class_words z v ∷ more) inside (record {
    agrees = agree-as (with-class s z v) s d refl refl refl rest.agrees;
    later = section_by z v rest.terms rest.integers ∷ rest.later;
    sections = rest.sections ∙ append_assoc s.closed (s.opened ∷ []) (section_by z v rest.terms rest.integers ∷ rest.later);
    same = ap (λ ls. class_words z v ∷ ls) rest.same ∙ sym (lines-some (section_by z v rest.terms rest.integers) rest.later);
  });
}

pub class-unfit : (g : Stage) (s : Seen) (z : ℤ) (v : List ℤ) → IsWithinSection g → IsNumber z → AllByRecursion IsNumber v → (Fitting g s → Opens s.heights s.degree s.opened.section.degree s.opened.section.entries z v → ⊥) → Stops g s (class_words z v)
class-unfit g s z v inside number all unfit = λ f d more fits rest.
    let next = class-next g s d z v more inside number all f fits rest in
    let a = agrees-of g s d (class_words z v ∷ more) inside rest in
    let h = next.fits in
    let rise = rise-at d.heights s.closed s.opened next.section next.later (subst (λ (ps : List GvSection). ClassesRise d.heights (map (λ (p : GvSection). p.section.entries) ps)) next.sections fits.order) in
    let before : IsBefore s.heights s.opened.section.entries next.section.section.entries = subst (λ (hs : List ℤ). IsBefore hs s.opened.section.entries next.section.section.entries) a.heights rise in
    let opens : Opens s.heights s.degree s.opened.section.degree s.opened.section.entries next.section.section.degree next.section.section.entries = record {
      entries = h.entries;
      degree = h.degree;
      positive = h.positive;
      within = h.within;
      later = before-later s.heights s.opened.section.entries next.section.section.entries s.opened.section.degree next.section.section.degree (opened-degree s (sound-of g s inside f)) h.degree before;
    } in
    unfit f (subst (λ (u : List ℤ). Opens s.heights s.degree s.opened.section.degree s.opened.section.entries z u) next.entries
    (subst (λ (y : ℤ). Opens s.heights s.degree s.opened.section.degree s.opened.section.entries y next.section.section.entries) next.degree opens))

-- the last line

end-later : (more : List Line) (later : List GvSection) → end_line ∷ more ≡ lines_from later → (later ≡ []) × (more ≡ [])
end-later more [] e = (refl, others _ _ _ _ (e ∙ lines-none))
end-later more (p ∷ ps) e = absurd (omega (arith, ap kind (e ∙ lines-some p ps)))

pub end-leads : (g : Stage) (s : Seen) → IsWithinSection g → Leads g s end_line Done s
end-leads g s inside = record {
  fitting = sound-of g s inside;
  into = λ f d more fits rest.
      let closed = rest-closed g s d (end_line ∷ more) inside (λ e. absurd (omega arith)) (λ e. absurd (omega arith)) rest in
      let none = end-later more closed.later closed.same in
      (closed.agrees, closed.sections ∙ ap (λ (ps : List GvSection). s.closed ++ s.opened ∷ ps) none.0, none.1);
  back = λ f d more fits rest. closed-rest g s d (end_line ∷ more) inside (record {
    agrees = rest.0;
    later = [];
    sections = rest.1;
    same = ap (λ ls. end_line ∷ ls) rest.2 ∙ sym lines-none;
  });
}

-- a line that is none of these

no-row-closed : (s : Seen) (d : GvData) (l : Line) (more : List Line) (later : List GvSection) → IsNoRow l → AreSound s → GvFits d → Agrees s d → d.sections ≡ s.closed ++ s.opened ∷ later → l ∷ more ≡ lines_from later → ⊥
no-row-closed s d l more [] none sound fits a e same = none.last (first _ _ _ _ (same ∙ lines-none))
no-row-closed s d l more (p ∷ ps) none sound fits a e same =
    let f = closed-section s d p ps a fits e in
    none.class p.section.degree p.section.entries (degree-number s p sound.degree f) f.numbers (first _ _ _ _ (same ∙ lines-some p ps))

no-row-terms : (s : Seen) (d : GvData) (l : Line) (more : List Line) (ts : List Term) (is : List GenusValue) (later : List GvSection) → IsNoRow l → HasClosed s → AreSound s → GvFits d → Agrees s d → d.sections ≡ s.closed ++ grown s.opened ts is ∷ later → l ∷ more ≡ map term_line ts ++ (map integer_line is ++ lines_from later) → ⊥
no-row-terms s d l more (t ∷ ts) is later none some sound fits a e same =
    let f = section-of s d (grown s.opened (t ∷ ts) is) later a some fits e in
    let here = (all-back (GvTermFits s.upto) s.opened.section.terms (t ∷ ts) f.terms).0 in
    none.term t (here.exponent, here.coefficient) (first _ _ _ _ same)
no-row-terms s d l more [] (i ∷ is) later none some sound fits a e same =
    let f = section-of s d (grown s.opened [] (i ∷ is)) later a some fits e in
    none.integer i (all-back IntegerFits s.opened.integers (i ∷ is) f.integers).0 (first _ _ _ _ same)
no-row-terms s d l more [] [] later none some sound fits a e same = no-row-closed s d l more later none sound fits a (e ∙ ap (λ p. s.closed ++ p ∷ later) (grown-none s.opened)) same

pub no-row-stops : (g : Stage) (s : Seen) (l : Line) → IsWithinSection g → IsNoRow l → Stops g s l
no-row-stops Closed s l inside none = λ f d more fits rest. no-row-closed s d l more rest.later none f fits rest.agrees rest.sections rest.same
no-row-stops Terms s l inside none = λ f d more fits rest. no-row-terms s d l more rest.terms rest.integers rest.later none f.0 f.1 fits rest.agrees rest.sections rest.same
no-row-stops Integers s l inside none = λ f d more fits rest. no-row-terms s d l more [] rest.integers rest.later none f.0 f.1 fits rest.agrees rest.sections rest.same
no-row-stops g s l inside none = absurd inside
