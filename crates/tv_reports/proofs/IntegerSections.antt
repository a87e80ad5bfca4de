-- What the sections of a family with integers tell, and how they are printed.
use Rattle.std.proofs.Common.{◌≡◌, ◌≢◌, ℕ, ◌+◌, ◌<◌, ◌≤◌, ℤ, pos, List, [], ◌∷◌, ◌++◌, length, map, take, get_or, Some, false, refl, sym, ap, ◌∙◌, subst}
use Rattle.std.specs.List.{AllByRecursion, flat_map, slice_get, Contains}
use Rattle.std.specs.Ordering.{int_eq}
use Rattle.std.proofs.lemmas.Bool.Decides.{Decides-int_eq}
use Rattle.std.proofs.lemmas.List.{take_more, take_all}
use Rattle.std.proofs.lemmas.Option.{slice_get_within, get_or_from_slice_get}
use Rattle.tv_lemmas.proofs.Members.{contains-head, contains-later, all-append, all-map}
use Rattle.tv_ring.specs.Whole.{wholes}
use Rattle.tv_laws_series.specs.Terms.{Terms}
use Rattle.tv_laws_series.proofs.NormalForm.{bool_cases}
use Rattle.tv_spec_plane.specs.Web.{degree_of}
use Rattle.tv_spec_boxes.specs.Assignments.{same_vector}
use Rattle.tv_spec_series.specs.Families.{Row, Family, row, classes, find, series_coefficient}
use Rattle.tv_spec_series.proofs.Members.{row_found}
use Rattle.tv_spec_katz.specs.Katz.{Integer}
use Rattle.tv_spec_text.specs.Lines.{line_text}
use Rattle.tv_spec_text.specs.Reports.{AreTerms, section_lines}
use Rattle.tv_spec_reports.specs.IntegerLines.{GvSection, GenusValue as Spoken, IsSmallInteger, HasSmallNumbers, integer_line, gv_section_lines, gv_text}
use Rattle.tv_spec_reports.specs.IntegersReport.{integers_of, TellsClass}
use Rattle.tv_integers.specs.declared.genus_value.GenusValue.{GenusValue}
use Rattle.tv_integers.specs.Kept.{AreKept, values_of}
use Rattle.tv_reports.proofs.Printing.{piece_more, sections-whole}
use Rattle.tv_reports.specs.Sections.{section_of, TellsRow}
use Rattle.tv_reports.specs.IntegerSections.{gv_section, gv_sections, value_line, entry_lines, IsSmallValue, IsSmallEntry, TextTells}
use Rattle.tv_reports.proofs.Sections.{sections_tell}

-- ---- what they tell

abbrev RowsAre : Family ℤ → List (Row ℤ) → Type 0
RowsAre f rows = AllByRecursion (λ (x : Row ℤ). find x.class f.rows ≡ Some x) rows

rows_found : (f : Family ℤ) (rows : List (Row ℤ)) → ((x : Row ℤ) → Contains rows x → find x.class f.rows ≡ Some x) → RowsAre f rows
rows_found f [] each = tt
rows_found f (x ∷ rows) each = (each x (contains-head x x rows refl), rows_found f rows (λ y among. each y (contains-later y x rows among)))

tells_each : (f : Family ℤ) (is : List Integer) (rows : List (Row ℤ)) → RowsAre f rows → AllByRecursion (λ x. TellsRow f x (section_of f.heights x)) rows → AllByRecursion HasSmallNumbers (map (gv_section f.heights is) rows) → AllByRecursion (TellsClass f is) (map (gv_section f.heights is) rows)
tells_each f is [] found tells small = tt
tells_each f is (x ∷ rows) found tells small = (
  record {
    degree = refl;
    terms = subst (λ (g : ℤ → ℤ). AreTerms g f.upto (section_of f.heights x).terms) (ap (λ o. λ n. series_coefficient wholes n o) (sym found.0)) tells.0.terms;
    integers = refl;
    small = small.0;
  },
  tells_each f is rows found.1 tells.1 small.1,
)

classes_of : (hs : List ℤ) (is : List Integer) (rows : List (Row ℤ)) → map (λ (s : GvSection). s.section.entries) (map (gv_section hs is) rows) ≡ classes rows
classes_of hs is [] = refl
classes_of hs is (x ∷ rows) = ap (λ vs. x.class ∷ vs) (classes_of hs is rows)

pub text_tells : TextTells
text_tells D f is family top small = record {
  sections = gv_sections f is;
  classes = classes_of f.heights is f.rows;
  each = tells_each f is f.rows (rows_found f f.rows (λ x among. row_found f.heights f.rows x family.rises among)) (sections_tell f family) small;
  printed = ap (λ (d : ℤ). gv_text f.heights d f.upto (gv_sections f is)) top;
}

-- ---- how they are printed

abbrev spoken : GenusValue → Spoken
spoken g = record { genus = g.genus; value = g.value }

not_zero : (z : ℤ) → z ≢ pos 0 → int_eq z (pos 0) ≡ false
not_zero z other = bool_cases (int_eq z (pos 0)) (λ t. absurd (other ((Decides-int_eq z (pos 0)).0 t))) (λ f. f)

pub value_lines : (hs v : List ℤ) (is : List Integer) → AreKept hs is → map value_line (values_of v is) ≡ map integer_line (integers_of v is)
value_lines hs v [] kept = refl
value_lines hs v (i ∷ is) kept =
    let z = not_zero i.value kept.0.1 in let rest = value_lines hs v is kept.1.1 in
    bool_cases (same_vector i.class v) (λ e. rw (e, z) (ap (λ ls. integer_line (record { genus = i.genus; value = i.value }) ∷ ls) rest)) (λ e. rw e rest)

abbrev pub row_text : List ℤ → List Integer → Row ℤ → List ℕ
row_text hs is x = flat_map line_text (gv_section_lines (gv_section hs is x))

-- an entry with the integers of its class is printed as the section of its row
pub entry_told : (old now : List ℕ) (kept_under hs : List ℤ) (is : List Integer) (d : ℤ) (v : List ℤ) (s : Terms ℤ) (gs : List GenusValue) → AreKept kept_under is → d ≡ degree_of hs v → gs ≡ values_of v is → now ≡ old ++ flat_map line_text (entry_lines d v s gs) → now ≡ old ++ row_text hs is (row v s)
entry_told old now kept_under hs is d v s gs kept degree values e =
    let lines : entry_lines d v s gs ≡ gv_section_lines (gv_section hs is (row v s)) =
    ap (λ z. entry_lines z v s gs) degree ∙ ap (λ ls. section_lines (section_of hs (row v s)) ++ map value_line ls) values ∙ ap (λ ls. section_lines (section_of hs (row v s)) ++ ls) (value_lines kept_under v is kept) in
    e ∙ ap (λ ls. old ++ flat_map line_text ls) lines

pub one_more : (hs : List ℤ) (is : List Integer) (rows : List (Row ℤ)) (old now next : List ℕ) (k : ℕ) (x : Row ℤ) → slice_get rows k ≡ Some x → now ≡ old ++ flat_map (row_text hs is) (take k rows) → next ≡ now ++ row_text hs is x → next ≡ old ++ flat_map (row_text hs is) (take (k + 1) rows)
one_more hs is rows old now next k x = piece_more (row_text hs is) rows old now next k x

pub all_rows : (hs : List ℤ) (is : List Integer) (rows : List (Row ℤ)) (old now : List ℕ) (k : ℕ) → length rows ≤ k → now ≡ old ++ flat_map (row_text hs is) (take k rows) → now ≡ old ++ flat_map line_text (flat_map gv_section_lines (map (gv_section hs is) rows))
all_rows hs is rows old now k = sections-whole gv_section_lines (gv_section hs is) rows old now k

-- ---- how large they are

-- the integers of the class are those of the list that are not 0
same_values : (hs v : List ℤ) (is : List Integer) → AreKept hs is → map (λ (g : GenusValue). spoken g) (values_of v is) ≡ integers_of v is
same_values hs v [] kept = refl
same_values hs v (i ∷ is) kept =
    let z = not_zero i.value kept.0.1 in let rest = same_values hs v is kept.1.1 in
    bool_cases (same_vector i.class v) (λ e. rw (e, z) (ap (λ gs. record { genus = i.genus; value = i.value } ∷ gs) rest)) (λ e. rw e rest)

pub small_row : (kept_under hs v : List ℤ) (s : Terms ℤ) (is : List Integer) (gs : List GenusValue) → AreKept kept_under is → gs ≡ values_of v is → IsSmallEntry s gs → HasSmallNumbers (gv_section hs is (row v s))
small_row kept_under hs v s is gs kept values small = record {
  terms = small.0;
  integers = subst (AllByRecursion IsSmallInteger) (ap (map spoken) values ∙ same_values kept_under v is kept) (all-map IsSmallValue IsSmallInteger spoken (λ g h. h) gs small.1);
}

abbrev pub AreSmallRows : List ℤ → List Integer → List (Row ℤ) → Type 0
AreSmallRows hs is rows = AllByRecursion (λ x. HasSmallNumbers (gv_section hs is x)) rows

pub small_more : (hs : List ℤ) (is : List Integer) (rows : List (Row ℤ)) (k : ℕ) (x : Row ℤ) → slice_get rows k ≡ Some x → AreSmallRows hs is (take k rows) → HasSmallNumbers (gv_section hs is x) → AreSmallRows hs is (take (k + 1) rows)
small_more hs is rows k x found small last =
    let more : take (k + 1) rows ≡ take k rows ++ x ∷ [] = take_more rows k x (slice_get_within rows k x found) ∙ ap (λ y. take k rows ++ y ∷ []) (get_or_from_slice_get rows k x x found) in
    subst (AreSmallRows hs is) (sym more) (all-append (λ x. HasSmallNumbers (gv_section hs is x)) (take k rows) (x ∷ []) small (last, tt))

pub small_all : (hs : List ℤ) (is : List Integer) (rows : List (Row ℤ)) (k : ℕ) → length rows ≤ k → AreSmallRows hs is (take k rows) → AllByRecursion HasSmallNumbers (map (gv_section hs is) rows)
small_all hs is rows k h small = all-map (λ x. HasSmallNumbers (gv_section hs is x)) HasSmallNumbers (gv_section hs is) (λ x s. s) rows (subst (AreSmallRows hs is) (take_all k rows h) small)

-- one value more
pub values_more : (gs : List GenusValue) (k : ℕ) (g : GenusValue) → k < length gs → g ≡ get_or gs k g → AllByRecursion IsSmallValue (take k gs) → IsSmallValue g → AllByRecursion IsSmallValue (take (k + 1) gs)
values_more gs k g h e small last =
    let more : take (k + 1) gs ≡ take k gs ++ g ∷ [] = take_more gs k g h ∙ ap (λ y. take k gs ++ y ∷ []) (sym e) in
    subst (AllByRecursion IsSmallValue) (sym more) (all-append IsSmallValue (take k gs) (g ∷ []) small (last, tt))
