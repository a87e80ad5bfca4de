-- Lines of a report spell one thing each.
use Rattle.std.proofs.Common.{◌≡◌, ℕ, ℤ, pos, negsuc, zero, suc, ◌≤◌, ◌≤ℤ◌, List, [], ◌∷◌, length, map, drop, get_or, refl, sym, ◌∙◌, ap, arith, unsigned_abs}
use Rattle.std.proofs.lemmas.Int.{ints}
use Rattle.std.specs.List.{AllByRecursion}
use Rattle.tv_lemmas.proofs.Members.{all-onto}
use Rattle.tv_lattice.specs.Classes.{IsEntry, IsEntries}
use Rattle.tv_spec_plane.specs.Web.{Web}
use Rattle.tv_spec_boxes.specs.Assignments.{zeros}
use Rattle.tv_spec_text.specs.Lines.{Line, IsNumber, spelled}
use Rattle.tv_spec_text.specs.Files.{Spells, file_lines, heights_line}
use Rattle.tv_spec_text.specs.Reports.{Term, term_line}
use Rattle.tv_text.proofs.Entries.{number_is_entry}
use Rattle.tv_spec_text.proofs.Readings.{spelled_injective, count_injective, Spells-unique}
use Rattle.tv_spec_reports.specs.IntegerLines.{GenusValue, integer_line}
use Rattle.tv_spec_reports.specs.Grammar.{IntegerFits}
use Rattle.tv_text.specs.Sections.{degree_line, upto_line}
use Rattle.tv_report_reader.specs.Rows.{class_words, TermFits}
use Rattle.tv_report_reader.proofs.WideNumbers.{wide_injective}

-- numbers

file : List ℤ → Web
file hs = record { points = []; triangles = []; heights = hs }

spells : (hs : List ℤ) → AllByRecursion IsNumber hs → Spells (file_lines (file hs)) (file hs)
unfolding file
spells hs all = record { fits = record { points = tt; triangles = tt; heights = all }; same = refl }

pub numbers_injective : (ys zs : List ℤ) → AllByRecursion IsNumber ys → AllByRecursion IsNumber zs → map spelled ys ≡ map spelled zs → ys ≡ zs
unfolding file
numbers_injective ys zs h k e =
    let same : file_lines (file zs) ≡ file_lines (file ys) = cc in
    ap (λ (w : Web). w.heights) (Spells-unique (file_lines (file ys)) (file ys) (file zs) (spells ys h) (record { fits = (spells zs k).fits; same = sym same }))

pub small_number : (z : ℤ) → unsigned_abs z ≤ 1000000 → IsNumber z
small_number (pos n) h = omega arith
small_number (negsuc n) h = omega arith

pub small_numbers : (hs : List ℤ) → AllByRecursion (λ h. unsigned_abs h ≤ 1000000) hs → AllByRecursion IsNumber hs
small_numbers hs all = all-onto (λ h. unsigned_abs h ≤ 1000000) IsNumber small_number hs all

-- from 0 to 64
pub bounded_number : (z : ℤ) → pos 0 ≤ℤ z → z ≤ℤ pos 64 → IsNumber z
bounded_number (pos n) h k = omega (arith, ints)
bounded_number (negsuc n) h k = absurd (omega (arith, ints))

pub zeros_numbers : (n : ℕ) → AllByRecursion IsNumber (zeros n)
zeros_numbers zero = tt
zeros_numbers (suc n) = (omega arith, zeros_numbers n)

pub zeros-all : (v : List ℤ) (n : ℕ) → length v ≡ n → AllByRecursion (λ x. x ≡ pos 0) v → v ≡ zeros n
zeros-all [] zero e all = refl
zeros-all [] (suc n) e all = absurd (omega arith)
zeros-all (x ∷ v) zero e all = absurd (omega arith)
zeros-all (x ∷ v) (suc n) e all = let first : x ≡ pos 0 = all.0 in let rest = zeros-all v n (omega arith) all.1 in cc

pub all-zeros : (n : ℕ) → AllByRecursion (λ x. x ≡ pos 0) (zeros n)
all-zeros zero = tt
all-zeros (suc n) = (refl, all-zeros n)

pub length-zeros : (n : ℕ) → length (zeros n) ≡ n
length-zeros zero = refl
length-zeros (suc n) = let rest = length-zeros n in omega arith

-- equal lists of lines

pub first : (k l : Line) (ks ls : List Line) → k ∷ ks ≡ l ∷ ls → k ≡ l
first k l ks ls e = ap (λ xs. get_or xs 0 []) e

pub others : (k l : Line) (ks ls : List Line) → k ∷ ks ≡ l ∷ ls → ks ≡ ls
others k l ks ls e = ap (drop 1) e

-- the words of a line behind the first

behind : (k l : Line) → k ≡ l → drop 1 k ≡ drop 1 l
behind k l e = ap (drop 1) e

pub heights_injective : (hs ks : List ℤ) → AllByRecursion IsNumber hs → AllByRecursion IsNumber ks → heights_line hs ≡ heights_line ks → hs ≡ ks
heights_injective hs ks h k e = numbers_injective hs ks h k (behind (heights_line hs) (heights_line ks) e)

pub degree_injective : (y z : ℤ) → IsNumber y → IsNumber z → degree_line y ≡ degree_line z → y ≡ z
degree_injective y z h k e = spelled_injective y z h k (ap (λ l. get_or l 1 []) e)

pub upto_injective : (y z : ℤ) → IsNumber y → IsNumber z → upto_line y ≡ upto_line z → y ≡ z
upto_injective y z h k e = spelled_injective y z h k (ap (λ l. get_or l 1 []) e)

pub class_injective : (y z : ℤ) (u v : List ℤ) → IsNumber y → IsNumber z → AllByRecursion IsNumber u → AllByRecursion IsNumber v → class_words y u ≡ class_words z v → (y ≡ z) × (u ≡ v)
class_injective y z u v h k all more e = (spelled_injective y z h k (ap (λ l. get_or l 1 []) e), numbers_injective u v all more (ap (drop 2) e))

term : ℤ → ℤ → Term
term n x = record { exponent = n; coefficient = x }

pub term_injective : (t u : Term) → TermFits t → TermFits u → term_line t ≡ term_line u → t ≡ u
unfolding term
term_injective t u h k e =
    ap (λ n. term n t.coefficient) (spelled_injective t.exponent u.exponent h.0 k.0 (ap (λ l. get_or l 1 []) e))
    ∙ ap (λ x. term u.exponent x) (wide_injective t.coefficient u.coefficient h.1 k.1 (ap (λ l. get_or l 2 []) e))

integer : ℕ → ℤ → GenusValue
integer g x = record { genus = g; value = x }

pub integer_injective : (i j : GenusValue) → IntegerFits i → IntegerFits j → integer_line i ≡ integer_line j → i ≡ j
unfolding integer
integer_injective i j h k e =
    ap (λ g. integer g i.value) (count_injective i.genus j.genus h.genus k.genus (ap (λ l. get_or l 1 []) e))
    ∙ ap (λ x. integer j.genus x) (wide_injective i.value j.value h.value k.value (ap (λ l. get_or l 2 []) e))

pub numbers-entries : (v : List ℤ) → length v ≤ 64 → AllByRecursion IsNumber v → IsEntries v
numbers-entries v few all = record { few = few; small = all-onto IsNumber IsEntry number_is_entry v all }
