-- How far a report is read, and which lines may follow.
--
-- Seen              == what the lines so far say: the heights, the greatest degree, the last exponent, the sections that are
--                      closed, and the open one
-- shell s           == the data without sections
-- data_of s         == the data, with the open section as the last one
-- zero_section hs   == the section of class zero
-- IsFresh s         == no section is closed, and the open one has no terms and no integers
-- AreSound s        == what is said so far is the beginning of a report
-- HasClosed s       == some section is closed
-- Fitting g s       == what is known of s at stage g
-- IsWithinSection g == class zero is read, and the last line is not
-- one_line          == the line `term 0 1`
-- lines_from ss     == the lines of the sections, and the last one
-- from_heights d, from_degree d, from_upto d, from_zero d == the lines of a report from that line on
-- Agrees s d        == the data has the heights, the greatest degree and the last exponent of s
-- grown p ts is     == the section with further terms and integers
-- RestTerms, RestIntegers, RestClosed == the same within a section, after its terms, and after a section
-- Rest g s d more   == after what is read up to stage g, which says s, the lines `more` end the report of d
-- Leads, Stops      == after what is read the line leads on; no report goes on with the line
-- IsAt g s ls       == the lines ls are read up to stage g, and say s
use Rattle.std.specs.Prelude.{◌≡◌, ◌<◌, ℤ, pos, List, [], ◌∷◌, ◌++◌, length, map, drop, ⊤}
use Rattle.std.specs.List.{flat_map}
use Rattle.tv_spec_boxes.specs.Assignments.{zeros}
use Rattle.tv_spec_boxes.specs.Classes.{ClassesRise}
use Rattle.tv_spec_text.specs.Lines.{Line}
use Rattle.tv_spec_text.specs.Files.{heights_line, end_line}
use Rattle.tv_spec_text.specs.Reports.{Term, term_line}
use Rattle.tv_spec_reports.specs.IntegerLines.{GenusValue, GvSection, integer_line, gv_section_lines}
use Rattle.tv_spec_reports.specs.Grammar.{GvData, SectionsFit, GvFits, SpellsGv}
use Rattle.tv_text.specs.Sections.{degree_line, upto_line}
use Rattle.tv_report_reader.specs.Rows.{title_line}
use Rattle.tv_report_reader.specs.Checks.{section_by, HeightsFit, DegreeFits, OrderFits}
use Rattle.tv_report_reader.specs.declared.stage.Stage.{Stage}
use Rattle.tv_report_reader.specs.declared.stage.Stage.TheVariants.{Opening, Heights, Degree, Upto, Zero, One, Closed, Terms, Integers, Done}

pub record Seen : Type 0 where
  pub heights : List ℤ
  pub degree : ℤ
  pub upto : ℤ
  pub closed : List GvSection
  pub opened : GvSection

abbrev pub shell : Seen → GvData
shell s = record { heights = s.heights; degree = s.degree; upto = s.upto; sections = [] }

abbrev pub data_of : Seen → GvData
data_of s = record { heights = s.heights; degree = s.degree; upto = s.upto; sections = s.closed ++ s.opened ∷ [] }

abbrev pub zero_section : List ℤ → GvSection
zero_section hs = section_by (pos 0) (zeros (length hs)) (record { exponent = pos 0; coefficient = pos 1 } ∷ []) []

pub record IsFresh (s : Seen) : Type 0 where
  pub closed : s.closed ≡ []
  pub terms : s.opened.section.terms ≡ []
  pub integers : s.opened.integers ≡ []

pub record AreSound (s : Seen) : Type 0 where
  pub heights : HeightsFit s.heights
  pub degree : DegreeFits s.degree
  pub order : OrderFits s.upto
  pub sections : SectionsFit (shell s) (s.closed ++ s.opened ∷ [])
  pub rise : ClassesRise s.heights (map (λ p. p.section.entries) (s.closed ++ s.opened ∷ []))

abbrev pub HasClosed : Seen → Type 0
HasClosed s = 0 < length s.closed

abbrev pub Fitting : Stage → Seen → Type 0
Fitting Opening s = IsFresh s
Fitting Heights s = IsFresh s
Fitting Degree s = IsFresh s × HeightsFit s.heights
Fitting Upto s = IsFresh s × HeightsFit s.heights × DegreeFits s.degree
Fitting Zero s = IsFresh s × HeightsFit s.heights × DegreeFits s.degree × OrderFits s.upto
Fitting One s = (IsFresh s × (s.opened.section.degree ≡ pos 0) × (s.opened.section.entries ≡ zeros (length s.heights)))
    × HeightsFit s.heights × DegreeFits s.degree × OrderFits s.upto
Fitting Closed s = AreSound s
Fitting Terms s = HasClosed s × AreSound s
Fitting Integers s = HasClosed s × AreSound s
Fitting Done s = AreSound s

abbrev pub IsWithinSection : Stage → Type 0
IsWithinSection Closed = ⊤
IsWithinSection Terms = ⊤
IsWithinSection Integers = ⊤
IsWithinSection g = ⊥

abbrev pub one_line : Line
one_line = term_line (record { exponent = pos 0; coefficient = pos 1 })

unfoldable pub lines_from : List GvSection → List Line
lines_from ss = flat_map gv_section_lines ss ++ end_line ∷ []

abbrev pub from_zero : GvData → List Line
from_zero d = lines_from d.sections

abbrev pub from_upto : GvData → List Line
from_upto d = upto_line d.upto ∷ from_zero d

abbrev pub from_degree : GvData → List Line
from_degree d = degree_line d.degree ∷ from_upto d

abbrev pub from_heights : GvData → List Line
from_heights d = heights_line d.heights ∷ from_degree d

pub record Agrees (s : Seen) (d : GvData) : Type 0 where
  pub heights : d.heights ≡ s.heights
  pub degree : d.degree ≡ s.degree
  pub upto : d.upto ≡ s.upto

abbrev pub grown : GvSection → List Term → List GenusValue → GvSection
grown p ts is = section_by p.section.degree p.section.entries (p.section.terms ++ ts) (p.integers ++ is)

pub record RestTerms (s : Seen) (d : GvData) (more : List Line) : Type 0 where
  pub agrees : Agrees s d
  pub terms : List Term
  pub integers : List GenusValue
  pub later : List GvSection
  pub sections : d.sections ≡ s.closed ++ grown s.opened terms integers ∷ later
  pub same : more ≡ map term_line terms ++ (map integer_line integers ++ lines_from later)

pub record RestIntegers (s : Seen) (d : GvData) (more : List Line) : Type 0 where
  pub agrees : Agrees s d
  pub integers : List GenusValue
  pub later : List GvSection
  pub sections : d.sections ≡ s.closed ++ grown s.opened [] integers ∷ later
  pub same : more ≡ map integer_line integers ++ lines_from later

pub record RestClosed (s : Seen) (d : GvData) (more : List Line) : Type 0 where
  pub agrees : Agrees s d
  pub later : List GvSection
  pub sections : d.sections ≡ s.closed ++ s.opened ∷ later
  pub same : more ≡ lines_from later

abbrev pub Rest : Stage → Seen → GvData → List Line → Type 0
Rest Opening s d more = more ≡ title_line ∷ from_heights d
Rest Heights s d more = more ≡ from_heights d
Rest Degree s d more = (d.heights ≡ s.heights) × (more ≡ from_degree d)
Rest Upto s d more = (d.heights ≡ s.heights) × (d.degree ≡ s.degree) × (more ≡ from_upto d)
Rest Zero s d more = Agrees s d × (more ≡ from_zero d)
Rest One s d more = Agrees s d × (more ≡ one_line ∷ lines_from (drop 1 d.sections))
Rest Closed s d more = RestClosed s d more
Rest Terms s d more = RestTerms s d more
Rest Integers s d more = RestIntegers s d more
Rest Done s d more = Agrees s d × (d.sections ≡ s.closed ++ s.opened ∷ []) × (more ≡ [])

pub record Leads (g : Stage) (s : Seen) (l : Line) (h : Stage) (t : Seen) : Type 0 where
  pub fitting : Fitting g s → Fitting h t
  pub into : Fitting g s → (d : GvData) (more : List Line) → GvFits d → Rest g s d (l ∷ more) → Rest h t d more
  pub back : Fitting g s → (d : GvData) (more : List Line) → GvFits d → Rest h t d more → Rest g s d (l ∷ more)

abbrev pub Stops : Stage → Seen → Line → Type 0
Stops g s l = Fitting g s → (d : GvData) (more : List Line) → GvFits d → Rest g s d (l ∷ more) → ⊥

pub record IsAt (g : Stage) (s : Seen) (ls : List Line) : Type 0 where
  pub fitting : Fitting g s
  pub into : (d : GvData) (more : List Line) → SpellsGv (ls ++ more) d → Rest g s d more
  pub back : (d : GvData) (more : List Line) → GvFits d → Rest g s d more → ls ++ more ≡ title_line ∷ from_heights d
