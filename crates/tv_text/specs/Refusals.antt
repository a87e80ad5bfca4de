-- The line of a refusal.
--
-- file_line ws    == `refused file` and the words that follow
-- excess_line e   == the line of a count or a number over its limit
-- fault_line f    == the line of a file that is refused
-- crowd_line v    == the line of a class with too many configurations
-- spread_line n v == the line of a class v and an exponent n at which the sizes that meet in its division are too large
-- majorant_line n v == the line of a class v and an exponent n at which the majorant of its integers is too wide
-- wide_line w     == the line of a number that would be too wide
-- differs_line n series product v == the line of the first place where product and series differ, with both values
-- refusal_line r  == the line of a refusal
use Rattle.std.specs.Prelude.{ℤ, pos, List, [], ◌∷◌, map, codes}
use Rattle.tv_lattice.specs.declared.fault.Excess.{Excess}
use Rattle.tv_lattice.specs.declared.fault.Excess.TheVariants.{Points, Triangles, Coordinate, Height}
use Rattle.tv_lattice.specs.declared.fault.FileFault.{FileFault}
use Rattle.tv_lattice.specs.declared.fault.FileFault.TheVariants.{TooLong, Line, Json, TooMany, Repeated, Index, Flat, Area, Twice, Unmatched, Bare, HeightCount, Degree}
use Rattle.tv_spec_text.specs.Lines.{Line as Words, spelled}
use Rattle.tv_text.specs.declared.refusal.WideNumber.{WideNumber}
use Rattle.tv_text.specs.declared.refusal.WideNumber.TheVariants.{Crowd, Spread, Majorant}
use Rattle.tv_text.specs.declared.refusal.Refusal.{Refusal}
use Rattle.tv_text.specs.declared.refusal.Refusal.TheVariants.{Words as AtWord, File, Wide, Differs}

abbrev pub file_line : Words → Words
file_line ws = codes "refused" ∷ codes "file" ∷ ws

abbrev pub excess_line : Excess → Words
excess_line (Points n) = file_line (codes "3" ∷ codes "points" ∷ spelled (pos n) ∷ [])
excess_line (Triangles n) = file_line (codes "3" ∷ codes "triangles" ∷ spelled (pos n) ∷ [])
excess_line (Coordinate i) = file_line (codes "3" ∷ codes "coordinate" ∷ spelled (pos i) ∷ [])
excess_line (Height i) = file_line (codes "3" ∷ codes "height" ∷ spelled (pos i) ∷ [])

abbrev pub fault_line : FileFault → Words
fault_line TooLong = file_line (codes "1" ∷ [])
fault_line (Line n) = file_line (codes "2" ∷ spelled (pos n) ∷ [])
fault_line Json = file_line (codes "13" ∷ [])
fault_line (TooMany e) = excess_line e
fault_line (Repeated i j) = file_line (codes "4" ∷ spelled (pos i) ∷ spelled (pos j) ∷ [])
fault_line (Index t) = file_line (codes "5" ∷ spelled (pos t) ∷ [])
fault_line Flat = file_line (codes "6" ∷ [])
fault_line (Area t doubled) = file_line (codes "7" ∷ spelled (pos t) ∷ spelled doubled ∷ [])
fault_line (Twice t u) = file_line (codes "8" ∷ spelled (pos t) ∷ spelled (pos u) ∷ [])
fault_line (Unmatched a b) = file_line (codes "9" ∷ spelled (pos a) ∷ spelled (pos b) ∷ [])
fault_line (Bare a b) = file_line (codes "10" ∷ spelled (pos a) ∷ spelled (pos b) ∷ [])
fault_line (HeightCount k) = file_line (codes "11" ∷ spelled (pos k) ∷ [])
fault_line (Degree a b d) = file_line (codes "12" ∷ spelled (pos a) ∷ spelled (pos b) ∷ spelled d ∷ [])

abbrev pub crowd_line : List ℤ → Words
crowd_line v = codes "refused" ∷ codes "wide" ∷ codes "crowd" ∷ codes "class" ∷ map spelled v

abbrev pub spread_line : ℤ → List ℤ → Words
spread_line n v = codes "refused" ∷ codes "wide" ∷ codes "spread" ∷ spelled n ∷ codes "class" ∷ map spelled v

abbrev pub majorant_line : ℤ → List ℤ → Words
majorant_line n v = codes "refused" ∷ codes "wide" ∷ codes "majorant" ∷ spelled n ∷ codes "class" ∷ map spelled v

abbrev pub differs_line : ℤ → ℤ → ℤ → List ℤ → Words
differs_line n series product v =
    codes "refused" ∷ codes "differs" ∷ spelled n ∷ spelled series ∷ spelled product ∷ codes "class" ∷ map spelled v

abbrev pub wide_line : WideNumber → Words
wide_line (Crowd v) = crowd_line v
wide_line (Spread v n) = spread_line n v
wide_line (Majorant v n) = majorant_line n v

abbrev pub refusal_line : Refusal → Words
refusal_line (AtWord k) = codes "refused" ∷ codes "words" ∷ spelled (pos k) ∷ []
refusal_line (File fault) = fault_line fault
refusal_line (Wide wide) = wide_line wide
refusal_line (Differs v n series product) = differs_line n series product v
