-- What is told of the box configurations of a class.
--
-- Suits w v       == v is a class of w that may be asked for: it has an entry for each point, and a degree of at most MAX_DEGREE
-- HasTooFew, HasTooMany, IsTooHigh w v k == entries are wanting, and k is the number of words `boxes CHI V`; there are too many,
--                   and k is the place of the first that is too many; the degree is too high, and k that of the first entry
-- IsUnsuitedAt w v k == v is none, since one of these is so
-- IsBoxesReport w v chi text == the class may be asked for, and the text is the report of its configurations
-- first_lines w v chi count == the head of that report, and the lines of its first configurations, as many as count or all
-- IsBeginning w v chi text == the class may be asked for, and the text is that of such first lines
use Rattle.std.specs.Prelude.{◌≡◌, ◌⊎◌, ℕ, ◌+◌, ◌<◌, ℤ, ◌<ℤ◌, ◌≤ℤ◌, List, ◌++◌, length, take}
use Rattle.std.specs.List.{flat_map}
use Rattle.tv_spec_plane.specs.Web.{Web, degree_of}
use Rattle.tv_spec_boxes.specs.Assignments.{no_legs}
use Rattle.tv_spec_boxes.specs.Configurations.{configurations}
use Rattle.tv_spec_text.specs.Lines.{Line, text_of}
use Rattle.tv_spec_reports.specs.Boxes.{boxes_head, config_lines, boxes_text}
use Rattle.tv_words.specs.declared.command.TheConstants.{MAX_DEGREE}

pub record Suits (w : Web) (v : List ℤ) : Type 0 where
  pub one_each : length v ≡ length w.points
  pub degree : degree_of w.heights v ≤ℤ MAX_DEGREE

pub record HasTooFew (w : Web) (v : List ℤ) (place : ℕ) : Type 0 where
  pub fewer : length v < length w.points
  pub place_is : place ≡ 2 + length v

pub record HasTooMany (w : Web) (v : List ℤ) (place : ℕ) : Type 0 where
  pub more : length w.points < length v
  pub place_is : place ≡ 2 + length w.points

pub record IsTooHigh (w : Web) (v : List ℤ) (place : ℕ) : Type 0 where
  pub one_each : length v ≡ length w.points
  pub degree : MAX_DEGREE <ℤ degree_of w.heights v
  pub place_is : place ≡ 2

abbrev pub IsUnsuitedAt : Web → List ℤ → ℕ → Type 0
IsUnsuitedAt w v place = HasTooFew w v place ⊎ (HasTooMany w v place ⊎ IsTooHigh w v place)

pub record IsBoxesReport (w : Web) (v : List ℤ) (chi : ℤ) (text : List ℕ) : Type 0 where
  pub suits : Suits w v
  pub printed : text ≡ boxes_text w v chi

abbrev pub first_lines : Web → List ℤ → ℤ → ℕ → List Line
first_lines w v chi count = boxes_head w v chi ++ flat_map (config_lines w) (take count (configurations w (no_legs w) v chi))

pub record IsBeginning (w : Web) (v : List ℤ) (chi : ℤ) (text : List ℕ) : Type 0 where
  pub suits : Suits w v
  pub count : ℕ
  pub begins : text ≡ text_of (first_lines w v chi count)
