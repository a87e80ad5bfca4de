-- The configurations that are still to come at a stage of the lister.
--
-- later w n all     == the configurations of those assignments with the Euler characteristic n, one assignment after another
-- given w n st a f  == those of the assignment a at the stage st, with f its fillings: the one that was reached last, and
--                      those that are to come
-- to_come s         == the configurations that are still to come in s, in order
-- IsLister s        == so it is in s: each assignment fits the web, and the Euler characteristic is in its limit
-- IsAt here s       == and s is at that stage
-- rank stage        == how many steps at most lead from a stage to one between assignments or at a filling that stands
-- steps_left s      == at most so many steps from s on find nothing: three for each assignment to come, and those of the stage
-- IsSame s t        == t has the same to come as s
-- IsFurther s t     == so it has, and has fewer steps left
-- IsFound c s t     == c came first in s, and the rest is to come in t
-- IsEnded s t       == none was to come in s, nor is in t
-- IsMoved m s t     == what the move m from s to t tells
use Rattle.std.specs.Prelude.{◌≡◌, ℕ, ◌+◌, ◌*◌, ◌<◌, ◌≤◌, ℤ, unsigned_abs, List, [], ◌∷◌, ◌++◌, map, length}
use Rattle.std.specs.List.{AllByRecursion, flat_map}
use Rattle.tv_spec_plane.specs.declared.limits.TheConstants.{GREATEST_ORDER}
use Rattle.tv_spec_plane.specs.Web.{Web}
use Rattle.tv_spec_boxes.specs.Assignments.{Assignment, no_legs}
use Rattle.tv_spec_boxes.specs.Configurations.{Configuration, configuration, configurations_on}
use Rattle.tv_assignment.specs.Size.{IsOn}
use Rattle.tv_extras.specs.Standing.{Standing as Fill}
use Rattle.tv_boxes.specs.declared.stages.Stages.{Stages}
use Rattle.tv_boxes.specs.declared.stages.Stage.{Stage}
use Rattle.tv_boxes.specs.declared.stages.Stage.TheVariants.{Between, Chosen, Listing, Standing}
use Rattle.tv_boxes.specs.declared.stages.Move.{Move}
use Rattle.tv_boxes.specs.declared.stages.Move.TheVariants.{Further, Found, Ended}

abbrev pub later : Web → ℤ → List Assignment → List Configuration
later w n all = flat_map (λ a. configurations_on w (no_legs w) a n) all

abbrev pub given : Web → ℤ → Stage → Assignment → Fill → List Configuration
given w n Between a f = []
given w n Chosen a f = configurations_on w (no_legs w) a n
given w n Listing a f = map (configuration a) f.to_come
given w n Standing a f = configuration a f.current ∷ map (configuration a) f.to_come

abbrev pub to_come : Stages → List Configuration
to_come s = given s.web.now s.chi s.stage s.assignment s.fillings ++ later s.web.now s.chi s.all

abbrev pub rank : Stage → ℕ
rank Between = 0
rank Chosen = 2
rank Listing = 1
rank Standing = 0

abbrev pub steps_left : Stages → ℕ
steps_left s = 3 * length s.all + rank s.stage

pub record IsLister (s : Stages) : Type 0 where
  pub on : AllByRecursion (IsOn s.web.now) s.all
  pub chosen : s.stage ≡ Chosen → IsOn s.web.now s.assignment
  pub chi : unsigned_abs s.chi ≤ GREATEST_ORDER

pub record IsAt (here : Stage) (s : Stages) : Type 0 where
  pub valid : IsLister s
  pub stage : s.stage ≡ here

pub record IsSame (s t : Stages) : Type 0 where
  pub valid : IsLister t
  pub same : to_come t ≡ to_come s

pub record IsFurther (s t : Stages) : Type 0 where
  pub kept : IsSame s t
  pub fewer : steps_left t < steps_left s

pub record IsFound (c : Configuration) (s t : Stages) : Type 0 where
  pub valid : IsLister t
  pub first : to_come s ≡ c ∷ to_come t

pub record IsEnded (s t : Stages) : Type 0 where
  pub valid : IsLister t
  pub was : to_come s ≡ []
  pub is : to_come t ≡ []

abbrev pub IsMoved : Move → Stages → Stages → Type 0
IsMoved Further s t = IsFurther s t
IsMoved (Found c) s t = IsFound c s t
IsMoved Ended s t = IsEnded s t
