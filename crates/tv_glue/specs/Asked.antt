-- How far series of corners are asked for by the assignments of degree at most d.
--
-- IsAsked w d n image most  == some assignment of class most.by has a corner of whose legs this is the least image, and at least
--                              most.boxes boxes left at n
-- AreAsked w d n es         == so it is for each entry of an image with what is asked for it
-- IsRaised es legs most new == the entries stay, or have most at the legs
-- Asks legs k es            == at least k boxes are asked for under these legs
-- AsksMore es new           == new asks for what es asks for
-- AsksFor w n a es          == es asks for each number of boxes that is left at n, under the least image of each corner of the
--                              assignment
-- AsksForAll w n all es      == so it does for each of these assignments
-- KeepsFor r w n a es       == the series of each corner of the assignment is kept, under its least image, through each number
--                              of boxes left at n
-- KeepsAll r w d n es       == so it is for each assignment of degree at most d
-- IsWideAt r legs most v    == v is the class most.by, and the legs' count at some number of boxes, at most most.boxes, times the
--                              size of one, exceeds the limit
-- IsTooManyOf r w d n v     == some assignment of class v and of degree at most d has too many (IsTooMany)
use Rattle.std.specs.Prelude.{◌≡◌, Contains, ℕ, ◌<◌, ◌≤◌, ◌*◌, ◌^◌, ◌⊎◌, ℤ, pos, ◌≤ℤ◌, List, IsSomeAnd}
use Rattle.std.specs.List.{AllByRecursion}
use Rattle.std.specs.Map.{lookup}
use Rattle.indexmap.specs.IndexMap.{insert_entry}
use Rattle.tv_ring.specs.Operations.{Operations, limit}
use Rattle.tv_laws_series.specs.Terms.{Terms}
use Rattle.tv_spec_plane.specs.Web.{Web}
use Rattle.tv_cells.specs.declared.legs.Legs.{Legs}
use Rattle.tv_cells.specs.Extras.{count}
use Rattle.tv_spec_boxes.specs.Assignments.{Assignment, assignments, class_of, all_legs, no_legs}
use Rattle.tv_spec_boxes.specs.Configurations.{boxes_left}
use Rattle.tv_images.specs.Least.{least, HasCountsOf}
use Rattle.tv_glue.specs.declared.asked.Most.{Most}
use Rattle.tv_assigned_series.specs.Kept.{same, Keeps}
use Rattle.tv_assigned_series.specs.Terms.{IsTooMany}

pub record IsAsked (w : Web) (d : ℕ) (n : ℤ) (image : Legs) (most : Most) : Type 0 where
  pub assignment : Assignment
  pub listed : Contains (assignments w d) assignment
  pub class : most.by ≡ class_of w assignment
  pub corner : Legs
  pub among : Contains (all_legs w assignment (no_legs w)) corner
  pub least : image ≡ least corner
  pub counts : HasCountsOf corner image
  pub few : most.boxes < 2 ^ 29
  pub left : pos most.boxes ≤ℤ boxes_left w (no_legs w) assignment n

abbrev pub AreAsked : Web → ℕ → ℤ → List (Legs × Most) → Type 0
AreAsked w d n es = AllByRecursion (λ e. IsAsked w d n e.0 e.1) es

abbrev pub IsRaised : List (Legs × Most) → Legs → Most → List (Legs × Most) → Type 0
IsRaised es legs most new = (new ≡ es) ⊎ (new ≡ insert_entry same es legs most)

abbrev pub Asks : Legs → ℕ → List (Legs × Most) → Type 0
Asks legs k es = IsSomeAnd (lookup (same legs) es) (λ m. k ≤ m.boxes)

abbrev pub AsksMore : List (Legs × Most) → List (Legs × Most) → Type 0
AsksMore es new = (legs : Legs) (k : ℕ) → Asks legs k es → Asks legs k new

abbrev pub AsksFor : Web → ℤ → Assignment → List (Legs × Most) → Type 0
AsksFor w n a es = (legs : Legs) (k : ℕ) → Contains (all_legs w a (no_legs w)) legs → pos k ≤ℤ boxes_left w (no_legs w) a n → Asks (least legs) k es

abbrev pub AsksForAll : Web → ℤ → List Assignment → List (Legs × Most) → Type 0
AsksForAll w n all es = AllByRecursion (λ (a : Assignment). AsksFor w n a es) all

abbrev pub KeepsFor : {A : Type 0} → Operations A → Web → ℤ → Assignment → List (Legs × Terms A) → Type 0
KeepsFor r w n a es = (legs : Legs) (k : ℕ) → Contains (all_legs w a (no_legs w)) legs → pos k ≤ℤ boxes_left w (no_legs w) a n → Keeps r (least legs) k es

abbrev pub KeepsAll : {A : Type 0} → Operations A → Web → ℕ → ℤ → List (Legs × Terms A) → Type 0
KeepsAll r w d n es = AllByRecursion (λ (a : Assignment). KeepsFor r w n a es) (assignments w d)

abbrev pub IsWideAt : {A : Type 0} → Operations A → Legs → Most → List ℤ → Type 0
IsWideAt r legs most v = (v ≡ most.by) × ((i : ℕ) × (i ≤ most.boxes) × (limit < count legs i * r.size r.unit))

pub record IsTooManyOf {A : Type 0} (r : Operations A) (w : Web) (d : ℕ) (n : ℤ) (v : List ℤ) : Type 0 where
  pub assignment : Assignment
  pub listed : Contains (assignments w d) assignment
  pub class : v ≡ class_of w assignment
  pub beyond : IsTooMany r w (no_legs w) n assignment
