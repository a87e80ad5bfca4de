-- The search for the sets of extras of one corner: which sets a state of it has still to give.
--
-- ahead legs chosen cells n == the sets of the chosen cells and n of the cells
-- besides legs cells chosen places n == the sets of the open choices, each at the place of its cell: those that have the cells
--                      chosen before it and not its cell, the last choice first; the lists begin at the last choice
-- coming, to_come s == the sets that a search has still to give, in order
-- AreChoices cells chosen places == at each place the cells have the cell that is chosen there, and the cells chosen before it
--                      rise with those from the place on
-- IsSearch s        == so it is in s, and the numbers of boxes are in their limit
-- IsAhead s         == the search stands before a cell, and has one to choose
-- IsNext s c        == c is that cell
-- IsAtSet s         == the chosen cells are the next set
-- Finds b s         == the search stands at a set where b holds, else none comes
-- branch n          == more than the steps with n cells left
-- tail_steps cells places == more than the steps behind the open choices
-- steps, steps_left s == more than the steps from s on
-- IsSame s t        == t is a search among the same cells with the same sets to come
-- IsFurther s t     == so it is, and has fewer steps left
-- IsMoved m s t     == what the move m from s to t tells
use Rattle.std.specs.Prelude.{◌≡◌, ℕ, zero, suc, ◌+◌, ◌-◌, ◌<◌, ◌≤◌, Bool, true, false, cond, List, [], ◌∷◌, ◌++◌, map, drop, length, reverse, ⊤}
use Rattle.tv_cells.specs.declared.cell.Cell.{Cell}
use Rattle.tv_cells.specs.declared.legs.Legs.{Legs}
use Rattle.tv_cells.specs.Cells.{rises}
use Rattle.tv_cells.specs.Extras.{is_extras}
use Rattle.tv_cells.specs.Cuts.{extras_after}
use Rattle.tv_extras.specs.declared.search.TheConstants.{MOST_BOXES}
use Rattle.tv_extras.specs.declared.search.Search.{Search}
use Rattle.tv_extras.specs.declared.search.Move.{Move}
use Rattle.tv_extras.specs.declared.search.Move.TheVariants.{Further, Found, Ended}

unfoldable pub ahead : Legs → List Cell → List Cell → ℕ → List (List Cell)
ahead legs chosen cells n = map (λ s. chosen ++ s) (extras_after legs chosen cells n)

unfoldable pub besides : Legs → List Cell → List Cell → List ℕ → ℕ → List (List Cell)
besides legs cells (c ∷ chosen) (p ∷ places) n = ahead legs (reverse chosen) (drop (suc p) cells) (suc n) ++ besides legs cells chosen places (suc n)
besides legs cells _ _ n = []

abbrev pub coming : Bool → Legs → List Cell → List Cell → List ℕ → ℕ → ℕ → List (List Cell)
coming forward legs cells chosen places at n =
    cond forward (ahead legs chosen (drop at cells) n) [] ++ besides legs cells (reverse chosen) (reverse places) n

abbrev pub to_come : Search → List (List Cell)
to_come s = coming s.forward s.legs s.cells.items s.chosen.items s.places.items s.at s.left

unfoldable pub AreChoices : List Cell → List Cell → List ℕ → Type 0
AreChoices cells [] [] = ⊤
AreChoices cells (c ∷ chosen) (p ∷ places) = (drop p cells ≡ c ∷ drop (suc p) cells) × (rises (reverse chosen ++ drop p cells) ≡ true) × AreChoices cells chosen places
AreChoices cells _ _ = ⊥

pub record IsSearch (s : Search) : Type 0 where
  pub order : rises s.cells.items ≡ true
  pub choices : AreChoices s.cells.items (reverse s.chosen.items) (reverse s.places.items)
  pub rising : s.forward ≡ true → rises (s.chosen.items ++ drop s.at s.cells.items) ≡ true
  pub within : s.at ≤ length s.cells.items
  pub few : s.left + length s.chosen.items ≤ MOST_BOXES

pub record IsAhead (s : Search) : Type 0 where
  pub valid : IsSearch s
  pub forward : s.forward ≡ true
  pub some : 0 < s.left
  pub before : s.at < length s.cells.items

abbrev pub IsNext : Search → Cell → Type 0
IsNext s c = drop s.at s.cells.items ≡ c ∷ drop (suc s.at) s.cells.items

pub record IsAtSet (s : Search) : Type 0 where
  pub forward : s.forward ≡ true
  pub all : s.left ≡ 0
  pub extras : is_extras s.legs s.chosen.items ≡ true

abbrev pub Finds : Bool → Search → Type 0
Finds true s = IsAtSet s
Finds false s = to_come s ≡ []

unfoldable pub branch : ℕ → ℕ
branch zero = 1
branch (suc n) = 2 + (branch n + branch n)

unfoldable pub tail_steps : List Cell → List ℕ → ℕ
tail_steps cells [] = 0
tail_steps cells (p ∷ places) = suc (branch (length cells - suc p)) + tail_steps cells places

abbrev pub steps : Bool → List Cell → List ℕ → ℕ → ℕ
steps forward cells places at = cond forward (branch (length cells - at)) 0 + tail_steps cells (reverse places)

abbrev pub steps_left : Search → ℕ
steps_left s = steps s.forward s.cells.items s.places.items s.at

pub record IsSame (s t : Search) : Type 0 where
  pub valid : IsSearch t
  pub legs : t.legs ≡ s.legs
  pub cells : t.cells.items ≡ s.cells.items
  pub same : to_come t ≡ to_come s

pub record IsFurther (s t : Search) : Type 0 where
  pub kept : IsSame s t
  pub less : steps_left t < steps_left s

abbrev pub IsMoved : Move → Search → Search → Type 0
IsMoved Further s t = IsFurther s t
IsMoved Found s t = IsSame s t × IsAtSet t
IsMoved Ended s t = IsSame s t × (to_come t ≡ [])
