-- The sets of extras of one corner by rising numbers of boxes, and which of them are still to come.
--
-- SizedSet            == a set of extras with its number of boxes
-- of_size i s         == that set with the number i
-- all_of_size legs most i == the sets of i extras
-- sizes_of legs most i last sets == these sets of i boxes, and after them all of i + 1 boxes, .., all of `last` boxes
-- sized s             == the sets that are still to come in a state s
-- IsSized s           == so it is in s: it searches among the cells that are worth it, and the numbers are in their limits
-- IsSizedSame s t     == t has the same sets to come as s, of the same corner and up to the same number, and
--                        none of fewer boxes
-- IsAdvanced s t      == the set that is chosen in t, with its number, came first in s, and the rest is to come in t
-- IsExhausted s t     == none was to come in s, nor is in t
-- Advances b s t      == the one where b holds, else the other
use Rattle.std.specs.Prelude.{◌≡◌, ℕ, suc, ◌-◌, ◌≤◌, Bool, true, false, List, [], ◌∷◌, ◌++◌, map}
use Rattle.std.specs.List.{flat_map, range_with_len}
use Rattle.tv_cells.specs.declared.cell.Cell.{Cell}
use Rattle.tv_cells.specs.declared.legs.Legs.{Legs}
use Rattle.tv_cells.specs.Extras.{AreDiagrams}
use Rattle.tv_spec_boxes.specs.Configurations.{extras_of}
use Rattle.tv_extras.specs.declared.search.TheConstants.{MOST_BOXES}
use Rattle.tv_extras.specs.declared.sized.SizedSets.{SizedSets}
use Rattle.tv_extras.specs.Search.{to_come, IsSearch}
use Rattle.tv_extras.specs.Room.{worth_cells}

pub record SizedSet : Type 0 where
  pub boxes : ℕ
  pub cells : List Cell

abbrev pub of_size : ℕ → List Cell → SizedSet
of_size i s = record { boxes = i; cells = s }

abbrev pub all_of_size : Legs → ℕ → ℕ → List SizedSet
all_of_size legs most i = map (of_size i) (extras_of legs most i)

unfoldable pub sizes_of : Legs → ℕ → ℕ → ℕ → List (List Cell) → List SizedSet
sizes_of legs most i last sets = map (of_size i) sets ++ flat_map (all_of_size legs most) (range_with_len (suc i) (last - i))

abbrev pub sized : SizedSets → List SizedSet
sized s = sizes_of s.search.legs s.most s.size s.last (to_come s.search)

pub record IsSized (s : SizedSets) : Type 0 where
  pub valid : IsSearch s.search
  pub worth : s.search.cells.items ≡ worth_cells s.search.legs s.most
  pub diagrams : AreDiagrams s.search.legs
  pub size : s.size ≤ s.last
  pub last : s.last ≤ s.most
  pub most : s.most ≤ MOST_BOXES

pub record IsSizedSame (s t : SizedSets) : Type 0 where
  pub valid : IsSized t
  pub legs : t.search.legs ≡ s.search.legs
  pub most : t.most ≡ s.most
  pub last : t.last ≡ s.last
  pub size : s.size ≤ t.size
  pub same : sized t ≡ sized s

pub record IsAdvanced (s t : SizedSets) : Type 0 where
  pub valid : IsSized t
  pub legs : t.search.legs ≡ s.search.legs
  pub most : t.most ≡ s.most
  pub last : t.last ≡ s.last
  pub size : s.size ≤ t.size
  pub first : sized s ≡ of_size t.size t.search.chosen.items ∷ sized t

pub record IsExhausted (s t : SizedSets) : Type 0 where
  pub kept : IsSizedSame s t
  pub none : sized t ≡ []

abbrev pub Advances : Bool → SizedSets → SizedSets → Type 0
Advances true s t = IsAdvanced s t
Advances false s t = IsExhausted s t
