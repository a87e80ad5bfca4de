-- Fillings of several corners: what corners at their sets have still to give.
--
-- behind s fills      == each of the fillings behind the set s
-- ways rest last sets == each of the sets, with each of the fillings of what `last` has left beside it
-- legs_of nodes       == the legs of the corners
-- currents nodes      == the sets that are chosen there now
-- beyond node rest    == the fillings that begin with a set that is to come at the first corner
-- inside_of node fills == where the corner stands inside its set, these fillings behind it
-- to_fill nodes       == the fillings that are still to come, in order
-- IsNode most node later == the corner is in a state of up to `most` boxes; the last corner stands inside no set, and has
--                        sets of its last number alone
-- IsRestarted first last s t == the corner has begun again, at none of its sets of `first` up to `last` boxes
-- IsMovedOn b s t     == it went on to its next set, and stands inside it, where b holds; else none was left
-- IsUnmoved s t       == it has the same sets to come
-- AreNodes most nodes == each of the corners is so
-- IsKept most s t     == the corners t are so, and have the legs of s
-- IsSameFill most s t == they have the fillings of s to come
-- IsFilled most s t   == their sets are the first filling of s, and the rest is to come
-- IsAllFilled most s t == none was to come, nor is
-- Gives most b s t    == the next filling was reached where b holds, else none was left
-- GivesInside most node b s t == the same inside the set of a corner before these, where it stands inside one
use Rattle.std.specs.Prelude.{◌≡◌, ℕ, suc, ◌-◌, Bool, true, false, cond, List, [], ◌∷◌, ◌++◌, map, length, ⊤}
use Rattle.std.specs.List.{flat_map, range_with_len}
use Rattle.tv_cells.specs.declared.cell.Cell.{Cell}
use Rattle.tv_cells.specs.declared.legs.Legs.{Legs}
use Rattle.tv_spec_boxes.specs.Configurations.{fillings}
use Rattle.tv_extras.specs.declared.nodes.Node.{Node}
use Rattle.tv_extras.specs.Sized.{SizedSet, sized, all_of_size, IsSized, IsSizedSame, Advances}

abbrev pub Filling : Type 0
Filling = List (List Cell)

abbrev pub behind : List Cell → List Filling → List Filling
behind s fills = map (λ others. s ∷ others) fills

abbrev pub ways : (ℕ → List Filling) → ℕ → List SizedSet → List Filling
ways rest last sets = flat_map (λ s. behind s.cells (rest (last - s.boxes))) sets

abbrev pub legs_of : List Node → List Legs
legs_of nodes = map (λ node. node.sets.search.legs) nodes

abbrev pub currents : List Node → Filling
currents nodes = map (λ node. node.sets.search.chosen.items) nodes

unfoldable pub beyond : Node → List Legs → List Filling
beyond node rest = ways (fillings rest node.sets.most) node.sets.last (sized node.sets)

unfoldable pub inside_of : Node → List Filling → List Filling
inside_of node fills = cond node.inside (behind node.sets.search.chosen.items fills) []

unfoldable pub to_fill : List Node → List Filling
to_fill [] = []
to_fill (node ∷ later) = inside_of node (to_fill later) ++ beyond node (legs_of later)

pub record IsNode (most : ℕ) (node : Node) (later : List Node) : Type 0 where
  pub sets : IsSized node.sets
  pub limit : node.sets.most ≡ most
  pub full : length later ≡ 0 → node.sets.size ≡ node.sets.last
  pub outside : length later ≡ 0 → node.inside ≡ false

pub record IsRestarted (first last : ℕ) (s t : Node) : Type 0 where
  pub sets : IsSized t.sets
  pub legs : t.sets.search.legs ≡ s.sets.search.legs
  pub most : t.sets.most ≡ s.sets.most
  pub size : t.sets.size ≡ first
  pub greatest : t.sets.last ≡ last
  pub inside : t.inside ≡ false
  pub value : sized t.sets ≡ flat_map (all_of_size s.sets.search.legs s.sets.most) (range_with_len first (suc (last - first)))

pub record IsMovedOn (found : Bool) (s t : Node) : Type 0 where
  pub inside : t.inside ≡ found
  pub sets : Advances found s.sets t.sets

pub record IsUnmoved (s t : Node) : Type 0 where
  pub inside : t.inside ≡ s.inside
  pub sets : IsSizedSame s.sets t.sets

abbrev pub AreNodes : ℕ → List Node → Type 0
AreNodes most [] = ⊤
AreNodes most (node ∷ later) = IsNode most node later × AreNodes most later

pub record IsKept (most : ℕ) (s t : List Node) : Type 0 where
  pub valid : AreNodes most t
  pub legs : legs_of t ≡ legs_of s

pub record IsSameFill (most : ℕ) (s t : List Node) : Type 0 where
  pub kept : IsKept most s t
  pub same : to_fill t ≡ to_fill s

pub record IsFilled (most : ℕ) (s t : List Node) : Type 0 where
  pub kept : IsKept most s t
  pub first : to_fill s ≡ currents t ∷ to_fill t

pub record IsAllFilled (most : ℕ) (s t : List Node) : Type 0 where
  pub kept : IsKept most s t
  pub was : to_fill s ≡ []
  pub is : to_fill t ≡ []

abbrev pub Gives : ℕ → Bool → List Node → List Node → Type 0
Gives most true s t = IsFilled most s t
Gives most false s t = IsAllFilled most s t

abbrev pub GivesInside : ℕ → Node → Bool → List Node → List Node → Type 0
GivesInside most node true s t = (node.inside ≡ true) × IsFilled most s t
GivesInside most node false s t = IsKept most s t × (inside_of node (to_fill s) ≡ []) × (inside_of node (to_fill t) ≡ [])
