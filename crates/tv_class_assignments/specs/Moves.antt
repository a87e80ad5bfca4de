-- What a step and a choice come to.
--
-- IsChoice w e f c   == c is the choice of frame f on edge number e
-- IsBehind w e f l   == l is left beside the next diagram of f, which there is
-- Moves w count fs gs m == m is the move from the frames fs to the frames gs
-- new_frame l        == the frame of an edge on which no diagram has been chosen
-- larger f, later f  == the frame goes on to the next size, to the next diagram
-- IsEnlarged fs gs   == the last of the frames goes on to the next size, or is left after the largest
-- IsEntered fs l gs  == the last of the frames goes on to the next diagram, and l is left behind the one before it
-- IsNext now found then == found is the head of the list now, with the rest then, or none where both are empty
use Rattle.std.specs.Prelude.{◌≡◌, ℕ, suc, ◌+◌, ◌*◌, ◌^◌, ◌<◌, true, cond, List, [], ◌∷◌, ◌++◌, length, drop, nat_le, nat_lt, Option, Some, None}
use Rattle.tv_lemmas.specs.Naturals.{as_natural}
use Rattle.tv_spec_plane.specs.Web.{Web, compact, edge_degree}
use Rattle.tv_degrees.specs.Edges.{edge_at}
use Rattle.tv_partition.specs.Rows.{diagrams}
use Rattle.tv_spec_boxes.specs.Assignments.{Assignment}
use Rattle.tv_class_assignments.specs.Remaining.{Left}
use Rattle.tv_class_assignments.specs.Walk.{from, with_diagrams, beside_on, IsFurther, IsFound}
use Rattle.tv_class_assignments.specs.declared.frame.Frame.{Frame}
use Rattle.tv_class_assignments.specs.declared.moves.Choice.{Choice}
use Rattle.tv_class_assignments.specs.declared.moves.Choice.TheVariants.{TooMany, Nothing, Behind}
use Rattle.tv_class_assignments.specs.declared.moves.Move.{Move}
use Rattle.tv_class_assignments.specs.declared.moves.Move.TheVariants.{Further, Found, Ended}

pub record IsBehind (w : Web) (e : ℕ) (f : Frame) (l : Left) : Type 0 where
  pub fits : nat_le (f.size * as_natural (edge_degree w (edge_at w e))) f.left.degree ≡ true
  pub left : l ≡ beside_on w (edge_at w e) f.size f.left
  pub within : f.place < length (diagrams f.size)
  pub word : f.place + 1 < 2 ^ 64

abbrev pub IsChoice : Web → ℕ → Frame → Choice → Type 0
IsChoice w e f TooMany =
    from w (edge_at w e) (drop (suc e) (compact w)) f.left f.size f.place ≡ []
IsChoice w e f Nothing =
    with_diagrams w (edge_at w e) (drop (suc e) (compact w)) f.left f.size (drop f.place (diagrams f.size)) ≡ []
IsChoice w e f (Behind l) = IsBehind w e f l

abbrev pub Moves : Web → ℕ → List Frame → List Frame → Move → Type 0
Moves w count fs gs Further = IsFurther w count fs gs
Moves w count fs gs (Found a) = IsFound w count fs a gs
Moves w count fs gs Ended = (fs ≡ []) × (gs ≡ [])

abbrev pub IsNext : List Assignment → Option Assignment → List Assignment → Type 0
IsNext now None then = (now ≡ []) × (then ≡ [])
IsNext now (Some a) then = now ≡ a ∷ then

abbrev pub new_frame : Left → Frame
new_frame l = record { left = l; size = 0; place = 0 }

abbrev pub larger : Frame → Frame
larger f = record { left = f.left; size = f.size + 1; place = 0 }

abbrev pub later : Frame → Frame
later f = record { left = f.left; size = f.size; place = f.place + 1 }

pub record IsEnlarged (fs gs : List Frame) : Type 0 where
  pub front : List Frame
  pub last : Frame
  pub was : fs ≡ front ++ last ∷ []
  pub is : gs ≡ cond (nat_lt last.size last.left.degree) (front ++ larger last ∷ []) front

pub record IsEntered (fs : List Frame) (l : Left) (gs : List Frame) : Type 0 where
  pub front : List Frame
  pub last : Frame
  pub was : fs ≡ front ++ last ∷ []
  pub is : gs ≡ (front ++ later last ∷ []) ++ new_frame l ∷ []
