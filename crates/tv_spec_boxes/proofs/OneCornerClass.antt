-- A web of one triangle has the class zero alone.
use Rattle.std.proofs.Common.{◌≡◌, Contains, ℕ, zero, suc, ℤ, List, [], ◌∷◌, refl, ap, sym, ◌∙◌, arith}
use Rattle.tv_spec_plane.specs.Web.{Web}
use Rattle.tv_spec_boxes.specs.Assignments.{class_of, zeros}
use Rattle.tv_spec_boxes.specs.Classes.{IsClass, AreClasses}
use Rattle.tv_spec_boxes.proofs.OneCorner.{IsOneCorner}
use Rattle.tv_spec_boxes.proofs.OneCornerWeb.{IsBare, one_corner_bare}
use Rattle.tv_spec_boxes.proofs.OneCornerCount.{only_assignment}

class_zero : (w : Web) → IsBare w → class_of w [] ≡ zeros 3
class_zero w h = rw (h.edges, h.points) refl

member : {A : Type 0} (x y : A) → Contains (x ∷ []) y → x ≡ y
member x y (zero, p, e) = e
member x y (suc k, p, e) = absurd (omega arith)

is_class : (w : Web) → IsBare w → (d : ℕ) → IsClass w d (zeros 3)
is_class w h d = record { witness = []; listed = let e = only_assignment w h d in rw e (0, omega arith, refl); same = class_zero w h }

only_class : (w : Web) → IsBare w → (d : ℕ) (v : List ℤ) → IsClass w d v → Contains (zeros 3 ∷ []) v
only_class w h d v c = let among = c.listed in let e = only_assignment w h d in
    let none : [] ≡ c.witness = member [] c.witness (rw e at among) in
    let here : class_of w [] ≡ v = ap (class_of w) none ∙ c.same in
    (0, omega arith, sym (class_zero w h) ∙ here)

pub one_corner_classes : (w : Web) → IsOneCorner w → (d : ℕ) → AreClasses w d (zeros 3 ∷ [])
one_corner_classes w one d = let h = one_corner_bare w one in record { rises = tt; each = (is_class w h d, tt); whole = only_class w h d }
