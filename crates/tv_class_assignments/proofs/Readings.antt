-- What is read of tables and results.
use Rattle.std.specs.Prelude.{◌≡◌, ℕ, ◌<◌, List, [], Result, Ok, Err, Option, MatchResult, IfOk, unwrap_or, slice_get}
use Rattle.std.specs.List.{AllByRecursion}
use Rattle.std.proofs.Common.{sym, ap, ◌∙◌, arith, get_or, take, drop, subst}
use Rattle.std.proofs.lemmas.List.{take-append-drop}
use Rattle.std.proofs.lemmas.Option.{unwrap_or-slice_get}
use Rattle.tv_lemmas.proofs.Members.{all-front, all-onto}
use Rattle.tv_spec_plane.specs.Web.{Web}
use Rattle.tv_spec_boxes.specs.Assignments.{Rows}
use Rattle.tv_class_assignments.specs.Walk.{IsOpen}
use Rattle.tv_class_assignments.specs.declared.frame.Frame.{Frame}

pub ok_part : {T E : Type 0} (r : Result T E) (P : T → Type 0) (Q : E → Type 0) → MatchResult r P Q → IfOk r P
ok_part (Ok x) P Q h = h
ok_part (Err e) P Q h = tt

pub read_rows : (xs : List Rows) (k : ℕ) (r : Option Rows) → r ≡ slice_get xs k → unwrap_or r [] ≡ get_or xs k []
read_rows xs k r is = ap (λ o. unwrap_or o []) is ∙ unwrap_or-slice_get xs k []

below_count : (w : Web) (count : ℕ) (f : Frame) → IsOpen w count f → f.size < count
below_count w count f known = let a = known.size in let b = known.listed in omega arith

pub listed_front : (w : Web) (count k : ℕ) (fs gs : List Frame) → gs ≡ fs → AllByRecursion (IsOpen w count) fs → AllByRecursion (λ f. f.size < count) (take k gs)
listed_front w count k fs gs same known =
    rw same (all-onto (IsOpen w count) (λ f. f.size < count) (below_count w count) (take k fs) (all-front (IsOpen w count) (take k fs) (drop k fs) (subst (AllByRecursion (IsOpen w count)) (sym (take-append-drop k fs)) known)))
