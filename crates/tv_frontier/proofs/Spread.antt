-- A choice spread over all edges: how many cells it has, and what it is at a corner.
use Rattle.std.specs.Prelude.{◌≡◌, Contains, ℕ, suc, ◌<◌, ◌≤◌, Bool, true, false, ℤ, pos, ◌-ℤ◌, ◌≤ℤ◌, List, [], ◌∷◌, map, filter, length, slice_index_or, unsigned_abs}
use Rattle.std.specs.List.{AllByRecursion}
use Rattle.std.proofs.Common.{refl, sym, ap, subst, ◌∙◌, arith, le_trans}
use Rattle.tv_lemmas.proofs.Members.{all-filter}
use Rattle.tv_spec_plane.specs.declared.records.CompactEdge.{CompactEdge}
use Rattle.tv_spec_plane.specs.Graded.{HasDegree, IsGraded}
use Rattle.tv_spec_plane.specs.Web.{Web, compact, corners, corner_of, degree_of}
use Rattle.tv_lattice.specs.Limits.{HasCoordinates}
use Rattle.tv_laws_edges.specs.Rule.{HasEdgeRule}
use Rattle.tv_cells.specs.declared.legs.Legs.{Legs}
use Rattle.tv_cells.specs.Costs.{overlap_cost}
use Rattle.tv_cells.specs.Extras.{empty_legs}
use Rattle.tv_spec_boxes.specs.Assignments.{Rows, Assignment, all_legs, no_legs, class_of, edge_costs}
use Rattle.tv_laws_counts.proofs.Degrees.{weights, weights_positive}
use Rattle.tv_laws_frontier.specs.Steps.{is_new, put, nothing, states, options, new_part, near_part, near_legs}
use Rattle.tv_laws_frontier.proofs.First.{nothing-long}
use Rattle.std.proofs.lemmas.List.{length-map}
use Rattle.tv_laws_frontier.proofs.StateClasses.{option-is}
use Rattle.tv_assignment.specs.Size.{cells_of}
use Rattle.tv_assignment.proofs.Listed.{cells-few}
use Rattle.tv_frontier.specs.Picks.{put_by}
use Rattle.tv_frontier.specs.Joining.{IsJoin}
use Rattle.tv_frontier.proofs.Classes.{class-small}

pub put-by-is : (p : CompactEdge → Bool) (es : List CompactEdge) (g a : Assignment) → put p es g a ≡ put_by (map p es) g a
put-by-is p [] g a = refl
put-by-is p (e ∷ es) [] a = refl
put-by-is p (e ∷ es) (x ∷ g) [] = refl
put-by-is p (e ∷ es) (x ∷ g) (d ∷ a) = rw (put-by-is p es g a, put-by-is p es (x ∷ g) a) refl

put-by-long : (fs : List Bool) (g a : Assignment) → length (put_by fs g a) ≡ length a
put-by-long [] g a = refl
put-by-long (f ∷ fs) [] a = refl
put-by-long (f ∷ fs) (x ∷ g) [] = refl
put-by-long (true ∷ fs) (x ∷ g) (d ∷ a) = ap suc (put-by-long fs g a)
put-by-long (false ∷ fs) (x ∷ g) (d ∷ a) = ap suc (put-by-long fs (x ∷ g) a)

cells-nothing : (es : List CompactEdge) → cells_of (nothing es) ≡ 0
cells-nothing [] = refl
cells-nothing (e ∷ es) = let rest = cells-nothing es in omega arith

pub nothing-few : (es : List CompactEdge) (a : Assignment) → a ≡ nothing es → cells_of a ≤ 24
nothing-few es a is = let none = cells-nothing es in rw is (omega arith)

cells-put : (fs : List Bool) (g : Assignment) (es : List CompactEdge) → cells_of (put_by fs g (nothing es)) ≤ cells_of g
cells-put [] g es = let none = cells-nothing es in omega arith
cells-put (f ∷ fs) [] es = let none = cells-nothing es in omega arith
cells-put (f ∷ fs) (x ∷ g) [] = omega arith
cells-put (true ∷ fs) (x ∷ g) (e ∷ es) = let rest = cells-put fs g es in omega arith
cells-put (false ∷ fs) (x ∷ g) (e ∷ es) = let rest = cells-put fs (x ∷ g) es in omega arith

pub spread-long : (w : Web) (fs : List Bool) (g a : Assignment) → a ≡ put_by fs g (nothing (compact w)) → length a ≡ length (compact w)
spread-long w fs g a is = ap length is ∙ (put-by-long fs g (nothing (compact w)) ∙ nothing-long (compact w))

pub spread-few : (w : Web) (fs : List Bool) (g a : Assignment) → a ≡ put_by fs g (nothing (compact w)) → cells_of g ≤ 24 → cells_of a ≤ 24
spread-few w fs g a is few = rw is (le_trans (cells-put fs g (compact w)) few)

pub option-few : (w : Web) (d t : ℕ) (g : List Rows) → IsGraded w → Contains (options w d t) g → cells_of g ≤ d
option-few w d t g graded new =
    let is = option-is w d t g new in
    le_trans (cells-few (weights w (filter (is_new t) (compact w))) g (weights_positive w (filter (is_new t) (compact w)) (all-filter (HasDegree w) (HasDegree w) (is_new t) (λ e has on. has) (compact w) graded)) is.one_each) is.within

module _ (w : Web) (d t : ℕ) (g : List Rows) (a : Assignment) (graded : IsGraded w) (degree : d ≤ 24) (new : Contains (options w d t) g) (part : a ≡ new_part w t g) where
  pub new-long : length a ≡ length (compact w)
  new-long = spread-long w (map (is_new t) (compact w)) g a (part ∙ put-by-is (is_new t) (compact w) g (nothing (compact w)))

  pub new-few : cells_of a ≤ 24
  new-few = spread-few w (map (is_new t) (compact w)) g a (part ∙ put-by-is (is_new t) (compact w) g (nothing (compact w))) (le_trans (option-few w d t g graded new) degree)

  pub new-small : AllByRecursion HasCoordinates w.points → HasEdgeRule w → (c : List ℤ) → c ≡ class_of w a → AllByRecursion (λ (x : ℤ). unsigned_abs x ≤ 10000) c
  new-small coordinates rule c is = class-small w d c a coordinates rule new-few (sym is)

pub corner-there : (w : Web) (t : ℕ) → t < length w.triangles → t < length (corners w)
corner-there w t h = let l = length-map w.triangles (corner_of w) in omega arith

pub corner-legs-at : (w : Web) (t : ℕ) (h g : List Rows) (a : Assignment) (l : Legs) → a ≡ near_part w t h g → l ≡ slice_index_or (all_legs w a (no_legs w)) t empty_legs → l ≡ near_legs w (no_legs w) t h g
corner-legs-at w t h g a l seen read = read ∙ ap (λ x. slice_index_or (all_legs w x (no_legs w)) t empty_legs) seen

module _ (w : Web) (d t : ℕ) (h g : List Rows) (a seen : Assignment) (l : Legs) (c v : List ℤ) (cost overlap k : ℤ) (part : a ≡ new_part w t g) (both : seen ≡ near_part w t h g) where
  pub is-join : IsGraded w → AllByRecursion HasCoordinates w.points → HasEdgeRule w → d ≤ 24 → Contains (states w d t) h → Contains (options w d t) g → l ≡ near_legs w (no_legs w) t h g → c ≡ class_of w a → v ≡ class_of w seen → degree_of w.heights v ≤ℤ pos d → cost ≡ edge_costs w a → overlap ≡ pos (overlap_cost l) → k ≡ cost -ℤ overlap → unsigned_abs k ≤ 10000000 → IsJoin w d t h g l c v k
  is-join graded coordinates rule degree first new legs class near within ec eo ek small =
      let seen_is : v ≡ class_of w (near_part w t h g) = near ∙ ap (class_of w) both in
      record {
        first = first;
        new = new;
        legs = legs;
        class = class ∙ ap (class_of w) part;
        entries = new-small w d t g a graded degree new part coordinates rule c class;
        near = seen_is;
        within = subst (λ (x : List ℤ). degree_of w.heights x ≤ℤ pos d) seen_is within;
        shift = ek ∙ rw (ec, eo, part, legs) refl;
        small = small;
      }
