-- The grades of edges, one edge after the other.
use Rattle.std.specs.Prelude.{◌≡◌, ℕ, ◌+◌, ◌<◌, ◌≤◌, ℤ, pos, ◌<ℤ◌, List, [], ◌∷◌, ◌++◌, map, length, take}
use Rattle.std.specs.List.{AllByRecursion}
use Rattle.std.proofs.Common.{sym, ap, subst, ◌∙◌, get_or}
use Rattle.std.proofs.lemmas.List.{take_more, take_all, map-append, get_or-map}
use Rattle.tv_lemmas.proofs.Members.{all-at}
use Rattle.tv_spec_plane.specs.declared.records.CompactEdge.{CompactEdge}
use Rattle.tv_spec_plane.specs.Web.{Web, compact, edge_class, edge_degree, no_edge}
use Rattle.tv_lattice.proofs.Each.{each_take_more}
use Rattle.tv_degrees.specs.declared.fault.DegreeFault.{DegreeFault}
use Rattle.tv_degrees.specs.declared.fault.DegreeFault.TheVariants.{Degree, Memory}
use Rattle.tv_degrees.specs.Edges.{edge_at}
use Rattle.tv_degrees.specs.Grades.{IsLow, IsDegreeFault, AreGrades, IsPushed}
use Rattle.tv_spec_plane.specs.Graded.{HasDegree}

pub grades_first : (w : Web) (es : List CompactEdge) (vs : List (List ℤ)) (zs : List ℤ) → vs ≡ [] → zs ≡ [] → AreGrades w (take 0 es) vs zs
grades_first w es vs zs e f = record { classes = e; degrees = f; graded = tt }

pub grades_next : (w : Web) (es : List CompactEdge) (k : ℕ) (vs us : List (List ℤ)) (zs ys : List ℤ) → k < length es → AreGrades w (take k es) vs zs → IsPushed w (get_or es k no_edge) vs zs us ys → AreGrades w (take (k + 1) es) us ys
grades_next w es k vs us zs ys h so_far pushed =
    let more = take_more es k no_edge h in
    record {
      classes = pushed.classes ∙ (ap (λ (xs : List (List ℤ)). xs ++ edge_class w (get_or es k no_edge) ∷ []) so_far.classes ∙ (sym (map-append (edge_class w) (take k es) (get_or es k no_edge ∷ [])) ∙ ap (map (edge_class w)) (sym more)));
      degrees = pushed.degrees ∙ (ap (λ (xs : List ℤ). xs ++ edge_degree w (get_or es k no_edge) ∷ []) so_far.degrees ∙ (sym (map-append (edge_degree w) (take k es) (get_or es k no_edge ∷ [])) ∙ ap (map (edge_degree w)) (sym more)));
      graded = each_take_more (HasDegree w) es k no_edge h so_far.graded pushed.positive;
    }

pub grades_last : (w : Web) (es : List CompactEdge) (k : ℕ) (vs : List (List ℤ)) (zs : List ℤ) → length es ≤ k → es ≡ compact w → AreGrades w (take k es) vs zs → AreGrades w (compact w) vs zs
grades_last w es k vs zs h same so_far = subst (λ (xs : List CompactEdge). AreGrades w xs vs zs) (take_all k es h ∙ same) so_far

low_fault : (w : Web) (k : ℕ) (f : DegreeFault) → k < length (compact w) → AllByRecursion (HasDegree w) (take k (compact w)) → IsLow w (edge_at w k) f → IsDegreeFault w f
low_fault w k (Degree a b z) listed before low = (k, record { listed = listed; before = before; first = low.0; second = low.1; degree = low.2; low = low.3 })
low_fault w k Memory listed before low = tt

pub grades_fault : (w : Web) (es : List CompactEdge) (k : ℕ) (vs : List (List ℤ)) (zs : List ℤ) (f : DegreeFault) → k < length es → es ≡ compact w → AreGrades w (take k es) vs zs → IsLow w (get_or es k no_edge) f → IsDegreeFault w f
grades_fault w es k vs zs f h same so_far low = low_fault w k f (subst (λ (xs : List CompactEdge). k < length xs) same h) (subst (λ (xs : List CompactEdge). AllByRecursion (HasDegree w) (take k xs)) same so_far.graded) (subst (λ (xs : List CompactEdge). IsLow w (get_or xs k no_edge) f) same low)

-- the grades of one edge
pub degree-at : (w : Web) (vs : List (List ℤ)) (zs : List ℤ) (k : ℕ) (d : ℤ) → k < length (compact w) → AreGrades w (compact w) vs zs → get_or zs k d ≡ edge_degree w (edge_at w k)
degree-at w vs zs k d h grades = ap (λ (xs : List ℤ). get_or xs k d) grades.degrees ∙ get_or-map (edge_degree w) (compact w) k no_edge d h

pub degree-positive : (w : Web) (vs : List (List ℤ)) (zs : List ℤ) (k : ℕ) (z d : ℤ) → k < length (compact w) → AreGrades w (compact w) vs zs → z ≡ get_or zs k d → pos 0 <ℤ z
degree-positive w vs zs k z d h grades e = subst (λ (y : ℤ). pos 0 <ℤ y) (sym (e ∙ degree-at w vs zs k d h grades)) (all-at (HasDegree w) (compact w) no_edge grades.graded k h)
