-- The degrees of the compact edges, one after another.
use Rattle.std.proofs.Common.{◌≡◌, ℕ, zero, suc, ◌+◌, ◌<◌, List, [], ◌∷◌, ◌++◌, map, length, take, get_or, refl, sym, ◌∙◌, ap, arith}
use Rattle.std.proofs.lemmas.List.{take_more, length-map}
use Rattle.tv_lemmas.specs.Naturals.{as_natural}
use Rattle.tv_spec_plane.specs.declared.records.CompactEdge.{CompactEdge}
use Rattle.tv_spec_plane.specs.Web.{Web, compact, edge_degree, no_edge}
use Rattle.tv_degrees.specs.Edges.{edge_at}
use Rattle.tv_assignment.specs.Listing.{degrees_of}

at-map : (f : CompactEdge → ℕ) (es : List CompactEdge) (k : ℕ) → k < length es → get_or (map f es) k 0 ≡ f (get_or es k no_edge)
at-map f [] k h = absurd (omega arith)
at-map f (e ∷ es) zero h = refl
at-map f (e ∷ es) (suc k) h = at-map f es k (omega arith)

pub degrees-next : (w : Web) (k x : ℕ) (now next : List ℕ) → k < length (compact w) → x ≡ as_natural (edge_degree w (edge_at w k)) → next ≡ now ++ x ∷ [] → now ≡ take k (degrees_of w) → next ≡ take (k + 1) (degrees_of w)
degrees-next w k x now next h is pushed before =
    let count : length (degrees_of w) ≡ length (compact w) = length-map (compact w) (λ e. as_natural (edge_degree w e)) in
    pushed
    ∙ (ap (λ xs. xs ++ x ∷ []) before
    ∙ (ap (λ y. take k (degrees_of w) ++ y ∷ []) (is ∙ sym (at-map (λ e. as_natural (edge_degree w e)) (compact w) k h))
    ∙ sym (take_more (degrees_of w) k 0 (omega arith))))
