-- The edge of two points, by the number of triangles that have them.
use Rattle.std.specs.Prelude.{◌≡◌, ℕ, List, [], ◌∷◌, ◌++◌}
use Rattle.std.proofs.Common.{refl, sym, ap, ◌∙◌}
use Rattle.tv_spec_plane.specs.declared.records.Triple.{Triple}
use Rattle.tv_spec_plane.specs.declared.records.CompactEdge.{CompactEdge}
use Rattle.tv_spec_plane.specs.declared.records.OuterEdge.{OuterEdge}
use Rattle.tv_spec_plane.specs.Web.{compact_by, outer_by}
use Rattle.tv_web.specs.declared.owners.Found.{Found}
use Rattle.tv_web.specs.Found.{web_on, owners_in, found_of}
use Rattle.tv_web.specs.Edges.{compact_of, outer_of, compact_pair, outer_pair, one}

compact_found : (ts : List Triple) (a b : ℕ) (owners : List ℕ) → one (compact_by (web_on ts) a b owners) ≡ compact_of ts a b (found_of owners)
compact_found ts a b [] = refl
compact_found ts a b (t ∷ []) = refl
compact_found ts a b (t ∷ u ∷ []) = refl
compact_found ts a b (t ∷ u ∷ v ∷ rest) = refl

outer_found : (a b : ℕ) (owners : List ℕ) → one (outer_by a b owners) ≡ outer_of a b (found_of owners)
outer_found a b [] = refl
outer_found a b (t ∷ []) = refl
outer_found a b (t ∷ u ∷ []) = refl
outer_found a b (t ∷ u ∷ v ∷ rest) = refl

pub compact_of-is : (ts : List Triple) (a b : ℕ) (f : Found) → f ≡ found_of (owners_in ts a b) → compact_of ts a b f ≡ compact_pair ts a b
unfolding compact_pair
compact_of-is ts a b f e = ap (compact_of ts a b) e ∙ sym (compact_found ts a b (owners_in ts a b))

pub outer_of-is : (ts : List Triple) (a b : ℕ) (f : Found) → f ≡ found_of (owners_in ts a b) → outer_of a b f ≡ outer_pair ts a b
unfolding outer_pair
outer_of-is ts a b f e = ap (outer_of a b) e ∙ sym (outer_found a b (owners_in ts a b))

pub pushes_compact : (ts : List Triple) (a b : ℕ) (f : Found) (old new : List CompactEdge) → f ≡ found_of (owners_in ts a b) → new ≡ old ++ compact_of ts a b f → new ≡ old ++ compact_pair ts a b
pushes_compact ts a b f old new e is = is ∙ ap (λ es. old ++ es) (compact_of-is ts a b f e)

pub pushes_outer : (ts : List Triple) (a b : ℕ) (f : Found) (old new : List OuterEdge) → f ≡ found_of (owners_in ts a b) → new ≡ old ++ outer_of a b f → new ≡ old ++ outer_pair ts a b
pushes_outer ts a b f old new e is = is ∙ ap (λ es. old ++ es) (outer_of-is ts a b f e)

pub ruleset pairs = (pushes_compact, pushes_outer)
