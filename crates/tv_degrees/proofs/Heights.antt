-- Heights change no class, no edge, no corner and no rule of an edge.
use Rattle.std.specs.Prelude.{◌≡◌, ℤ, List, [], ◌∷◌}
use Rattle.std.specs.List.{AllByRecursion}
use Rattle.std.proofs.Common.{refl, sym, ap, subst}
use Rattle.tv_spec_plane.specs.declared.records.CompactEdge.{CompactEdge}
use Rattle.tv_spec_plane.specs.Web.{Web, compact, outer, corners, edge_ref, edge_ratio, edge_class, edge_degree, degree_of}
use Rattle.tv_laws_edges.specs.Rule.{HasRule, HasEdgeRule}
use Rattle.tv_degrees.specs.Edges.{with_heights}

pub edge_class-heights : (w : Web) (hs : List ℤ) (e : CompactEdge) → edge_class (with_heights w hs) e ≡ edge_class w e
unfolding edge_ratio
edge_class-heights w hs e = refl

pub edge_ratio-heights : (w : Web) (hs : List ℤ) (e : CompactEdge) → edge_ratio (with_heights w hs) e ≡ edge_ratio w e
unfolding edge_ratio
edge_ratio-heights w hs e = refl

pub compact-heights : (w : Web) (hs : List ℤ) → compact (with_heights w hs) ≡ compact w
unfolding compact
compact-heights w hs = refl

pub outer-heights : (w : Web) (hs : List ℤ) → outer (with_heights w hs) ≡ outer w
unfolding outer
outer-heights w hs = refl

pub corners-heights : (w : Web) (hs : List ℤ) → corners (with_heights w hs) ≡ corners w
unfolding edge_ref compact outer
corners-heights w hs = refl

pub edge_degree-heights : (w : Web) (hs : List ℤ) (e : CompactEdge) → degree_of hs (edge_class w e) ≡ edge_degree (with_heights w hs) e
edge_degree-heights w hs e = ap (degree_of hs) (sym (edge_class-heights w hs e))

rules-heights : (w : Web) (hs : List ℤ) (es : List CompactEdge) → AllByRecursion (HasRule w) es → AllByRecursion (HasRule (with_heights w hs)) es
rules-heights w hs [] rules = tt
rules-heights w hs (e ∷ es) rules = (record { a = rules.0.a; b = rules.0.b; c = rules.0.c; d = rules.0.d; sides = rules.0.sides }, rules-heights w hs es rules.1)

pub HasEdgeRule-heights : (w : Web) (hs : List ℤ) → HasEdgeRule w → HasEdgeRule (with_heights w hs)
HasEdgeRule-heights w hs rules = subst (AllByRecursion (HasRule (with_heights w hs))) (sym (compact-heights w hs)) (rules-heights w hs (compact w) rules)
