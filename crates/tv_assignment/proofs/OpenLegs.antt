-- The legs of the corners where no open edge has any.
use Rattle.std.proofs.Common.{◌≡◌, ℕ, zero, suc, ◌+◌, ◌<◌, List, [], ◌∷◌, ◌++◌, map, length, take, get_or, refl, sym, ◌∙◌, ap}
use Rattle.std.proofs.lemmas.List.{take_more, map-append, get_or-map}
use Rattle.tv_spec_plane.specs.declared.records.OuterEdge.{OuterEdge}
use Rattle.tv_spec_plane.specs.declared.records.EdgeRef.{EdgeRef}
use Rattle.tv_spec_plane.specs.declared.records.EdgeRef.TheVariants.{Compact, Outer}
use Rattle.tv_spec_plane.specs.declared.records.Corner.{Corner}
use Rattle.tv_spec_plane.specs.Web.{Web, outer, corners}
use Rattle.tv_cells.specs.declared.legs.Legs.{Legs}
use Rattle.tv_spec_boxes.specs.Assignments.{Rows, Assignment, legs_of, all_legs, rows_at, no_legs}

empty : OuterEdge → Rows
empty e = []

none-at : (es : List OuterEdge) (k : ℕ) → get_or (map empty es) k [] ≡ []
unfolding empty
none-at [] k = refl
none-at (e ∷ es) zero = refl
none-at (e ∷ es) (suc k) = none-at es k

rows-open : (w : Web) (a : Assignment) (e : EdgeRef) → rows_at a [] e ≡ rows_at a (no_legs w) e
unfolding empty
rows-open w a (Compact k) = refl
rows-open w a (Outer k) = sym (none-at (outer w) k)

pub legs-open : (w : Web) (a : Assignment) (c : Corner) → legs_of a [] c ≡ legs_of a (no_legs w) c
legs-open w a c = let x = rows-open w a c.along_x in let y = rows-open w a c.along_y in let z = rows-open w a c.along_z in cc

pub legs-next : (w : Web) (a : Assignment) (k : ℕ) (d : Corner) (cs : List Corner) (legs : Legs) (now next : List Legs) → k < length cs → cs ≡ corners w → legs ≡ legs_of a [] (get_or cs k d) → next ≡ now ++ legs ∷ [] → now ≡ map (legs_of a (no_legs w)) (take k (corners w)) → next ≡ map (legs_of a (no_legs w)) (take (k + 1) (corners w))
legs-next w a k d cs legs now next h here is pushed before =
    let f : Corner → Legs = legs_of a (no_legs w) in
    pushed
    ∙ (ap (λ xs. xs ++ legs ∷ []) (before ∙ ap (λ ds. map f (take k ds)) (sym here))
    ∙ (ap (λ l. map f (take k cs) ++ l ∷ []) (is ∙ legs-open w a (get_or cs k d))
    ∙ (sym (ap (map f) (take_more cs k d h) ∙ map-append f (take k cs) (get_or cs k d ∷ []))
    ∙ ap (λ ds. map f (take (k + 1) ds)) here)))

pub legs-there : (w : Web) (a : Assignment) (k : ℕ) (d : Corner) (cs : List Corner) (none legs : Legs) → k < length cs → cs ≡ corners w → legs ≡ legs_of a [] (get_or cs k d) → legs ≡ get_or (all_legs w a (no_legs w)) k none
legs-there w a k d cs none legs h here is =
    is ∙ (legs-open w a (get_or cs k d) ∙ (sym (get_or-map (legs_of a (no_legs w)) cs k d none h) ∙ ap (λ ds. get_or (map (legs_of a (no_legs w)) ds) k none) here))
