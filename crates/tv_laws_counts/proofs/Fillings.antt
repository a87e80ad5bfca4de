-- Fillings are counted by the convolution of the counts of the corners, and so are the configurations with one
-- assignment.
use Rattle.std.specs.Prelude.{◌≡◌, ℕ, suc, ◌+◌, ◌-◌, ◌*◌, ◌≤◌, Bool, true, false, cond, nat_eq, ℤ, pos, negsuc, List, [], ◌∷◌, map, length}
use Rattle.std.specs.List.{flat_map, AllByRecursion}
use Rattle.std.proofs.Common.{refl, ap, ◌∙◌, arith}
use Rattle.std.proofs.lemmas.List.{length-map}
use Rattle.tv_ring.proofs.Sums.{total_below-same}
use Rattle.tv_spec_plane.specs.declared.records.EdgeRef.{EdgeRef}
use Rattle.tv_spec_plane.specs.declared.records.EdgeRef.TheVariants.{Compact, Outer}
use Rattle.tv_spec_plane.specs.declared.records.Corner.{Corner}
use Rattle.tv_spec_plane.specs.Web.{Web, corners}
use Rattle.tv_partition.specs.Rows.{IsDiagram}
use Rattle.tv_cells.specs.declared.cell.Cell.{Cell}
use Rattle.tv_cells.specs.declared.legs.Legs.{Legs}
use Rattle.tv_cells.specs.Extras.{AreDiagrams, count}
use Rattle.tv_laws_counts.proofs.Larger.{larger_count}
use Rattle.tv_spec_boxes.specs.Assignments.{Rows, Assignment, rows_at, legs_of, all_legs}
use Rattle.tv_spec_boxes.specs.Configurations.{extras_of, fillings, fillings_of, boxes_left, configuration}
use Rattle.tv_laws_counts.specs.Ways.{split, convolved, ways, corner_ways, ways_at}
use Rattle.tv_laws_counts.specs.Laws.{FillingsCounted, ConfigurationsCounted}
use Rattle.tv_lemmas.proofs.Lists.{length-pairs}
use Rattle.tv_lemmas.proofs.Members.{all-map, all-any, all-everywhere}
use Rattle.tv_laws_counts.proofs.Lists.{length-numbered}

-- the fillings with i boxes at the first corner
abbrev pub with_first : Legs → List Legs → ℕ → ℕ → ℕ → List (List (List Cell))
with_first legs rest side n i = flat_map (λ cells. map (λ others. cells ∷ others) (fillings rest side (n - i))) (extras_of legs side i)

with_first-counted : (legs : Legs) (rest : List Legs) (side n i : ℕ) → AreDiagrams legs → i ≤ side → length (fillings rest side (n - i)) ≡ corner_ways rest (n - i) → length (with_first legs rest side n i) ≡ split (count legs) (corner_ways rest) n i
unfolding split
with_first-counted legs rest side n i is h e =
    length-pairs (λ cells others. cells ∷ others) (fillings rest side (n - i)) (extras_of legs side i)
    ∙ (ap (λ k. k * length (fillings rest side (n - i))) (larger_count legs i side is h) ∙ ap (λ k. count legs i * k) e)

length-cond : {A : Type 0} (b : Bool) (x : A) → length (cond b (x ∷ []) []) ≡ cond b 1 0
length-cond true x = refl
length-cond false x = refl

pub fillings_counted : FillingsCounted
unfolding fillings ways convolved
fillings_counted [] side n all h = length-cond (nat_eq n 0) []
fillings_counted (legs ∷ rest) side n all h =
    length-numbered (with_first legs rest side n) 0 (suc n)
    ∙ total_below-same (λ i. length (with_first legs rest side n (0 + i))) (split (count legs) (corner_ways rest) n) (suc n)
    (λ i k. ap (λ j. length (with_first legs rest side n j)) (omega arith) ∙ with_first-counted legs rest side n i all.0 (omega arith) (fillings_counted rest side (n - i) all.1 (omega arith)))

-- the legs of an assignment of diagrams
row_is : (a : Assignment) (fixed : List Rows) → AllByRecursion IsDiagram a → AllByRecursion IsDiagram fixed → (e : EdgeRef) → IsDiagram (rows_at a fixed e)
row_is a fixed all also (Compact k) = all-everywhere IsDiagram a [] tt all k
row_is a fixed all also (Outer k) = all-everywhere IsDiagram fixed [] tt also k

pub legs_are : (w : Web) (a : Assignment) (fixed : List Rows) → AllByRecursion IsDiagram a → AllByRecursion IsDiagram fixed → AllByRecursion AreDiagrams (all_legs w a fixed)
legs_are w a fixed all also =
    all-map (λ (c : Corner). AreDiagrams (legs_of a fixed c)) AreDiagrams (legs_of a fixed) (λ c is. is) (corners w)
    (all-any (λ (c : Corner). AreDiagrams (legs_of a fixed c)) (λ c. record { along_x = row_is a fixed all also c.along_x; along_y = row_is a fixed all also c.along_y; along_z = row_is a fixed all also c.along_z }) (corners w))

pub fillings_of_counted : (legs : List Legs) (z : ℤ) → AllByRecursion AreDiagrams legs → length (fillings_of legs z) ≡ ways_at legs z
fillings_of_counted legs (pos n) all = fillings_counted legs n n all (omega arith)
fillings_of_counted legs (negsuc n) all = refl

pub configurations_counted : ConfigurationsCounted
configurations_counted w fixed a n also all =
    length-map (fillings_of (all_legs w a fixed) (boxes_left w fixed a n)) (configuration a)
    ∙ fillings_of_counted (all_legs w a fixed) (boxes_left w fixed a n) (legs_are w a fixed all also)
