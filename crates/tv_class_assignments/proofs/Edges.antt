-- What is to come on one edge, diagram by diagram and size by size.
use Rattle.std.specs.Prelude.{◌≡◌, ℕ, zero, suc, ◌+◌, ◌-◌, ◌*◌, ◌<◌, ◌≤◌, Bool, true, false, cond, nat_le, List, [], ◌∷◌, ◌++◌, map, length, drop, slice_index_or}
use Rattle.std.specs.List.{flat_map, range_with_len}
use Rattle.std.proofs.Common.{refl, sym, ap, ◌∙◌, arith, append_assoc, add-one}
use Rattle.std.proofs.Math.Seq.{drop-cons}
use Rattle.std.proofs.lemmas.Nat.{mul-le}
use Rattle.std.proofs.lemmas.Bool.Decides.{nat_tests}
use Rattle.tv_lemmas.specs.Naturals.{as_natural}
use Rattle.tv_spec_plane.specs.declared.records.CompactEdge.{CompactEdge}
use Rattle.tv_spec_plane.specs.Web.{Web, edge_degree}
use Rattle.tv_partition.specs.Rows.{diagrams}
use Rattle.tv_spec_boxes.specs.Assignments.{Rows, Assignment}
use Rattle.tv_class_assignments.specs.Remaining.{Left}
use Rattle.tv_class_assignments.specs.Walk.{with_left, with_diagrams, beside_on, from}
use Rattle.tv_class_assignments.proofs.Lefts.{with_left-edge}

-- all of an edge
pub from-first : (w : Web) (e : CompactEdge) (es : List CompactEdge) (l : Left) → length l.class ≤ length w.points → from w e es l 0 0 ≡ with_left w (e ∷ es) l
unfolding from
from-first w e es l asked =
    let whole : l.degree - 0 ≡ l.degree = omega arith in
    sym (with_left-edge w e es l asked ∙ (rw whole refl))

-- ---- too many cells

range-none : {A : Type 0} (f : ℕ → List A) (k n : ℕ) → ((j : ℕ) → k ≤ j → f j ≡ []) → flat_map f (range_with_len k n) ≡ []
range-none f k zero none = refl
range-none f k (suc n) none = ap (λ xs. xs ++ flat_map f (range_with_len (k + 1) n)) (none k (omega arith)) ∙ range-none f (k + 1) n (λ j h. none j (omega arith))

with_diagrams-many : (w : Web) (e : CompactEdge) (es : List CompactEdge) (l : Left) (n : ℕ) (ds : List Rows) → nat_le (n * as_natural (edge_degree w e)) l.degree ≡ false → with_diagrams w e es l n ds ≡ []
unfolding with_diagrams
with_diagrams-many w e es l n ds many = rw many refl

more-many : (g d n m : ℕ) → n ≤ m → nat_le (n * g) d ≡ false → nat_le (m * g) d ≡ false
more-many g d n m h many = let more : n * g ≤ m * g = mul-le n g m g h (omega arith) in grind (arith, nat_tests)

pub from-many : (w : Web) (e : CompactEdge) (es : List CompactEdge) (l : Left) (n k : ℕ) → nat_le (n * as_natural (edge_degree w e)) l.degree ≡ false → from w e es l n k ≡ []
unfolding from
from-many w e es l n k many =
    ap (λ xs. xs ++ flat_map (λ m. with_diagrams w e es l m (diagrams m)) (range_with_len (suc n) (l.degree - n))) (with_diagrams-many w e es l n (drop k (diagrams n)) many)
    ∙ range-none (λ m. with_diagrams w e es l m (diagrams m)) (suc n) (l.degree - n) (λ m h. with_diagrams-many w e es l m (diagrams m) (more-many (as_natural (edge_degree w e)) l.degree n m (omega arith) many))

-- ---- the next diagram

with_diagrams-next : (w : Web) (e : CompactEdge) (es : List CompactEdge) (l : Left) (n : ℕ) (rows : Rows) (ds : List Rows) → nat_le (n * as_natural (edge_degree w e)) l.degree ≡ true → with_diagrams w e es l n (rows ∷ ds) ≡ map (λ a. rows ∷ a) (with_left w es (beside_on w e n l)) ++ with_diagrams w e es l n ds
unfolding with_diagrams
with_diagrams-next w e es l n rows ds fits = rw fits refl

pub from-next : (w : Web) (e : CompactEdge) (es : List CompactEdge) (l : Left) (n k : ℕ) → nat_le (n * as_natural (edge_degree w e)) l.degree ≡ true → k < length (diagrams n) → from w e es l n k ≡ map (λ a. slice_index_or (diagrams n) k [] ∷ a) (with_left w es (beside_on w e n l)) ++ from w e es l n (k + 1)
unfolding from
from-next w e es l n k fits h =
    let f : ℕ → List Assignment = λ m. with_diagrams w e es l m (diagrams m) in
    let rows : Rows = slice_index_or (diagrams n) k [] in
    let here : List Assignment = map (λ a. rows ∷ a) (with_left w es (beside_on w e n l)) in
    let up : k + 1 ≡ suc k = omega arith in
    ap (λ ds. with_diagrams w e es l n ds ++ flat_map f (range_with_len (suc n) (l.degree - n))) (drop-cons (diagrams n) k [] h)
    ∙ (ap (λ xs. xs ++ flat_map f (range_with_len (suc n) (l.degree - n))) (with_diagrams-next w e es l n rows (drop (suc k) (diagrams n)) fits)
    ∙ (append_assoc here (with_diagrams w e es l n (drop (suc k) (diagrams n))) (flat_map f (range_with_len (suc n) (l.degree - n)))
    ∙ ap (λ j. here ++ (with_diagrams w e es l n (drop j (diagrams n)) ++ flat_map f (range_with_len (suc n) (l.degree - n)))) (sym up)))

-- ---- the next size

cond-none : {A : Type 0} (b : Bool) (xs : List A) → xs ≡ [] → cond b xs [] ≡ []
cond-none true xs e = e
cond-none false xs e = refl

pub with_diagrams-past : (w : Web) (e : CompactEdge) (es : List CompactEdge) (l : Left) (n : ℕ) → with_diagrams w e es l n [] ≡ []
unfolding with_diagrams
with_diagrams-past w e es l n = let none : List Assignment = [] in cond-none (nat_le (n * as_natural (edge_degree w e)) l.degree) none refl

-- nothing comes with a diagram of a size where nothing is left behind it
none-behind : (ds : List Rows) (lists : List Assignment) → lists ≡ [] → flat_map (λ rows. map (λ a. rows ∷ a) lists) ds ≡ []
none-behind [] lists none = refl
none-behind (rows ∷ ds) lists none = ap (λ xs. map (λ a. rows ∷ a) xs ++ flat_map (λ rows. map (λ a. rows ∷ a) lists) ds) none ∙ none-behind ds lists none

pub with_diagrams-none : (w : Web) (e : CompactEdge) (es : List CompactEdge) (l : Left) (n : ℕ) (ds : List Rows) → with_left w es (beside_on w e n l) ≡ [] → with_diagrams w e es l n ds ≡ []
unfolding with_diagrams
with_diagrams-none w e es l n ds none = cond-none (nat_le (n * as_natural (edge_degree w e)) l.degree) (flat_map (λ rows. map (λ a. rows ∷ a) (with_left w es (beside_on w e n l))) ds) (none-behind ds (with_left w es (beside_on w e n l)) none)

pub from-larger : (w : Web) (e : CompactEdge) (es : List CompactEdge) (l : Left) (n k : ℕ) → with_diagrams w e es l n (drop k (diagrams n)) ≡ [] → n < l.degree → from w e es l n k ≡ from w e es l (suc n) 0
unfolding from
from-larger w e es l n k none h =
    let f : ℕ → List Assignment = λ m. with_diagrams w e es l m (diagrams m) in
    let count : l.degree - n ≡ suc (l.degree - suc n) = omega arith in
    ap (λ xs. xs ++ flat_map f (range_with_len (suc n) (l.degree - n))) none
    ∙ (ap (λ m. flat_map f (range_with_len (suc n) m)) count
    ∙ ap (λ m. f (suc n) ++ flat_map f (range_with_len m (l.degree - suc n))) (add-one (suc n)))

pub from-last : (w : Web) (e : CompactEdge) (es : List CompactEdge) (l : Left) (n k : ℕ) → with_diagrams w e es l n (drop k (diagrams n)) ≡ [] → l.degree ≤ n → from w e es l n k ≡ []
unfolding from
from-last w e es l n k none h =
    let f : ℕ → List Assignment = λ m. with_diagrams w e es l m (diagrams m) in
    let count : l.degree - n ≡ 0 = omega arith in
    ap (λ xs. xs ++ flat_map f (range_with_len (suc n) (l.degree - n))) none ∙ ap (λ m. flat_map f (range_with_len (suc n) m)) count
