-- The assignments of what is left: by the diagrams on the first edge, none where a point can't be spent any more, and the
-- empty one behind the last edge; those of a class, and all to a degree.
use Rattle.std.specs.Prelude.{◌≡◌, ◌≢◌, ℕ, zero, suc, ◌-◌, ◌*◌, ◌≤◌, ℤ, pos, ◌+ℤ◌, ◌-ℤ◌, ◌*ℤ◌, Bool, true, false, cond, ◌&&◌, nat_le, List, [], ◌∷◌, map, filter, length, take, slice_index_or}
use Rattle.std.specs.Ordering.{int_eq}
use Rattle.std.specs.List.{flat_map, AllByRecursion}
use Rattle.std.proofs.Common.{refl, sym, ap, ◌∙◌, arith, take_all}
use Rattle.std.proofs.lemmas.Int.{ints}
use Rattle.std.proofs.lemmas.Bool.Decides.{Decides-int_eq}
use Rattle.std.proofs.lemmas.List.{length-map}
use Rattle.tv_lemmas.specs.Naturals.{as_natural, below}
use Rattle.tv_lemmas.proofs.Lists.{flat_map-same, flat_map-same_on, flat_map-filter, filter-flat_map, filter-map, filter-none, filter-same_on}
use Rattle.tv_lemmas.proofs.Members.{all-any}
use Rattle.tv_spec_plane.specs.declared.records.CompactEdge.{CompactEdge}
use Rattle.tv_spec_plane.specs.Web.{Web, compact, edge_class, edge_degree, degree_of}
use Rattle.tv_partition.specs.Rows.{diagrams, size}
use Rattle.tv_spec_boxes.specs.Assignments.{Rows, Assignment, choices, class_on, plus, times, zeros, sum_on, same_vector, assignments, assignments_of}
use Rattle.tv_spec_boxes.proofs.Vectors.{length-zeros, length-plus, same_vector_tells, at-class_on, part_by}
use Rattle.tv_degrees.proofs.Entries.{length-edge_class}
use Rattle.tv_laws_counts.proofs.Choices.{HasSize, diagrams_are}
use Rattle.tv_class_assignments.specs.Remaining.{Left, less, spends}
use Rattle.tv_class_assignments.specs.Walk.{with_left, with_diagrams, beside_on}
use Rattle.tv_lemmas.proofs.Tests.{never}

both_ways : (p q : Bool) → (p ≡ true → q ≡ true) → (q ≡ true → p ≡ true) → p ≡ q
both_ways true true h k = refl
both_ways true false h k = sym (h refl)
both_ways false true h k = k refl
both_ways false false h k = refl

filter-all : {A : Type 0} (p : A → Bool) → ((x : A) → p x ≡ true) → (xs : List A) → filter p xs ≡ xs
filter-all p all [] = refl
filter-all p all (x ∷ xs) = rw (all x) (ap (λ ys. x ∷ ys) (filter-all p all xs))

filter-same : {A : Type 0} (p q : A → Bool) → ((x : A) → p x ≡ q x) → (xs : List A) → filter p xs ≡ filter q xs
filter-same p q same xs = filter-same_on (λ x. Unit {0}) p q (λ x one. same x) xs (all-any (λ x. Unit {0}) (λ x. tt) xs)

-- ---- the first edge

length-class_on : (w : Web) (es : List CompactEdge) (a : Assignment) → length (class_on w es a) ≡ length w.points
length-class_on w [] a = length-zeros (length w.points)
length-class_on w (e ∷ es) [] = length-zeros (length w.points)
length-class_on w (e ∷ es) (rows ∷ a) =
    let first = length-map (edge_class w e) (λ x. pos (size rows) *ℤ x) in
    let entries = length-edge_class w e in
    let rest = length-class_on w es a in
    length-plus (times (size rows) (edge_class w e)) (class_on w es a) (omega arith) ∙ rest

int_eq-moves : (a b y : ℤ) → int_eq (a +ℤ b) y ≡ int_eq b (y -ℤ a)
int_eq-moves a b y =
    both_ways (int_eq (a +ℤ b) y) (int_eq b (y -ℤ a))
    (λ h. let e = (Decides-int_eq (a +ℤ b) y).0 h in (Decides-int_eq b (y -ℤ a)).1 (omega (arith, ints)))
    (λ h. let e = (Decides-int_eq b (y -ℤ a)).0 h in (Decides-int_eq (a +ℤ b) y).1 (omega (arith, ints)))

less-tells : (n : ℕ) (v x u : List ℤ) → length u ≤ length v → length u ≤ length x → same_vector (take (length u) (plus (times n v) x)) u ≡ same_vector (take (length (less n v u)) x) (less n v u)
less-tells n [] x [] e f = refl
less-tells n (z ∷ v) x [] e f = refl
less-tells n [] x (y ∷ u) e f = absurd (omega arith)
less-tells n (z ∷ v) [] (y ∷ u) e f = absurd (omega arith)
less-tells n (z ∷ v) (a ∷ x) (y ∷ u) e f =
    ap (λ b. b && same_vector (take (length u) (plus (times n v) x)) u) (int_eq-moves (pos n *ℤ z) a y)
    ∙ ap (λ b. int_eq a (y -ℤ (pos n *ℤ z)) && b) (less-tells n v x u (omega arith) (omega arith))

behind-tells : (w : Web) (e : CompactEdge) (es : List CompactEdge) (n : ℕ) (l : Left) (rows : Rows) (a : Assignment) → length l.class ≤ length w.points → size rows ≡ n → spends l (class_on w (e ∷ es) (rows ∷ a)) ≡ spends (beside_on w e n l) (class_on w es a)
behind-tells w e es n l rows a asked is =
    let here = length-edge_class w e in
    let rest = length-class_on w es a in
    ap (λ m. spends l (plus (times m (edge_class w e)) (class_on w es a))) is
    ∙ less-tells n (edge_class w e) (class_on w es a) l.class (omega arith) (omega arith)

filter-cond : {A : Type 0} (p : A → Bool) (b : Bool) (xs ys : List A) → filter p xs ≡ ys → filter p (cond b xs []) ≡ cond b ys []
filter-cond p true xs ys e = e
filter-cond p false xs ys e = refl

-- with diagrams of n cells on the first edge
pub with_left-size : (w : Web) (e : CompactEdge) (es : List CompactEdge) (l : Left) (n : ℕ) → length l.class ≤ length w.points
    → filter (λ a. spends l (class_on w (e ∷ es) a)) (cond (nat_le (n * as_natural (edge_degree w e)) l.degree) (flat_map (λ rows. map (λ a. rows ∷ a) (choices (map (λ e. as_natural (edge_degree w e)) es) (l.degree - (n * as_natural (edge_degree w e))))) (diagrams n)) [])
    ≡ with_diagrams w e es l n (diagrams n)
unfolding with_left with_diagrams
with_left-size w e es l n asked =
    let cs : List Assignment = choices (map (λ e. as_natural (edge_degree w e)) es) (l.degree - (n * as_natural (edge_degree w e))) in
    let p : Assignment → Bool = λ a. spends l (class_on w (e ∷ es) a) in
    let q : Assignment → Bool = λ a. spends (beside_on w e n l) (class_on w es a) in
    filter-cond p (nat_le (n * as_natural (edge_degree w e)) l.degree) (flat_map (λ rows. map (λ a. rows ∷ a) cs) (diagrams n)) (flat_map (λ rows. map (λ a. rows ∷ a) (filter q cs)) (diagrams n))
    (filter-flat_map p (λ rows. map (λ a. rows ∷ a) cs) (diagrams n)
    ∙ flat_map-same_on (HasSize n) (λ rows. filter p (map (λ a. rows ∷ a) cs)) (λ rows. map (λ a. rows ∷ a) (filter q cs))
    (λ rows is. filter-map p q (λ a. rows ∷ a) (λ a. behind-tells w e es n l rows a asked is.1) cs)
    (diagrams n) (diagrams_are n))

pub with_left-edge : (w : Web) (e : CompactEdge) (es : List CompactEdge) (l : Left) → length l.class ≤ length w.points → with_left w (e ∷ es) l ≡ flat_map (λ n. with_diagrams w e es l n (diagrams n)) (below (suc l.degree))
unfolding with_left choices
with_left-edge w e es l asked =
    let g : ℕ = as_natural (edge_degree w e) in
    let p : Assignment → Bool = λ a. spends l (class_on w (e ∷ es) a) in
    let f : ℕ → List Assignment = λ n. flat_map (λ rows. map (λ a. rows ∷ a) (choices (map (λ e. as_natural (edge_degree w e)) es) (l.degree - (n * g)))) (diagrams n) in
    ap (filter p) (flat_map-filter (λ n. nat_le (n * g) l.degree) f (below (suc l.degree)))
    ∙ (filter-flat_map p (λ n. cond (nat_le (n * g) l.degree) (f n) []) (below (suc l.degree))
    ∙ flat_map-same (λ n. filter p (cond (nat_le (n * g) l.degree) (f n) [])) (λ n. with_diagrams w e es l n (diagrams n)) (λ n. with_left-size w e es l n asked) (below (suc l.degree)))

-- ---- behind the last edge

take-zeros : (k n : ℕ) → k ≤ n → take k (zeros n) ≡ zeros k
take-zeros zero n h = refl
take-zeros (suc k) zero h = absurd (omega arith)
take-zeros (suc k) (suc n) h = ap (λ v. pos 0 ∷ v) (take-zeros k n (omega arith))

pub with_left-last : (w : Web) (l : Left) → length l.class ≤ length w.points → with_left w [] l ≡ cond (same_vector (zeros (length l.class)) l.class) ([] ∷ []) []
unfolding with_left choices
with_left-last w l asked = ap (λ v. cond (same_vector v l.class) ([] ∷ []) []) (take-zeros (length l.class) (length w.points) asked)

-- ---- at the start

-- a class is asked for
pub with_left-class : (w : Web) (v : List ℤ) (l : Left) → length v ≡ length w.points → l.class ≡ v → l.degree ≡ as_natural (degree_of w.heights v) → with_left w (compact w) l ≡ assignments_of w v
unfolding with_left assignments
with_left-class w v l one class degree =
    let es : List CompactEdge = compact w in
    let gs : List ℕ = map (λ e. as_natural (edge_degree w e)) es in
    filter-same (λ a. spends l (class_on w es a)) (λ a. same_vector (class_on w es a) v)
    (λ a. ap (λ u. same_vector (take (length u) (class_on w es a)) u) class
    ∙ ap (λ x. same_vector x v) (take_all (length v) (class_on w es a) (let n = length-class_on w es a in omega arith)))
    (choices gs l.degree)
    ∙ ap (λ d. filter (λ a. same_vector (class_on w es a) v) (choices gs d)) degree

-- none is
pub with_left-degree : (w : Web) (d : ℕ) (l : Left) → l.class ≡ [] → l.degree ≡ d → with_left w (compact w) l ≡ assignments w d
unfolding with_left assignments
with_left-degree w d l class degree =
    let es : List CompactEdge = compact w in
    let gs : List ℕ = map (λ e. as_natural (edge_degree w e)) es in
    filter-all (λ a. spends l (class_on w es a)) (λ a. ap (λ u. same_vector (take (length u) (class_on w es a)) u) class) (choices gs l.degree)
    ∙ ap (choices gs) degree

-- ---- where a point can't be spent any more

abbrev pub IsUntouched : Web → ℕ → CompactEdge → Type 0
IsUntouched w p e = slice_index_or (edge_class w e) p (pos 0) ≡ pos 0

untouched-sum : (w : Web) (p : ℕ) (es : List CompactEdge) (a : Assignment) → AllByRecursion (IsUntouched w p) es → sum_on (part_by w p) es a ≡ pos 0
untouched-sum w p [] a none = refl
untouched-sum w p (e ∷ es) [] none = refl
untouched-sum w p (e ∷ es) (rows ∷ a) none =
    let first : pos (size rows) *ℤ slice_index_or (edge_class w e) p (pos 0) ≡ pos (size rows) *ℤ pos 0 = ap (λ z. pos (size rows) *ℤ z) none.0 in
    let rest = untouched-sum w p es a none.1 in
    omega (arith, ints)

take-none : (k p : ℕ) (v : List ℤ) → slice_index_or v p (pos 0) ≡ pos 0 → slice_index_or (take k v) p (pos 0) ≡ pos 0
take-none zero p v none = refl
take-none (suc k) p [] none = refl
take-none (suc k) zero (x ∷ v) none = none
take-none (suc k) (suc p) (x ∷ v) none = take-none k p v none

pub with_left-stuck : (w : Web) (p : ℕ) (es : List CompactEdge) (l : Left) → AllByRecursion (IsUntouched w p) es → slice_index_or l.class p (pos 0) ≢ pos 0 → with_left w es l ≡ []
unfolding with_left
with_left-stuck w p es l none owed =
    filter-none (λ a. spends l (class_on w es a))
    (λ a. never (spends l (class_on w es a))
    (λ h. owed (sym (ap (λ v. slice_index_or v p (pos 0)) (same_vector_tells (take (length l.class) (class_on w es a)) l.class h)) ∙ take-none (length l.class) p (class_on w es a) (at-class_on w es a p ∙ untouched-sum w p es a none))))
    (choices (map (λ e. as_natural (edge_degree w e)) es) l.degree)

pub class_length : (w : Web) (e : CompactEdge) (v : List ℤ) → v ≡ edge_class w e → length v ≡ length w.points
class_length w e v is = ap length is ∙ length-edge_class w e
