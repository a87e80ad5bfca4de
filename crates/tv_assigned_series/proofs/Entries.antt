-- The entries of the class of an assignment, edge by edge and one after the other.
use Rattle.std.specs.Prelude.{◌≡◌, ℕ, ◌+◌, ◌*◌, ◌<◌, ◌≤◌, ℤ, pos, ◌*ℤ◌, unsigned_abs, List, [], ◌∷◌, ◌++◌, length, take}
use Rattle.std.specs.List.{AllByRecursion}
use Rattle.std.proofs.Common.{sym, ap, subst, ◌∙◌, get_or, arith, w64, take_all}
use mir.Val.{to_z, of_z}
use Rattle.std.proofs.Math.Nat.{mul-le-mul_left}
use Rattle.std.proofs.lemmas.Int.{ints, unsigned_abs-mul, to_z-of_z}
use Rattle.std.proofs.lemmas.List.{take_more}
use Rattle.tv_spec_plane.specs.declared.records.CompactEdge.{CompactEdge}
use Rattle.tv_spec_plane.specs.Web.{Web, class_entry, edge_class}
use Rattle.tv_lattice.specs.Limits.{HasCoordinates}
use Rattle.tv_lattice.specs.Classes.{IsEntry, IsEntries}
use Rattle.tv_lemmas.proofs.Members.{all-at}
use Rattle.tv_lattice.proofs.Each.{each_push}
use Rattle.tv_lattice.proofs.Sums.{small-fits}
use Rattle.tv_laws_edges.specs.Rule.{HasRule}
use Rattle.tv_spec_boxes.specs.Assignments.{Assignment, class_of}
use Rattle.tv_spec_boxes.proofs.Vectors.{length-class_of}
use Rattle.tv_degrees.specs.Edges.{IsNormalDegree}
use Rattle.std.proofs.lemmas.List.FromFn.{length-map-range_with_len}
use Rattle.tv_degrees.proofs.Bounds.{class_entries-small}

-- ---- how great they are

pub within-class : (w : Web) (e : CompactEdge) (v : List ℤ) (k : ℕ) → v ≡ edge_class w e → k < length w.points → k < length v
within-class w e v k is h = let n = ap length is in let l = length-map-range_with_len (class_entry w e) 0 (length w.points) in omega arith

pub entry-small : (w : Web) (e : CompactEdge) (v : List ℤ) (k : ℕ) (x : ℤ) → AllByRecursion HasCoordinates w.points → HasRule w e → v ≡ edge_class w e → k < length w.points → x ≡ get_or v k (pos 0) → unsigned_abs x ≤ 402
entry-small w e v k x small rule is h read =
    let all : AllByRecursion IsNormalDegree v = subst (AllByRecursion IsNormalDegree) (sym is) (class_entries-small w e small rule) in
    let one : IsNormalDegree (get_or v k (pos 0)) = all-at IsNormalDegree v (pos 0) all k (within-class w e v k is h) in
    rw read one

pub product-small : (n : ℕ) (x : ℤ) → unsigned_abs x ≤ 402 → unsigned_abs (pos n *ℤ x) ≤ n * 402
product-small n x h =
    let size : unsigned_abs (pos n *ℤ x) ≡ n * unsigned_abs x = unsigned_abs-mul (pos n) x in
    let more : n * unsigned_abs x ≤ n * 402 = mul-le-mul_left n h in
    omega arith

pub product-bound : (n : ℕ) (f x : ℤ) → f ≡ pos n → n ≤ 24 → unsigned_abs x ≤ 402 → unsigned_abs (to_z w64 (of_z w64 (to_z w64 (of_z w64 f) *ℤ x))) ≤ n * 402
product-bound n f x e few h =
    let bound = product-small n x h in
    let first : to_z w64 (of_z w64 f) ≡ pos n = to_z-of_z w64 f (small-fits f (omega (arith, ints))) ∙ e in
    let whole : to_z w64 (of_z w64 (pos n *ℤ x)) ≡ pos n *ℤ x = to_z-of_z w64 (pos n *ℤ x) (small-fits (pos n *ℤ x) (omega arith)) in
    rw (first, whole) bound

-- ---- a vector as it is written

pub record IsWritten (w : Web) (a : Assignment) (k : ℕ) (entries : List ℤ) : Type 0 where
  pub front : entries ≡ take k (class_of w a)
  pub small : AllByRecursion IsEntry entries

pub written-next : (w : Web) (a : Assignment) (k : ℕ) (entries more : List ℤ) (x : ℤ) → k < length w.points → x ≡ get_or (class_of w a) k (pos 0) → unsigned_abs x ≤ 24 * 402 → more ≡ entries ++ x ∷ [] → IsWritten w a k entries → IsWritten w a (k + 1) more
written-next w a k entries more x h read small pushed before = record {
  front = pushed ∙ (ap (λ xs. xs ++ x ∷ []) before.front ∙ (ap (λ y. take k (class_of w a) ++ y ∷ []) read ∙ sym (take_more (class_of w a) k (pos 0) (let n = length-class_of w a in omega arith))));
  small = subst (AllByRecursion IsEntry) (sym pushed) (each_push IsEntry entries x before.small (omega arith));
}

pub written-last : (w : Web) (a : Assignment) (k : ℕ) (entries : List ℤ) → length w.points ≤ k → IsWritten w a k entries → entries ≡ class_of w a
written-last w a k entries h before = before.front ∙ take_all k (class_of w a) (let n = length-class_of w a in omega arith)

pub written-entries : (w : Web) (a : Assignment) (k : ℕ) (entries : List ℤ) → length w.points ≤ 64 → length w.points ≤ k → IsWritten w a k entries → IsEntries entries
written-entries w a k entries few h before = record { few = (let n = ap length (written-last w a k entries h before) in let l = length-class_of w a in omega arith); small = before.small }
