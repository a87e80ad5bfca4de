-- Entries less a multiple, one after the other, and how great they are.
use Rattle.std.specs.Prelude.{◌≡◌, ◌≢◌, ℕ, suc, ◌+◌, ◌-◌, ◌*◌, ◌<◌, ◌≤◌, ℤ, pos, ◌-ℤ◌, ◌*ℤ◌, unsigned_abs, true, false, List, [], ◌∷◌, ◌++◌, length, drop}
use Rattle.std.specs.List.{AllByRecursion}
use Rattle.std.specs.Ordering.{int_eq}
use Rattle.std.proofs.Common.{refl, sym, ap, ◌∙◌, arith, get_or, append_assoc, append-nil, add-one}
use Rattle.std.proofs.Math.Seq.{drop-cons}
use Rattle.std.proofs.Math.Nat.{mul-le-mul_left}
use Rattle.std.proofs.lemmas.List.{drop_all}
use Rattle.std.proofs.lemmas.Int.{ints, unsigned_abs-mul}
use Rattle.std.proofs.lemmas.Bool.Decides.{Decides-int_eq}
use Rattle.tv_lemmas.proofs.Members.{all-onto}
use Rattle.tv_lattice.specs.Classes.{IsEntry, IsEntries}
use Rattle.tv_spec_boxes.specs.Assignments.{zeros, same_vector}
use Rattle.tv_class_assignments.specs.Remaining.{Left, less, beside, IsWithin, IsLeft}
use Rattle.tv_lemmas.proofs.Tests.{never}
use Rattle.tv_laws_counts.proofs.Choices.{times-more}

-- ---- one after the other

pub less-next : (n : ℕ) (v u : List ℤ) (k : ℕ) (done more whole : List ℤ) → k < length v → k < length u → more ≡ done ++ (get_or u k (pos 0) -ℤ (pos n *ℤ get_or v k (pos 0))) ∷ [] → done ++ less n (drop k v) (drop k u) ≡ whole → more ++ less n (drop (k + 1) v) (drop (k + 1) u) ≡ whole
less-next n v u k done more whole h l pushed was =
    let front = rw (drop-cons v k (pos 0) h, drop-cons u k (pos 0) l) at was in
    rw (add-one, pushed) (append_assoc done ((get_or u k (pos 0) -ℤ (pos n *ℤ get_or v k (pos 0))) ∷ []) (less n (drop (suc k) v) (drop (suc k) u)) ∙ front)

less-none : (n : ℕ) (v : List ℤ) → less n v [] ≡ []
less-none n [] = refl
less-none n (x ∷ v) = refl

pub less-end : (n : ℕ) (v u : List ℤ) (k : ℕ) (done whole : List ℤ) → length u ≤ k → done ++ less n (drop k v) (drop k u) ≡ whole → done ≡ whole
less-end n v u k done whole h was =
    let none : less n (drop k v) (drop k u) ≡ [] = rw (drop_all k u h) (less-none n (drop k v)) in
    sym (append-nil done) ∙ (sym (ap (λ s. done ++ s) none) ∙ was)

-- ---- how many, and how great

length-less : (n : ℕ) (v u : List ℤ) → length u ≤ length v → length (less n v u) ≡ length u
length-less n v [] e = ap length (less-none n v)
length-less n [] (y ∷ u) e = absurd (omega arith)
length-less n (x ∷ v) (y ∷ u) e = ap suc (length-less n v u (omega arith))

pub length-beside : (n g : ℕ) (v : List ℤ) (l : Left) → length l.class ≤ length v → length (beside n g v l).class ≡ length l.class
length-beside n g v l e = length-less n v l.class e

one-within : (n p d : ℕ) (x y : ℤ) → n ≤ p → p ≤ d → d ≤ 24 → unsigned_abs x ≤ 100000000000 → IsWithin d y → IsWithin (d - p) (y -ℤ (pos n *ℤ x))
one-within n p d x y few fits low entry within =
    let size : unsigned_abs (pos n *ℤ x) ≡ n * unsigned_abs x = unsigned_abs-mul (pos n) x in
    let most : n * unsigned_abs x ≤ n * 100000000000 = mul-le-mul_left n entry in
    difference y (pos n *ℤ x) (n * unsigned_abs x) within size most
  where
    difference : (a b : ℤ) (m : ℕ) → unsigned_abs a ≤ (25 - d) * 100000000000 → unsigned_abs b ≡ m → m ≤ n * 100000000000 → unsigned_abs (a -ℤ b) ≤ (25 - (d - p)) * 100000000000
    difference a b m k e h = omega (arith, ints)

less-within : (n p d : ℕ) (v u : List ℤ) → n ≤ p → p ≤ d → d ≤ 24 → AllByRecursion IsEntry v → AllByRecursion (IsWithin d) u → AllByRecursion (IsWithin (d - p)) (less n v u)
less-within n p d [] u few fits low entries within = tt
less-within n p d (x ∷ v) [] few fits low entries within = tt
less-within n p d (x ∷ v) (y ∷ u) few fits low entries within = (one-within n p d x y few fits low entries.0 within.0, less-within n p d v u few fits low entries.1 within.1)

pub beside-left : (n g : ℕ) (v : List ℤ) (l : Left) → 0 < g → n * g ≤ l.degree → length l.class ≤ length v → IsEntries v → IsLeft l → IsLeft (beside n g v l)
beside-left n g v l positive fits asked entries known = record {
  low = (let h = known.low in omega arith);
  few = (let h = known.few in let k = length-less n v l.class asked in omega arith);
  small = less-within n (n * g) l.degree v l.class (times-more n g positive) fits known.low entries.small known.small;
}

within-any : (d : ℕ) (z : ℤ) → IsWithin d z → IsWithin 0 z
within-any d z h = omega arith

pub left-within : (l : Left) → IsLeft l → AllByRecursion (IsWithin 0) l.class
left-within l known = all-onto (IsWithin l.degree) (IsWithin 0) (within-any l.degree) l.class known.small

entry-within : (d : ℕ) → d ≤ 24 → (z : ℤ) → IsEntry z → IsWithin d z
entry-within d low z h = omega arith

pub whole-left : (d : ℕ) (v : List ℤ) → d ≤ 24 → IsEntries v → IsLeft (record { degree = d; class = v })
whole-left d v low entries = record { low = low; few = entries.few; small = all-onto IsEntry (IsWithin d) (entry-within d low) v entries.small }

-- ---- none is left

pub zero-next : (v : List ℤ) (k : ℕ) → k < length v → get_or v k (pos 0) ≡ pos 0 → same_vector (zeros (length (drop (k + 1) v))) (drop (k + 1) v) ≡ same_vector (zeros (length (drop k v))) (drop k v)
zero-next v k h none = rw (add-one, drop-cons v k (pos 0) h, none) refl

pub zero-stop : (v : List ℤ) (k : ℕ) → k < length v → get_or v k (pos 0) ≢ pos 0 → same_vector (zeros (length (drop k v))) (drop k v) ≡ false
zero-stop v k h owed =
    let differs : int_eq (pos 0) (get_or v k (pos 0)) ≡ false = never (int_eq (pos 0) (get_or v k (pos 0))) (λ e. owed (sym ((Decides-int_eq (pos 0) (get_or v k (pos 0))).0 e))) in
    rw (drop-cons v k (pos 0) h, differs) refl

pub zero-end : (v : List ℤ) (k : ℕ) → length v ≤ k → same_vector (zeros (length (drop k v))) (drop k v) ≡ true
zero-end v k h = rw (drop_all k v h) refl

pub made_left : (d e : ℕ) (u v : List ℤ) → d ≡ e → u ≡ v → IsLeft (record { degree = e; class = v }) → IsLeft (record { degree = d; class = u })
made_left d e u v p q h = rw (p, q) h
