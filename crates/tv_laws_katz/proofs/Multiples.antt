-- Multiples of a class taken off a place.
--
-- place-multiple    a place taken off k times: k times its class, and k times its exponent
-- weight-left       the weight of what is left
use Rattle.std.specs.Prelude.{◌≡◌, ℕ, zero, suc, ℤ, pos, ◌-ℤ◌, ◌*ℤ◌, List, [], ◌∷◌, length}
use Rattle.std.proofs.Common.{refl, sym, ap, arith, ◌∙◌}
use Rattle.std.proofs.Math.IntN.{zero-*ℤ}
use Rattle.std.proofs.lemmas.Int.{ints}
use Rattle.std.proofs.lemmas.List.{length-map}
use Rattle.tv_lemmas.proofs.Integers.{mul-sub}
use Rattle.tv_laws_counts.proofs.Degrees.{degree_of-times}
use Rattle.tv_spec_plane.specs.Web.{degree_of}
use Rattle.tv_spec_boxes.specs.Assignments.{times}
use Rattle.tv_spec_katz.specs.Places.{Place, place, class_difference, difference, difference_by}
use Rattle.tv_laws_katz.specs.Weights.{weight}
use Rattle.tv_laws_katz.proofs.Differences.{place-same, difference_by-degree, difference_by-exponent}
use Rattle.tv_laws_katz.proofs.Elsewhere.{degree-difference}
use Rattle.tv_lemmas.proofs.Multiplied.{suc-times}

none-taken : (u v : List ℤ) → class_difference u (times 0 v) ≡ u
none-taken [] v = refl
none-taken (x ∷ u) [] = refl
none-taken (x ∷ u) (y ∷ v) =
    let head : x -ℤ (pos 0 *ℤ y) ≡ x = omega (arith, ints, zero-*ℤ y) in
    rw (head, none-taken u v) refl

one-more-taken : (k : ℕ) (u v : List ℤ) →
    class_difference (class_difference u v) (times k v) ≡ class_difference u (times (suc k) v)
one-more-taken k [] v = refl
one-more-taken k (x ∷ u) [] = refl
one-more-taken k (x ∷ u) (y ∷ v) =
    let head : (x -ℤ y) -ℤ (pos k *ℤ y) ≡ x -ℤ (pos (suc k) *ℤ y) = omega (arith, ints, suc-times k y) in
    rw (head, one-more-taken k u v) refl

class-multiple : (k : ℕ) (p x : Place) → (difference_by k p x).class ≡ class_difference p.class (times k x.class)
unfolding difference_by
class-multiple zero p x = sym (none-taken p.class x.class)
class-multiple (suc k) p x = class-multiple k (difference p x) x ∙ one-more-taken k p.class x.class

pub place-multiple : (hs : List ℤ) (k : ℕ) (v B : List ℤ) (n m : ℤ) → length v ≡ length hs → length B ≡ length hs →
    difference_by k (place hs v n) (place hs B m) ≡ place hs (class_difference v (times k B)) (n -ℤ (pos k *ℤ m))
place-multiple hs k v B n m e f = place-same _ _
    (omega (arith, ints, difference_by-degree k (place hs v n) (place hs B m), degree-difference hs v (times k B) e (length-map B (λ x. pos k *ℤ x) ∙ f), degree_of-times hs k B))
    (class-multiple k (place hs v n) (place hs B m)) (difference_by-exponent k (place hs v n) (place hs B m))

pub weight-left : (hs : List ℤ) (w : ℕ) (v B : List ℤ) (n m : ℤ) → length v ≡ length hs → length B ≡ length hs →
    weight w (place hs (class_difference v B) (n -ℤ m)) ≡ weight w (place hs v n) -ℤ weight w (place hs B m)
weight-left hs w v B n m e f =
    omega (arith, ints, ap (λ z. pos w *ℤ z) (degree-difference hs v B e f), mul-sub (pos w) (degree_of hs v) (degree_of hs B))
