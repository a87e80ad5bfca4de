-- Places by weight, with a class taken off.
--
-- place-after     what is left of a place when another one is taken off j times
-- step-weight     the weight of an exponent that is counted from the lowest one on; place-weight, of a place by weight
-- after-at        what is left of a place by weight
-- after-weight    and its weight
use Rattle.std.specs.Prelude.{◌≡◌, ℕ, zero, suc, ◌-◌, ◌*◌, ◌≤◌, ℤ, pos, ◌+ℤ◌, ◌-ℤ◌, ◌*ℤ◌, List, length}
use Rattle.std.proofs.Common.{refl, sym, ap, arith, ◌∙◌}
use Rattle.std.proofs.Math.IntN.{zero-*ℤ}
use Rattle.std.proofs.lemmas.Int.{ints}
use Rattle.tv_spec_plane.specs.Web.{degree_of}
use Rattle.tv_spec_katz.specs.Places.{place, class_difference, difference, difference_by}
use Rattle.tv_laws_katz.specs.Weights.{weight}
use Rattle.tv_laws_katz.specs.Logarithm.{begins_at}
use Rattle.tv_laws_katz.proofs.Differences.{place-same, difference_by-weight}
use Rattle.tv_laws_katz.proofs.Elsewhere.{degree-difference}
use Rattle.tv_lemmas.proofs.Multiplied.{suc-times}
use Rattle.tv_recurrence.specs.Products.{class_after, at_weight}
use Rattle.tv_spec_boxes.proofs.Vectors.{length-difference}

difference-place : (hs v B : List ℤ) (n m : ℤ) → length v ≡ length hs → length B ≡ length hs →
    difference (place hs v n) (place hs B m) ≡ place hs (class_difference v B) (n -ℤ m)
difference-place hs v B n m e f = place-same _ _ (sym (degree-difference hs v B e f)) refl refl

pub place-after : (hs : List ℤ) (j : ℕ) (v B : List ℤ) (n m : ℤ) → length v ≡ length hs → length B ≡ length hs →
    difference_by j (place hs v n) (place hs B m) ≡ place hs (class_after j v B) (n -ℤ (pos j *ℤ m))
unfolding difference_by
place-after hs zero v B n m e f = place-same _ _ refl refl (omega (arith, ints, zero-*ℤ m))
place-after hs (suc j) v B n m e f =
    ap (λ q. difference_by j q (place hs B m)) (difference-place hs v B n m e f) ∙
    (place-after hs j (class_difference v B) B (n -ℤ m) m (length-difference v B ∙ e) f ∙
    place-same _ _ refl refl (omega (arith, ints, suc-times j m)))

pub step-weight : (hs : List ℤ) (w : ℕ) (B : List ℤ) (s : ℕ) → weight w (place hs B (begins_at hs w B +ℤ pos s)) ≡ pos s
step-weight hs w B s = omega (arith, ints)

pub place-weight : (hs : List ℤ) (w : ℕ) (v : List ℤ) (t : ℕ) → weight w (at_weight hs w v t) ≡ pos t
place-weight hs w v t = omega (arith, ints)

pub after-weight : (hs : List ℤ) (w : ℕ) (v B : List ℤ) (t s j : ℕ) →
    weight w (difference_by j (at_weight hs w v t) (place hs B (begins_at hs w B +ℤ pos s))) ≡ pos t -ℤ pos (j * s)
after-weight hs w v B t s j =
    let x = place hs B (begins_at hs w B +ℤ pos s) in
    let times : pos j *ℤ weight w x ≡ pos (j * s) = ap (λ z. pos j *ℤ z) (step-weight hs w B s) in
    difference_by-weight w j (at_weight hs w v t) x ∙ omega (arith, ints, place-weight hs w v t, times)

pub after-at : (hs : List ℤ) (w : ℕ) (v B : List ℤ) (t s j : ℕ) → length v ≡ length hs → length B ≡ length hs → j * s ≤ t →
    difference_by j (at_weight hs w v t) (place hs B (begins_at hs w B +ℤ pos s)) ≡ at_weight hs w (class_after j v B) (t - j * s)
after-at hs w v B t s j e f room =
    let n = pos t -ℤ (pos w *ℤ degree_of hs v) in
    let m = begins_at hs w B +ℤ pos s in
    let after = place-after hs j v B n m e f in
    let same = ap (weight w) after in
    after ∙ place-same _ _ refl refl (omega (arith, ints, same, after-weight hs w v B t s j))
