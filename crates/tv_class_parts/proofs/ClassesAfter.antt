-- A class with another one taken off some times.
--
-- length-after, degree-after, at-after  its entries, its degree, and one entry
-- after-is, is-after  entry by entry
use Rattle.std.specs.Prelude.{◌≡◌, ℕ, zero, suc, ◌<◌, ℤ, pos, ◌+ℤ◌, ◌-ℤ◌, ◌*ℤ◌, List, [], ◌∷◌, length}
use Rattle.std.proofs.Common.{refl, sym, ap, arith, ◌∙◌}
use Rattle.std.proofs.Math.IntN.{zero-*ℤ}
use Rattle.std.proofs.lemmas.Int.{ints}
use Rattle.tv_lemmas.proofs.Integers.{mul-sub}
use Rattle.tv_lemmas.proofs.Multiplied.{suc-times}
use Rattle.tv_laws_series.proofs.Listed.{same_listed}
use Rattle.tv_ring.specs.Whole.{wholes}
use Rattle.tv_ring.specs.Sums.{at}
use Rattle.tv_spec_plane.specs.Web.{degree_of}
use Rattle.tv_spec_katz.specs.Places.{class_difference}
use Rattle.tv_recurrence.specs.Products.{class_after}

length-difference : (v B : List ℤ) → length (class_difference v B) ≡ length v
length-difference [] B = refl
length-difference (x ∷ v) [] = refl
length-difference (x ∷ v) (y ∷ B) = ap suc (length-difference v B)

pub length-after : (j : ℕ) (v B : List ℤ) → length (class_after j v B) ≡ length v
length-after zero v B = refl
length-after (suc j) v B = length-after j (class_difference v B) B ∙ length-difference v B

at-difference : (v B : List ℤ) (k : ℕ) → length v ≡ length B → at wholes (class_difference v B) k ≡ at wholes v k -ℤ at wholes B k
unfolding at
at-difference [] [] k e = refl
at-difference [] (y ∷ B) k e = absurd (omega arith)
at-difference (x ∷ v) [] k e = absurd (omega arith)
at-difference (x ∷ v) (y ∷ B) zero e = refl
at-difference (x ∷ v) (y ∷ B) (suc k) e = at-difference v B k (omega arith)

pub at-after : (j : ℕ) (v B : List ℤ) (k : ℕ) → length v ≡ length B →
    at wholes (class_after j v B) k ≡ at wholes v k -ℤ (pos j *ℤ at wholes B k)
at-after zero v B k e = omega (arith, ints, zero-*ℤ (at wholes B k))
at-after (suc j) v B k e =
    let rest = at-after j (class_difference v B) B k (length-difference v B ∙ e) in
    let step = at-difference v B k e in
    omega (arith, ints, suc-times j (at wholes B k))

degree-difference : (hs v B : List ℤ) → length v ≡ length hs → length B ≡ length hs →
    degree_of hs (class_difference v B) ≡ degree_of hs v -ℤ degree_of hs B
degree-difference [] [] [] e f = refl
degree-difference [] (x ∷ v) B e f = absurd (omega arith)
degree-difference [] [] (y ∷ B) e f = absurd (omega arith)
degree-difference (h ∷ hs) [] B e f = absurd (omega arith)
degree-difference (h ∷ hs) (x ∷ v) [] e f = absurd (omega arith)
degree-difference (h ∷ hs) (x ∷ v) (y ∷ B) e f =
    omega (arith, ints, mul-sub h x y, degree-difference hs v B (omega arith) (omega arith))

pub degree-after : (hs : List ℤ) (j : ℕ) (v B : List ℤ) → length v ≡ length hs → length B ≡ length hs →
    degree_of hs (class_after j v B) ≡ degree_of hs v -ℤ (pos j *ℤ degree_of hs B)
degree-after hs zero v B e f = omega (arith, ints, zero-*ℤ (degree_of hs B))
degree-after hs (suc j) v B e f =
    let rest = degree-after hs j (class_difference v B) B (length-difference v B ∙ e) f in
    let step = degree-difference hs v B e f in
    omega (arith, ints, suc-times j (degree_of hs B))

pub after-is : (j : ℕ) (u v B : List ℤ) → length u ≡ length v → length B ≡ length v →
    ((i : ℕ) → i < length u → at wholes u i +ℤ (pos j *ℤ at wholes B i) ≡ at wholes v i) → u ≡ class_after j v B
after-is j u v B e f each =
    same_listed wholes u (class_after j v B) (e ∙ sym (length-after j v B)) (λ k h.
    let count = length-after j v B in
    let here = each k (omega arith) in
    let there = at-after j v B k (sym f) in
    omega (arith, ints))

pub is-after : (j : ℕ) (u v B : List ℤ) → length B ≡ length v → u ≡ class_after j v B → (i : ℕ) →
    at wholes u i +ℤ (pos j *ℤ at wholes B i) ≡ at wholes v i
is-after j u v B f e i =
    let there = at-after j v B i (sym f) in
    let same = ap (λ z. at wholes z i) e in
    omega (arith, ints)
