-- The sizes of what powers, classes and all classes add.
--
-- share-size        what a power adds is at most its size; part-size, what a class adds
-- wide-scale        where degree times power exceeds the limit and the sum is not 0, the size of the share does
-- wide-share        where the share does, its size does
use Rattle.std.specs.Prelude.{◌≡◌, ℕ, ◌*◌, ◌<◌, ◌≤◌, ℤ, pos, neg_ℤ, ◌*ℤ◌, unsigned_abs, List, [], ◌∷◌}
use Rattle.std.proofs.Common.{sym, ap, arith, ◌∙◌, mul-le-mul_left}
use Rattle.std.proofs.lemmas.Int.{ints, unsigned_abs-mul}
use Rattle.tv_ring.specs.Operations.{limit}
use Rattle.tv_ring.specs.Integers.{unsigned_abs-neg}
use Rattle.tv_lemmas.specs.Sums.{total, sum_of}
use Rattle.tv_recurrence.specs.declared.part.Power.{Power}
use Rattle.tv_recurrence.specs.Parts.{Addends, taken_sum, taken_size, share, share_size, part_total, part_size}
use Rattle.tv_recurrence.proofs.TakenSums.{taken_sum-size}

scale-size : (d : ℕ) (e : ℤ) → unsigned_abs (pos d *ℤ neg_ℤ e) ≡ unsigned_abs (pos d *ℤ e)
scale-size d e =
    unsigned_abs-mul (pos d) (neg_ℤ e) ∙
    (ap (λ n. unsigned_abs (pos d) * n) (unsigned_abs-neg e) ∙ sym (unsigned_abs-mul (pos d) e))

pub share-size : (x : Addends) (t : ℕ) (f : Power) → unsigned_abs (share x t f) ≤ share_size x t f
share-size x t f =
    let c = pos x.degree *ℤ neg_ℤ f.power in
    let s = taken_sum x.rows f.step t in
    let less : unsigned_abs c * unsigned_abs s ≤ unsigned_abs c * taken_size x.rows f.step t =
    mul-le-mul_left (unsigned_abs c) (taken_sum-size x.rows f.step t) in
    rw (unsigned_abs-mul c s, ← scale-size x.degree f.power) less

total-small : {A : Type 0} (f : A → ℤ) (g : A → ℕ) → ((x : A) → unsigned_abs (f x) ≤ g x) → (xs : List A) →
    unsigned_abs (total f xs) ≤ sum_of g xs
total-small f g small [] = omega (arith, ints)
total-small f g small (x ∷ xs) = omega (arith, ints, small x, total-small f g small xs)

pub part-size : (t : ℕ) (x : Addends) → unsigned_abs (part_total t x) ≤ part_size t x
part-size t x = total-small (share x t) (share_size x t) (λ f. share-size x t f) x.powers

pub wide-scale : (x : Addends) (t : ℕ) (f : Power) (sum : ℤ) → sum ≡ taken_sum x.rows f.step t → (sum ≡ pos 0 → ⊥) →
    limit < unsigned_abs (pos x.degree *ℤ neg_ℤ f.power) → limit < share_size x t f
wide-scale x t f sum e apart wide =
    let c = unsigned_abs (pos x.degree *ℤ f.power) in
    let some : 1 ≤ taken_size x.rows f.step t = omega (arith, ints, taken_sum-size x.rows f.step t, ap unsigned_abs e, apart) in
    let less : c * 1 ≤ c * taken_size x.rows f.step t = mul-le-mul_left c some in
    omega (arith, less, scale-size x.degree f.power)

pub wide-share : (x : Addends) (t : ℕ) (f : Power) (y : ℤ) → y ≡ share x t f → limit < unsigned_abs y → limit < share_size x t f
wide-share x t f y e wide = omega (arith, share-size x t f, ap unsigned_abs e)
