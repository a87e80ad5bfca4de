-- The laws of sums and products of whole numbers, each read as the difference of its upper and its lower part.
--
--   +ℤ_comm, *ℤ_comm      == sums and products do not depend on the order
--   +ℤ_assoc, *ℤ_assoc    == nor on the brackets
--   +ℤ-zero, *ℤ-one       == a number and 0 add up to the number, and times 1 it is the number
--   +ℤ-neg                == a number and its negative add up to 0
--   *ℤ-+ℤ                 == a product with a sum is the sum of the products
--   unsigned_abs-neg      == a number and its negative have the same absolute value
--   unsigned_abs-+ℤ       == the absolute value of a sum is at most the sum of the absolute values
use Rattle.std.proofs.Common.{◌≡◌, ◌+◌, ◌*◌, ◌≤◌, ℤ, pos, ◌+ℤ◌, ◌*ℤ◌, neg_ℤ, unsigned_abs, ap, arith, mul_assoc, mul-add, add-mul, mul_comm}
use Rattle.std.proofs.lemmas.Int.{ints}
use borrow.Author.Differences.{up, down, same_in, sum_is_lem, product_is}

pub +ℤ_comm : (x y : ℤ) → x +ℤ y ≡ y +ℤ x
+ℤ_comm x y = omega (arith, ints)

pub +ℤ_assoc : (x y z : ℤ) → (x +ℤ y) +ℤ z ≡ x +ℤ (y +ℤ z)
+ℤ_assoc x y z = omega (arith, ints)

pub +ℤ-zero : (x : ℤ) → x +ℤ pos 0 ≡ x
+ℤ-zero x = omega (arith, ints)

pub +ℤ-neg : (x : ℤ) → x +ℤ neg_ℤ x ≡ pos 0
+ℤ-neg x = omega (arith, ints)

pub *ℤ_comm : (x y : ℤ) → x *ℤ y ≡ y *ℤ x
*ℤ_comm x y = same_in _ _ (let p = product_is x y in let q = product_is y x in
    rw (p.0, p.1, q.0, q.1, mul_comm (up y) (up x), mul_comm (down y) (down x), mul_comm (up y) (down x), mul_comm (down y) (up x)) (omega arith))

pub *ℤ-one : (x : ℤ) → x *ℤ pos 1 ≡ x
*ℤ-one x = same_in _ _ (let p = product_is x (pos 1) in rw (p.0, p.1) (omega arith))

pub *ℤ_assoc : (x y z : ℤ) → (x *ℤ y) *ℤ z ≡ x *ℤ (y *ℤ z)
*ℤ_assoc x y z = same_in _ _ (let p = product_is (x *ℤ y) z in let q = product_is x (y *ℤ z) in let a = product_is x y in let b = product_is y z in
    rw (p.0, p.1, q.0, q.1, a.0, a.1, b.0, b.1) (simp (add-mul, mul-add, mul_assoc) (omega arith)))

pub *ℤ-+ℤ : (x y z : ℤ) → x *ℤ (y +ℤ z) ≡ (x *ℤ y) +ℤ (x *ℤ z)
*ℤ-+ℤ x y z =
    let p = product_is x (y +ℤ z) in let a = product_is x y in let b = product_is x z in
    let s = sum_is_lem y z in let t = sum_is_lem (x *ℤ y) (x *ℤ z) in
    let by_up = ap (λ n. up x * n) s in let by_down = ap (λ n. down x * n) s in
    same_in _ _ (rw (p.0, p.1) (let t' = rw (a.0, a.1, b.0, b.1) at t in let u = simp mul-add at by_up in let d = simp mul-add at by_down in omega arith))

pub unsigned_abs-neg : (x : ℤ) → unsigned_abs (neg_ℤ x) ≡ unsigned_abs x
unsigned_abs-neg x = omega (arith, ints)

pub unsigned_abs-+ℤ : (x y : ℤ) → unsigned_abs (x +ℤ y) ≤ unsigned_abs x + unsigned_abs y
unsigned_abs-+ℤ x y = omega (arith, ints)
