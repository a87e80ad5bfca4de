-- The sign by two parities, and the sum over the even points, one point after the other.
--
-- even_from ps v k == the sum over the even points from place k on
use Rattle.std.specs.Prelude.{◌≡◌, ℕ, ◌+◌, ◌<◌, ◌≤◌, ◌%◌, ◌⊎◌, Bool, cond, ℤ, pos, negsuc, ◌+ℤ◌, List, length, drop, nat_eq, unsigned_abs}
use Rattle.std.proofs.Common.{refl, sym, ap, ◌∙◌, inl, inr, get_or, drop-cons, arith, add-one}
use Rattle.std.proofs.lemmas.List.{drop_all}
use Rattle.std.proofs.lemmas.Int.{ints}
use Rattle.tv_spec_plane.specs.Plane.{Point, at}
use Rattle.tv_spec_plane.specs.Web.{even_sum, is_even_point, class_sign, parity}
use Rattle.tv_laws_edges.proofs.Parity.{is_even, eqv, sign_by, is_even-add}

bit_cases : (n : ℕ) → (n % 2 ≡ 0) ⊎ (n % 2 ≡ 1)
bit_cases n = grind arith

same_bits : (m n : ℕ) → nat_eq (m % 2) (n % 2) ≡ eqv (nat_eq (m % 2) 0) (nat_eq (n % 2) 0)
same_bits m n = elim (bit_cases m) [
  | inl p ↦ elim (bit_cases n) [ inl q ↦ rw (p, q) refl | inr q ↦ rw (p, q) refl ]
  | inr p ↦ elim (bit_cases n) [ inl q ↦ rw (p, q) refl | inr q ↦ rw (p, q) refl ]
]

pub class_sign-by : (ps : List Point) (v : List ℤ) (chi s : ℤ) (b : Bool) → s ≡ even_sum ps v → nat_eq (parity chi) (parity s) ≡ b → cond b (pos 1) (negsuc 0) ≡ class_sign ps v chi
class_sign-by ps v chi s b e same =
    let even = is_even-add chi s ∙ (sym (same_bits (unsigned_abs chi) (unsigned_abs s)) ∙ same) in
    ap sign_by (sym even) ∙ ap (λ (z : ℤ). sign_by (is_even (chi +ℤ z))) e

unfoldable pub even_from : List Point → List ℤ → ℕ → ℤ
even_from ps v k = even_sum (drop k ps) (drop k v)

pub even_from-first : (ps : List Point) (v : List ℤ) → even_from ps v 0 ≡ even_sum ps v
unfolding even_from
even_from-first ps v = refl

pub even_from-next : (ps : List Point) (v : List ℤ) (k : ℕ) (total more whole : ℤ) → k < length ps → k < length v → more ≡ total +ℤ cond (is_even_point (at ps k)) (get_or v k (pos 0)) (pos 0) → total +ℤ even_from ps v k ≡ whole → more +ℤ even_from ps v (k + 1) ≡ whole
unfolding even_from
even_from-next ps v k total more whole h l e was =
    let front = rw (drop-cons ps k (record { x = pos 0; y = pos 0 }) h, drop-cons v k (pos 0) l) at was in
    rw add-one (omega (arith, ints))

pub even_from-end : (ps : List Point) (v : List ℤ) (k : ℕ) → length ps ≤ k → even_from ps v k ≡ pos 0
unfolding even_from
even_from-end ps v k h = ap (λ (us : List Point). even_sum us (drop k v)) (drop_all k ps h)
