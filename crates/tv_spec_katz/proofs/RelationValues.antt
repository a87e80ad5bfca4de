-- Worked values of the relations: lists that are in order, lists that are not, and the made-up series that no integers give.
use Rattle.std.proofs.lemmas.Int.{ints}
use Rattle.std.proofs.Common.{◌≡◌, ◌≢◌, inl, inr, ℕ, zero, suc, ℤ, pos, negsuc, ◌<◌, ◌≤ℤ◌, List, [], ◌∷◌, length, refl, arith}
use Rattle.tv_ring.specs.Whole.{wholes}
use Rattle.tv_ring.specs.Sums.{at}
use Rattle.tv_laws_series.specs.Terms.{above}
use Rattle.tv_spec_plane.specs.Web.{degree_of}
use Rattle.tv_spec_series.specs.Families.{coefficient, coefficient_of, find}
use Rattle.tv_spec_series.proofs.Order.{before_strict}
use Rattle.tv_spec_katz.specs.Katz.{Integer}
use Rattle.tv_spec_katz.specs.Integers.{Agrees, IsCompared}
use Rattle.tv_spec_katz.specs.Relations.{IsNormalized, IsInteger, AreOrdered, AreIntegers, HasMismatch}
use Rattle.tv_spec_katz.proofs.Samples.{plane_heights, line, conic, plane_integers}
use Rattle.tv_spec_katz.proofs.MadeUp.{made_up, curve, agrees_below_zero, agrees_at_zero, agrees_below_two, made_up_mismatch}

abbrev integer : List ℤ → ℕ → ℤ → Integer
integer v g z = record { class = v; genus = g; value = z }

abbrev one : List ℤ
one = pos 1 ∷ []

abbrev two : List ℤ
two = pos 2 ∷ []

-- ---- in order

-- the conics come before the lines, as their class has the greater degree
plane_ordered : AreOrdered 2 plane_heights plane_integers
plane_ordered = (
  record { positive = record { entries = refl; degree = omega (arith, ints) }; within = omega (arith, ints); value = λ e. cc },
  (
    (inl (inl (omega (arith, ints))), tt),
    (
      record { positive = record { entries = refl; degree = omega (arith, ints) }; within = omega (arith, ints); value = λ e. cc },
      (tt, tt),
    ),
  ),
)

-- of one class the lesser genus comes first
genera_ordered : AreOrdered 1 one (integer one 0 (pos 5) ∷ integer one 2 (negsuc 0) ∷ [])
genera_ordered = (
  record { positive = record { entries = refl; degree = omega (arith, ints) }; within = omega (arith, ints); value = λ e. cc },
  (
    (inr (refl, omega arith), tt),
    (
      record { positive = record { entries = refl; degree = omega (arith, ints) }; within = omega (arith, ints); value = λ e. cc },
      (tt, tt),
    ),
  ),
)

-- of two classes of one degree the one with the greater first entry
entries_ordered : AreOrdered 1 (pos 1 ∷ pos 1 ∷ [])
    (integer (pos 1 ∷ pos 0 ∷ []) 0 (pos 1) ∷ integer (pos 0 ∷ pos 1 ∷ []) 0 (pos 1) ∷ [])
entries_ordered = (
  record { positive = record { entries = refl; degree = omega (arith, ints) }; within = omega (arith, ints); value = λ e. cc },
  (
    (inl (inr (refl, inl (omega (arith, ints)))), tt),
    (
      record { positive = record { entries = refl; degree = omega (arith, ints) }; within = omega (arith, ints); value = λ e. cc },
      (tt, tt),
    ),
  ),
)

-- ---- not in order

abbrev Not : Type 0 → Type 0
Not A = A → ⊥

-- neither the lines before the conics, nor in degree 1 the conics
lines_first : Not (AreOrdered 2 plane_heights (integer line 0 (pos 3) ∷ integer conic 0 (negsuc 5) ∷ []))
lines_first h = elim h.1.0.0 as (λ _. ⊥) [
  | inl (inl d) ↦ omega (arith, ints)
  | inl (inr e) ↦ let same = e.0 in omega (arith, ints)
  | inr e ↦ let none = e.1 in omega arith
]

conics_too_high : Not (AreOrdered 1 plane_heights plane_integers)
conics_too_high h = let high = h.0.within in omega (arith, ints)

greater_genus_first : Not (AreOrdered 1 one (integer one 2 (negsuc 0) ∷ integer one 0 (pos 5) ∷ []))
greater_genus_first h = elim h.1.0.0 as (λ _. ⊥) [
  | inl b ↦ before_strict one one b
  | inr e ↦ let less : 2 < 0 = e.1 in omega arith
]

one_twice : Not (AreOrdered 1 one (integer one 0 (pos 2) ∷ integer one 0 (pos 3) ∷ []))
one_twice h = elim h.1.0.0 as (λ _. ⊥) [
  | inl b ↦ before_strict one one b
  | inr e ↦ let less : 0 < 0 = e.1 in omega arith
]

none_of_value_zero : Not (IsInteger 2 one (integer one 0 (pos 0)))
none_of_value_zero h = h.value refl

none_of_class_zero : Not (IsInteger 2 one (integer (pos 0 ∷ []) 0 (pos 1)))
none_of_class_zero h = let up = h.positive.degree in omega (arith, ints)

none_of_few_entries : Not (IsInteger 2 (pos 1 ∷ pos 1 ∷ []) (integer one 0 (pos 1)))
none_of_few_entries h = let few = h.positive.entries in omega arith

-- ---- the made-up series

made_up_agrees : (v : List ℤ) (n : ℤ) → IsCompared 1 (pos 1) made_up v n → Agrees made_up [] v n
made_up_agrees [] n c = let few : 0 ≡ 1 = c.entries in absurd (omega (arith, few))
made_up_agrees (negsuc x ∷ []) n c = agrees_below_zero x n
made_up_agrees (pos zero ∷ []) n c = let h = c.exponent in agrees_at_zero n (omega (arith, ints))
made_up_agrees (pos (suc zero) ∷ []) n c = let h = c.exponent in agrees_below_two n (omega (arith, ints))
made_up_agrees (pos (suc (suc x)) ∷ []) n c =
    let low : degree_of one (pos (suc (suc x)) ∷ []) ≤ℤ pos 1 = c.degree in
    absurd (omega (arith, ints))
made_up_agrees (x ∷ y ∷ v) n c = let many : suc (suc (length v)) ≡ 1 = c.entries in absurd (omega (arith, many))

-- it is normalized as far as it is known
made_up_unit : coefficient_of wholes made_up (pos 0 ∷ []) (pos 0) ≡ pos 1
unfolding find coefficient at above
made_up_unit = refl

made_up_none : (n : ℤ) → n ≤ℤ pos 3 → n ≢ pos 0 → coefficient_of wholes made_up (pos 0 ∷ []) n ≡ pos 0
unfolding find coefficient at above
made_up_none (negsuc n) h other = refl
made_up_none (pos zero) h other = absurd (other refl)
made_up_none (pos (suc zero)) h other = refl
made_up_none (pos (suc (suc zero))) h other = refl
made_up_none (pos (suc (suc (suc zero)))) h other = refl
made_up_none (pos (suc (suc (suc (suc n))))) h other = absurd (omega (arith, ints))

made_up_normalized : IsNormalized (pos 3) made_up
made_up_normalized = record {
  unit = made_up_unit;
  none = made_up_none;
  others = (inl refl, (inr (record { entries = refl; degree = omega (arith, ints) }), tt));
}

-- through exponent 1 it has no integers
made_up_are_integers : AreIntegers 1 made_up []
made_up_are_integers = record { ordered = tt; agrees = made_up_agrees }

made_up_has_mismatch : HasMismatch 1 (pos 3) made_up curve (pos 2)
made_up_has_mismatch = record { integers = []; are = made_up_are_integers; mismatch = made_up_mismatch }
