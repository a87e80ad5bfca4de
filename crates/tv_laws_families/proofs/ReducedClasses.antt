-- The classes of a reduced family: class zero has the series one, and the degree of every other class bounds its entries.
use Rattle.std.proofs.Common.{◌≡◌, ◌≢◌, ◌⊎◌, inl, inr, ℕ, zero, suc, ◌+◌, ◌*◌, ◌<◌, ◌≤◌, refl, sym, ap, subst, ◌∙◌, arith, mul_comm, mul-add}
use Rattle.std.proofs.lemmas.Bool.{cases_lt}
use Rattle.std.specs.Prelude.{Contains, ℤ, pos, negsuc, ◌+ℤ◌, ◌*ℤ◌, ◌≤ℤ◌, ◌<ℤ◌, unsigned_abs, List, [], ◌∷◌, length, filter}
use Rattle.std.specs.List.{AllByRecursion}
use Rattle.std.proofs.lemmas.Int.{ints, unsigned_abs-mul}
use Rattle.std.proofs.lemmas.Nat.{mul-le}
use Rattle.std.proofs.lemmas.List.FromFn.{length-map-range_with_len}
use Rattle.tv_ring.specs.Operations.{Operations, RingLaws}
use Rattle.tv_ring.specs.Integers.{unsigned_abs-+ℤ}
use Rattle.tv_ring.specs.Sums.{whole_times}
use Rattle.tv_ring.proofs.Times.{times-none, times-one, whole_times-pos}
use Rattle.tv_lemmas.proofs.Members.{all-onto, all-filter, all-members}
use Rattle.tv_lemmas.specs.Naturals.{as_natural}
use Rattle.tv_spec_plane.specs.declared.records.CompactEdge.{CompactEdge}
use Rattle.tv_spec_plane.specs.Web.{Web, compact, class_entry, edge_class, edge_degree, degree_of}
use Rattle.tv_spec_plane.specs.Graded.{HasDegree, IsGraded}
use Rattle.tv_partition.specs.Rows.{size}
use Rattle.tv_spec_boxes.specs.Assignments.{Assignment, no_legs, zeros, plus, times, class_on, class_of, assignments, same_vector, assignments_of}
use Rattle.tv_spec_boxes.specs.Classes.{IsClass}
use Rattle.tv_laws_counts.proofs.Choices.{degree_by}
use Rattle.tv_laws_counts.proofs.Degrees.{weights, weights_positive, class_of-degree, assignments_by_degree}
use Rattle.tv_spec_series.specs.Families.{Row, coefficient}
use Rattle.tv_spec_series.specs.Reduced.{IsReduced, zero_coefficient}
use Rattle.tv_spec_series.specs.ReducedFamilies.{IsReducedRow}
use Rattle.tv_laws_families.specs.Laws.{IsOne, AreAtMost, HasReducedClasses, ReducedClasses}
use Rattle.tv_laws_families.proofs.Products.{only_quotient_is}
use Rattle.tv_laws_families.proofs.Unit.{one_at, one_is_quotient}
use Rattle.tv_laws_families.proofs.ZeroClass.{nothing, times-none as times-nought, plus-zeros, class_on-nothing, degree-zeros, assignments_of-zero, begins_with_one}

-- ---- class zero is there

zero_listed : (w : Web) (d : ℕ) → IsGraded w → Contains (assignments w d) (nothing (compact w))
zero_listed w d graded =
    let zero = zeros (length w.points) in
    let found : AllByRecursion (Contains (assignments w d)) (filter (λ a. same_vector (class_of w a) zero) (assignments w d)) = all-filter (Contains (assignments w d)) (Contains (assignments w d)) (λ a. same_vector (class_of w a) zero) (λ a h e. h) (assignments w d) (all-members (assignments w d)) in
    let within : degree_of w.heights zero ≤ℤ pos d = let none = degree-zeros w.heights (length w.points) in omega (arith, ints) in
    (rw (sym (assignments_by_degree w d zero graded within) ∙ assignments_of-zero w) at found).0

zero_is_class : (w : Web) (d : ℕ) → IsGraded w → IsClass w d (zeros (length w.points))
zero_is_class w d graded = record { witness = nothing (compact w); listed = zero_listed w d graded; same = class_on-nothing w (compact w) }

-- ---- its series is one

module _ {A : Type 0} {IsValue : A → Type 0} {r : Operations A} (laws : RingLaws IsValue r) where
  zero_row : (w : Web) (d : ℕ) (n : ℤ) (x : Row A) → IsGraded w → IsReducedRow r w (no_legs w) d n x → x.class ≡ zeros (length w.points) → IsOne r n x.series
  zero_row w d n x graded is e =
      let z = zero_coefficient w (no_legs w) in
      let starts = begins_with_one w graded in
      let own : IsReduced w (no_legs w) n (zeros (length w.points)) is.series = rw e at is.reduced in
      let same = λ (i : ℤ) (h : i ≤ℤ n). only_quotient_is n z z is.series one_at own (one_is_quotient n z (pos 0) (record { none = starts.none; some = λ k. let one = starts.unit in omega (arith, ints) })) i h in
      record {
        unit = λ h. is.values (pos 0) h ∙ (ap (whole_times r) (same (pos 0) h) ∙ (whole_times-pos r 1 ∙ times-one laws));
        others = λ i h other. is.values i h ∙ (ap (whole_times r) (same i h ∙ elsewhere i other) ∙ (whole_times-pos r 0 ∙ times-none r));
      }
    where
      elsewhere : (i : ℤ) → i ≢ pos 0 → one_at i ≡ pos 0
      elsewhere (pos zero) other = absurd (other refl)
      elsewhere (pos (suc i)) other = refl
      elsewhere (negsuc i) other = refl

-- ---- every other class has a degree of at least 1

none_each : (s g t : ℕ) → 0 < g → s * g + t ≡ 0 → s ≡ 0
none_each zero g t up e = refl
none_each (suc s) g t up e = let more : 1 * g ≤ suc s * g = mul-le 1 g (suc s) g (omega arith) (omega arith) in absurd (omega arith)

class_on-none : (w : Web) (es : List CompactEdge) (a : Assignment) → AllByRecursion (HasDegree w) es → degree_by (weights w es) a ≡ 0 → class_on w es a ≡ zeros (length w.points)
class_on-none w [] a graded e = refl
class_on-none w (edge ∷ es) [] graded e = refl
class_on-none w (edge ∷ es) (rows ∷ a) graded e =
    let up = (weights_positive w (edge ∷ es) graded).0 in
    let none : size rows ≡ 0 = none_each (size rows) (as_natural (edge_degree w edge)) (degree_by (weights w es) a) up e in
    let rest : degree_by (weights w es) a ≡ 0 = omega arith in
    rw (none, times-nought (edge_class w edge), length-map-range_with_len (class_entry w edge) 0 (length w.points), class_on-none w es a graded.1 rest) (plus-zeros (length w.points))

other_class : (w : Web) (d : ℕ) (v : List ℤ) → IsGraded w → IsClass w d v → (v ≡ zeros (length w.points)) ⊎ (pos 0 <ℤ degree_of w.heights v)
other_class w d v graded is =
    let degree : degree_of w.heights v ≡ pos (degree_by (weights w (compact w)) is.witness) = ap (degree_of w.heights) (sym is.same) ∙ class_of-degree w graded is.witness in
    elim (cases_lt 0 (degree_by (weights w (compact w)) is.witness)) as (λ _. (v ≡ zeros (length w.points)) ⊎ (pos 0 <ℤ degree_of w.heights v)) [
      | inl up ↦ let positive : pos 0 <ℤ degree_of w.heights v = omega (arith, ints) in inr positive
      | inr not ↦ inl (sym is.same ∙ class_on-none w (compact w) is.witness graded (omega arith))
    ]

-- ---- the degree bounds the entries

at_most-zeros : (b n : ℕ) → AreAtMost b (zeros n)
at_most-zeros b zero = tt
at_most-zeros b (suc n) = (omega arith, at_most-zeros b n)

at_most-more : (b c : ℕ) → b ≤ c → (v : List ℤ) → AreAtMost b v → AreAtMost c v
at_most-more b c h v = all-onto (λ x. unsigned_abs x ≤ b) (λ x. unsigned_abs x ≤ c) (λ x k. omega arith) v

at_most-plus : (b c : ℕ) (u v : List ℤ) → AreAtMost b u → AreAtMost c v → AreAtMost (b + c) (plus u v)
at_most-plus b c [] v all also = at_most-more c (b + c) (omega arith) v also
at_most-plus b c (x ∷ u) [] all also = at_most-more b (b + c) (omega arith) (x ∷ u) all
at_most-plus b c (x ∷ u) (y ∷ v) all also =
    (let sum = unsigned_abs-+ℤ x y in let first = all.0 in let second = also.0 in omega arith, at_most-plus b c u v all.1 also.1)

at_most-times : (b s g : ℕ) (v : List ℤ) → 0 < g → AreAtMost b v → AreAtMost (b * (s * g)) (times s v)
at_most-times b s g [] up all = tt
at_most-times b s g (x ∷ v) up all = (
  let product : unsigned_abs (pos s *ℤ x) ≡ s * unsigned_abs x = unsigned_abs-mul (pos s) x in
      let bound : s * unsigned_abs x ≤ (s * g) * b = mul-le s (unsigned_abs x) (s * g) b (let more : s * 1 ≤ s * g = mul-le s 1 s g (omega arith) up in omega arith) all.0 in
      let turned : (s * g) * b ≡ b * (s * g) = mul_comm (s * g) b in
      omega arith,
  at_most-times b s g v up all.1,
)

class_on-entries : (w : Web) (b : ℕ) (es : List CompactEdge) (a : Assignment) → AllByRecursion (HasDegree w) es → AllByRecursion (λ e. AreAtMost b (edge_class w e)) es → AreAtMost (b * degree_by (weights w es) a) (class_on w es a)
class_on-entries w b [] a graded all = at_most-zeros (b * 0) (length w.points)
class_on-entries w b (e ∷ es) [] graded all = at_most-zeros (b * 0) (length w.points)
class_on-entries w b (e ∷ es) (rows ∷ a) graded all =
    let g = as_natural (edge_degree w e) in
    let up = (weights_positive w (e ∷ es) graded).0 in
    let split : b * (size rows * g + degree_by (weights w es) a) ≡ b * (size rows * g) + b * degree_by (weights w es) a = mul-add b (size rows * g) (degree_by (weights w es) a) in
    rw split (at_most-plus (b * (size rows * g)) (b * degree_by (weights w es) a) (times (size rows) (edge_class w e)) (class_on w es a) (at_most-times b (size rows) g (edge_class w e) up all.0) (class_on-entries w b es a graded.1 all.1))

class_entries : (w : Web) (b d : ℕ) (v : List ℤ) → IsGraded w → AllByRecursion (λ e. AreAtMost b (edge_class w e)) (compact w) → IsClass w d v → AllByRecursion (λ x. pos (unsigned_abs x) ≤ℤ (pos b *ℤ degree_of w.heights v)) v
class_entries w b d v graded all is =
    let k = degree_by (weights w (compact w)) is.witness in
    let degree : degree_of w.heights v ≡ pos k = ap (degree_of w.heights) (sym is.same) ∙ class_of-degree w graded is.witness in
    let bound : pos b *ℤ degree_of w.heights v ≡ pos (b * k) = ap (λ (z : ℤ). pos b *ℤ z) degree in
    let each : AreAtMost (b * k) v = rw is.same at (class_on-entries w b (compact w) is.witness graded all) in
    all-onto (λ x. unsigned_abs x ≤ b * k) (λ x. pos (unsigned_abs x) ≤ℤ (pos b *ℤ degree_of w.heights v)) (λ x h. omega (arith, ints)) v each

pub reduced_classes : {A : Type 0} {IsValue : A → Type 0} {r : Operations A} → RingLaws IsValue r → ReducedClasses r
reduced_classes {r = r} laws w b d n f graded small is = record {
  zero = is.classes.whole (zeros (length w.points)) (zero_is_class w d graded);
  one = all-onto (IsReducedRow r w (no_legs w) d n) (λ x. x.class ≡ zeros (length w.points) → IsOne r n x.series) (λ x row. zero_row laws w d n x graded row) f.rows is.rows;
  others = all-onto (IsClass w d) (λ v. (v ≡ zeros (length w.points)) ⊎ (pos 0 <ℤ degree_of w.heights v)) (λ v class. other_class w d v graded class) _ is.classes.each;
  entries = all-onto (IsClass w d) (λ v. AllByRecursion (λ x. pos (unsigned_abs x) ≤ℤ (pos b *ℤ degree_of w.heights v)) v) (λ v class. class_entries w b d v graded small class) _ is.classes.each;
}
