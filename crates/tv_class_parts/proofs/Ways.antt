-- A class on the way through a family, from the numbers that were read off it.
--
-- readings-same     numbers read off series and products with the same coefficients
-- table-lengths, table-parts, table-some  what a table says of its lines
-- parts-exact       the degree divides what the parts add
-- product-is        the row of quotients has the product
-- fault-of-parts    a fault of the row
-- fault-on, read-on the fault and the line of the class, from its numbers
use Rattle.std.specs.Prelude.{◌≡◌, ℕ, zero, suc, ◌+◌, ◌<◌, ◌≤◌, ℤ, pos, ◌+ℤ◌, ◌-ℤ◌, ◌*ℤ◌, ◌≤ℤ◌, unsigned_abs, List, [], ◌∷◌, length, map, drop, reverse}
use Rattle.std.specs.List.{AllByRecursion}
use Rattle.std.proofs.Common.{refl, sym, ap, arith, ◌∙◌}
use Rattle.std.proofs.lemmas.Int.{ints}
use Rattle.tv_lemmas.proofs.Members.{all-onto, all-both, all-front}
use Rattle.tv_ring.specs.Whole.{wholes}
use Rattle.tv_ring.specs.Sums.{at}
use Rattle.tv_spec_boxes.specs.Assignments.{zeros}
use Rattle.tv_laws_integers.specs.Closed.{IsClassTo}
use Rattle.tv_recurrence.specs.declared.fault.RowFault.{RowFault}
use Rattle.tv_recurrence.specs.declared.fault.RowFault.TheVariants.{Wide as RowWide, Memory as RowMemory}
use Rattle.tv_recurrence.specs.declared.part.Power.{Power}
use Rattle.tv_recurrence.specs.KatzParts.{katz_by_weight}
use Rattle.tv_recurrence.specs.Parts.{parts_total, IsMultiple}
use Rattle.tv_recurrence.specs.Rows.{IsQuotientRow, IsRowTooWide}
use Rattle.tv_recurrence.proofs.KatzTotals.{coefficient_is_katz, katz_parts_are_exact}
use Rattle.tv_class_integers.specs.Readings.{readings, all_readings, next_value, power_sum, product_at, size_at, sign_at}
use Rattle.tv_class_integers.specs.Differences.{AgreeBelow, IsFirstDifference}
use Rattle.tv_class_integers.specs.declared.differences.Difference.{Difference}
use Rattle.tv_class_integers.specs.NextClasses.{series_by_weight, class_readings, product_after}
use Rattle.tv_class_integers.proofs.Readings.{length-readings}
use Rattle.tv_class_parts.specs.declared.fault.ClassFault.{ClassFault}
use Rattle.tv_class_parts.specs.declared.fault.ClassFault.TheVariants.{Wide, Differ, Memory}
use Rattle.tv_class_parts.specs.ReadClasses.{ReadClass, CanBePart, parts_of}
use Rattle.tv_class_parts.specs.Tables.{IsReadClass, IsAfterClass}
use Rattle.tv_class_parts.specs.Numbers.{IsNumbers, of_row, IsNumbersFault}
use Rattle.tv_class_parts.specs.Ways.{Way, IsGiven, IsReadOn, IsFaultOn}
use Rattle.tv_class_parts.proofs.Progress.{before-of, next-of, steps_on, parts_are_wide, reading_is_wide, difference_is_seen}
use Rattle.tv_class_parts.proofs.Tables.{parts_are_katz, positive-tail, tail-each}

readings-same : (base : ℕ) (S S' R R' : ℕ → ℤ) (n : ℕ) → ((t : ℕ) → t < n → S t ≡ S' t) → ((t : ℕ) → t < n → R t ≡ R' t) →
    readings base S R n ≡ readings base S' R' n
unfolding readings
readings-same base S S' R R' zero s r = refl
readings-same base S S' R R' (suc n) s r =
    let rest = readings-same base S S' R R' n (λ t h. s t (omega arith)) (λ t h. r t (omega arith)) in
    let xs = readings base S' R' n in
    let count = length-readings base S' R' n in
    let first : next_value base S R xs ≡ next_value base S' R' xs =
    ap (λ z. z -ℤ (sign_at base (length xs) *ℤ product_at base R xs (length xs))) (s (length xs) (omega arith)) ∙
    ap (λ z. S' (length xs) -ℤ (sign_at base (length xs) *ℤ (z -ℤ power_sum base xs (length xs)))) (r (length xs)
    (omega arith)) in
    ap (λ ys. next_value base S R ys ∷ ys) rest ∙ ap (λ z. z ∷ xs) first

module _ (g : Way) (v : List ℤ) (base d end : ℕ) (ls : List ReadClass) (series : List ℤ)
    (given : IsGiven g v base d end ls series) where
  abbrev hs : List ℤ
  hs = g.f.heights

  abbrev R : ℕ → ℤ
  R = katz_by_weight hs g.w g.integers v

  abbrev S : ℕ → ℤ
  S = series_by_weight g.f g.w v

  abbrev numbers : List ℤ
  numbers = class_readings g.f g.w base g.integers v

  entries : length v ≡ length hs
  entries = (next-of g.D g.N g.f g.w g.T g.read g.back g.integers v base ls given.later).class.positive.entries

  pub table-lengths : AllByRecursion (λ (l : ReadClass). length l.class ≡ length v) ls
  table-lengths = all-onto (IsReadClass hs g.w g.T g.integers) (λ l. length l.class ≡ length v)
      (λ l line. line.entries ∙ sym entries) ls given.later.way.table.each

  positives : AllByRecursion (λ (l : ReadClass). 0 < l.degree) (drop 1 ls)
  positives = positive-tail g.D hs g.w g.T g.read g.integers ls
      (all-front (IsClassTo g.D hs) g.read (v ∷ g.back) given.later.way.closed.each) given.later.way.table

  pub table-parts : AllByRecursion (CanBePart v) (drop 1 ls)
  table-parts = all-both (λ (l : ReadClass). length l.class ≡ length v) (λ l. 0 < l.degree) (CanBePart v)
      (λ l e up. record { entries = e; positive = up }) (drop 1 ls)
      (tail-each (λ (l : ReadClass). length l.class ≡ length v) ls table-lengths) positives

  pub table-some : 0 < length ls
  table-some = some-of ls given.later.way.table.classes
    where
      some-of : (ks : List ReadClass) → map (λ (l : ReadClass). l.class) ks ≡ zeros (length hs) ∷ g.read → 0 < length ks
      some-of [] e = cc
      some-of (k ∷ ks) e = omega arith

  pub degree-up : 0 < d
  degree-up =
      let up = (next-of g.D g.N g.f g.w g.T g.read g.back g.integers v base ls given.later).class.positive.degree in
      let degree = given.degree in omega (arith, ints)

  pub parts-exact : (t : ℕ) → t < length series → IsMultiple d (parts_total t (parts_of ls v d))
  parts-exact t h =
      let count = given.count in
      let before = before-of g.D g.N g.f g.w g.T g.read g.back g.integers v base ls given.later in
      let katz_parts = parts_are_katz g.D g.f g.w g.T g.read g.back g.integers v base ls d t before given.later.way.table given.degree (omega arith) in
      katz_parts_are_exact hs g.w g.D g.T g.integers v t g.read (parts_of ls v d) d katz_parts given.degree

  pub fault-of-parts : (fault : RowFault) → IsRowTooWide (parts_of ls v d) (length series) fault → IsFaultOn g v (of_row fault)
  fault-of-parts (RowWide t) wide =
      let count = given.count in let within = wide.0 in
      parts_are_wide g.D g.N g.f g.w g.T g.read g.back g.integers v base ls d t given.later given.degree (omega arith) wide.1
  fault-of-parts RowMemory wide = tt

  module _ (product : List ℤ) (row : IsQuotientRow d (parts_of ls v d) (length series) product) where
    pub product-is : (t : ℕ) → t ≤ g.T → at wholes product t ≡ R t
    product-is t h =
        let count = given.count in
        let before = before-of g.D g.N g.f g.w g.T g.read g.back g.integers v base ls given.later in
        let katz_parts = parts_are_katz g.D g.f g.w g.T g.read g.back g.integers v base ls d t before given.later.way.table given.degree h in
        coefficient_is_katz hs g.w g.D g.T g.integers v t g.read (parts_of ls v d) d
        (at wholes product t) katz_parts degree-up given.degree
        (row.each t (omega arith))

    abbrev S' : ℕ → ℤ
    S' = at wholes series

    abbrev R' : ℕ → ℤ
    R' = at wholes product

    all-same : all_readings base S' R' ≡ numbers
    all-same =
        let least = given.least in
        readings-same base S' S R' R (base + 2) (λ t h. given.each t (omega arith)) (λ t h. product-is t (omega arith))

    product-same : (t : ℕ) → t ≤ g.T → product_at base R' (all_readings base S' R') t ≡ product_after g.f g.w base g.integers v t
    product-same t h = ap (λ xs. product_at base R' xs t) all-same ∙ ap (λ z. z -ℤ power_sum base numbers t) (product-is t h)

    agree-same : (m : ℕ) → m ≤ g.T + 1 → AgreeBelow base S' (product_at base R' (all_readings base S' R')) m →
        AgreeBelow base S (product_after g.f g.w base g.integers v) m
    agree-same m h agree t l =
        sym (given.each t (omega arith)) ∙ (agree t l ∙ ap (λ z. sign_at base t *ℤ z) (product-same t (omega arith)))

    size-same : (t : ℕ) → t ≤ g.T → size_at base S' R' (all_readings base S' R') t ≡ size_at base S R numbers t
    size-same t h =
        ap (λ xs. size_at base S' R' xs t) all-same ∙
        omega (arith, ap unsigned_abs (given.each t h), ap unsigned_abs (product-is t h))

    unequal-on : (d' : Difference) → IsFirstDifference base S' (product_at base R' (all_readings base S' R')) end d' →
        IsFaultOn g v (Differ d')
    unequal-on d' first =
        let t = d'.weight in
        let within = first.within in let most = given.most in let after = given.after in
        let reach : t ≤ g.T = omega arith in
        let near : pos t ≤ℤ (g.N +ℤ pos base) = omega (arith, ints) in
        let x = first.series ∙ given.each t reach in
        let y = first.product ∙ ap (λ z. sign_at base t *ℤ z) (product-same t reach) in
        let seen = difference_is_seen g.D g.N g.f g.w g.T g.read g.back g.integers v base ls t given.later near
        (agree-same t (omega arith) first.before) (λ e. first.differ (x ∙ (e ∙ sym y))) in
        record {
          integers = seen.integers;
          are = seen.are;
          mismatch = seen.mismatch;
          family = x ∙ seen.family;
          katz = y ∙
              seen.katz;
        }

    pub fault-on : (fault : ClassFault) → IsNumbersFault base end (length product) S' R' fault → IsFaultOn g v fault
    fault-on (Wide t) wide =
        let count = given.count in let rows = row.count in let within = wide.0 in
        let reach : t ≤ g.T = omega arith in
        reading_is_wide g.D g.N g.f g.w g.T g.read g.back g.integers v base ls t given.later reach
        (rw (size-same t reach) at wide.1)
    fault-on (Differ d') first = unequal-on d' first
    fault-on Memory none = tt

    pub read-on : (values line : List ℤ) (powers : List Power) (l : ReadClass) →
        IsNumbers base end (length product) S' R' values line powers →
        l ≡ record { class = v; degree = d; row = line; powers = powers } → IsReadOn g v base ls l values
    read-on values line powers l numbers-are e =
        let count = given.count in let rows = row.count in
        let after : IsAfterClass g.f g.w g.T g.integers v base
        (record { class = v; degree = d; row = line; powers = powers }) = record {
          class = refl;
          degree = given.degree;
          coefficients = λ t h. numbers-are.product.each t (omega arith) ∙ product-same t h;
          powers = λ t h. numbers-are.gathered t (omega arith) ∙ ap (λ xs. power_sum base xs t) all-same;
          once = numbers-are.once;
        } in
        rw e (record {
          way = steps_on g.D g.N g.f g.w g.T g.read g.back g.integers v base ls
              (record { class = v; degree = d; row = line; powers = powers }) end
              given.later after given.after (agree-same end given.most numbers-are.agree);
          all = numbers-are.all ∙ ap reverse all-same;
        })
